-- Strips of samples, and what a measure's question answers.
use Rattle.std.specs.Prelude.{ℕ, ◌≤◌, Bool, cond, ◌&&◌, ◌||◌, T, List, length, ◌==◌, slice_index}

-- every sample of the list is a byte (past its end `slice_index` gives 0)
abbrev pub Bytes : List ℕ → Type 0
Bytes xs = (k : ℕ) → slice_index xs k ≤ 255

-- whether these are the lengths of two strips of one width: four rows of 4, 8 or 16 samples
abbrev pub are_strips : ℕ → ℕ → Bool
are_strips m n = m == n && (m == 16 || (m == 32 || m == 64))

-- two strips of one width
abbrev pub Strips : List ℕ → List ℕ → Type 0
Strips a b = T (are_strips (length a) (length b))

-- a cost where two strips of one width are given, and else 0
abbrev pub asked : (List ℕ → List ℕ → ℕ) → List ℕ → List ℕ → ℕ
asked cost a b = cond (are_strips (length a) (length b)) (cost a b) 0
