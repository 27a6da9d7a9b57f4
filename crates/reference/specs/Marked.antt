-- Worked examples of interpolation: six samples in a line, and the samples in the gap after the third.
use Rattle.std.specs.Prelude.{◌≡◌, ℕ, List, [], ◌∷◌, pos, ◌+ℤ◌, slice_index, unsigned_abs}
use Rattle.picture.specs.Planes.{Grid}
use Rattle.reference.specs.Interpolation.{quarter}

-- a picture whose rows have the six samples in columns -2 to 3
abbrev pub line_of : List ℕ → Grid
line_of s x y = slice_index s (unsigned_abs (x +ℤ pos 2))

-- the sample at a fraction of the gap after the third, in quarters
abbrev pub in_gap : List ℕ → ℕ → ℕ
in_gap s f = quarter (line_of s) (pos f) (pos 0)

-- a step, a ridge that clips above, a trough that clips below
abbrev pub Marked : Type 0
Marked =
    (in_gap (0 ∷ 0 ∷ 0 ∷ 255 ∷ 255 ∷ 255 ∷ []) 2 ≡ 128) ×
    (in_gap (0 ∷ 0 ∷ 0 ∷ 255 ∷ 255 ∷ 255 ∷ []) 1 ≡ 64) ×
    (in_gap (0 ∷ 0 ∷ 0 ∷ 255 ∷ 255 ∷ 255 ∷ []) 3 ≡ 192) ×
    (in_gap (0 ∷ 0 ∷ 255 ∷ 255 ∷ 0 ∷ 0 ∷ []) 2 ≡ 255) ×
    (in_gap (0 ∷ 255 ∷ 0 ∷ 0 ∷ 255 ∷ 0 ∷ []) 2 ≡ 0)
