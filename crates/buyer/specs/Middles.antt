-- SAD with its middle rows counted double.
use Rattle.std.specs.Prelude.{ℕ, ◌*◌, ◌/◌, cond, ◌||◌, List, length, ◌==◌}
use Rattle.measure.specs.Sums.{total, gap_at}

-- how often each of a strip's four rows counts
abbrev pub weight : ℕ → ℕ
weight row = cond (row == 1 || row == 2) 2 1

-- what the samples at a place add: their absolute difference, as often as their row counts
abbrev pub weighted_at : List ℕ → List ℕ → ℕ → ℕ
weighted_at a b k = weight (k / (length a / 4)) * gap_at a b k

-- the sum of these
abbrev pub middle_rows : List ℕ → List ℕ → ℕ
middle_rows a b = total (length a) (weighted_at a b)
