-- The worked examples in one table: what the definitions give, beside the figure that it is.
use Rattle.std.specs.Prelude.{◌≡◌, ℕ, zero, suc, List, [], ◌∷◌, ◌++◌, replicate, ℤ, pos, negsuc, ◌+ℤ◌, slice_index, slice_set, unsigned_abs}
use Prim.Native.String.{String}
use Rattle.std.specs.List.{AllByRecursion}
use Rattle.picture.specs.Planes.{Grid}
use Rattle.reference.specs.Interpolation.{quarter}
use Rattle.measure.specs.Sums.{sad, ssd}
use Rattle.measure.specs.Transforms.{satd}
use Rattle.rate.specs.Lengths.{code_number, code_length}
use Rattle.rate.specs.Lambdas.{scaled_lambda, rate_part_at}
use Rattle.settings.specs.Centres.{centre_of}

-- a row of the table
pub record Example : Type 0 where
  pub name : String
  pub found : ℤ
  pub is : ℤ

-- one of numbers that are never negative
abbrev pub row : String → ℕ → ℕ → Example
row name found is = record { name = name; found = pos found; is = pos is }

-- a picture whose rows have six samples in columns -2 to 3
abbrev pub line_of : List ℕ → Grid
line_of s x y = slice_index s (unsigned_abs (x +ℤ pos 2))

-- the sample at a fraction of the gap after the third, in quarters
abbrev pub in_gap : List ℕ → ℕ → ℕ
in_gap s f = quarter (line_of s) (pos f) (pos 0)

-- a step from black to white
abbrev pub step : List ℕ
step = 0 ∷ 0 ∷ 0 ∷ 255 ∷ 255 ∷ 255 ∷ []

-- interpolation between six samples in a line
abbrev pub gaps : List Example
gaps =
    row "b in a step" (in_gap step 2) 128 ∷
    row "a quarter before it" (in_gap step 1) 64 ∷
    row "a quarter after it" (in_gap step 3) 192 ∷
    row "b on a ridge, clipped" (in_gap (0 ∷ 0 ∷ 255 ∷ 255 ∷ 0 ∷ 0 ∷ []) 2) 255 ∷
    row "b between ridges, clipped" (in_gap (0 ∷ 255 ∷ 0 ∷ 0 ∷ 255 ∷ 0 ∷ []) 2) 0 ∷ []

-- a strip of one 4x4 square, all samples alike
abbrev pub flat : ℕ → List ℕ
flat n = replicate 16 n

-- one of zeros but for a 3 at a place
abbrev pub dented : ℕ → List ℕ
dented place = slice_set (flat 0) place 3

-- what two strips cost by each measure
abbrev pub costs : List ℕ → List ℕ → ℕ → ℕ → ℕ → List Example
costs a b is_sad is_ssd is_satd = row "SAD" (sad a b) is_sad ∷ row "SSD" (ssd a b) is_ssd ∷ row "SATD" (satd a b) is_satd ∷ []

-- a single difference of 3 at each of the first n places, either way round
abbrev pub dents : ℕ → List Example
dents zero = []
dents (suc place) = dents place ++ (costs (dented place) (flat 0) 3 9 24 ++ costs (flat 0) (dented place) 3 9 24)

-- sixteen differences of 1, either way round
abbrev pub ones : List Example
ones = costs (flat 1) (flat 0) 16 16 8 ++ costs (flat 0) (flat 1) 16 16 8

-- the code lengths of differences
abbrev pub lengths : List Example
lengths =
    row "bits of 0" (code_length (code_number (pos 0))) 1 ∷
    row "bits of -1" (code_length (code_number (negsuc 0))) 3 ∷
    row "bits of 4" (code_length (code_number (pos 4))) 7 ∷ []

-- lambda, and a rate part
abbrev pub lambdas : List Example
lambdas =
    row "L(0)" (scaled_lambda 0) 15105 ∷
    row "L(12)" (scaled_lambda 12) 60421 ∷
    row "L(30)" (scaled_lambda 30) 483369 ∷
    row "rate part of 8 bits at QP 30" (rate_part_at 30 8) 59 ∷ []

-- the centres of windows
abbrev pub centres : List Example
centres =
    record { name = "centre of 1"; found = centre_of (pos 1); is = pos 0 } ∷
    record { name = "centre of 2"; found = centre_of (pos 2); is = pos 1 } ∷
    record { name = "centre of -3"; found = centre_of (negsuc 2); is = negsuc 0 } ∷ []

-- the whole table
abbrev pub table : List Example
table = gaps ++ (dents 16 ++ (ones ++ (lengths ++ (lambdas ++ centres))))

-- every row of it holds
abbrev pub Marked : Type 0
Marked = AllByRecursion (λ (e : Example). e.found ≡ e.is) table
