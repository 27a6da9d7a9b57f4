-- What is printed of a vector that has a price.
use Rattle.std.specs.Prelude.{ℕ, List, ◌++◌, codes, decimal}
use Rattle.std.specs.List.{flat_map}
use Rattle.std.specs.Fmt.{signed_decimal}
use Rattle.cost.specs.declared.candidates.Candidate.{Candidate}

-- a space and a number
abbrev pub spaced : ℕ → List ℕ
spaced n = codes " " ++ decimal n

-- the picture, the vector and the rate part, in decimal
abbrev pub rated_text : Candidate → ℕ → List ℕ
rated_text c rate =
    decimal c.picture ++ (codes " " ++ (signed_decimal c.vector.x ++ (codes " " ++ (signed_decimal c.vector.y ++ (codes " " ++ decimal rate)))))

-- the same, and then the costs
abbrev pub line_text : Candidate → ℕ → List ℕ → List ℕ
line_text c rate costs = rated_text c rate ++ flat_map spaced costs
