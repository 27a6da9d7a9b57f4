-- What words name as arguments: a picture, and components of a vector.
use Rattle.std.specs.Prelude.{◌≡◌, ◌≤◌, ℕ, cond, List, ℤ, Some, None, Option, nat_le, unsigned_abs}
use Rattle.std.specs.Str.Parse.{digits_value, signed_digits_value, without_leading_plus}
use Rattle.cost.specs.declared.candidates.Candidate.{Candidate}

-- a component of at most 4,400 quarter samples either way
abbrev pub named_component : ℤ → Option ℤ
named_component z = cond (nat_le (unsigned_abs z) 4400) (Some z) None

-- a word names the component that its sign and its digits write, which is one that may be named
pub record IsNamedComponent (word : List ℕ) (z : ℤ) : Type 0 where
  pub value : z ≡ signed_digits_value 10 word
  pub near : unsigned_abs z ≤ 4400

-- three words name a candidate: its picture, and its horizontal and its vertical component
pub record IsNamed (picture x y : List ℕ) (c : Candidate) : Type 0 where
  pub number : c.picture ≡ digits_value 10 (without_leading_plus picture)
  pub horizontal : IsNamedComponent x c.vector.x
  pub vertical : IsNamedComponent y c.vector.y
