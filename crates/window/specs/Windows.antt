-- Windows: where a stage may look.
use Rattle.std.specs.Prelude.{ℕ, ◌≤◌, Bool, ◌&&◌, ℤ, ◌-ℤ◌, nat_le, unsigned_abs}
use Rattle.rate.specs.declared.vectors.Vector.{Vector}
use Rattle.cost.specs.declared.candidates.Candidate.{Candidate}
use Rattle.pattern.specs.Offsets.{times}

-- the pictures that may be named; the centre of the window of a picture, and how far a component may be from it; how many
-- quarter samples a vector's unit has
pub record Window : Type 0 where
  pub named : ℕ → Bool
  pub centre : ℕ → Vector
  pub reach : ℕ
  pub scale : ℕ

-- whether z is at most so far from c
abbrev pub is_near : ℕ → ℤ → ℤ → Bool
is_near far c z = nat_le (unsigned_abs (z -ℤ c)) far

-- whether a vector's horizontal component lies in the window of picture r
abbrev pub inside_across : Window → ℕ → Vector → Bool
inside_across w r v = is_near w.reach (w.centre r).x v.x

-- the same of its vertical component
abbrev pub inside_down : Window → ℕ → Vector → Bool
inside_down w r v = is_near w.reach (w.centre r).y v.y

-- whether a vector lies in the window of picture r
abbrev pub inside : Window → ℕ → Vector → Bool
inside w r v = inside_across w r v && inside_down w r v

-- a vector in quarter samples
abbrev pub in_quarters : Window → Vector → Vector
in_quarters w v = times w.scale v

-- a candidate of the stage, in quarter samples
abbrev pub quartered : Window → Candidate → Candidate
quartered w c = record { picture = c.picture; vector = in_quarters w c.vector }

-- a vector differs by at most so much from another
abbrev pub Apart : ℕ → Vector → Vector → Type 0
Apart m v p = (unsigned_abs (v.x -ℤ p.x) ≤ m) × (unsigned_abs (v.y -ℤ p.y) ≤ m)
