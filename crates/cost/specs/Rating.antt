-- The rate part of a candidate's cost.
use Rattle.std.specs.Prelude.{ℕ, Bool, cond, ◌&&◌, ℤ, ◌-ℤ◌, Some, None, Option, nat_lt}
use Rattle.rate.specs.declared.vectors.Vector.{Vector}
use Rattle.rate.specs.Lengths.{is_tabled}
use Rattle.rate.specs.Rates.{rate_bits}
use Rattle.rate.specs.Lambdas.{rate_part_at}
use Rattle.settings.specs.Predicted.{vector_in}
use Rattle.settings.specs.declared.setups.Setup.{Setup}
use Rattle.cost.specs.declared.candidates.Candidate.{Candidate}

-- the predicted vector of picture r
abbrev pub predicted_in : Setup → ℕ → Vector
predicted_in s r = vector_in s.predicted.vectors r

-- the difference of a candidate from its picture's predicted vector, across and down
abbrev pub across : Setup → Candidate → ℤ
across s c = c.vector.x -ℤ (predicted_in s c.picture).x

abbrev pub down : Setup → Candidate → ℤ
down s c = c.vector.y -ℤ (predicted_in s c.picture).y

-- whether a candidate has a price: its picture has a predicted vector, and no component is more than 261 from that
abbrev pub is_priced : Setup → Candidate → Bool
is_priced s c = nat_lt c.picture s.predicted.pictures && (is_tabled (across s c) && is_tabled (down s c))

-- the rate part: that of the bits of both differences and of the picture's number
abbrev pub rate_part_of : Setup → Candidate → ℕ
rate_part_of s c = rate_part_at s.qp.value (rate_bits (across s c) (down s c) c.picture s.predicted.pictures)

-- the rate part of a candidate that has a price
abbrev pub rated_by : Setup → Candidate → Option ℕ
rated_by s c = cond (is_priced s c) (Some (rate_part_of s c)) None
