-- Candidates of either stage: a whole-sample vector counts four quarter samples a sample.
use Rattle.std.specs.Prelude.{ℕ, Bool, cond, ◌&&◌, ℤ, pos, negsuc, ◌*ℤ◌, Some, None, Option, nat_le}
use Rattle.rate.specs.declared.vectors.Vector.{Vector}
use Rattle.cost.specs.declared.candidates.Candidate.{Candidate}

-- a whole-sample vector in quarter samples
abbrev pub quarters_of : Vector → Vector
quarters_of v = record { x = pos 4 *ℤ v.x; y = pos 4 *ℤ v.y }

-- whether four times a component is a 16-bit number still
abbrev pub is_whole : ℤ → Bool
is_whole (pos n) = nat_le n 8191
is_whole (negsuc n) = nat_le n 8191

-- the candidate of a whole-sample vector in picture r
abbrev pub whole_candidate : ℕ → Vector → Option Candidate
whole_candidate r v =
    cond (is_whole v.x && is_whole v.y) (Some (record { picture = r; vector = quarters_of v })) None
