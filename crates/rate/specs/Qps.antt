-- When a quantiser parameter is refused.
use Rattle.std.specs.Prelude.{Bool, false, not, [], ◌∷◌, ℤ, pos, negsuc, Option, nat_le}
use Rattle.picture.specs.declared.faults.Row.TheVariants as rows
use Rattle.picture.specs.declared.faults.Layer.TheVariants as layers
use Rattle.picture.specs.declared.faults.Fault.{Fault}
use Rattle.picture.specs.Faults.{Rule, fault, first}

-- whether a number is a quantiser parameter: 0 to 51
abbrev pub is_qp : ℤ → Bool
is_qp (pos n) = nat_le n 51
is_qp (negsuc n) = false

-- turns away a number that is none
abbrev pub qp_rule : ℤ → Rule
qp_rule qp = record { applies = not (is_qp qp); gives = fault rows.Qp layers.Settings qp }

-- the fault of a quantiser parameter
abbrev pub qp_fault : ℤ → Option Fault
qp_fault qp = first (qp_rule qp ∷ [])
