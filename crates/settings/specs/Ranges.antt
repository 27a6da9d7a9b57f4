-- When a search range is refused.
use Rattle.std.specs.Prelude.{◌≡◌, ℕ, ◌%◌, ◌≤◌, Bool, false, not, ◌&&◌, [], ◌∷◌, ℤ, pos, negsuc, Option, ◌==◌, nat_le}
use Rattle.picture.specs.declared.faults.Row.TheVariants as rows
use Rattle.picture.specs.declared.faults.Layer.TheVariants as layers
use Rattle.picture.specs.declared.faults.Fault.{Fault}
use Rattle.picture.specs.Faults.{Rule, fault, first}

-- a range that a window may have: a multiple of 4 from 4 to 64
abbrev pub Reach : ℕ → Type 0
Reach n = (4 ≤ n) × (n ≤ 64) × (n % 4 ≡ 0)

-- whether a number is one
abbrev pub is_reach : ℤ → Bool
is_reach (pos n) = nat_le 4 n && (nat_le n 64 && n % 4 == 0)
is_reach (negsuc n) = false

-- turns away any other range
abbrev pub range_rule : ℤ → Rule
range_rule range = record { applies = not (is_reach range); gives = fault rows.SearchRange layers.Settings range }

-- the fault of a search range
abbrev pub range_fault : ℤ → Option Fault
range_fault range = first (range_rule range ∷ [])
