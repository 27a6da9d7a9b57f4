-- Places of blocks, and when one is refused.
use Rattle.std.specs.Prelude.{◌≡◌, ℕ, ◌+◌, ◌%◌, ◌≤◌, Bool, false, not, ◌&&◌, [], ◌∷◌, ℤ, pos, negsuc, Option, ◌==◌, nat_le}
use Rattle.picture.specs.declared.faults.Row.TheVariants as rows
use Rattle.picture.specs.declared.faults.Layer.TheVariants as layers
use Rattle.picture.specs.declared.faults.Fault.{Fault}
use Rattle.picture.specs.declared.sizes.PictureSize.{PictureSize}
use Rattle.picture.specs.Faults.{Rule, fault, first}
use Rattle.block.specs.declared.places.Place.{Place}

-- whether a block may begin there: at a multiple of its span, and all of it below the size
abbrev pub is_place : ℕ → ℕ → ℤ → Bool
is_place span size (pos z) = z % span == 0 && nat_le (z + span) size
is_place span size (negsuc z) = false

-- a wrong column, or a wrong row
abbrev pub place_rule : ℕ → ℕ → ℤ → Rule
place_rule span size z = record { applies = not (is_place span size z); gives = fault rows.BlockPlace layers.Block z }

-- the fault of one of the two
abbrev pub start_fault : ℕ → ℕ → ℤ → Option Fault
start_fault span size z = first (place_rule span size z ∷ [])

-- the fault of the place of a block of w by h samples: the column before the row
abbrev pub place_fault : ℕ → ℕ → PictureSize → ℤ → ℤ → Option Fault
place_fault w h size left top = first (place_rule w size.width left ∷ place_rule h size.height top ∷ [])

-- the place that was vetted, with all of the block inside
abbrev pub PlaceIs : ℕ → ℕ → PictureSize → ℤ → ℤ → Place → Type 0
PlaceIs w h size left top p =
    (pos p.left ≡ left) × (pos p.top ≡ top) × (p.left + w ≤ size.width) × (p.top + h ≤ size.height)
