-- What is vetted before vectors are priced, in its order.
use Rattle.std.specs.Prelude.{◌≡◌, ℕ, not, List, [], ◌∷◌, length, ℤ, pos, Option, ◌==◌}
use Rattle.picture.specs.declared.faults.Row.TheVariants as rows
use Rattle.picture.specs.declared.faults.Layer.TheVariants as layers
use Rattle.picture.specs.declared.faults.Fault.{Fault}
use Rattle.picture.specs.declared.sizes.PictureSize.{PictureSize}
use Rattle.picture.specs.declared.sizes.ListSize.{ListSize}
use Rattle.picture.specs.Faults.{fault, first, earlier}
use Rattle.picture.specs.Planes.{Grid}
use Rattle.block.specs.declared.places.BlockRequest.{BlockRequest}
use Rattle.settings.specs.declared.setups.Setup.{Setup}
use Rattle.block.specs.Blocks.{block_fault, BlockIs}
use Rattle.settings.specs.Predicted.{arrays_fault, component_rules, Paired}
use Rattle.rate.specs.Qps.{qp_fault}
use Rattle.settings.specs.Ranges.{range_fault}

-- a side of a list's pictures that is not that of the current picture
abbrev pub side_fault : ℕ → ℕ → Option Fault
side_fault listed current =
    first (record { applies = not (listed == current); gives = fault rows.SizeMismatch layers.ReferenceList (pos listed) } ∷ [])

-- a list whose pictures are not of the current picture's size: its width before its height
abbrev pub mismatch_fault : PictureSize → PictureSize → Option Fault
mismatch_fault current listed =
    first
    (record { applies = not (listed.width == current.width); gives = fault rows.SizeMismatch layers.ReferenceList (pos listed.width) } ∷
    record { applies = not (listed.height == current.height); gives = fault rows.SizeMismatch layers.ReferenceList (pos listed.height) } ∷ [])

-- the lengths of the predicted arrays, the block, the list's size, QP, range, then the predicted components
abbrev pub setup_fault : PictureSize → ListSize → BlockRequest → ℤ → ℤ → List ℤ → List ℤ → Option Fault
setup_fault current list q qp range xs ys =
    earlier (arrays_fault list.pictures (length xs) (length ys))
    (earlier (block_fault current q)
    (earlier (mismatch_fault current list.picture)
    (earlier (qp_fault qp)
    (earlier (range_fault range)
    (first (component_rules xs ys))))))

-- the setup that was asked for
pub record SetupIs (current : Grid) (list : ListSize) (q : BlockRequest) (qp range : ℤ) (xs ys : List ℤ) (s : Setup) : Type 0 where
  pub block : BlockIs current q s.block
  pub quantiser : pos s.qp.value ≡ qp
  pub reach : pos s.range.value ≡ range
  pub pictures : s.predicted.pictures ≡ list.pictures
  pub predicted : Paired xs ys s.predicted.vectors
