-- Blocks of the current picture.
use Rattle.std.specs.Prelude.{◌≡◌, ℕ, ◌+◌, ◌*◌, ◌/◌, ◌%◌, ◌<◌, pos, Option, length, slice_index, unsigned_abs}
use Rattle.picture.specs.declared.faults.Fault.{Fault}
use Rattle.picture.specs.declared.sizes.PictureSize.{PictureSize}
use Rattle.picture.specs.Faults.{earlier}
use Rattle.picture.specs.Planes.{Grid}
use Rattle.block.specs.declared.blocks.Block.{Block}
use Rattle.block.specs.declared.places.BlockRequest.{BlockRequest}
use Rattle.block.specs.Shapes.{shape_width, shape_height, shape_fault, ShapeIs}
use Rattle.block.specs.Places.{place_fault}

-- sample k, row by row, of a block w samples wide that begins at that column and row
abbrev pub block_sample : Grid → ℕ → ℕ → ℕ → ℕ → ℕ
block_sample g left top w k = g (pos (left + k % w)) (pos (top + k / w))

-- a block's shape is vetted before its place
abbrev pub block_fault : PictureSize → BlockRequest → Option Fault
block_fault size q =
    earlier (shape_fault q.width q.height) (place_fault (unsigned_abs q.width) (unsigned_abs q.height) size q.left q.top)

-- the block that was asked for: its shape, its place, and the current picture's samples there, in an array of 256 bytes
pub record BlockIs (current : Grid) (q : BlockRequest) (b : Block) : Type 0 where
  pub shape : ShapeIs q.width q.height b.shape
  pub left : pos b.left ≡ q.left
  pub top : pos b.top ≡ q.top
  pub samples : (k : ℕ) → k < shape_width b.shape * shape_height b.shape →
      slice_index b.samples k ≡ block_sample current b.left b.top (shape_width b.shape) k
  pub full : length b.samples ≡ 256
  pub bytes : (k : ℕ) → slice_index b.samples k < 256
