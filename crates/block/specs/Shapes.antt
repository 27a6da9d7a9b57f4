-- Shapes of blocks, and when one is refused.
use Rattle.std.specs.Prelude.{◌≡◌, ℕ, Bool, false, cond, not, ◌&&◌, List, [], ◌∷◌, ℤ, pos, negsuc, is_some, Some, None, Option, ◌==◌}
use Rattle.picture.specs.declared.faults.Row.TheVariants as rows
use Rattle.picture.specs.declared.faults.Layer.TheVariants as layers
use Rattle.picture.specs.declared.faults.Fault.{Fault}
use Rattle.picture.specs.Faults.{Rule, fault, first}
use Rattle.block.specs.declared.shapes.Shape.{Shape}
use Rattle.block.specs.declared.shapes.Shape.TheVariants.{B16x16, B16x8, B8x16, B8x8, B8x4, B4x8, B4x4}

-- the width of a shape, in samples
abbrev pub shape_width : Shape → ℕ
shape_width B16x16 = 16
shape_width B16x8 = 16
shape_width B8x16 = 8
shape_width B8x8 = 8
shape_width B8x4 = 8
shape_width B4x8 = 4
shape_width B4x4 = 4

-- the height of a shape, in samples
abbrev pub shape_height : Shape → ℕ
shape_height B16x16 = 16
shape_height B16x8 = 8
shape_height B8x16 = 16
shape_height B8x8 = 8
shape_height B8x4 = 4
shape_height B4x8 = 8
shape_height B4x4 = 4

-- whether a whole number is that natural one
abbrev pub is_number : ℤ → ℕ → Bool
is_number (pos m) n = m == n
is_number (negsuc m) n = false

-- the shape of a list that has this width and height
abbrev pub shape_among : List Shape → ℤ → ℤ → Option Shape
shape_among [] w h = None
shape_among (s ∷ ss) w h =
    cond (is_number w (shape_width s) && is_number h (shape_height s)) (Some s) (shape_among ss w h)

-- the shape, of the seven, that has this width and height
abbrev pub shape_of : ℤ → ℤ → Option Shape
shape_of = shape_among (B16x16 ∷ B16x8 ∷ B8x16 ∷ B8x8 ∷ B8x4 ∷ B4x8 ∷ B4x4 ∷ [])

-- turns away a width and a height of no shape, by the width
abbrev pub shape_rule : ℤ → ℤ → Rule
shape_rule w h = record { applies = not (is_some (shape_of w h)); gives = fault rows.BlockShape layers.Block w }

-- the fault of a width and a height
abbrev pub shape_fault : ℤ → ℤ → Option Fault
shape_fault w h = first (shape_rule w h ∷ [])

-- the shape that was vetted: it has the width and the height
abbrev pub ShapeIs : ℤ → ℤ → Shape → Type 0
ShapeIs w h s = (shape_of w h ≡ Some s) × (pos (shape_width s) ≡ w) × (pos (shape_height s) ≡ h)
