-- The parts of a cell, and what its sixteen samples are made of.
use Rattle.std.specs.Prelude.{ℕ, ◌+◌, ◌*◌, List, [], ◌∷◌, ℤ, pos, ◌+ℤ◌, slice_index_or}
use Rattle.picture.specs.Planes.{Grid}
use Rattle.reference.specs.declared.parts.Part.{Part}
use Rattle.reference.specs.declared.parts.Part.TheVariants.{Whole, Right, Below, Across, AcrossBelow, Down, DownRight, Middle}
use Rattle.reference.specs.declared.parts.Sample.{Sample}
use Rattle.reference.specs.declared.parts.Sample.TheVariants.{One, Mean}
use Rattle.reference.specs.declared.parts.Fraction.{Fraction}
use Rattle.reference.specs.declared.parts.Fraction.TheVariants.{Zero, Quarter, Half, ThreeQuarters}
use Rattle.reference.specs.Interpolation.{across, downwards, middle, rounded, rounded_twice, mean}

-- a fraction in quarters
abbrev pub quarters : Fraction → ℕ
quarters Zero = 0
quarters Quarter = 1
quarters Half = 2
quarters ThreeQuarters = 3

-- the place in its cell of what lies so far across and so far down
abbrev pub place : Fraction → Fraction → ℕ
place across down = 4 * quarters down + quarters across

-- what stands at each place of a cell: fractions 0 to 3 across in a line, 0 to 3 downwards from line to line
abbrev pub samples : List Sample
samples =
    One Whole ∷ Mean Whole Across ∷ One Across ∷ Mean Across Right ∷
    Mean Whole Down ∷ Mean Across Down ∷ Mean Across Middle ∷ Mean Across DownRight ∷
    One Down ∷ Mean Down Middle ∷ One Middle ∷ Mean Middle DownRight ∷
    Mean Down Below ∷ Mean Down AcrossBelow ∷ Mean Middle AcrossBelow ∷ Mean AcrossBelow DownRight ∷ []

unfoldable pub sample_at : ℕ → Sample
sample_at place = slice_index_or samples place (One Whole)

-- a part of the picture's cell at column x, row y
abbrev pub part_at : Part → Grid → ℤ → ℤ → ℕ
part_at Whole g x y = g x y
part_at Right g x y = g (x +ℤ pos 1) y
part_at Below g x y = g x (y +ℤ pos 1)
part_at Across g x y = rounded (across g x y)
part_at AcrossBelow g x y = rounded (across g x (y +ℤ pos 1))
part_at Down g x y = rounded (downwards g x y)
part_at DownRight g x y = rounded (downwards g (x +ℤ pos 1) y)
part_at Middle g x y = rounded_twice (middle g x y)

-- a sample of the picture's cell
abbrev pub sample_on : Sample → Grid → ℤ → ℤ → ℕ
sample_on (One part) g x y = part_at part g x y
sample_on (Mean one other) g x y = mean (part_at one g x y) (part_at other g x y)
