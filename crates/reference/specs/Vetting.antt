-- When a drawn list is refused, and what is known of an accepted one.
use Rattle.std.specs.Prelude.{◌≡◌, ℤ, pos, Option}
use Rattle.picture.specs.declared.faults.Layer.TheVariants as layers
use Rattle.picture.specs.declared.faults.Fault.{Fault}
use Rattle.picture.specs.declared.sizes.ListSize.{ListSize}
use Rattle.picture.specs.Faults.{earlier}
use Rattle.picture.specs.Vetting.{size_fault, count_fault, SizeIs}

-- a wrong size, then a wrong number of pictures
abbrev pub drawn_fault : ℤ → ℤ → ℤ → Option Fault
drawn_fault n w h = earlier (size_fault layers.ReferenceList w h) (count_fault n)

-- the numbers that were vetted
abbrev pub DrawnIs : ℤ → ℤ → ℤ → ListSize → Type 0
DrawnIs n w h s = (pos s.pictures ≡ n) × SizeIs w h s.picture
