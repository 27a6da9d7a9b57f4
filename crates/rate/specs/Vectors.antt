-- Sums and multiples of vectors.
use Rattle.std.specs.Prelude.{ℤ, ◌+ℤ◌, ◌*ℤ◌, FitsSigned}
use Rattle.std.specs.Int.{w16}
use Rattle.rate.specs.declared.vectors.Vector.{Vector}

-- both components are 16-bit numbers
abbrev pub Fits : Vector → Type 0
Fits v = FitsSigned w16 v.x × FitsSigned w16 v.y

abbrev pub sum_of : Vector → Vector → Vector
sum_of v w = record { x = v.x +ℤ w.x; y = v.y +ℤ w.y }

abbrev pub multiple_of : Vector → ℤ → Vector
multiple_of v k = record { x = k *ℤ v.x; y = k *ℤ v.y }
