-- Centres of search windows.
use Rattle.std.specs.Prelude.{ℤ, pos, ◌+ℤ◌, ◌*ℤ◌, ◌≤ℤ◌, ◌<ℤ◌}
use Rattle.std.specs.Int.{int_div_euclid}
use Rattle.rate.specs.declared.vectors.Vector.{Vector}

-- the centre for a predicted component p, in whole samples: floor((p + 2) / 4)
abbrev pub centre_of : ℤ → ℤ
centre_of p = int_div_euclid (p +ℤ pos 2) (pos 4)

-- q is floor(z / 4)
abbrev pub Floor4 : ℤ → ℤ → Type 0
Floor4 z q = ((pos 4 *ℤ q) ≤ℤ z) × (z <ℤ (pos 4 *ℤ q +ℤ pos 4))

-- the centre of the window of a predicted vector, in whole samples
abbrev pub centre_in : Vector → Vector
centre_in p = record { x = centre_of p.x; y = centre_of p.y }
