-- The whole samples of a plane.
use Rattle.std.specs.Prelude.{ℕ, ◌+◌, ◌-◌, ◌*◌, ◌/◌, ◌%◌, min, List, ℤ, pos, negsuc, ◌+ℤ◌, slice_index}
use Rattle.picture.specs.declared.planes.Plane.{Plane}

-- the whole samples, by column and row, of a picture that goes on without end
abbrev pub Grid : Type 0
Grid = ℤ → ℤ → ℕ

-- z, or the nearest number of 0 .. n - 1
abbrev pub nearest : ℕ → ℤ → ℕ
nearest n (pos i) = min i (n - 1)
nearest n (negsuc i) = 0

-- the grid of a picture of that width and height, given row by row: outside, the nearest sample inside
unfoldable pub grid : ℕ → ℕ → List ℕ → Grid
grid width height samples x y = slice_index samples (nearest height y * width + nearest width x)

-- the plane's whole samples
abbrev pub grid_of : Plane → Grid
grid_of p = grid p.size.width p.size.height p.samples.now

-- sample k of rows of w whole samples, row by row, from column x and row y on
abbrev pub grid_sample : Grid → ℤ → ℤ → ℕ → ℕ → ℕ
grid_sample g x y w k = g (x +ℤ pos (k % w)) (y +ℤ pos (k / w))
