-- Offsets: pairs of a horizontal and a vertical component, and squares of them.
use Rattle.std.specs.Prelude.{ℕ, ◌+◌, ◌*◌, ◌≤◌, List, map, ℤ, pos, ◌+ℤ◌, ◌-ℤ◌, ◌*ℤ◌, unsigned_abs}
use Rattle.std.specs.List.{range_with_len, flat_map}
use Rattle.rate.specs.declared.vectors.Vector.{Vector}

-- the offset (x, y)
abbrev pub at : ℤ → ℤ → Vector
at x y = record { x = x; y = y }

-- the offset that moves nothing
abbrev pub still : Vector
still = at (pos 0) (pos 0)

-- both components are from -m to m
abbrev pub Within : ℕ → Vector → Type 0
Within m o = (unsigned_abs o.x ≤ m) × (unsigned_abs o.y ≤ m)

-- k times an offset
abbrev pub times : ℕ → Vector → Vector
times k o = at (pos k *ℤ o.x) (pos k *ℤ o.y)

-- a vector and an offset from it
abbrev pub moved : Vector → Vector → Vector
moved v o = at (v.x +ℤ o.x) (v.y +ℤ o.y)

-- the numbers from -k to k
abbrev pub span : ℕ → List ℤ
span k = map (λ (i : ℕ). pos i -ℤ pos k) (range_with_len 0 (2 * k + 1))

-- the offsets with these components, by rows from the top, each from the left
abbrev pub grid : List ℤ → List Vector
grid zs = flat_map (λ (y : ℤ). map (λ (x : ℤ). at x y) zs) zs
