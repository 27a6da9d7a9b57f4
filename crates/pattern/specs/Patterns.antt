-- The patterns supplied: their offsets, in order.
use Rattle.std.specs.Prelude.{ℕ, zero, suc, ◌/◌, Bool, not, ◌&&◌, List, [], ◌∷◌, ◌++◌, map, ℤ, pos, ◌-ℤ◌, ◌*ℤ◌, neg_ℤ, filter, ◌==◌, unsigned_abs}
use Rattle.std.specs.List.{range_with_len, flat_map}
use Rattle.rate.specs.declared.vectors.Vector.{Vector}
use Rattle.pattern.specs.declared.squares.Eight.{Eight}
use Rattle.pattern.specs.declared.squares.Eight.TheVariants.{One, Two}
use Rattle.pattern.specs.Offsets.{at, times, span, grid}

-- minus n
abbrev pub minus : ℕ → ℤ
minus n = neg_ℤ (pos n)

-- one step to the right, left, down and up
abbrev pub diamond : List Vector
diamond = at (pos 1) (pos 0) ∷ at (minus 1) (pos 0) ∷ at (pos 0) (pos 1) ∷ at (pos 0) (minus 1) ∷ []

-- the corners of a hexagon that lies on its side
abbrev pub hexagon : List Vector
hexagon =
    at (pos 2) (pos 0) ∷ at (minus 2) (pos 0) ∷
    at (pos 1) (pos 2) ∷ at (pos 1) (minus 2) ∷
    at (minus 1) (pos 2) ∷ at (minus 1) (minus 2) ∷ []

-- both components from -2 to 2
unfoldable pub square : List Vector
square = grid (span 2)

-- whether an offset moves anything
abbrev pub moves : Vector → Bool
moves o = not (unsigned_abs o.x == 0 && unsigned_abs o.y == 0)

-- the distance of an eight
abbrev pub distance_of : Eight → ℕ
distance_of One = 1
distance_of Two = 2

-- both components -d, 0 or d, not both 0
unfoldable pub eight : ℕ → List Vector
eight d = filter moves (grid (minus d ∷ pos 0 ∷ pos d ∷ []))

-- 2 i - 1 and 1 - 2 i
abbrev pub oddly : ℕ → List ℤ
oddly i = (pos 2 *ℤ pos i -ℤ pos 1) ∷ (pos 1 -ℤ pos 2 *ℤ pos i) ∷ []

-- the cross of W: (2 i - 1, 0) and (1 - 2 i, 0) for i from 1 to W / 2, then the same vertically for i from 1 to W / 4
unfoldable pub cross : ℕ → List Vector
cross w =
    flat_map (λ (i : ℕ). map (λ (x : ℤ). at x (pos 0)) (oddly i)) (range_with_len 1 (w / 2)) ++
    flat_map (λ (i : ℕ). map (λ (y : ℤ). at (pos 0) y) (oddly i)) (range_with_len 1 (w / 4))

-- a number with its signs: plus before minus, and 0 has none
abbrev pub signed : ℕ → List ℤ
signed zero = pos 0 ∷ []
signed (suc n) = pos (suc n) ∷ minus (suc n) ∷ []

-- x and y with their signs, the sign of y changing fastest
abbrev pub group : ℕ → ℕ → List Vector
group x y = flat_map (λ (h : ℤ). map (λ (v : ℤ). at h v) (signed y)) (signed x)

-- the sixteen points of ring 1
unfoldable pub sixteen : List Vector
sixteen = group 4 2 ++ (group 4 1 ++ (group 4 0 ++ (group 2 3 ++ group 0 4)))

-- the rings of W: k times the sixteen points, for k from 1 to W / 4
unfoldable pub rings : ℕ → List Vector
rings w = flat_map (λ (k : ℕ). map (times k) sixteen) (range_with_len 1 (w / 4))
