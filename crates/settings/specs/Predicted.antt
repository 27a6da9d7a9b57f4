-- Predicted vectors: when they are refused, and how they are kept.
use Rattle.std.specs.Prelude.{◌≡◌, ℕ, ◌≤◌, max, cond, not, ◌&&◌, List, [], ◌∷◌, map, length, take, ℤ, pos, Some, None, Option, ◌==◌, nat_le, nat_lt, slice_index_or, unsigned_abs}
use Rattle.picture.specs.declared.faults.Row.TheVariants as rows
use Rattle.picture.specs.declared.faults.Layer.TheVariants as layers
use Rattle.picture.specs.declared.faults.Fault.{Fault}
use Rattle.picture.specs.Faults.{Rule, fault, first}
use Rattle.rate.specs.declared.vectors.Vector.{Vector}

-- turns away two arrays unless both have an entry for each picture, by the longer length
abbrev pub arrays_rule : ℕ → ℕ → ℕ → Rule
arrays_rule pictures m n =
    record { applies = not (m == pictures && n == pictures); gives = fault rows.ArrayLength layers.Settings (pos (max m n)) }

-- the fault of two arrays of these lengths
abbrev pub arrays_fault : ℕ → ℕ → ℕ → Option Fault
arrays_fault pictures m n = first (arrays_rule pictures m n ∷ [])

-- turns away a component that is not from -4,096 to 4,096
abbrev pub component_rule : ℤ → Rule
component_rule z = record { applies = not (nat_le (unsigned_abs z) 4096); gives = fault rows.PredictedVector layers.Settings z }

-- the rules of the components, by picture, horizontal before vertical
abbrev pub component_rules : List ℤ → List ℤ → List Rule
component_rules [] ys = []
component_rules (x ∷ xs) [] = []
component_rules (x ∷ xs) (y ∷ ys) = component_rule x ∷ component_rule y ∷ component_rules xs ys

-- the fault of predicted vectors, one for each picture
abbrev pub predicted_fault : ℕ → List ℤ → List ℤ → Option Fault
predicted_fault pictures xs ys = first (arrays_rule pictures (length xs) (length ys) ∷ component_rules xs ys)

-- the vector of two components
abbrev pub vector : ℤ → ℤ → Vector
vector x y = record { x = x; y = y }

-- the vector at a place, and (0, 0) past the end
abbrev pub vector_in : List Vector → ℕ → Vector
vector_in vs k = slice_index_or vs k (vector (pos 0) (pos 0))

-- all components are from -4,096 to 4,096
abbrev pub AllNear : List Vector → Type 0
AllNear vs = (k : ℕ) → (unsigned_abs (vector_in vs k).x ≤ 4096) × (unsigned_abs (vector_in vs k).y ≤ 4096)

-- an array begins with the list, and has zeros after it
abbrev pub Copied : List ℤ → List ℤ → Type 0
Copied zs copy = (take (length zs) copy ≡ zs) × ((k : ℕ) → slice_index_or copy k (pos 0) ≡ slice_index_or zs k (pos 0))

-- an array of vectors has these horizontals and verticals, and zeros after them
abbrev pub Paired : List ℤ → List ℤ → List Vector → Type 0
Paired xs ys vs = Copied xs (map (λ v. v.x) vs) × Copied ys (map (λ v. v.y) vs)

-- the vector of a picture, where there is one
abbrev pub vector_at : ℕ → List Vector → ℕ → Option Vector
vector_at pictures vs k = cond (nat_lt k pictures) (Some (vector_in vs k)) None
