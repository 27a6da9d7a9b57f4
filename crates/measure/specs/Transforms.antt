-- SATD: the differences of each 4x4 square, transformed along its rows and its columns.
use Rattle.std.specs.Prelude.{ℕ, zero, suc, ◌+◌, ◌*◌, ◌/◌, List, [], ◌∷◌, length, ℤ, pos, negsuc, ◌+ℤ◌, ◌-ℤ◌, ◌*ℤ◌, slice_index, slice_index_or, unsigned_abs}
use Rattle.measure.specs.Sums.{total}

-- the matrix K: four rows of signs (negsuc 0 is -1)
abbrev pub signs : List (List ℤ)
signs =
    (pos 1 ∷ pos 1 ∷ pos 1 ∷ pos 1 ∷ []) ∷
    (pos 1 ∷ pos 1 ∷ negsuc 0 ∷ negsuc 0 ∷ []) ∷
    (pos 1 ∷ negsuc 0 ∷ negsuc 0 ∷ pos 1 ∷ []) ∷
    (pos 1 ∷ negsuc 0 ∷ pos 1 ∷ negsuc 0 ∷ []) ∷ []

-- its entry in row u and column i
abbrev pub sign : ℕ → ℕ → ℤ
sign u i = slice_index_or (slice_index_or signs u []) i (pos 0)

-- the sum of f 0 to f (n - 1)
abbrev pub total_z : ℕ → (ℕ → ℤ) → ℤ
total_z zero f = pos 0
total_z (suc n) f = total_z n f +ℤ f n

-- four numbers f transformed: the entry u of K f
abbrev pub along : (ℕ → ℤ) → ℕ → ℤ
along f u = total_z 4 (λ i. sign u i *ℤ f i)

-- a 4x4 matrix D transformed along its rows, then along its columns: the entry of K D Kᵀ in row u and column v
abbrev pub transformed : (ℕ → ℕ → ℤ) → ℕ → ℕ → ℤ
transformed d u v = along (λ r. along (d r) v) u

-- the sum of the absolute values of four numbers
abbrev pub size : (ℕ → ℤ) → ℕ
size f = total 4 (λ u. unsigned_abs (f u))

-- that of the sixteen entries of K D Kᵀ, column by column
abbrev pub spread : (ℕ → ℕ → ℤ) → ℕ
spread d = total 4 (λ v. size (λ u. transformed d u v))

-- what a square with the differences D costs: half of it
abbrev pub satd4 : (ℕ → ℕ → ℤ) → ℕ
satd4 d = spread d / 2

-- the difference of two lists at a place
abbrev pub difference_at : List ℕ → List ℕ → ℕ → ℤ
difference_at a b k = pos (slice_index a k) -ℤ pos (slice_index b k)

-- the matrix D of the n-th 4x4 square of two strips, from the left, by row and column
abbrev pub matrix_at : List ℕ → List ℕ → ℕ → ℕ → ℕ → ℤ
matrix_at a b n r c = difference_at a b (r * (length a / 4) + 4 * n + c)

-- what that square costs
abbrev pub satd_at : List ℕ → List ℕ → ℕ → ℕ
satd_at a b n = satd4 (matrix_at a b n)

-- SATD: the sum over the squares of two strips
abbrev pub satd : List ℕ → List ℕ → ℕ
satd a b = total (length a / 16) (satd_at a b)
