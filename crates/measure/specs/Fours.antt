-- Four numbers and 4x4 matrices as the program holds them, and what is done to them.
use Rattle.std.specs.Prelude.{ℕ, ◌≤◌, List, [], ◌∷◌, ℤ, pos, slice_index_or, unsigned_abs}
use Rattle.measure.specs.Transforms.{along, size}

-- the four numbers f 0 to f 3
abbrev pub four_of : (ℕ → ℤ) → List ℤ
four_of f = f 0 ∷ f 1 ∷ f 2 ∷ f 3 ∷ []

-- the number at a place
abbrev pub part : List ℤ → ℕ → ℤ
part x i = slice_index_or x i (pos 0)

-- the matrix with the entries d, by row and column
abbrev pub matrix_of : (ℕ → ℕ → ℤ) → List (List ℤ)
matrix_of d = four_of (d 0) ∷ four_of (d 1) ∷ four_of (d 2) ∷ four_of (d 3) ∷ []

-- a row of a matrix
abbrev pub row : List (List ℤ) → ℕ → List ℤ
row x r = slice_index_or x r []

-- the entries of a matrix
abbrev pub entries : List (List ℤ) → ℕ → ℕ → ℤ
entries x r = part (row x r)

-- none of four numbers is further from 0 than m
abbrev pub Within : ℕ → List ℤ → Type 0
Within m x =
    (unsigned_abs (part x 0) ≤ m) × (unsigned_abs (part x 1) ≤ m) × (unsigned_abs (part x 2) ≤ m) × (unsigned_abs (part x 3) ≤ m)

-- nor is any entry of a matrix
abbrev pub AllWithin : ℕ → List (List ℤ) → Type 0
AllWithin m x = Within m (row x 0) × (Within m (row x 1) × (Within m (row x 2) × Within m (row x 3)))

-- four numbers transformed
abbrev pub turned : List ℤ → List ℤ
turned x = four_of (along (part x))

-- each row transformed
abbrev pub turned_rows : List (List ℤ) → List (List ℤ)
turned_rows x = matrix_of (λ r. along (entries x r))

-- rows for columns
abbrev pub flipped : List (List ℤ) → List (List ℤ)
flipped x = matrix_of (λ r c. entries x c r)

-- the sum of four absolute values
abbrev pub size_of : List ℤ → ℕ
size_of x = size (part x)
