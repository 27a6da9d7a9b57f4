-- Sums over the places of two strips, and the two measures that are such sums.
use Rattle.std.specs.Prelude.{ℕ, zero, suc, ◌+◌, ◌-◌, ◌*◌, ◌≡◌, ◌≤◌, List, length, slice_index}

-- the sum of f 0 to f (n - 1)
abbrev pub total : ℕ → (ℕ → ℕ) → ℕ
total zero f = 0
total (suc n) f = total n f + f n

-- the absolute difference
abbrev pub gap : ℕ → ℕ → ℕ
gap x y = (x - y) + (y - x)

-- that of two lists at a place
abbrev pub gap_at : List ℕ → List ℕ → ℕ → ℕ
gap_at a b k = gap (slice_index a k) (slice_index b k)

-- SAD: the sum of the absolute differences
abbrev pub sad : List ℕ → List ℕ → ℕ
sad a b = total (length a) (gap_at a b)

-- the squared difference of two lists at a place
abbrev pub square_at : List ℕ → List ℕ → ℕ → ℕ
square_at a b k = gap_at a b k * gap_at a b k

-- SSD: the sum of the squared differences
abbrev pub ssd : List ℕ → List ℕ → ℕ
ssd a b = total (length a) (square_at a b)

-- f of the samples of two lists at a place
abbrev pub cost_at : (ℕ → ℕ → ℕ) → List ℕ → List ℕ → ℕ → ℕ
cost_at f a b k = f (slice_index a k) (slice_index b k)

-- a step from two samples to a cost, by what is known of its results, never gives more than m
abbrev pub GivesAtMost : ℕ → (ℕ → ℕ → ℕ → Type 0) → Type 0
GivesAtMost m Given = (x y r : ℕ) → Given x y r → r ≤ m

-- and gives what f does
abbrev pub GivesWhat : (ℕ → ℕ → ℕ) → (ℕ → ℕ → ℕ → Type 0) → Type 0
GivesWhat f Given = (x y r : ℕ) → Given x y r → r ≡ f x y

-- s is the sum of what such a step gives at the first n places, whichever f that is
abbrev pub IsSumBy : (ℕ → ℕ → ℕ → Type 0) → List ℕ → List ℕ → ℕ → ℕ → Type 0
IsSumBy Given a b n s = (f : ℕ → ℕ → ℕ) → GivesWhat f Given → s ≡ total n (cost_at f a b)
