-- Bounds on signed numbers.
use Rattle.std.specs.Prelude.{ℕ, ◌*◌, ◌≤◌, List, ℤ, pos, negsuc, ◌+ℤ◌, ◌≤ℤ◌, slice_index_or}

-- -n - 1 ≤ z ≤ n
abbrev pub Within : ℕ → ℤ → Type 0
Within n z = (negsuc n ≤ℤ z) × (z ≤ℤ pos n)

-- a position in quarter samples has one so many whole samples further, at most 15
abbrev pub Reaches : ℤ → ℕ → Type 0
Reaches z by = (by ≤ 15) × ((z +ℤ pos (4 * by)) ≤ℤ pos 32767)

-- of each of six numbers
abbrev pub AllWithin : ℕ → List ℤ → Type 0
AllWithin n xs =
    Within n (slice_index_or xs 0 (pos 0)) × Within n (slice_index_or xs 1 (pos 0)) × Within n (slice_index_or xs 2 (pos 0)) ×
    Within n (slice_index_or xs 3 (pos 0)) × Within n (slice_index_or xs 4 (pos 0)) × Within n (slice_index_or xs 5 (pos 0))
