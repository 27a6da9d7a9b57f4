-- Samples of a patch, and what interpolation makes of them.
use Rattle.std.specs.Prelude.{◌≡◌, ℕ, ◌+◌, ◌*◌, ◌/◌, ◌%◌, ◌<◌, List, ℤ, pos, ◌+ℤ◌, ◌-ℤ◌, slice_index, slice_index_or}
use Rattle.picture.specs.Planes.{Grid}
use Rattle.reference.specs.declared.patches.Patch.{Patch}
use Rattle.reference.specs.declared.parts.Part.{Part}
use Rattle.reference.specs.declared.parts.Part.TheVariants.{Whole, Right, Below, Across, AcrossBelow, Down, DownRight, Middle}
use Rattle.reference.specs.declared.parts.Sample.{Sample}
use Rattle.reference.specs.declared.parts.Sample.TheVariants.{One, Mean}
use Rattle.reference.specs.Bounds.{Within}
use Rattle.reference.specs.Interpolation.{tap, mean, rounded, rounded_twice}

-- the sample at a column and a row of the patch, counted from its corner
abbrev pub patch_at : Patch → ℕ → ℕ → ℕ
patch_at p c r = slice_index p.samples (r * (p.width + 5) + c)

-- the patch shows a picture's whole samples, its rectangle beginning at column x, row y
abbrev pub Shows : Patch → Grid → ℤ → ℤ → Type 0
Shows p g x y =
    (c r : ℕ) → c < p.width + 5 → r < p.height + 5 → patch_at p c r ≡ g (x -ℤ pos 2 +ℤ pos c) (y -ℤ pos 2 +ℤ pos r)

-- the taps of six numbers along a line
abbrev pub tap_along : (ℕ → ℤ) → ℤ
tap_along f = tap (f 0) (f 1) (f 2) (f 3) (f 4) (f 5)

abbrev pub tap_of : List ℤ → ℤ
tap_of xs = tap_along (λ k. slice_index_or xs k (pos 0))

-- the tap sums of the patch: of a row, from column c on; of a column, from row r on; of the rows' sums, from row r on
unfoldable pub row_tap : Patch → ℕ → ℕ → ℤ
row_tap p c r = tap_along (λ k. pos (patch_at p (c + k) r))

unfoldable pub column_tap : Patch → ℕ → ℕ → ℤ
column_tap p c r = tap_along (λ k. pos (patch_at p c (r + k)))

unfoldable pub both_tap : Patch → ℕ → ℕ → ℤ
both_tap p c r = tap_along (λ k. row_tap p c (r + k))

-- a part of the cell at column i, row r of the patch's rectangle
abbrev pub part_in : Part → Patch → ℕ → ℕ → ℕ
part_in Whole p i r = patch_at p (i + 2) (r + 2)
part_in Right p i r = patch_at p (i + 3) (r + 2)
part_in Below p i r = patch_at p (i + 2) (r + 3)
part_in Across p i r = rounded (row_tap p i (r + 2))
part_in AcrossBelow p i r = rounded (row_tap p i (r + 3))
part_in Down p i r = rounded (column_tap p (i + 2) r)
part_in DownRight p i r = rounded (column_tap p (i + 3) r)
part_in Middle p i r = rounded_twice (both_tap p i r)

-- a sample of that cell
abbrev pub sample_in : Sample → Patch → ℕ → ℕ → ℕ
sample_in (One part) p i r = part_in part p i r
sample_in (Mean one other) p i r = mean (part_in one p i r) (part_in other p i r)

-- the tap sums of all rows of the patch, row by row
abbrev pub RowSums : Patch → List ℤ → Type 0
RowSums p sums =
    (k : ℕ) → k < (p.height + 5) * p.width →
    (slice_index_or sums k (pos 0) ≡ row_tap p (k % p.width) (k / p.width)) × Within 16384 (slice_index_or sums k (pos 0))
