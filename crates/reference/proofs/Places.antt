-- Places of rows and columns in a patch and in its sums.
use Rattle.std.proofs.Common.{◌≡◌, ℕ, ◌+◌, ◌*◌, ◌/◌, ◌%◌, ◌<◌, ◌≤◌, List, get_or, ℤ, pos, mod-lt, arith}
use Rattle.std.proofs.lemmas.Nat.{mul-le, mul-add-lt, div_below, div-mul-add, mod-mul-add}
use Rattle.reference.specs.declared.patches.Patch.{Patch}
use Rattle.reference.specs.Patches.{RowSums, row_tap}

-- the place of column c, row r, of rows of w, lies below that of row n
pub place_below : (w n r c : ℕ) → c < w → r < n → r * w + c < n * w
place_below w n r c p q = omega (arith, mul-add-lt r w c n q p)

pub sums_below : (w h r c : ℕ) → w ≤ 16 → h ≤ 4 → c < w → r < h + 5 → (r * w + c < (h + 5) * w) × (r * w + c < 144)
sums_below w h r c a b p q =
    let l = place_below w (h + 5) r c p q in
    (l, omega (arith, mul-le (h + 5) w 9 16 (omega arith) a))

-- the column and the row of a place
pub column_below : (k w : ℕ) → 1 ≤ w → k % w < w
column_below k w p = mod-lt k p

pub row_below : (k w n : ℕ) → 1 ≤ w → k < n * w → k / w < n
row_below k w n p lt = div_below k w n p lt

-- the sum of a row, by its place
pub sum_is : (p : Patch) (sums : List ℤ) (c r : ℕ) → RowSums p sums → c < p.width → r < p.height + 5 → get_or sums (r * p.width + c) (pos 0) ≡ row_tap p c r
sum_is p sums c r h a b =
    let l = sums_below p.width p.height r c p.narrow.1 p.low.1 a b in
    let m = mod-mul-add r p.width c a in
    let d = div-mul-add r p.width c a in
    (simp (m, d) at (h (r * p.width + c) l.0)).0
