-- A loop that copies whole samples, row by row.
use Rattle.std.proofs.Common.{◌≡◌, ℕ, ◌+◌, ◌-◌, ◌*◌, ◌<◌, ◌≤◌, min, List, length, get_or, take, drop, pos, ◌+ℤ◌, ap, ◌∙◌, add-mul, arith}
use Rattle.std.proofs.lemmas.Nat.{mul-le}
use Rattle.std.proofs.lemmas.Grind.{get_or_default_zero}
use Rattle.std.proofs.lemmas.List.{get_or-take, get_or-drop}
use Rattle.picture.specs.Planes.{grid}

-- row r of so many rows of w samples ends within them
pub row_end : (r n w : ℕ) → r < n → r * w + w ≤ n * w
row_end r n w lt = omega (arith, mul-le (r + 1) w n w (omega arith) (omega arith), add-mul r 1 w)

-- and within the picture
pub cut_end : (W H column row r w : ℕ) → column + w ≤ W → row + r < H → (row + r) * W + column + w ≤ H * W
cut_end W H column row r w a b = omega (arith, mul-le (row + r + 1) W H W (omega arith) (omega arith), add-mul (row + r) 1 W)

-- row r of the samples, cut out of the picture's bytes
pub row_cut : (W H : ℕ) (xs : List ℕ) (column row r w i from n d : ℕ) → column + w ≤ W → row + r < H → i < w → from ≡ (row + r) * W + column → n ≡ w → H * W ≤ length xs →
    get_or (take n (drop from xs)) i d ≡ grid W H xs (pos column +ℤ pos i) (pos row +ℤ pos r)
unfolding grid
row_cut W H xs column row r w i from n d a b lt e m full =
    let p : min (row + r) (H - 1) ≡ row + r = omega arith in
    let q : min (column + i) (W - 1) ≡ column + i = omega arith in
    get_or-take n (drop from xs) i d (omega arith) ∙ get_or-drop from xs i d ∙ get_or_default_zero xs (from + i) d (omega (arith, cut_end W H column row r w a b)) ∙ ap (λ k. get_or xs k 0) (rw (p, q) (omega arith))
