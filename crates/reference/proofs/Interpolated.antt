-- The parts of a patch are those of the picture that it shows, and make up the sixteen samples of each cell.
use Rattle.std.proofs.Common.{◌≡◌, ℕ, zero, suc, ◌+◌, ◌*◌, ◌/◌, ◌%◌, ◌<◌, ◌≤◌, get_or, ℤ, pos, negsuc, ◌+ℤ◌, ◌-ℤ◌, ◌*ℤ◌, ◌≤ℤ◌, ◌<ℤ◌, sym, refl, ap, ◌∙◌, arith}
use Rattle.std.specs.Int.{int_div_euclid, int_rem_euclid}
use Rattle.std.proofs.lemmas.Int.{ints}
use Rattle.picture.specs.Planes.{Grid}
use Rattle.reference.specs.declared.patches.Patch.{Patch}
use Rattle.reference.specs.declared.parts.Part.{Part}
use Rattle.reference.specs.declared.parts.Part.TheVariants.{Whole, Right, Below, Across, AcrossBelow, Down, DownRight, Middle}
use Rattle.reference.specs.Interpolation.{across, downwards, middle, rounded, rounded_twice, cell, quarter, place_of}
use Rattle.reference.specs.declared.parts.Sample.{Sample}
use Rattle.reference.specs.declared.parts.Sample.TheVariants.{One, Mean}
use Rattle.reference.specs.Parts.{sample_at, part_at, sample_on}
use Rattle.reference.specs.Patches.{Shows, row_tap, column_tap, both_tap, part_in, sample_in}
use Rattle.reference.proofs.Places.{column_below, row_below}

-- two and three further than the patch's edge
two : (z : ℤ) (i : ℕ) → z -ℤ pos 2 +ℤ pos (i + 2) ≡ z +ℤ pos i
two z i = omega (arith, ints)

three : (z : ℤ) (i : ℕ) → z -ℤ pos 2 +ℤ pos (i + 3) ≡ z +ℤ pos i +ℤ pos 1
three z i = omega (arith, ints)

row_is : (p : Patch) (g : Grid) (x y : ℤ) → Shows p g x y → (i r : ℕ) → i < p.width → r < p.height + 5 → row_tap p i r ≡ across g (x +ℤ pos i) (y -ℤ pos 2 +ℤ pos r)
unfolding row_tap across
row_is p g x y s i r a b =
    let e : x -ℤ pos 2 +ℤ pos (i + 0) ≡ x +ℤ pos i -ℤ pos 2 = omega (arith, ints) in
    let f : x -ℤ pos 2 +ℤ pos (i + 1) ≡ x +ℤ pos i -ℤ pos 1 = omega (arith, ints) in
    let h : x -ℤ pos 2 +ℤ pos (i + 2) ≡ x +ℤ pos i = omega (arith, ints) in
    let j : x -ℤ pos 2 +ℤ pos (i + 3) ≡ x +ℤ pos i +ℤ pos 1 = omega (arith, ints) in
    let k : x -ℤ pos 2 +ℤ pos (i + 4) ≡ x +ℤ pos i +ℤ pos 2 = omega (arith, ints) in
    let l : x -ℤ pos 2 +ℤ pos (i + 5) ≡ x +ℤ pos i +ℤ pos 3 = omega (arith, ints) in
    cc (s (i + 0) r (omega arith) b, s (i + 1) r (omega arith) b, s (i + 2) r (omega arith) b, s (i + 3) r (omega arith) b, s (i + 4) r (omega arith) b, s (i + 5) r (omega arith) b)

column_is : (p : Patch) (g : Grid) (x y : ℤ) → Shows p g x y → (c r : ℕ) → c < p.width + 5 → r < p.height → column_tap p c r ≡ downwards g (x -ℤ pos 2 +ℤ pos c) (y +ℤ pos r)
unfolding column_tap downwards
column_is p g x y s c r a b =
    let e : y -ℤ pos 2 +ℤ pos (r + 0) ≡ y +ℤ pos r -ℤ pos 2 = omega (arith, ints) in
    let f : y -ℤ pos 2 +ℤ pos (r + 1) ≡ y +ℤ pos r -ℤ pos 1 = omega (arith, ints) in
    let h : y -ℤ pos 2 +ℤ pos (r + 2) ≡ y +ℤ pos r = omega (arith, ints) in
    let j : y -ℤ pos 2 +ℤ pos (r + 3) ≡ y +ℤ pos r +ℤ pos 1 = omega (arith, ints) in
    let k : y -ℤ pos 2 +ℤ pos (r + 4) ≡ y +ℤ pos r +ℤ pos 2 = omega (arith, ints) in
    let l : y -ℤ pos 2 +ℤ pos (r + 5) ≡ y +ℤ pos r +ℤ pos 3 = omega (arith, ints) in
    cc (s c (r + 0) a (omega arith), s c (r + 1) a (omega arith), s c (r + 2) a (omega arith), s c (r + 3) a (omega arith), s c (r + 4) a (omega arith), s c (r + 5) a (omega arith))

both_is : (p : Patch) (g : Grid) (x y : ℤ) → Shows p g x y → (i r : ℕ) → i < p.width → r < p.height → both_tap p i r ≡ middle g (x +ℤ pos i) (y +ℤ pos r)
unfolding both_tap middle
both_is p g x y s i r a b =
    let e : y -ℤ pos 2 +ℤ pos (r + 0) ≡ y +ℤ pos r -ℤ pos 2 = omega (arith, ints) in
    let f : y -ℤ pos 2 +ℤ pos (r + 1) ≡ y +ℤ pos r -ℤ pos 1 = omega (arith, ints) in
    let h : y -ℤ pos 2 +ℤ pos (r + 2) ≡ y +ℤ pos r = omega (arith, ints) in
    let j : y -ℤ pos 2 +ℤ pos (r + 3) ≡ y +ℤ pos r +ℤ pos 1 = omega (arith, ints) in
    let k : y -ℤ pos 2 +ℤ pos (r + 4) ≡ y +ℤ pos r +ℤ pos 2 = omega (arith, ints) in
    let l : y -ℤ pos 2 +ℤ pos (r + 5) ≡ y +ℤ pos r +ℤ pos 3 = omega (arith, ints) in
    let t = row_is p g x y s i in
    cc (t (r + 0) a (omega arith), t (r + 1) a (omega arith), t (r + 2) a (omega arith), t (r + 3) a (omega arith), t (r + 4) a (omega arith), t (r + 5) a (omega arith))

pub part_is : (part : Part) (p : Patch) (g : Grid) (x y : ℤ) → Shows p g x y → (i r : ℕ) → i < p.width → r < p.height → part_in part p i r ≡ part_at part g (x +ℤ pos i) (y +ℤ pos r)
part_is Whole p g x y s i r a b = s (i + 2) (r + 2) (omega arith) (omega arith) ∙ cc (two x i, two y r)
part_is Right p g x y s i r a b = s (i + 3) (r + 2) (omega arith) (omega arith) ∙ cc (three x i, two y r)
part_is Below p g x y s i r a b = s (i + 2) (r + 3) (omega arith) (omega arith) ∙ cc (two x i, three y r)
part_is Across p g x y s i r a b = ap rounded (row_is p g x y s i (r + 2) a (omega arith) ∙ cc (two y r))
part_is AcrossBelow p g x y s i r a b = ap rounded (row_is p g x y s i (r + 3) a (omega arith) ∙ cc (three y r))
part_is Down p g x y s i r a b = ap rounded (column_is p g x y s (i + 2) r (omega arith) b ∙ cc (two x i))
part_is DownRight p g x y s i r a b = ap rounded (column_is p g x y s (i + 3) r (omega arith) b ∙ cc (three x i))
part_is Middle p g x y s i r a b = ap rounded_twice (both_is p g x y s i r a b)

pub sample_is : (sample : Sample) (p : Patch) (g : Grid) (x y : ℤ) → Shows p g x y → (i r : ℕ) → i < p.width → r < p.height → sample_in sample p i r ≡ sample_on sample g (x +ℤ pos i) (y +ℤ pos r)
sample_is (One part) p g x y s i r a b = part_is part p g x y s i r a b
sample_is (Mean one other) p g x y s i r a b =
    let u = part_is one p g x y s i r a b in
    let v = part_is other p g x y s i r a b in
    cc

-- what is made of parts at a place is the cell's sample there
pub cell_is : (g : Grid) (x y : ℤ) (place : ℕ) → place < 16 → sample_on (sample_at place) g x y ≡ get_or (cell g x y) place 0
unfolding cell sample_at
cell_is g x y zero lt = refl
cell_is g x y (suc zero) lt = refl
cell_is g x y (suc (suc zero)) lt = refl
cell_is g x y (suc (suc (suc zero))) lt = refl
cell_is g x y (suc (suc (suc (suc zero)))) lt = refl
cell_is g x y (suc (suc (suc (suc (suc zero))))) lt = refl
cell_is g x y (suc (suc (suc (suc (suc (suc zero)))))) lt = refl
cell_is g x y (suc (suc (suc (suc (suc (suc (suc zero))))))) lt = refl
cell_is g x y (suc (suc (suc (suc (suc (suc (suc (suc zero)))))))) lt = refl
cell_is g x y (suc (suc (suc (suc (suc (suc (suc (suc (suc zero))))))))) lt = refl
cell_is g x y (suc (suc (suc (suc (suc (suc (suc (suc (suc (suc zero)))))))))) lt = refl
cell_is g x y (suc (suc (suc (suc (suc (suc (suc (suc (suc (suc (suc zero))))))))))) lt = refl
cell_is g x y (suc (suc (suc (suc (suc (suc (suc (suc (suc (suc (suc (suc zero)))))))))))) lt = refl
cell_is g x y (suc (suc (suc (suc (suc (suc (suc (suc (suc (suc (suc (suc (suc zero))))))))))))) lt = refl
cell_is g x y (suc (suc (suc (suc (suc (suc (suc (suc (suc (suc (suc (suc (suc (suc zero)))))))))))))) lt = refl
cell_is g x y (suc (suc (suc (suc (suc (suc (suc (suc (suc (suc (suc (suc (suc (suc (suc zero))))))))))))))) lt = refl
cell_is g x y (suc (suc (suc (suc (suc (suc (suc (suc (suc (suc (suc (suc (suc (suc (suc (suc n)))))))))))))))) lt = absurd (omega arith)

-- whole samples further, the cell is as many cells further and the place is the same
floored : (z : ℤ) → ((pos 4 *ℤ int_div_euclid z (pos 4)) ≤ℤ z) × (z <ℤ (pos 4 *ℤ int_div_euclid z (pos 4) +ℤ pos 4)) × (int_rem_euclid z (pos 4) ≡ z -ℤ pos 4 *ℤ int_div_euclid z (pos 4))
floored (pos n) = (omega (arith, ints), omega (arith, ints), omega (arith, ints))
floored (negsuc n) = (omega (arith, ints), omega (arith, ints), omega (arith, ints))

same_floor : (a b z : ℤ) (i : ℕ) → ((pos 4 *ℤ a) ≤ℤ z) × (z <ℤ (pos 4 *ℤ a +ℤ pos 4)) → ((pos 4 *ℤ b) ≤ℤ (z +ℤ pos (4 * i))) × ((z +ℤ pos (4 * i)) <ℤ (pos 4 *ℤ b +ℤ pos 4)) → b ≡ a +ℤ pos i
same_floor a b z i p q = omega (arith, ints)

further : (z : ℤ) (i : ℕ) → (int_div_euclid (z +ℤ pos (4 * i)) (pos 4) ≡ int_div_euclid z (pos 4) +ℤ pos i) × (int_rem_euclid (z +ℤ pos (4 * i)) (pos 4) ≡ int_rem_euclid z (pos 4))
further z i =
    let f = floored z in
    let g = floored (z +ℤ pos (4 * i)) in
    let d = same_floor (int_div_euclid z (pos 4)) (int_div_euclid (z +ℤ pos (4 * i)) (pos 4)) z i (f.0, f.1) (g.0, g.1) in
    (d, g.2 ∙ apart _ _ _ i d ∙ sym f.2)
  where
    apart : (a b z : ℤ) (i : ℕ) → b ≡ a +ℤ pos i → z +ℤ pos (4 * i) -ℤ pos 4 *ℤ b ≡ z -ℤ pos 4 *ℤ a
    apart a b z i e = omega (arith, ints)

pub quarter_further : (g : Grid) (X Y : ℤ) (i r : ℕ) →
    quarter g (X +ℤ pos (4 * i)) (Y +ℤ pos (4 * r)) ≡ get_or (cell g (int_div_euclid X (pos 4) +ℤ pos i) (int_div_euclid Y (pos 4) +ℤ pos r)) (place_of X Y) 0
unfolding quarter
quarter_further g X Y i r =
    let a = further X i in
    let b = further Y r in
    rw (a.0, a.1, b.0, b.1)

-- a place is one of sixteen
place_small : (X Y : ℤ) → place_of X Y < 16
place_small X Y =
    let x = floored X in
    let y = floored Y in
    omega (arith, ints)

-- so what is made of parts is the picture's sample
pub quarter_by : (g : Grid) (X Y x y : ℤ) (place i r v : ℕ) → x ≡ int_div_euclid X (pos 4) → y ≡ int_div_euclid Y (pos 4) → place ≡ place_of X Y →
    v ≡ sample_on (sample_at place) g (x +ℤ pos i) (y +ℤ pos r) → v ≡ quarter g (X +ℤ pos (4 * i)) (Y +ℤ pos (4 * r))
quarter_by g X Y x y place i r v ex ey ep e =
    let lt : place < 16 = rw ep (place_small X Y) in
    let f : get_or (cell g (x +ℤ pos i) (y +ℤ pos r)) place 0 ≡ get_or (cell g (int_div_euclid X (pos 4) +ℤ pos i) (int_div_euclid Y (pos 4) +ℤ pos r)) (place_of X Y) 0 = rw (ex, ey, ep) in
    e ∙ cell_is g (x +ℤ pos i) (y +ℤ pos r) place lt ∙ f ∙ sym (quarter_further g X Y i r)

-- a sample that is read out of a patch
pub from_patch : (p q : Patch) (g : Grid) (x y : ℤ) (sample : Sample) (k w h v : ℕ) → q ≡ p → Shows p g x y → p.width ≡ w → p.height ≡ h → 1 ≤ w → k < h * w →
    v ≡ sample_in sample q (k % q.width) (k / q.width) → v ≡ sample_on sample g (x +ℤ pos (k % w)) (y +ℤ pos (k / w))
from_patch p q g x y sample k w h v same s ew eh some lt e =
    let i : k % w < p.width = rw ew (column_below k w some) in
    let r : k / w < p.height = rw eh (row_below k w h some lt) in
    let e' = simp ew at (rw same at e) in
    e' ∙ sample_is sample p g x y s (k % w) (k / w) i r

pub nowhere : (z : ℤ) → z +ℤ pos 0 ≡ z
nowhere z = omega (arith, ints)
