-- At a whole-sample vector the computing list has the picture's own samples, so J by SAD is worked out from those.
use Rattle.std.proofs.Common.{◌≡◌, ℕ, zero, suc, ◌+◌, ◌*◌, ◌/◌, ◌%◌, ◌<◌, ◌≤◌, Bool, true, false, leb, Option, Some, None, nat_abs, ◌-ℤ◌, cond, List, [], ◌∷◌, map, length, ltb, ℤ, pos, negsuc, ◌+ℤ◌, ◌*ℤ◌, sym, refl, ap, ◌∙◌, arith, length-take, length-drop, lit≤, lit<, IfSome, drop}
use Rattle.std.specs.Int.{int_div_euclid, int_rem_euclid}
use Rattle.std.proofs.lemmas.Int.{ints, int_rem_euclid_is}
use Rattle.std.specs.List.{range_with_len}
use Rattle.picture.specs.declared.pictures.ReferencePictures.{ReferencePictures}
use Rattle.picture.specs.Planes.{Grid, grid_sample}
use Rattle.picture.specs.Pictures.{area, picture_of, whole_of}
use Rattle.reference.specs.declared.computed.ComputedList.{ComputedList}
use Rattle.reference.specs.Interpolation.{cell, quarter}
use Rattle.reference.specs.Lists.{strip_at, strip_of}
use Rattle.reference.specs.Computed.{computed, grid_at}
use Rattle.std.proofs.lemmas.Nat.{mul-le}
use Rattle.block.specs.declared.shapes.Shape.{Shape}
use Rattle.block.specs.declared.shapes.Shape.TheVariants.{B16x16, B16x8, B8x16, B8x8, B8x4, B4x8, B4x4}
use Rattle.cost.specs.Rating.{rate_part_of}
use Rattle.block.specs.declared.blocks.Block.{Block}
use Rattle.block.specs.Shapes.{shape_width, shape_height}
use Rattle.measure.specs.Sums.{sad, total}
use Rattle.measure.specs.Totals.{total_most, asked_sad_most}
use Rattle.reference.specs.Bytes.{Bytes, bytes_take, bytes_drop, byte_if, grid_byte}
use Rattle.std.proofs.lemmas.Bool.Decides.{nat_tests}
use Rattle.rate.specs.Lengths.{is_tabled}
use Rattle.settings.proofs.Quarters.{floor_is}
use Rattle.settings.specs.Centres.{Floor4, centre_of, centre_in}
use Rattle.cost.specs.declared.candidates.Candidate.{Candidate}
use Rattle.cost.specs.declared.prices.Price.{Price}
use Rattle.cost.specs.Rating.{predicted_in}
use Rattle.settings.specs.declared.setups.Setup.{Setup}
use Rattle.rate.specs.declared.vectors.Vector.{Vector}
use Rattle.cost.specs.Prices.{cost_at, cost_of}
use Rattle.cost.specs.Strips.{block_strip, list_strip, strip_cost, parts_of, price_of}
use Rattle.cost.specs.Centres.{in_quarters, grid_strip, strip_sad, block_sad, whole_price, centre_candidate, centre_price}
use Rattle.cost.proofs.Blocks.{strips_many, strip_costs, shape_strip, asked_is, strip_length}

div4 : (a : ℤ) → int_div_euclid (pos 4 *ℤ a) (pos 4) ≡ a
div4 a = let f = floor_is (pos 4 *ℤ a) (int_div_euclid (pos 4 *ℤ a) (pos 4)) refl in omega (arith, ints, f.0, f.1)

rem4 : (a : ℤ) → int_rem_euclid (pos 4 *ℤ a) (pos 4) ≡ pos 0
rem4 (pos n) = omega (arith, ints)
rem4 (negsuc n) = int_rem_euclid_is (pos 4 *ℤ negsuc n) (pos 4) 4 (n + 1) 0 (omega arith) refl (omega (arith, ints))

-- the sample at a whole position is the cell's own
own : (g : Grid) (a b : ℤ) → quarter g (pos 4 *ℤ a) (pos 4 *ℤ b) ≡ g a b
unfolding quarter cell
own g a b = rw (rem4 a, rem4 b, div4 a, div4 b) refl

own_at : (g : Grid) (X Y a b : ℤ) → X ≡ pos 4 *ℤ a → Y ≡ pos 4 *ℤ b → quarter g X Y ≡ g a b
own_at g X Y a b ex ey = rw (ex, ey) (own g a b)

-- sample k of a strip of the list, at whole positions
strip_sample : (l : ComputedList) (r : ℕ) (X Y x y : ℤ) (w k : ℕ) → X ≡ pos 4 *ℤ x → Y ≡ pos 4 *ℤ y → strip_at (computed l) r X Y w k ≡ grid_sample (whole_of l.pictures r) x y w k
strip_sample l r X Y x y w k ex ey =
    ap (λ (n : ℕ). cond (ltb r l.pictures.size.pictures) n 0)
    (own_at (grid_at l r) (X +ℤ pos (4 * (k % w))) (Y +ℤ pos (4 * (k / w))) (x +ℤ pos (k % w)) (y +ℤ pos (k / w)) (omega (arith, ints, ex)) (omega (arith, ints, ey)))

map_same : {A B : Type 0} (f h : A → B) (xs : List A) → ((a : A) → f a ≡ h a) → map f xs ≡ map h xs
map_same f h [] e = refl
map_same f h (x ∷ xs) e = rw (e x, map_same f h xs e) refl

strip_is : (l : ComputedList) (r : ℕ) (X Y x y : ℤ) (w : ℕ) → X ≡ pos 4 *ℤ x → Y ≡ pos 4 *ℤ y → strip_of (computed l) r X Y w ≡ grid_strip (whole_of l.pictures r) x y w
unfolding strip_of grid_strip
strip_is l r X Y x y w ex ey =
    map_same (strip_at (computed l) r X Y w) (grid_sample (whole_of l.pictures r) x y w) (range_with_len 0 (4 * w)) (λ k. strip_sample l r X Y x y w k ex ey)

-- the cost of a block's strip by SAD
strip_cost_at : (l : ComputedList) (b : Block) (r : ℕ) (v : Vector) (s : ℕ) → length (block_strip b s) ≡ 4 * shape_width b.shape → strip_cost sad (computed l) b (in_quarters r v) s ≡ strip_sad b (whole_of l.pictures r) v.x v.y s
strip_cost_at l b r v s long =
    let w = shape_width b.shape in
    let e = strip_is l r (pos (4 * b.left) +ℤ pos 4 *ℤ v.x) (pos (4 * (b.top + 4 * s)) +ℤ pos 4 *ℤ v.y) (pos b.left +ℤ v.x) (pos (b.top + 4 * s) +ℤ v.y) w (omega (arith, ints)) (omega (arith, ints)) in
    sym
    (asked_is sad (strip_sad b (whole_of l.pictures r) v.x v.y s) (block_strip b s) _ (block_strip b s) (list_strip (computed l) b (in_quarters r v) s) refl refl (sym e)
    (rw long (shape_strip b.shape))
    (strip_length (computed l) r (pos (4 * b.left) +ℤ pos 4 *ℤ v.x) (pos (4 * (b.top + 4 * s)) +ℤ pos 4 *ℤ v.y) w ∙ sym long))

total_same : (f h : ℕ → ℕ) (n : ℕ) → ((k : ℕ) → k < n → f k ≡ h k) → total n f ≡ total n h
total_same f h zero e = refl
total_same f h (suc n) e = rw (total_same f h n (λ k lt. e k (omega arith)), e n (omega arith)) refl

few_strips : (sh : Shape) → (shape_height sh / 4 ≤ 4) × (shape_width sh ≤ 16)
few_strips = elim [ B16x16 ↦ (lit≤ tt, lit≤ tt) | B16x8 ↦ (lit≤ tt, lit≤ tt) | B8x16 ↦ (lit≤ tt, lit≤ tt) | B8x8 ↦ (lit≤ tt, lit≤ tt) | B8x4 ↦ (lit≤ tt, lit≤ tt) | B4x8 ↦ (lit≤ tt, lit≤ tt) | B4x4 ↦ (lit≤ tt, lit≤ tt) ]

-- the samples of a block are 256 bytes, as the type of its array has it
abbrev pub Stored : Block → Type 0
Stored b = (length b.samples ≡ 256) × Bytes b.samples

-- a strip of a block has four rows
strip_long : (b : Block) (s : ℕ) → Stored b → s < shape_height b.shape / 4 → length (block_strip b s) ≡ 4 * shape_width b.shape
strip_long b s stored lt =
    let w = shape_width b.shape in
    let f = few_strips b.shape in
    let m : s * (4 * w) ≤ 3 * 64 = mul-le s (4 * w) 3 64 (omega (arith, f.0, lt)) (omega (arith, f.1)) in
    simp (length-take, length-drop) (omega (arith, m, f.1, stored.0))

-- J by SAD at a whole-sample vector
cost_is : (s : Setup) (l : ComputedList) (r : ℕ) (v : Vector) → Stored s.block →
    cost_of (parts_of s (computed l) sad (in_quarters r v)) ≡ rate_part_of s (in_quarters r v) + block_sad s.block (whole_of l.pictures r) v.x v.y
cost_is s l r v stored =
    let c = in_quarters r v in
    let n = shape_height s.block.shape / 4 in
    let many = strips_many s (computed l) sad c in
    let same : total n (cost_at (parts_of s (computed l) sad c)) ≡ block_sad s.block (whole_of l.pictures r) v.x v.y =
    total_same (cost_at (parts_of s (computed l) sad c)) (strip_sad s.block (whole_of l.pictures r) v.x v.y) n (λ k lt. strip_costs s (computed l) sad c k lt ∙ strip_cost_at l s.block r v k (strip_long s.block k stored lt)) in
    rw (many, same) refl

-- the centre of a window is near its predicted vector: the table of code lengths has both differences
apart : (p q : ℤ) → Floor4 (p +ℤ pos 2) q → nat_abs (pos 4 *ℤ q -ℤ p) ≤ 261
apart p q f = omega (arith, ints, f.0, f.1)

within : (n : ℕ) → n ≤ 261 → leb n 261 ≡ true
within n h = grind (arith, nat_tests)

tabled : (p : ℤ) → is_tabled (pos 4 *ℤ centre_of p -ℤ p) ≡ true
tabled p = within _ (apart p (centre_of p) (floor_is (p +ℤ pos 2) (centre_of p) refl))

-- the price of the centre, once there is one
price_at : (s : Setup) (l : ComputedList) (r : ℕ) (b : Bool) (c : Candidate) → Stored s.block → ltb r s.predicted.pictures ≡ b →
    Some c ≡ cond b (Some (in_quarters r (centre_in (predicted_in s r)))) None →
    price_of s (computed l) sad c ≡ cond b (Some (whole_price s (whole_of l.pictures r) r (centre_in (predicted_in s r)))) None
price_at s l r true c stored e is =
    let v = centre_in (predicted_in s r) in
    let at : c ≡ in_quarters r v = grind (arith, is) in
    rw (at, e, tabled (predicted_in s r).x, tabled (predicted_in s r).y, cost_is s l r v stored) refl
price_at s l r false c stored e is = absurd (grind (arith, is))

pub price_is : (s : Setup) (l : ComputedList) (p : ReferencePictures) (r : ℕ) (c : Candidate) (answer : Option Price) → Stored s.block →
    Some c ≡ centre_candidate s r → l.pictures ≡ p → answer ≡ price_of s (computed l) sad c → answer ≡ centre_price s (whole_of p r) r
price_is s l p r c answer stored is e got = got ∙ price_at s l r (ltb r s.predicted.pictures) c stored refl is ∙ ap (λ (q : ReferencePictures). centre_price s (whole_of q r) r) e

-- samples are bytes, and so are those of a strip: of the block
block_bytes : (b : Block) (s : ℕ) → Stored b → Bytes (block_strip b s)
block_bytes b s stored =
    bytes_take (4 * shape_width b.shape) (drop (s * (4 * shape_width b.shape)) b.samples) (bytes_drop (s * (4 * shape_width b.shape)) b.samples stored.1)

-- and of a picture
grid_bytes : (g : Grid) → ((x y : ℤ) → g x y < 256) → (x y : ℤ) (w : ℕ) → Bytes (grid_strip g x y w)
unfolding grid_strip
grid_bytes g small x y w = bytes_map (range_with_len 0 (4 * w))
  where
    bytes_map : (ks : List ℕ) → Bytes (map (grid_sample g x y w) ks)
    bytes_map [] k = lit< tt
    bytes_map (j ∷ ks) zero = small _ _
    bytes_map (j ∷ ks) (suc k) = bytes_map ks k

-- the SAD of a block has four summands at most
block_sad_most : (b : Block) (g : Grid) (x y : ℤ) → Stored b → ((X Y : ℤ) → g X Y < 256) → block_sad b g x y ≤ 65280
block_sad_most b g x y stored small =
    let each = total_most (strip_sad b g x y) 16320 (shape_height b.shape / 4)
    (λ s. asked_sad_most (block_strip b s) (grid_strip g (pos b.left +ℤ x) (pos (b.top + 4 * s) +ℤ y) (shape_width b.shape))
    (λ k. omega (arith, block_bytes b s stored k)) (λ k. omega (arith, grid_bytes g small (pos b.left +ℤ x) (pos (b.top + 4 * s) +ℤ y) (shape_width b.shape) k))) in
    let few = few_strips b.shape in
    omega (arith, each, few.0)

-- the whole samples of a list's pictures
whole_byte : (l : ReferencePictures) (r : ℕ) (x y : ℤ) → whole_of l r x y < 256
whole_byte l r x y =
    byte_if (ltb r l.size.pictures) _
    (grid_byte l.size.picture.width l.size.picture.height (picture_of l r)
    (bytes_take (area l.size.picture) (drop (r * area l.size.picture) l.samples.now) (bytes_drop (r * area l.size.picture) l.samples.now l.bytes)) x y)

price_within : (s : Setup) (g : Grid) (r : ℕ) (v : Vector) → Stored s.block → ((X Y : ℤ) → g X Y < 256) → (b : Bool) → IfSome (cond b (Some (whole_price s g r v)) None) (λ price. price.cost ≤ price.rate_part + 65280)
price_within s g r v stored small true = omega (arith, block_sad_most s.block g v.x v.y stored small)
price_within s g r v stored small false = tt

-- so J of the centre is its rate part and little more
pub price_most : (s : Setup) (p : ReferencePictures) (r : ℕ) → Stored s.block → IfSome (centre_price s (whole_of p r) r) (λ price. price.cost ≤ price.rate_part + 65280)
price_most s p r stored = price_within s (whole_of p r) r (centre_in (predicted_in s r)) stored (whole_byte p r) (ltb r s.predicted.pictures)
