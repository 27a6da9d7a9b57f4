-- The crosses and the rings by index.
use Rattle.std.specs.Prelude.{◌≡◌, ℕ, zero, suc, ◌+◌, ◌-◌, ◌*◌, ◌/◌, ◌%◌, ◌<◌, ◌≤◌, List, map, length, get_or, ℤ, pos, ◌-ℤ◌, ◌*ℤ◌, slice_index_or, unsigned_abs, refl}
use Rattle.std.proofs.Common.{sym, ap, subst, ◌∙◌, ⊎_elim, arith, length-append}
use Rattle.std.specs.List.{range_with_len, flat_map}
use Rattle.std.proofs.lemmas.List.{get_or_append_left, get_or-append_right, get_or_past, get_or-map}
use Rattle.std.proofs.lemmas.Int.{ints}
use Rattle.std.proofs.lemmas.Bool.{cases_lt}
use Rattle.std.proofs.Math.Dec.{lit≤}
use Rattle.rate.specs.declared.vectors.Vector.{Vector}
use Rattle.settings.specs.Ranges.{Reach}
use Rattle.pattern.specs.Offsets.{at, still, times, Within}
use Rattle.pattern.specs.declared.squares.Eight.{Eight}
use Rattle.pattern.specs.declared.squares.Eight.TheVariants.{One, Two}
use Rattle.pattern.specs.Patterns.{cross, oddly, rings, sixteen, eight, distance_of}
use Rattle.pattern.specs.Joins.{length_joined, get_or_joined}
use Rattle.pattern.specs.Shorts.{each_within, get_or_times, times_within}

-- the component at an index of a line
abbrev pub odd_at : ℕ → ℤ
odd_at i = slice_index_or (oddly (1 + i / 2)) (i % 2) (pos 0)

-- a line of a cross, in one direction
abbrev line : (ℤ → Vector) → ℕ → List Vector
line f n = flat_map (λ (i : ℕ). map f (oddly i)) (range_with_len 1 n)

length_line : (f : ℤ → Vector) (n : ℕ) → length (line f n) ≡ n * 2
length_line f n = length_joined 2 (λ (i : ℕ). map f (oddly i)) 1 n (λ k l m. refl)

line_at : (f : ℤ → Vector) (n i : ℕ) → i < n * 2 → slice_index_or (line f n) i still ≡ f (odd_at i)
line_at f n i lt =
    let e : i / 2 * 2 + i % 2 ≡ i = omega arith in
    ap (λ (k : ℕ). get_or (line f n) k still) (sym e) ∙
    get_or_joined 2 (λ (k : ℕ). map f (oddly k)) (λ k. refl) 1 n (i / 2) (i % 2) still (omega arith) (omega arith) ∙
    get_or-map f (oddly (1 + i / 2)) (i % 2) (pos 0) still (omega arith)

pub length_cross : (w : ℕ) → Reach w → length (cross w) ≡ w + w / 2
unfolding cross
length_cross w h =
    length-append (line (λ x. at x (pos 0)) (w / 2)) (line (λ y. at (pos 0) y) (w / 4)) ∙
    omega (arith, length_line (λ x. at x (pos 0)) (w / 2), length_line (λ y. at (pos 0) y) (w / 4))

-- a cross has few offsets
pub cross_few : (w : ℕ) → Reach w → length (cross w) ≤ 1024
cross_few w h = omega (arith, length_cross w h)

pub cross_level : (w i : ℕ) → Reach w → i < w → slice_index_or (cross w) i still ≡ at (odd_at i) (pos 0)
unfolding cross
cross_level w i h lt =
    get_or_append_left (line (λ x. at x (pos 0)) (w / 2)) (line (λ y. at (pos 0) y) (w / 4)) still i (omega (arith, length_line (λ x. at x (pos 0)) (w / 2))) ∙
    line_at (λ x. at x (pos 0)) (w / 2) i (omega arith)

pub cross_upright : (w i : ℕ) → Reach w → w ≤ i → i < w + w / 2 → slice_index_or (cross w) i still ≡ at (pos 0) (odd_at (i - w))
unfolding cross
cross_upright w i h le lt =
    get_or-append_right (line (λ x. at x (pos 0)) (w / 2)) (line (λ y. at (pos 0) y) (w / 4)) w i still (omega (arith, length_line (λ x. at x (pos 0)) (w / 2))) le ∙
    line_at (λ y. at (pos 0) y) (w / 4) (i - w) (omega arith)

pub cross_past : (w i : ℕ) → Reach w → w + w / 2 ≤ i → slice_index_or (cross w) i still ≡ still
cross_past w i h le = get_or_past (cross w) i still (omega (arith, length_cross w h))

pub length_rings : (w : ℕ) → Reach w → length (rings w) ≡ 4 * w
unfolding rings sixteen
length_rings w h = length_joined 16 (λ (k : ℕ). map (times k) sixteen) 1 (w / 4) (λ k l m. refl) ∙ omega arith

-- rings have few offsets
pub rings_few : (w : ℕ) → Reach w → length (rings w) ≤ 1024
rings_few w h = omega (arith, length_rings w h)

pub rings_at : (w i : ℕ) → Reach w → i < 4 * w → slice_index_or (rings w) i still ≡ times (1 + i / 16) (slice_index_or sixteen (i % 16) still)
unfolding rings sixteen
rings_at w i h lt =
    let e : i / 16 * 16 + i % 16 ≡ i = omega arith in
    ap (λ (k : ℕ). get_or (rings w) k still) (sym e) ∙
    get_or_joined 16 (λ (k : ℕ). map (times k) sixteen) (λ k. refl) 1 (w / 4) (i / 16) (i % 16) still (omega arith) (omega arith) ∙
    get_or_times (1 + i / 16) sixteen (i % 16)

pub rings_past : (w i : ℕ) → Reach w → 4 * w ≤ i → slice_index_or (rings w) i still ≡ still
rings_past w i h le = get_or_past (rings w) i still (omega (arith, length_rings w h))

odd_short : (k r : ℕ) → k < 32 → r < 2 → unsigned_abs (slice_index_or (oddly (1 + k)) r (pos 0)) ≤ 64
odd_short k zero h l = omega (arith, ints)
odd_short k (suc zero) h l = omega (arith, ints)
odd_short k (suc (suc r)) h l = omega arith

-- a line stays within the range
pub odd_at_short : (i : ℕ) → i < 64 → unsigned_abs (odd_at i) ≤ 64
odd_at_short i lt = odd_short (i / 2) (i % 2) (omega arith) (omega arith)

sixteen_short : (i : ℕ) → Within 4 (slice_index_or sixteen i still)
unfolding sixteen
sixteen_short i = each_within 4 sixteen refl i

pub rings_short : (w k : ℕ) → Reach w → Within 64 (slice_index_or (rings w) k still)
rings_short w k h =
    ⊎_elim
    (λ (l : k < 4 * w).
    subst (Within 64) (sym (rings_at w k h l))
    (times_within (1 + k / 16) 4 64 (slice_index_or sixteen (k % 16) still) (sixteen_short (k % 16)) (omega arith)))
    (λ (m : 4 * w ≤ k). subst (Within 64) (sym (rings_past w k h m)) (omega arith, omega arith))
    (cases_lt k (4 * w))

-- every offset of a cross is short
pub cross_short : (w k : ℕ) → Reach w → Within 64 (slice_index_or (cross w) k still)
cross_short w k h =
    ⊎_elim
    (λ (l : k < w). subst (Within 64) (sym (cross_level w k h l)) (odd_at_short k (omega arith), omega arith))
    (λ (m : w ≤ k).
    ⊎_elim
    (λ (l : k < w + w / 2). subst (Within 64) (sym (cross_upright w k h m l)) (omega arith, odd_at_short (k - w) (omega arith)))
    (λ (m : w + w / 2 ≤ k). subst (Within 64) (sym (cross_past w k h m)) (omega arith, omega arith))
    (cases_lt k (w + w / 2)))
    (cases_lt k w)

-- an eight has few offsets, all of them short
pub eight_few : (e : Eight) → length (eight (distance_of e)) ≤ 1024
unfolding eight
eight_few One = lit≤ tt
eight_few Two = lit≤ tt

pub eight_short : (e : Eight) (k : ℕ) → Within 64 (slice_index_or (eight (distance_of e)) k still)
unfolding eight
eight_short One k = each_within 64 (eight 1) refl k
eight_short Two k = each_within 64 (eight 2) refl k

-- the component that comes second of a pair, by what the code works out
pub odd_minus : (i : ℕ) (z : ℤ) → i % 2 ≡ 1 → z ≡ pos 1 -ℤ pos 2 *ℤ pos (1 + i / 2) → z ≡ odd_at i
odd_minus i z r e = subst (λ (k : ℕ). z ≡ slice_index_or (oddly (1 + i / 2)) k (pos 0)) (sym r) e
