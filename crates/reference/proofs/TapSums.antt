-- Tap sums of six numbers that were read along a line, and how the code adds them up.
use Rattle.std.proofs.Common.{◌≡◌, ℕ, ◌<◌, List, get_or, ℤ, pos, ◌+ℤ◌, ◌-ℤ◌, ◌*ℤ◌, lit<, arith, w32, SFits, to_z, of_z}
use Rattle.std.proofs.lemmas.Int.{ints, to_z-of_z}
use Rattle.reference.specs.Interpolation.{tap}
use Rattle.reference.specs.Patches.{tap_along, tap_of}
use Rattle.reference.specs.Bounds.{Within, AllWithin}

taps_are : (xs : List ℤ) (f : ℕ → ℤ) → ((k : ℕ) → k < 6 → get_or xs k (pos 0) ≡ f k) → tap_of xs ≡ tap_along f
taps_are xs f h = cc (h 0 (lit< tt), h 1 (lit< tt), h 2 (lit< tt), h 3 (lit< tt), h 4 (lit< tt), h 5 (lit< tt))

all_within : (n : ℕ) (xs : List ℤ) → ((k : ℕ) → k < 6 → Within n (get_or xs k (pos 0))) → AllWithin n xs
all_within n xs h = (h 0 (lit< tt), h 1 (lit< tt), h 2 (lit< tt), h 3 (lit< tt), h 4 (lit< tt), h 5 (lit< tt))

narrow : (xs : List ℤ) → AllWithin 255 xs → Within 16384 (tap_of xs)
unfolding tap
narrow xs h = omega (arith, ints)

wide : (xs : List ℤ) → AllWithin 16384 xs → Within 1048576 (tap_of xs)
unfolding tap
wide xs h = omega (arith, ints)

-- what was read, its tap sum, and a bound on that
pub record Summed (n : ℕ) (xs : List ℤ) (f : ℕ → ℤ) : Type 0 where
  pub taps : AllWithin 16384 xs
  pub value : tap_of xs ≡ tap_along f
  pub small : Within n (tap_of xs)

pub six_bytes : (xs : List ℤ) (f : ℕ → ℕ) → ((k : ℕ) → k < 6 → (get_or xs k (pos 0) ≡ pos (f k)) × (f k < 256)) → Summed 16384 xs (λ k. pos (f k))
six_bytes xs f h = record {
  taps = all_within 16384 xs (λ k lt. let a = h k lt in rw a.0 (omega (arith, ints)));
  value = taps_are xs (λ k. pos (f k)) (λ k lt. (h k lt).0);
  small = narrow xs (all_within 255 xs (λ k lt. let a = h k lt in rw a.0 (omega (arith, ints))));
}

pub six_sums : (xs : List ℤ) (f : ℕ → ℤ) → ((k : ℕ) → k < 6 → (get_or xs k (pos 0) ≡ f k) × Within 16384 (f k)) → Summed 1048576 xs f
six_sums xs f h =
    let a : AllWithin 16384 xs = all_within 16384 xs (λ k lt. let b = h k lt in rw b.0 b.1) in
    record { taps = a; value = taps_are xs f (λ k lt. (h k lt).0); small = wide xs a }

abbrev pub back : ℤ → ℤ
back z = to_z w32 (of_z w32 z)

pub tap_is : (e f g h i j : ℤ) → e +ℤ j -ℤ pos 5 *ℤ (f +ℤ i) +ℤ pos 20 *ℤ (g +ℤ h) ≡ tap e f g h i j
unfolding tap
tap_is e f g h i j = omega (arith, ints)

-- the six taps as the code adds them up, each part read back from its bits
pub tap_code : (e f g h i j : ℤ) → Within 16384 e → Within 16384 f → Within 16384 g → Within 16384 h → Within 16384 i → Within 16384 j →
    SFits w32 (back (back (back e +ℤ back j) -ℤ back (pos 5 *ℤ back (back f +ℤ back i))) +ℤ back (pos 20 *ℤ back (back g +ℤ back h))) ×
    (back (back (back (back e +ℤ back j) -ℤ back (pos 5 *ℤ back (back f +ℤ back i))) +ℤ back (pos 20 *ℤ back (back g +ℤ back h))) ≡ tap e f g h i j)
tap_code e f g h i j p q r s t u =
    let e' : SFits w32 e = omega (arith, ints) in
    let f' : SFits w32 f = omega (arith, ints) in
    let g' : SFits w32 g = omega (arith, ints) in
    let h' : SFits w32 h = omega (arith, ints) in
    let i' : SFits w32 i = omega (arith, ints) in
    let j' : SFits w32 j = omega (arith, ints) in
    let o : SFits w32 (e +ℤ j) = omega (arith, ints) in
    let n : SFits w32 (f +ℤ i) = omega (arith, ints) in
    let m : SFits w32 (g +ℤ h) = omega (arith, ints) in
    let n5 : SFits w32 (pos 5 *ℤ (f +ℤ i)) = omega (arith, ints) in
    let m20 : SFits w32 (pos 20 *ℤ (g +ℤ h)) = omega (arith, ints) in
    let d : SFits w32 (e +ℤ j -ℤ pos 5 *ℤ (f +ℤ i)) = omega (arith, ints) in
    let l : SFits w32 (e +ℤ j -ℤ pos 5 *ℤ (f +ℤ i) +ℤ pos 20 *ℤ (g +ℤ h)) = omega (arith, ints) in
    (simp to_z-of_z l, simp to_z-of_z (tap_is e f g h i j))
