-- Four transformed numbers have an even sum of absolute values, so that the half of a square's sum is exact.
use Rattle.std.proofs.Common.{◌≡◌, ℕ, ◌+◌, ◌*◌, ◌/◌, max, ℤ, pos, negsuc, ◌+ℤ◌, ◌-ℤ◌, nat_abs, ap, arith}
use Rattle.std.proofs.lemmas.Int.{ints}
use Rattle.measure.specs.Transforms.{along, size, satd4, spread}
use Rattle.measure.specs.Halving.{half_size}

pub crossed : (s t : ℤ) → nat_abs (s +ℤ t) + nat_abs (s -ℤ t) ≡ 2 * max (nat_abs s) (nat_abs t)
crossed (pos a) (pos b) = omega (arith, ints)
crossed (pos a) (negsuc b) = omega (arith, ints)
crossed (negsuc a) (pos b) = omega (arith, ints)
crossed (negsuc a) (negsuc b) = omega (arith, ints)

added : (a b c d e f g h m n : ℕ) → a ≡ e → b ≡ f → c ≡ g → d ≡ h → e + f ≡ 2 * m → h + g ≡ 2 * n → 0 + a + b + c + d ≡ 2 * (m + n)
added a b c d e f g h m n p q r s t u = omega arith

pub even : (f : ℕ → ℤ) → size (along f) ≡ 2 * half_size f
even f =
    let s = f 0 +ℤ f 1 in
    let t = f 2 +ℤ f 3 in
    let p = f 0 -ℤ f 1 in
    let q = f 2 -ℤ f 3 in
    let e0 : along f 0 ≡ s +ℤ t = omega (arith, ints) in
    let e1 : along f 1 ≡ s -ℤ t = omega (arith, ints) in
    let e2 : along f 2 ≡ p -ℤ q = omega (arith, ints) in
    let e3 : along f 3 ≡ p +ℤ q = omega (arith, ints) in
    added _ _ _ _ _ _ _ _ _ _ (ap nat_abs e0) (ap nat_abs e1) (ap nat_abs e2) (ap nat_abs e3) (crossed s t) (crossed p q)

halved : (a b c d i j k l : ℕ) → a ≡ 2 * i → b ≡ 2 * j → c ≡ 2 * k → d ≡ 2 * l → 2 * ((0 + a + b + c + d) / 2) ≡ 0 + a + b + c + d
halved a b c d i j k l p q r s = omega arith

pub exact : (d : ℕ → ℕ → ℤ) → 2 * satd4 d ≡ spread d
exact d = halved _ _ _ _ _ _ _ _ (column 0) (column 1) (column 2) (column 3)
  where
    column : (v : ℕ) → size (λ u. along (λ r. along (d r) v) u) ≡ 2 * half_size (λ r. along (d r) v)
    column v = even (λ r. along (d r) v)
