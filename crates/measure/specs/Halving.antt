-- Why the half in SATD is exact.
use Rattle.std.specs.Prelude.{◌≡◌, ℕ, ◌+◌, ◌*◌, max, ℤ, ◌+ℤ◌, ◌-ℤ◌, unsigned_abs}
use Rattle.measure.specs.Transforms.{along, size, satd4, spread}

-- half the size of four numbers f, transformed
abbrev pub half_size : (ℕ → ℤ) → ℕ
half_size f =
    max (unsigned_abs (f 0 +ℤ f 1)) (unsigned_abs (f 2 +ℤ f 3)) + max (unsigned_abs (f 0 -ℤ f 1)) (unsigned_abs (f 2 -ℤ f 3))

-- |s + t| + |s - t| is twice a whole number; so four transformed numbers have an even size; so has every square, and nothing is rounded
pub record ExactHalf : Type 0 where
  pub pairs : (s t : ℤ) → unsigned_abs (s +ℤ t) + unsigned_abs (s -ℤ t) ≡ 2 * max (unsigned_abs s) (unsigned_abs t)
  pub columns : (f : ℕ → ℤ) → size (along f) ≡ 2 * half_size f
  pub squares : (d : ℕ → ℕ → ℤ) → 2 * satd4 d ≡ spread d
