-- Sums over places: one more, and a bound. Of use to other measures too.
use Rattle.std.specs.Prelude.{◌≡◌, ℕ, zero, suc, ◌+◌, ◌*◌, ◌/◌, ◌≤◌, Bool, true, false, cond, List, length, refl}
use Rattle.std.proofs.Common.{sym, ◌∙◌, ap, add-one, arith}
use Rattle.std.proofs.lemmas.Nat.{mul-le}
use Rattle.std.proofs.lemmas.Bool.Decides.{nat_tests}
use Rattle.measure.specs.Strips.{Bytes, Strips, are_strips, asked}
use Rattle.measure.specs.Sums.{total, gap_at, square_at, sad, ssd}

pub total_more : (f : ℕ → ℕ) (i : ℕ) → total (i + 1) f ≡ total i f + f i
total_more f i = rw add-one

-- where no summand is above m
pub total_most : (f : ℕ → ℕ) (m n : ℕ) → ((k : ℕ) → f k ≤ m) → total n f ≤ m * n
total_most f m zero h = omega arith
total_most f m (suc n) h = omega (arith, total_most f m n h, h n)

-- what a loop that adds f 0, f 1, .. keeps: the sum so far, and that it is small
abbrev pub Summed : (ℕ → ℕ) → ℕ → ℕ → ℕ → Type 0
Summed f m s i = (s ≡ total i f) × (s ≤ m * i)

-- a turn of that loop
pub total_step : (f : ℕ → ℕ) (m i s d : ℕ) → Summed f m s i → d ≡ f i → d ≤ m → Summed f m (s + d) (i + 1)
total_step f m i s d h e l =
    (ap (λ n. n + d) h.0 ∙ ap (λ n. total i f + n) e ∙ sym (total_more f i), omega (arith, h.1))

-- the same under another name of the next place
pub total_step_to : (f : ℕ → ℕ) (m i j s d : ℕ) → j ≡ i + 1 → Summed f m s i → d ≡ f i → d ≤ m → Summed f m (s + d) j
total_step_to f m i j s d to h e l = rw to (total_step f m i s d h e l)

-- the end of that loop
pub total_done : (f : ℕ → ℕ) (m i n s : ℕ) → Summed f m s i → i ≡ n → s ≡ total n f
total_done f m i n s h e = h.0 ∙ ap (λ k. total k f) e

-- two strips are as long as one another, whole chunks of sixteen samples, and of 64 at most
pub strip_lengths : (a b : List ℕ) → Strips a b → (length a ≡ length b) × (16 * (length a / 16) ≡ length a) × (length a ≤ 64)
strip_lengths a b h = (grind (arith, nat_tests), grind (arith, nat_tests), grind (arith, nat_tests))

-- samples are 255 apart at most
pub gap_most : (a b : List ℕ) → Bytes a → Bytes b → (k : ℕ) → gap_at a b k ≤ 255
gap_most a b x y k = omega (arith, x k, y k)

pub sad_most : (a b : List ℕ) → Bytes a → Bytes b → sad a b ≤ 255 * length a
sad_most a b x y = total_most (gap_at a b) 255 (length a) (gap_most a b x y)

-- what is asked of two strips: they have 64 samples each at most
pub asked_sad_most : (a b : List ℕ) → Bytes a → Bytes b → asked sad a b ≤ 16320
asked_sad_most a b x y = by (are_strips (length a) (length b)) refl
  where
    by : (t : Bool) → are_strips (length a) (length b) ≡ t → cond t (sad a b) 0 ≤ 16320
    by true e = let l = strip_lengths a b (rw e tt) in omega (arith, sad_most a b x y, l.2)
    by false e = omega arith

-- so that SAD too keeps the bound of every measure
pub sad_within : (a b : List ℕ) → Bytes a → Bytes b → sad a b ≤ 65025 * length a
sad_within a b x y = omega (arith, sad_most a b x y)

pub ssd_most : (a b : List ℕ) → Bytes a → Bytes b → ssd a b ≤ 65025 * length a
ssd_most a b x y =
    total_most (square_at a b) 65025 (length a)
    (λ k. mul-le _ _ 255 255 (gap_most a b x y k) (gap_most a b x y k))
