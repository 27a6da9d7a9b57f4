-- The rule of the tables of lengths: what their tests say of each entry.
use Rattle.std.proofs.Common.{◌≡◌, ℕ, zero, suc, ◌+◌, ◌*◌, ◌/◌, ◌^◌, ◌<◌, ◌≤◌, T, eqb, leb, List, length, get_or, ℤ, pos, negsuc, ◌+ℤ◌, ◌≤ℤ◌, refl, subst, add-one, arith, lit<, eqb→eq, ltb→lt, leb→le, pow_mono}
use native.Mathlib.Nat.{two-pow-succ, pow-succ'}
use Rattle.std.proofs.lemmas.Int.{ints}
use Rattle.std.proofs.lemmas.Bool.Decides.{nat_tests}
use Rattle.rate.specs.Tables.{every}
use Rattle.rate.specs.Lengths.{Log2, CodeLength, code_number, code_length, log2, placed, fitting, right}
use Rattle.rate.proofs.Table.{at, parted}
use Rattle.rate.proofs.Greatest.{greatest_is, is_T}

says : (k x : ℕ) → T (fitting k x) → CodeLength k x
says k x t =
    let p = parted (eqb x (2 * (x / 2) + 1)) _ t in
    let q = parted (leb (2 ^ (x / 2)) (k + 1)) _ p.1 in
    record { log = x / 2; is_log = record { low = leb→le _ _ q.0; high = ltb→lt _ _ q.1 }; is_length = eqb→eq _ _ p.0 }

placed_is : (d : ℤ) (i : ℕ) → pos i ≡ d +ℤ pos 261 → placed i ≡ code_number d
placed_is (pos n) i e = let h : i ≡ n + 261 = omega (arith, ints) in grind (arith, nat_tests)
placed_is (negsuc n) i e = let h : i + n + 1 ≡ 261 = omega (arith, ints) in grind (arith, nat_tests)

below_pow : (n : ℕ) → n < 2 ^ n
below_pow zero = lit< tt
below_pow (suc n) = omega (arith, below_pow n, two-pow-succ n)

-- the logarithm is one number
no_more : (x n m : ℕ) → x < 2 ^ (n + 1) → 2 ^ m ≤ x → m ≤ n
no_more x n m over under = not-over (λ h. omega (arith, pow_mono {i = n + 1} {j = m} (omega arith)))
  where
    not-over : (n < m → ⊥) → m ≤ n
    not-over f = grind arith

log2_is : (x n : ℕ) → Log2 x n → log2 x ≡ n
log2_is x n l =
    greatest_is (λ m. leb (2 ^ m) x) x n (omega (arith, below_pow n, l.low)) (grind (arith, nat_tests, l.low))
    (λ m h. no_more x n m l.high (leb→le _ _ (is_T h)))

pub length_is : (k b : ℕ) → CodeLength k b → b ≡ code_length k
length_is k b l = let e = log2_is (k + 1) l.log l.is_log in omega (arith, l.is_length)

-- the entry at the place of d
pub ruled : (xs : List ℕ) (d : ℤ) (i : ℕ) → T (every right 0 xs) → i < length xs → pos i ≡ d +ℤ pos 261 → CodeLength (code_number d) (get_or xs i 0)
ruled xs d i t h e =
    subst (λ (k : ℕ). CodeLength k (get_or xs i 0)) (placed_is d i e) (says (placed i) (get_or xs i 0) (at right xs t i h))

-- the logarithm n of k + 1, as the library finds it
pub by_log : (k n : ℕ) → 2 ^ n ≤ k + 1 → k + 1 < 2 * 2 ^ n → CodeLength k (2 * n + 1)
by_log k n low high =
    record { log = n; is_log = record { low = low; high = rw (add-one n, pow-succ' 2 n) high }; is_length = refl }

-- a code number below 2 ^ n - 1 has a length below 2 n
pub length_most : (k b n : ℕ) → CodeLength k b → k + 1 < 2 ^ n → b < 2 * n
length_most k b n l h =
    omega (arith, not-over (λ (o : n ≤ l.log). omega (arith, pow_mono {i = n} {j = l.log} o, l.is_log.low)), l.is_length)
  where
    not-over : (n ≤ l.log → ⊥) → l.log < n
    not-over f = grind arith

pub short : (d : ℤ) → negsuc 260 ≤ℤ d → d ≤ℤ pos 261 → code_number d + 1 < 2 ^ 10
short (pos n) lo hi = omega (arith, ints)
short (negsuc n) lo hi = omega (arith, ints)
