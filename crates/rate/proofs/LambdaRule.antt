-- The rule of the table of lambdas: what its test says of each entry.
use Rattle.std.proofs.Common.{◌≡◌, ℕ, zero, suc, ◌+◌, ◌*◌, ◌^◌, ◌<◌, ◌≤◌, T, leb, List, length, get_or, sym, zero-le, le-mul_of_pos_right, arith, ltb→lt, leb→le}
use native.Mathlib.Nat.{pow-le-pow_left, pow-succ', one-le-pow}
use Rattle.std.proofs.lemmas.Bool.Decides.{nat_tests}
use Rattle.rate.specs.Greatest.{Greatest}
use Rattle.rate.specs.Lambdas.{Under, scaled_lambda, right, small}
use Rattle.rate.specs.Tables.{every}
use Rattle.rate.proofs.Table.{at, parted}
use Rattle.rate.proofs.Greatest.{greatest_is, is_T}

between : (n l m : ℕ) → n < (l + 1) ^ 6 * 8000 → m ^ 6 * 8000 ≤ n → m ≤ l
between n l m over under = not-over (λ h. omega (arith, pow-le-pow_left {n = l + 1} {m = m} (omega arith) 6))
  where
    not-over : (l < m → ⊥) → m ≤ l
    not-over f = grind arith

says : (qp l : ℕ) → T (right qp l) → Greatest (Under qp) l
says qp l t =
    let p = parted (leb (l ^ 6 * 8000) (4913 * 2 ^ (84 + qp))) _ t in
    record { holds = leb→le _ _ p.0; most = λ m h. between (4913 * 2 ^ (84 + qp)) l m (ltb→lt _ _ p.1) h }

le_sixth : (l : ℕ) → l ≤ l ^ 6 * 8000
le_sixth zero = zero-le
le_sixth (suc l) =
    omega (arith, pow-succ' (suc l) 5, le-mul_of_pos_right {m = suc l ^ 5} (suc l) (one-le-pow 5 (suc l) (omega arith)))

pub lambda_is : (qp l : ℕ) → Greatest (Under qp) l → l ≡ scaled_lambda qp
unfolding scaled_lambda
lambda_is qp l g =
    sym
    (greatest_is (λ m. leb (m ^ 6 * 8000) (4913 * 2 ^ (84 + qp))) (4913 * 2 ^ (84 + qp) + 1) l
    (omega (arith, le_sixth l, g.holds)) (grind (arith, nat_tests, g.holds)) (λ m h. g.most m (leb→le _ _ (is_T h))))

-- the entry at QP
pub ruled : (xs : List ℕ) (qp : ℕ) → T (every right 0 xs) → qp < length xs → Greatest (Under qp) (get_or xs qp 0)
ruled xs qp t h = says qp (get_or xs qp 0) (at right xs t qp h)

pub most : (xs : List ℕ) (qp : ℕ) → T (every small 0 xs) → qp < length xs → get_or xs qp 0 ≤ 5468703
most xs qp t h = leb→le _ _ (at small xs t qp h)

-- a number that passes the test is L(QP)
pub lambda_tested : (qp l : ℕ) → T (right qp l) → scaled_lambda qp ≡ l
lambda_tested qp l t = sym (lambda_is qp l (says qp l t))
