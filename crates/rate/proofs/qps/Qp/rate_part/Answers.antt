-- The product fits 32 bits for any number of bits.
use Rattle.std.proofs.Common.{◌*◌, ◌/◌, ◌≤◌, ap, arith, rules}
use Rattle.std.proofs.lemmas.Nat.{mul-le}
use Rattle.rate.proofs.qps.Qp.rate_part.Goals as goal

pub overflow_mul-result : goal.overflow_mul-result
overflow_mul-result c =
    let b : c.args.bits ≤ 255 = search rules in
    let h : c.lambda.result * c.args.bits ≤ 5468703 * 255 = mul-le _ _ _ _ c.lambda.ensures.most b in
    record { fits = omega arith }

pub returns : goal.returns
returns c =
    record {
      value = ap (λ l. l * c.args.bits / 65536) c.lambda.ensures.value;
      most = λ b. let h : c.lambda.result * c.args.bits ≤ 5468703 * 47 = mul-le _ _ _ _ c.lambda.ensures.most b in omega arith;
    }
