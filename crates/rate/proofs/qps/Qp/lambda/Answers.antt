-- What the test of the table says of the entry at QP.
use Rattle.std.proofs.Common.{◌<◌, length, rules}
use Rattle.rate.proofs.LambdaRule.{ruled, most, lambda_is}
use Rattle.rate.proofs.qps.Qp.lambda.Goals as goal

pub returns : goal.returns
returns c =
    let q = c.args.self.value in
    let h : q < length c.lambdas.result.now = search rules in
    let g = ruled c.lambdas.result.now q c.lambdas.ensures.rule h in
    record { greatest = g; value = lambda_is _ _ g; most = most _ _ c.lambdas.ensures.most h }
