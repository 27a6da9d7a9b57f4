-- The logarithm that was worked out is that of the rule.
use Rattle.std.proofs.Common.{arith, rules}
use Rattle.rate.proofs.LengthRule.{by_log, length_is, length_most}
use Rattle.rate.proofs.lengths.picture_length.Goals as goal

pub returns-clause-rule : goal.returns-clause-rule
returns-clause-rule c = by_log c.args.k c.ilog2.result c.ilog2.ensures.power_le c.ilog2.ensures.next_power_gt

pub returns-clause-value : goal.returns-clause-value
returns-clause-value c = length_is _ _ (returns-clause-rule c)

pub returns-clause-most : goal.returns-clause-most
returns-clause-most c = omega (arith, length_most _ _ 5 (returns-clause-rule c) (search rules))
