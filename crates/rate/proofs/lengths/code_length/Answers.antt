-- What the test of the table says at the place of d.
use Rattle.std.proofs.Common.{◌<◌, length, arith, rules}
use Rattle.rate.proofs.LengthRule.{ruled, length_is, length_most, short}
use Rattle.rate.proofs.lengths.code_length.Goals as goal

rule : goal.returns-clause-rule
rule c =
    let h : c.place_of.result < length c.lengths.result.now = search rules in
    ruled c.lengths.result.now c.args.d c.place_of.result c.lengths.ensures h (search rules)

pub returns-clause-rule : goal.returns-clause-rule
returns-clause-rule c = rule c

pub returns-clause-value : goal.returns-clause-value
returns-clause-value c = let e = length_is _ _ (rule c) in search (rules, e)

pub returns-clause-most : goal.returns-clause-most
returns-clause-most c = omega (arith, length_most _ _ 10 (rule c) (short c.args.d (search rules) (search rules)))
