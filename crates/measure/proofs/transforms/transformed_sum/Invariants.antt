-- The sum so far is that of the squares passed.
use Rattle.measure.specs.Transforms.{satd_at}
use Rattle.measure.specs.Totals.{Summed}
use Rattle.measure.proofs.transforms.transformed_sum.Given as goal

abbrev pub invariant-loop-n : goal.invariant-loop-n
invariant-loop-n l = Summed (satd_at l.strips.a.now l.strips.b.now) 32640 l.sum l.n
