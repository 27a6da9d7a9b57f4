-- The sum so far is that of the places passed, and small.
use Rattle.measure.specs.Totals.{Summed}
use Rattle.buyer.specs.Middles.{weighted_at}
use Rattle.buyer.proofs.middles.MiddleRowsMeasure.price.Given as goal

abbrev pub invariant-loop-k : goal.invariant-loop-k
invariant-loop-k l = Summed (weighted_at l.a l.b) 510 l.sum l.k
