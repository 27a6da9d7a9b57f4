-- The sum so far is that of the numbers passed.
use Rattle.std.proofs.Common.{unsigned_abs}
use Rattle.measure.specs.Fours.{part}
use Rattle.measure.specs.Totals.{Summed}
use Rattle.measure.proofs.transforms.four_size.Given as goal

abbrev pub invariant-loop-v : goal.invariant-loop-v
invariant-loop-v l = Summed (λ u. unsigned_abs (part l.x u)) 4080 l.sum l.v-index
