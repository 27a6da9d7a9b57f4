-- The sum so far is that of the rows passed.
use Rattle.measure.specs.Fours.{row, size_of}
use Rattle.measure.specs.Totals.{Summed}
use Rattle.measure.proofs.transforms.matrix_size.Given as goal

abbrev pub invariant-loop-row : goal.invariant-loop-row
invariant-loop-row l = Summed (λ r. size_of (row l.x r)) 16320 l.sum l.row-index
