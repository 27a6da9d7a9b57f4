-- What each sample gives is the gap.
use Rattle.measure.specs.Sums.{gap}
use Rattle.measure.proofs.sums.absolute_sum.Goals as goal

pub returns : goal.returns
returns c = c.sum_by.ensures gap (λ x y r p. p.0)
