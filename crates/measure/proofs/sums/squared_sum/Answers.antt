-- What each sample gives is the gap's square.
use Rattle.std.proofs.Common.{◌*◌}
use Rattle.measure.specs.Sums.{gap}
use Rattle.measure.proofs.sums.squared_sum.Goals as goal

pub returns : goal.returns
returns c = c.sum_by.ensures (λ x y. gap x y * gap x y) (λ x y r p. p.0)
