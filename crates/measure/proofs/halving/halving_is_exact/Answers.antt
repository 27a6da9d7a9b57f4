-- From pairs to columns to squares.
use Rattle.measure.proofs.Halves.{crossed, even, exact}
use Rattle.measure.proofs.halving.halving_is_exact.Goals as goal

pub returns : goal.returns
returns c = record { pairs = crossed; columns = even; squares = exact }
