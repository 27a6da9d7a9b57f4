-- The test is computed.
use Rattle.rate.proofs.lengths.lengths.Goals as goal

pub returns : goal.returns
returns c = tt
