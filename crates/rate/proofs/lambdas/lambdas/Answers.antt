-- Both tests are computed.
use Rattle.rate.proofs.lambdas.lambdas.Goals as goal

pub returns : goal.returns
returns c = record { rule = tt; most = tt }
