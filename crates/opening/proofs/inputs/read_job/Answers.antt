use Rattle.std.proofs.Common.{ap}
use Rattle.opening.proofs.Taking.{taken}
use Rattle.opening.proofs.inputs.read_job.Goals as goal

pub returns : goal.returns
returns g c =
    taken _ (g.R.Read.remaining c.args.input) _ 65537 _ _ (ap g.R.Read.remaining c.take.ensures.inner) c.take.ensures.limit
    c.new-bytes.ensures.items c.in_ok-read_to_end.ensures.bytes
