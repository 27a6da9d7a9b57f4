use Rattle.std.proofs.Common.{◌∙◌, arith}
use Rattle.job.proofs.Placing.{counts, rest_part}
use Rattle.job.proofs.jobs.Job.reference.Goals as goal

pub returns : goal.returns
returns c =
    let n = counts c.args.self.now.bytes.now c.args.self.now.header c.args.self.now.counted in
    record { size = c.new.ensures.size; samples = c.new.ensures.samples ∙ rest_part c.args.self.now.bytes.now _ _ (omega (arith, n.from, n.area)) }
