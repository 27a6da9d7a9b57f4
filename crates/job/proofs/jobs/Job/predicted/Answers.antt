use Rattle.std.proofs.Common.{arith, rules}
use Rattle.job.proofs.Placing.{counts, words_part}
use Rattle.job.proofs.jobs.Job.predicted.Goals as goal

pub returns : goal.returns
returns c =
    let n = counts c.args.self.now.bytes.now c.args.self.now.header c.args.self.now.counted in
    record {
      xs = words_part c.args.self.now.bytes.now c.args.self.now.xs _ _ 0 c.args.self.now.header.list.pictures _ _ _ c.args.self.now.across (search rules) (omega arith) (omega arith) (omega (arith, n.pictures, n.proposals)) n.pictures;
      ys = words_part c.args.self.now.bytes.now c.args.self.now.ys _ _ 0 c.args.self.now.header.list.pictures _ _ _ c.args.self.now.down (search rules) (omega arith) (omega arith) (omega (arith, n.pictures, n.proposals)) n.pictures;
    }
