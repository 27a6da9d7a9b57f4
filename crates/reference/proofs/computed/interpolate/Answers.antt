use Rattle.std.proofs.Common.{arith}
use Rattle.picture.specs.Planes.{grid_of}
use Rattle.reference.specs.Parts.{place, sample_at}
use Rattle.reference.proofs.Interpolated.{from_patch}
use Rattle.reference.proofs.computed.interpolate.Goals as goal

pub returns : goal.returns
returns c =
    let p = c.args.position in
    λ k lt. from_patch c.read.result c.of.result.patch (grid_of c.args.plane.now) p.column p.row (sample_at (place p.across p.down)) k c.args.width c.args.height _ c.of.ensures c.read.ensures.shows c.read.ensures.width c.read.ensures.height c.requires.small.0 (omega arith) (rw c.at-sample.ensures at (c.fill.ensures k lt))
