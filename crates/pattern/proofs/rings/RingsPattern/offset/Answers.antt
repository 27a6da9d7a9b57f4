-- A point of ring 1, stretched to its ring.
use Rattle.std.proofs.Common.{◌*◌, ◌<◌, ◌∙◌, arith}
use Rattle.pattern.specs.Arms.{length_rings}
use Rattle.pattern.proofs.Points.{ring_fits, ring_point}
use Rattle.pattern.proofs.rings.RingsPattern.offset.Goals as goal

pub stretched-requires : goal.stretched-requires
stretched-requires c =
    let w = c.args.self.now.range.value in
    ring_fits _ _ _ (omega (arith, c.len.ensures, length_rings w c.args.self.now.range.ok)) c.offset.ensures

pub returns-then-i-len : goal.returns-then-i-len
returns-then-i-len c =
    let w = c.args.self.now.range.value in
    let l : c.args.i < 4 * w = omega (arith, c.len.ensures, length_rings w c.args.self.now.range.ok) in
    c.stretched.ensures ∙ ring_point w c.args.i _ c.args.self.now.range.ok l c.offset.ensures
