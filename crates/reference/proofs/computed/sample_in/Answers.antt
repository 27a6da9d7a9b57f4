use Rattle.std.proofs.Common.{lit<}
use Rattle.std.proofs.lemmas.Int.{to_z-of_z}
use Rattle.picture.specs.Planes.{grid_of}
use Rattle.reference.specs.Parts.{place}
use Rattle.reference.proofs.Interpolated.{quarter_by, nowhere}
use Rattle.reference.proofs.computed.sample_in.Goals as goal

pub returns : goal.returns
returns c =
    let x = c.ranges.x in
    let y = c.ranges.y in
    let p = c.of.result in
    let at = simp to_z-of_z at c.of.ensures in
    let e = quarter_by (grid_of c.args.plane.now) c.args.x c.args.y p.column p.row (place p.across p.down) 0 0 _ at.column at.row at.place (c.interpolate.ensures 0 (lit< tt)) in
    simp nowhere at e
