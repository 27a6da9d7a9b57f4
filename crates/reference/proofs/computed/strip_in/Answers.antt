use Rattle.std.proofs.Common.{◌≡◌, ◌/◌, ◌%◌, length, arith, w16, SFits, rules}
use Rattle.std.proofs.lemmas.Int.{ints, to_z-of_z}
use Rattle.picture.specs.Planes.{grid_of}
use Rattle.reference.specs.declared.parts.Part.TheVariants.{Whole}
use Rattle.reference.specs.declared.parts.Sample.TheVariants.{One}
use Rattle.reference.specs.Parts.{place, sample_at}
use Rattle.reference.proofs.Interpolated.{quarter_by}
use Rattle.reference.proofs.computed.strip_in.Goals as goal

pub returns-in-Zero-Zero : goal.returns-in-Zero-Zero
unfolding sample_at
returns-in-Zero-Zero c =
    let x = c.ranges.x in
    let y = c.ranges.y in
    let w = length c.args.out.now / 4 in
    let p = c.of-position.result in
    let at = simp to_z-of_z at c.of-position.ensures in
    let one : sample_at (place p.across p.down) ≡ One Whole = search rules in
    let fx : SFits w16 p.column = omega (arith, ints, p.near) in
    let fy : SFits w16 p.row = omega (arith, ints, p.near) in
    let read = simp to_z-of_z at c.read_rows.ensures in
    λ k lt. quarter_by (grid_of c.args.plane.now) c.args.x c.args.y p.column p.row (place p.across p.down) (k % w) (k / w) _ at.column at.row at.place (rw one (read k lt))

pub returns-in_default : goal.returns-in_default
returns-in_default c =
    let x = c.ranges.x in
    let y = c.ranges.y in
    let w = length c.args.out.now / 4 in
    let p = c.of-position.result in
    let at = simp to_z-of_z at c.of-position.ensures in
    λ k lt. quarter_by (grid_of c.args.plane.now) c.args.x c.args.y p.column p.row (place p.across p.down) (k % w) (k / w) _ at.column at.row at.place (c.interpolate.ensures k lt)
