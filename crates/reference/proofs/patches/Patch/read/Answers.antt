use Rattle.std.proofs.Common.{◌≡◌, ◌+◌, ◌*◌, length, pos, ◌-ℤ◌, arith, w16, SFits, rules}
use Rattle.std.proofs.lemmas.Int.{ints, to_z-of_z}
use Rattle.picture.specs.Planes.{grid_of}
use Rattle.reference.proofs.Shown.{shows_is}
use Rattle.reference.proofs.patches.Patch.read.Goals as goal

pub returns-clause-shows : goal.returns-clause-shows
returns-clause-shows c =
    let x : SFits w16 c.args.position.column = omega (arith, ints, c.args.position.near) in
    let y : SFits w16 c.args.position.row = omega (arith, ints, c.args.position.near) in
    let x' : SFits w16 (c.args.position.column -ℤ pos 2) = omega (arith, ints, c.args.position.near) in
    let y' : SFits w16 (c.args.position.row -ℤ pos 2) = omega (arith, ints, c.args.position.near) in
    let long : length c.read_rows.new.out ≡ (c.args.height + 5) * (c.args.width + 5) = search rules in
    let read = simp to_z-of_z at c.read_rows.ensures in
    shows_is (grid_of c.args.plane.now) c.args.position.column c.args.position.row (c.args.width + 5) (c.args.height + 5) c.read_rows.new.out _ long (λ k lt. read k (omega (arith, c.read_rows.auto.out)))
