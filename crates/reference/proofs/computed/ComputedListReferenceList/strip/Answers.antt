use Rattle.std.proofs.Common.{◌≡◌, ◌/◌, length, refl, arith, rules}
use Rattle.std.proofs.lemmas.Int.{to_z-of_z}
use Rattle.picture.specs.Planes.{Grid, grid_of}
use Rattle.reference.specs.Computed.{computed, grid_at}
use Rattle.reference.proofs.Listing.{listed, unlisted}
use Rattle.reference.proofs.Strips.{strip_all, strip_size}
use Rattle.reference.proofs.computed.ComputedListReferenceList.strip.Goals as goal

pub returns-in-Some : goal.returns-in-Some
returns-in-Some c =
    let s = strip_size (length c.args.out.now) c.requires.wide in
    let x = c.ranges.x in
    let y = c.ranges.y in
    let read = simp to_z-of_z at c.strip_in.ensures in
    let g : ◌≡◌ {A = Grid} (grid_of c.in-Some.plane) (grid_at c.args.self.now c.args.picture) = cc (c.in-Some.ensures.1, c.in-Some.ensures.2) in
    let long : length c.strip_in.new.out ≡ length c.args.out.now = search rules in
    strip_all (computed c.args.self.now) c.args.picture c.args.x c.args.y (length c.args.out.now / 4) c.strip_in.new.out (omega arith)
    (λ k lt. listed c.args.self.now c.args.picture _ _ (grid_of c.in-Some.plane) _ c.in-Some.ensures.0 g (read k (omega arith)))

pub returns-in-None : goal.returns-in-None
returns-in-None c =
    let s = strip_size (length c.args.out.now) c.requires.wide in
    strip_all (computed c.args.self.now) c.args.picture c.args.x c.args.y (length c.args.out.now / 4) c.fill.new.self (omega (arith, c.fill.ensures.len))
    (λ k lt. unlisted c.args.self.now c.args.picture _ _ _ c.in-None.ensures (c.fill.ensures.clones k 0 (omega (arith, c.fill.ensures.len)) refl))
