-- The vector lies in the window, so four times it is near.
use Rattle.std.proofs.Common.{sym, subst, arith}
use Rattle.std.proofs.lemmas.Bool.{ltb-true}
use Rattle.cost.specs.Rating.{predicted_in}
use Rattle.pattern.specs.Offsets.{Within}
use Rattle.window.specs.Windows.{Apart}
use Rattle.window.specs.Nearness.{whole_near}
use Rattle.window.proofs.wholes.Whole.about.Goals as goal

pub quarters-requires : goal.quarters-requires
quarters-requires c =
    let h = whole_near c.args.self.setup c.args.handed.picture c.args.handed.vector c.requires.named c.requires.within in
    (omega (arith, h.0.0), omega (arith, h.0.1))

pub invariant_of-result : goal.invariant_of-result
invariant_of-result c =
    let h = whole_near c.args.self.setup c.args.handed.picture c.args.handed.vector c.requires.named c.requires.within in
    let near : Within 4352 c.quarters.result = subst (Within 4352) (sym c.quarters.ensures) h.1 in
    let tabled : Apart 258 c.quarters.result (predicted_in c.args.self.setup c.args.handed.picture) = rw c.quarters.ensures h.2 in
    record { listed = ltb-true _ _ c.requires.named; near = near; tabled = tabled }
