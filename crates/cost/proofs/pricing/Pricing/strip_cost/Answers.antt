-- The strip that is cut out of the block's copy, against the one that the list wrote.
use Rattle.std.proofs.Common.{arith, refl, length-take, w16, SFits, rules}
use Rattle.std.proofs.lemmas.Int.{to_z-of_z}
use Rattle.cost.proofs.Blocks.{strip_cost_is}
use Rattle.cost.proofs.pricing.Pricing.strip_cost.Goals as goal

pub returns-clause-value : goal.returns-clause-value
returns-clause-value g c =
    let vx : SFits w16 c.args.candidate.vector.x = search rules in
    let vy : SFits w16 c.args.candidate.vector.y = search rules in
    let fx : SFits w16 c.position-x.result = search rules in
    let fy : SFits w16 c.position-y.result = search rules in
    let x = simp to_z-of_z at c.position-x.ensures.value in
    let y = simp to_z-of_z at c.position-y.ensures.value in
    let read = simp to_z-of_z at c.strip.ensures in
    strip_cost_is (g.M.Measure.cost c.args.self.now.measure.now) (g.L.ReferenceList.meaning c.args.self.now.list.now) c.args.candidate.picture _ _ _ _ c.args.self.now.setup.now.block.shape
    _ _ c.block_strip.result.now c.strip.new.out _ c.priced.result
    c.block_strip.ensures.value c.block_strip.ensures.long (simp length-take (omega (arith, c.width.ensures.value, c.width.ensures.bound.1))) x y read refl c.priced.ensures.value
