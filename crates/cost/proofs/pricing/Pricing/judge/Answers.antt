-- Each turn reads one strip; the trial ends at the bound or with the last strip.
use Rattle.std.proofs.Common.{◌/◌, sym, refl, ap, ◌∙◌, arith}
use Rattle.cost.specs.Strips.{parts_of}
use Rattle.cost.proofs.Blocks.{strips_many, strip_costs}
use Rattle.cost.proofs.Totals.{reading_more, reading_all, reading_met}
use Rattle.cost.proofs.pricing.Pricing.judge.Goals as goal

pub loop-s-preserved : goal.loop-s-preserved
loop-s-preserved g c =
    let m = g.L.ReferenceList.meaning c.args.self.now.list.now in
    let cost = g.M.Measure.cost c.args.self.now.measure.now in
    let n = strips_many c.args.self.now.setup.now m cost c.args.candidate in
    let is = strip_costs c.args.self.now.setup.now m cost c.args.candidate c.loop-s.s (omega (arith, c.height-strips.ensures.value)) in
    reading_more (parts_of c.args.self.now.setup.now m cost c.args.candidate) c.args.bound 4161600 c.loop-s.total c.loop-s.s c.strip_cost-total.result c.loop-s.invariant (omega (arith, n, c.height-strips.ensures.value)) (omega arith) (rw is c.strip_cost-total.ensures.value) c.strip_cost-total.ensures.most

pub returns-then-total-bound-clause-tried : goal.returns-then-total-bound-clause-tried
returns-then-total-bound-clause-tried g c = reading_met (parts_of c.args.self.now.setup.now (g.L.ReferenceList.meaning c.args.self.now.list.now) (g.M.Measure.cost c.args.self.now.measure.now) c.args.candidate) c.args.bound 4161600 c.loop-s.total c.loop-s.s c.loop-s.s c.loop-s.invariant c.if-total-bound.true refl

pub returns-then-total-bound-2-clause-tried : goal.returns-then-total-bound-2-clause-tried
returns-then-total-bound-2-clause-tried g c =
    let m = g.L.ReferenceList.meaning c.args.self.now.list.now in
    let cost = g.M.Measure.cost c.args.self.now.measure.now in
    let n = strips_many c.args.self.now.setup.now m cost c.args.candidate in
    reading_all (parts_of c.args.self.now.setup.now m cost c.args.candidate) c.args.bound 4161600 c.loop-s.total c.loop-s.s _ c.loop-s.invariant c.if-total-bound-2.true (omega arith) (n ∙ ap (λ h. h / 4) (sym c.height-strips.ensures.value))

pub returns-else-total-bound-2-clause-tried : goal.returns-else-total-bound-2-clause-tried
returns-else-total-bound-2-clause-tried g c = reading_met (parts_of c.args.self.now.setup.now (g.L.ReferenceList.meaning c.args.self.now.list.now) (g.M.Measure.cost c.args.self.now.measure.now) c.args.candidate) c.args.bound 4161600 c.loop-s.total c.loop-s.s _ c.loop-s.invariant c.if-total-bound-2.false (omega arith)
