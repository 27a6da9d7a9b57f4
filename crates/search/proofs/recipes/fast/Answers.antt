use Rattle.std.proofs.Common.{rules, ◌≡◌, Err, refl, sym, ap, ◌∙◌, subst}
use Rattle.picture.specs.Planes.{grid_of}
use Rattle.window.specs.declared.wholes.Whole.{Whole}
use Rattle.search.specs.Terms.{Terms}
use Rattle.search.specs.Openings.{opening_fault, whole_terms}
use Rattle.search.specs.Recipes.{Follows, fast_asks}
use Rattle.search.proofs.Passes.{same_whole}
use Rattle.search.proofs.Refined.{begun_so, follows_on, follows_off, refined_as}
use Rattle.search.proofs.recipes.fast.Goals as goal

pub returns-in_err-try_likely : goal.returns-in_err-try_likely
returns-in_err-try_likely g c =
    let o = c.args.opening in
    let s = c.in_ok-search.search in
    let opened = c.in_ok-search.ensures in
    let m = g.L.ReferenceList.meaning o.list in
    let cost = g.M.Measure.cost o.measure in
    let next = g.N.Measure.cost c.args.measure in
    let t : Terms = whole_terms s.stage.setup (g.L.ReferenceList.meaning s.list) (g.M.Measure.cost s.measure) in
    let same = same_whole g.L.ReferenceList.meaning g.M.Measure.cost opened.1.1 opened.1.2 (refl {a = s.stage}) in
    let f = c.in_err-try_likely.field-0.0 in
    let e : c.from_residual-in_err-try_likely.result ≡ Err f = search rules in
    begun_so (opening_fault o.current.size m o.request o.qp o.range o.xs.now o.ys.now) _ _ opened.0
    (subst (Follows (grid_of o.current) m cost next o.request o.qp o.range o.xs.now o.ys.now (fast_asks c.args.proposals.xs.now c.args.proposals.ys.now)) (sym e)
    (follows_off c.full_rounds_cover.ensures (grid_of o.current) m cost next o.request o.qp o.range o.xs.now o.ys.now (fast_asks c.args.proposals.xs.now c.args.proposals.ys.now) s.stage.setup t s.tally c.try_likely.new.self.tally same opened.1.0 (Unit {0}) f c.in_err-try_likely.ensures.followed))

pub returns : goal.returns
returns g c =
    let o = c.args.opening in
    let s = c.in_ok-search.search in
    let z = c.try_likely.new.self in
    let opened = c.in_ok-search.ensures in
    let kept = c.in_ok-try_likely.ensures.same in
    let m = g.L.ReferenceList.meaning o.list in
    let cost = g.M.Measure.cost o.measure in
    let next = g.N.Measure.cost c.args.measure in
    let t : Terms = whole_terms s.stage.setup (g.L.ReferenceList.meaning s.list) (g.M.Measure.cost s.measure) in
    let same = same_whole g.L.ReferenceList.meaning g.M.Measure.cost opened.1.1 opened.1.2 (refl {a = s.stage}) in
    let refined = refined_as next z.tally c.refine.result (sym (ap (λ (k : Whole). k.setup) kept.2)) (ap g.L.ReferenceList.meaning (sym (kept.0 ∙ opened.1.1))) (ap g.M.Measure.cost (sym (kept.1 ∙ opened.1.2))) c.refine.ensures in
    begun_so (opening_fault o.current.size m o.request o.qp o.range o.xs.now o.ys.now) _ _ opened.0
    (follows_on c.full_rounds_cover.ensures (grid_of o.current) m cost next o.request o.qp o.range o.xs.now o.ys.now (fast_asks c.args.proposals.xs.now c.args.proposals.ys.now) s.stage.setup t s.tally z.tally same opened.1.0 (tt {0}) c.refine.result c.in_ok-try_likely.ensures.followed refined)
