use Rattle.std.proofs.Common.{rules, ◌≡◌, Err, refl, sym, ◌∙◌, subst}
use Rattle.search.specs.Terms.{Terms}
use Rattle.search.specs.Handovers.{terms_in}
use Rattle.search.specs.Recipes.{Refined, eight_ask}
use Rattle.search.proofs.Passes.{same_quarter}
use Rattle.search.proofs.Refined.{refined_made, refined_short}
use Rattle.search.proofs.recipes.Search+L+M+Whole.refine.Goals as goal

pub returns-in_err-follow : goal.returns-in_err-follow
returns-in_err-follow g c =
    let s = c.args.self in
    let z = c.hand_over-search.result in
    let v : Terms = terms_in z.stage (g.L.ReferenceList.meaning z.list) (g.N.Measure.cost z.measure) in
    let same = same_quarter g.L.ReferenceList.meaning g.N.Measure.cost c.hand_over-search.ensures.kept.0 c.hand_over-search.ensures.kept.1 (refl {a = z.stage}) in
    let f = c.in_err-follow.field-0.0 in
    let e : c.from_residual.result ≡ Err f = search rules in
    subst (Refined s.stage.setup (g.L.ReferenceList.meaning s.list) (g.M.Measure.cost s.measure) (g.N.Measure.cost c.args.measure) s.tally) (sym e)
    (refined_short (Unit {0}) s.stage.setup (g.L.ReferenceList.meaning s.list) (g.M.Measure.cost s.measure) (g.N.Measure.cost c.args.measure) s.tally z.tally c.follow.new.self.tally z.stage v f
    c.hand_over-search.ensures.hands (same ∙ c.hand_over-search.ensures.hands.terms) (c.in_err-follow.ensures.followed eight_ask (λ k call l told. told)))

pub returns : goal.returns
returns g c =
    let s = c.args.self in
    let z = c.hand_over-search.result in
    let x = c.follow.new.self in
    let v : Terms = terms_in z.stage (g.L.ReferenceList.meaning z.list) (g.N.Measure.cost z.measure) in
    let w : Terms = terms_in x.stage (g.L.ReferenceList.meaning x.list) (g.N.Measure.cost x.measure) in
    let same = same_quarter g.L.ReferenceList.meaning g.N.Measure.cost c.hand_over-search.ensures.kept.0 c.hand_over-search.ensures.kept.1 (refl {a = z.stage}) in
    let kept = c.follow.ensures.same in
    let still : w ≡ v = same_quarter g.L.ReferenceList.meaning g.N.Measure.cost kept.0 kept.1 kept.2 in
    refined_made s.stage.setup (g.L.ReferenceList.meaning s.list) (g.M.Measure.cost s.measure) (g.N.Measure.cost c.args.measure) s.tally z.tally x.tally z.stage v w (tt {0}) c.close.result
    c.hand_over-search.ensures.hands (same ∙ c.hand_over-search.ensures.hands.terms) (c.in_ok-follow.ensures.followed eight_ask (λ k call l told. told)) still c.close.ensures
