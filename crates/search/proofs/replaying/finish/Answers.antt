use Rattle.std.proofs.Common.{◌≡◌, map, refl, ◌∙◌}
use Rattle.search.specs.Terms.{Terms}
use Rattle.search.specs.Handovers.{terms_in}
use Rattle.search.specs.Runs.{ask_of}
use Rattle.search.proofs.Passes.{same_quarter}
use Rattle.search.proofs.Replays.{finished_made}
use Rattle.search.proofs.replaying.finish.Goals as goal

pub returns : goal.returns
returns g c =
    let s = c.args.search in
    let z = c.hand_over-search.result in
    let x = c.run.new.self in
    let v : Terms = terms_in z.stage (g.L.ReferenceList.meaning z.list) (g.N.Measure.cost z.measure) in
    let w : Terms = terms_in x.stage (g.L.ReferenceList.meaning x.list) (g.N.Measure.cost x.measure) in
    let same = same_quarter g.L.ReferenceList.meaning g.N.Measure.cost c.hand_over-search.ensures.kept.0 c.hand_over-search.ensures.kept.1 (refl {a = z.stage}) in
    let still : w ≡ v = same_quarter g.L.ReferenceList.meaning g.N.Measure.cost c.run.ensures.same.0 c.run.ensures.same.1 c.run.ensures.same.2 in
    finished_made s.stage.setup (g.L.ReferenceList.meaning s.list) (g.M.Measure.cost s.measure) (g.N.Measure.cost c.args.second.measure) s.tally z.tally x.tally z.stage v w (map (ask_of g.P.Pattern.offsets) c.args.second.calls.now)
    c.args.answers.now.items c.run.new.answers.items c.close.result c.hand_over-search.ensures.hands (same ∙ c.hand_over-search.ensures.hands.terms) c.run.ensures.ran still c.close.ensures
