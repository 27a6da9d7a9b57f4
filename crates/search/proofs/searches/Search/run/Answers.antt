use Rattle.std.proofs.Common.{◌≡◌, ◌+◌, ◌<◌, ◌∷◌, [], ◌++◌, map, take, vec_len, vec_capacity, ◌∙◌, subst, arith}
use Rattle.std.proofs.lemmas.Grind.{common_steps}
use Rattle.std.proofs.lemmas.List.{map_more}
use Rattle.search.specs.Terms.{Terms, terms_of}
use Rattle.search.specs.Runs.{Called, ask_of}
use Rattle.search.proofs.Passes.{same_terms}
use Rattle.search.proofs.Sequences.{ran_more}
use Rattle.search.proofs.searches.Search.run.Goals as goal

pub loop-call-preserved : goal.loop-call-preserved
loop-call-preserved g c =
    let s = c.args.self.now in
    let t : Terms = terms_of (g.S.Stage.window s.stage) (g.S.Stage.setup s.stage) (g.L.ReferenceList.meaning s.list) (g.M.Measure.cost s.measure) in
    let inv = c.loop-call.invariant in
    let k = c.loop-call.call-index in
    let asks = ask_of g.P.Pattern.offsets in
    let z = c.loop-call.self in
    let u : Terms = terms_of (g.S.Stage.window z.stage) (g.S.Stage.setup z.stage) (g.L.ReferenceList.meaning z.list) (g.M.Measure.cost z.measure) in
    let room : vec_len c.loop-call.answers < vec_capacity c.loop-call.answers = omega (arith, inv.3, inv.4, c.requires.room, c.loop-call-test.true) in
    let added : c.push.new.self.items ≡ c.loop-call.answers.items ++ (c.call-answer.result ∷ []) = grind (arith, common_steps) in
    let longer : vec_len c.push.new.self ≡ vec_len c.loop-call.answers + 1 = grind (arith, common_steps) in (
      c.call-answer.ensures.same.0 ∙ inv.0,
      c.call-answer.ensures.same.1 ∙ inv.1,
      c.call-answer.ensures.same.2 ∙ inv.2,
      omega (arith, longer, inv.3),
      omega (arith, c.push.ensures.capacity, inv.4),
      rw (map_more asks c.args.calls.now k c.call-item.result c.loop-call-test.true)
          (ran_more t u s.tally c.loop-call.self.tally c.call-answer.new.self.tally (map asks (take k c.args.calls.now)) (asks _) c.args.answers.now.items c.loop-call.answers.items c.push.new.self.items c.call-answer.result
          (same_terms g.S.Stage.window g.S.Stage.setup g.L.ReferenceList.meaning g.M.Measure.cost inv.0 inv.1 inv.2) inv.5 (subst (λ d. Called u c.loop-call.self.tally c.call-answer.new.self.tally (asks d) c.call-answer.result) c.call-item.is c.call-answer.ensures.called) added),
    )
