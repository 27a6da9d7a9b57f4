use Rattle.std.proofs.Common.{sym, ◌∙◌, arith}
use Rattle.search.specs.Terms.{Terms, terms_of}
use Rattle.search.specs.Calls.{offered, pairs}
use Rattle.search.proofs.Passes.{same_terms, pass_more, pass_few, pass_grows, pass_all, counted, pair_at, pairs_many}
use Rattle.search.proofs.searches.Search.enter_pairs.Goals as goal

pub consider-requires-clause-room : goal.consider-requires-clause-room
consider-requires-clause-room g c =
    let s = c.args.self.now in
    let t : Terms = terms_of (g.S.Stage.window s.stage) (g.S.Stage.setup s.stage) (g.L.ReferenceList.meaning s.list) (g.M.Measure.cost s.measure) in
    let few = pass_few t s.tally c.loop-i.self.tally (pairs c.args.picture c.args.xs.now c.args.ys.now) c.loop-i.i c.loop-i.invariant.3 in
    omega (arith, few, c.requires.room, c.requires.paired.1, c.loop-i-test.true)

pub loop-i-preserved : goal.loop-i-preserved
loop-i-preserved g c =
    let s = c.args.self.now in
    let t : Terms = terms_of (g.S.Stage.window s.stage) (g.S.Stage.setup s.stage) (g.L.ReferenceList.meaning s.list) (g.M.Measure.cost s.measure) in
    let inv = c.loop-i.invariant in
    let xs = c.args.xs.now in
    let ys = c.args.ys.now in
    let k = c.loop-i.i in
    let d = c.pair.result in (
      c.consider.ensures.same.0 ∙ inv.0,
      c.consider.ensures.same.1 ∙ inv.1,
      c.consider.ensures.same.2 ∙ inv.2,
      pass_more t _ s.tally c.loop-i.self.tally c.consider.new.self.tally (pairs c.args.picture xs ys) k d
          (same_terms g.S.Stage.window g.S.Stage.setup g.L.ReferenceList.meaning g.M.Measure.cost inv.0 inv.1 inv.2)
          (omega (arith, pairs_many c.args.picture xs ys c.requires.paired.0, c.loop-i-test.true))
          (pair_at c.args.picture xs ys k d c.requires.paired.0 c.loop-i-test.true ∙ sym c.pair.ensures)
          inv.3 c.consider.ensures.considered,
    )

pub returns-clause-entered : goal.returns-clause-entered
returns-clause-entered g c =
    let s = c.args.self.now in
    let t : Terms = terms_of (g.S.Stage.window s.stage) (g.S.Stage.setup s.stage) (g.L.ReferenceList.meaning s.list) (g.M.Measure.cost s.measure) in
    pass_all t s.tally c.loop-i.self.tally (pairs c.args.picture c.args.xs.now c.args.ys.now) c.loop-i.i
    (omega (arith, pairs_many c.args.picture c.args.xs.now c.args.ys.now c.requires.paired.0, c.loop-i-test.false)) c.loop-i.invariant.3

pub overflow_sub-result : goal.overflow_sub-result
overflow_sub-result g c =
    let s = c.args.self.now in
    let t : Terms = terms_of (g.S.Stage.window s.stage) (g.S.Stage.setup s.stage) (g.L.ReferenceList.meaning s.list) (g.M.Measure.cost s.measure) in
    pass_grows t s.tally c.loop-i.self.tally (pairs c.args.picture c.args.xs.now c.args.ys.now) c.loop-i.i c.loop-i.invariant.3

pub returns-clause-made : goal.returns-clause-made
returns-clause-made g c =
    let s = c.args.self.now in
    let t : Terms = terms_of (g.S.Stage.window s.stage) (g.S.Stage.setup s.stage) (g.L.ReferenceList.meaning s.list) (g.M.Measure.cost s.measure) in
    let all = pass_all t s.tally c.loop-i.self.tally (pairs c.args.picture c.args.xs.now c.args.ys.now) c.loop-i.i
    (omega (arith, pairs_many c.args.picture c.args.xs.now c.args.ys.now c.requires.paired.0, c.loop-i-test.false)) c.loop-i.invariant.3 in
    omega (arith, counted t s.tally c.loop-i.self.tally (offered t.window c.args.picture c.args.xs.now c.args.ys.now) all)
