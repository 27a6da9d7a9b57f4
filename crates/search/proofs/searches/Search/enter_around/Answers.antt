use Rattle.std.proofs.Common.{◌<◌, map, length, sym, ◌∙◌, subst, arith}
use Rattle.std.proofs.lemmas.List.{length-map}
use Rattle.pattern.specs.Offsets.{Within}
use Rattle.window.specs.Nearness.{inside_near}
use Rattle.search.specs.Terms.{Terms, terms_of}
use Rattle.search.specs.Calls.{around, shifted}
use Rattle.search.proofs.Passes.{same_terms, pass_more, pass_few, pass_grows, pass_all, counted, shifted_at}
use Rattle.search.proofs.searches.Search.enter_around.Goals as goal

pub shifted-requires : goal.shifted-requires
shifted-requires g c =
    let s = c.args.self.now in
    let h = s.tally.held in
    let w = g.S.Stage.window s.stage in (
      inside_near w h.picture h.vector (g.met.S.Stage.narrow s.stage) (g.met.S.Stage.central s.stage h.picture) s.inside.1,
      subst (Within 64) (sym c.offset.ensures) (g.met.P.Pattern.short c.args.pattern.now c.loop-i.i),
    )

pub consider-requires-clause-room : goal.consider-requires-clause-room
consider-requires-clause-room g c =
    let s = c.args.self.now in
    let t : Terms = terms_of (g.S.Stage.window s.stage) (g.S.Stage.setup s.stage) (g.L.ReferenceList.meaning s.list) (g.M.Measure.cost s.measure) in
    let few = pass_few t s.tally c.loop-i.self.tally (map (shifted s.tally.held) (g.P.Pattern.offsets c.args.pattern.now)) c.loop-i.i c.loop-i.invariant.3 in
    omega (arith, few, c.requires, g.met.P.Pattern.few c.args.pattern.now, c.loop-i-test.true, c.len-i-end.ensures)

pub loop-i-preserved : goal.loop-i-preserved
loop-i-preserved g c =
    let s = c.args.self.now in
    let t : Terms = terms_of (g.S.Stage.window s.stage) (g.S.Stage.setup s.stage) (g.L.ReferenceList.meaning s.list) (g.M.Measure.cost s.measure) in
    let os = g.P.Pattern.offsets c.args.pattern.now in
    let inv = c.loop-i.invariant in
    let k = c.loop-i.i in
    let in_it : k < length os = omega (arith, c.loop-i-test.true, c.len-i-end.ensures) in
    let d = c.shifted.result in (
      c.consider.ensures.same.0 ∙ inv.0,
      c.consider.ensures.same.1 ∙ inv.1,
      c.consider.ensures.same.2 ∙ inv.2,
      pass_more t _ s.tally c.loop-i.self.tally c.consider.new.self.tally (map (shifted s.tally.held) os) k d
          (same_terms g.S.Stage.window g.S.Stage.setup g.L.ReferenceList.meaning g.M.Measure.cost inv.0 inv.1 inv.2)
          (omega (arith, in_it, length-map os (shifted s.tally.held)))
          (shifted_at s.tally.held os k d c.offset.result in_it c.offset.ensures ∙ sym c.shifted.ensures)
          inv.3 c.consider.ensures.considered,
    )

pub overflow_sub-result : goal.overflow_sub-result
overflow_sub-result g c =
    let s = c.args.self.now in
    let t : Terms = terms_of (g.S.Stage.window s.stage) (g.S.Stage.setup s.stage) (g.L.ReferenceList.meaning s.list) (g.M.Measure.cost s.measure) in
    pass_grows t s.tally c.loop-i.self.tally (map (shifted s.tally.held) (g.P.Pattern.offsets c.args.pattern.now)) c.loop-i.i c.loop-i.invariant.3

pub returns-clause-made : goal.returns-clause-made
returns-clause-made g c =
    let s = c.args.self.now in
    let t : Terms = terms_of (g.S.Stage.window s.stage) (g.S.Stage.setup s.stage) (g.L.ReferenceList.meaning s.list) (g.M.Measure.cost s.measure) in
    let os = g.P.Pattern.offsets c.args.pattern.now in
    let all = pass_all t s.tally c.loop-i.self.tally (map (shifted s.tally.held) os) c.loop-i.i
    (omega (arith, length-map os (shifted s.tally.held), c.loop-i-test.false, c.len-i-end.ensures)) c.loop-i.invariant.3 in
    omega (arith, counted t s.tally c.loop-i.self.tally (around t.window s.tally.held os) all)
