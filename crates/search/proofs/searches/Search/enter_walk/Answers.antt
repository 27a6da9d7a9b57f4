use Rattle.std.proofs.Common.{◌+◌, refl, ◌∙◌, arith}
use Rattle.search.specs.Terms.{Terms, terms_of}
use Rattle.search.proofs.Passes.{same_terms}
use Rattle.search.proofs.Resting.{walking_start, walking_more, walking_done, same_sweep, sweep_falls, told_same, told_other}
use Rattle.search.proofs.searches.Search.enter_walk.Goals as goal

pub loop-init : goal.loop-init
loop-init g c =
    let s = c.args.self.now in
    let t : Terms = terms_of (g.S.Stage.window s.stage) (g.S.Stage.setup s.stage) (g.L.ReferenceList.meaning s.list) (g.M.Measure.cost s.measure) in
    (refl, refl, refl, walking_start t s.tally (g.P.Pattern.offsets c.args.pattern.now))

pub enter_around-requires : goal.enter_around-requires
enter_around-requires g c = record { room = omega (arith, c.loop.invariant.3.falls, c.loop.invariant.3.few, c.requires.room, c.args.self.now.low) }

pub overflow_add-sweeps : goal.overflow_add-sweeps
overflow_add-sweeps g c = omega (arith, c.loop.invariant.3.falls, c.args.self.now.low)

pub loop-smaller : goal.loop-smaller
loop-smaller g c =
    let s = c.args.self.now in
    let z = c.loop.self in
    let t : Terms = terms_of (g.S.Stage.window s.stage) (g.S.Stage.setup s.stage) (g.L.ReferenceList.meaning s.list) (g.M.Measure.cost s.measure) in
    let os = g.P.Pattern.offsets c.args.pattern.now in
    let inv = c.loop.invariant in
    let e = same_sweep t _ z.tally c.enter_around.new.self.tally os (same_terms g.S.Stage.window g.S.Stage.setup g.L.ReferenceList.meaning g.M.Measure.cost inv.0 inv.1 inv.2) c.enter_around.ensures.entered in
    sweep_falls t z.tally c.enter_around.new.self.tally os e (told_other c.enter_around.new.self.tally.held z.tally.held c.eq.result c.eq.ensures c.if-eq.false)

pub loop-preserved : goal.loop-preserved
loop-preserved g c =
    let s = c.args.self.now in
    let z = c.loop.self in
    let t : Terms = terms_of (g.S.Stage.window s.stage) (g.S.Stage.setup s.stage) (g.L.ReferenceList.meaning s.list) (g.M.Measure.cost s.measure) in
    let os = g.P.Pattern.offsets c.args.pattern.now in
    let inv = c.loop.invariant in
    let e = same_sweep t _ z.tally c.enter_around.new.self.tally os (same_terms g.S.Stage.window g.S.Stage.setup g.L.ReferenceList.meaning g.M.Measure.cost inv.0 inv.1 inv.2) c.enter_around.ensures.entered in (
      c.enter_around.ensures.same.0 ∙ inv.0,
      c.enter_around.ensures.same.1 ∙ inv.1,
      c.enter_around.ensures.same.2 ∙ inv.2,
      walking_more t s.tally z.tally c.enter_around.new.self.tally os c.loop.sweeps inv.3 e
          (told_other c.enter_around.new.self.tally.held z.tally.held c.eq.result c.eq.ensures c.if-eq.false) (g.met.P.Pattern.few c.args.pattern.now),
    )

pub returns-clause-walked : goal.returns-clause-walked
returns-clause-walked g c =
    let s = c.args.self.now in
    let z = c.loop.self in
    let t : Terms = terms_of (g.S.Stage.window s.stage) (g.S.Stage.setup s.stage) (g.L.ReferenceList.meaning s.list) (g.M.Measure.cost s.measure) in
    let os = g.P.Pattern.offsets c.args.pattern.now in
    let inv = c.loop.invariant in
    let e = same_sweep t _ z.tally c.enter_around.new.self.tally os (same_terms g.S.Stage.window g.S.Stage.setup g.L.ReferenceList.meaning g.M.Measure.cost inv.0 inv.1 inv.2) c.enter_around.ensures.entered in
    walking_done t s.tally z.tally c.enter_around.new.self.tally os c.loop.sweeps (c.loop.sweeps + 1) inv.3 e
    (told_same c.enter_around.new.self.tally.held z.tally.held c.eq.result c.eq.ensures c.if-eq.true) refl
