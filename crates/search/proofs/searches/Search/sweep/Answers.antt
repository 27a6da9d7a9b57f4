use Rattle.search.specs.Terms.{Terms, terms_of}
use Rattle.search.specs.Calls.{around}
use Rattle.search.specs.Agreed.{sweep_list}
use Rattle.search.proofs.Agree.{makes_made, sweep_same}
use Rattle.search.proofs.searches.Search.sweep.Goals as goal

pub returns-clause-swept : goal.returns-clause-swept
returns-clause-swept g c =
    let s = c.args.self.now in
    let t : Terms = terms_of (g.S.Stage.window s.stage) (g.S.Stage.setup s.stage) (g.L.ReferenceList.meaning s.list) (g.M.Measure.cost s.measure) in
    let os = g.P.Pattern.offsets c.args.pattern.now in (
      c.in_ok-vet_limit.ensures.0,
      makes_made t s.tally c.enter_around.new.self.tally (sweep_list os) (around t.window s.tally.held os) c.enter_around.result
          (sweep_same t s.tally os) c.enter_around.ensures.entered c.enter_around.ensures.made,
    )
