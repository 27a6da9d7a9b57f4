use Rattle.std.proofs.Common.{refl}
use Rattle.search.specs.Terms.{Terms, terms_of}
use Rattle.search.proofs.Agree.{reports_made}
use Rattle.search.proofs.searches.Search.report.Goals as goal

pub returns : goal.returns
returns g c =
    let s = c.args.self.now in
    let t : Terms = terms_of (g.S.Stage.window s.stage) (g.S.Stage.setup s.stage) (g.L.ReferenceList.meaning s.list) (g.M.Measure.cost s.measure) in
    reports_made t s.tally _ (rw c.quarters.ensures refl)
