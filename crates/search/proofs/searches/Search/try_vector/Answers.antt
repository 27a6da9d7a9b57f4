use Rattle.std.proofs.lemmas.Int.{to_z-of_z}
use Rattle.search.specs.Terms.{Terms, terms_of}
use Rattle.search.specs.Calls.{in_picture}
use Rattle.search.proofs.Agree.{tries_made}
use Rattle.search.proofs.searches.Search.try_vector.Goals as goal

pub returns-clause-tried : goal.returns-clause-tried
returns-clause-tried g c =
    let s = c.args.self.now in
    let t : Terms = terms_of (g.S.Stage.window s.stage) (g.S.Stage.setup s.stage) (g.L.ReferenceList.meaning s.list) (g.M.Measure.cost s.measure) in
    let vetted = simp (to_z-of_z, c.ranges.picture) at c.in_ok-candidate.ensures in
    (vetted.0, tries_made t s.tally c.enter.new.self.tally c.in_ok-candidate.candidate (in_picture c.args.picture c.args.vector) c.enter.result vetted.1.0 c.enter.ensures.entered c.enter.ensures.better)
