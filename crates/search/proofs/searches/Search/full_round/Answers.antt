use Rattle.std.proofs.Common.{unsigned_abs}
use Rattle.std.proofs.lemmas.Int.{to_z-of_z}
use Rattle.search.specs.Terms.{Terms, terms_of}
use Rattle.search.specs.Calls.{rounded}
use Rattle.search.specs.Agreed.{round_list}
use Rattle.search.proofs.Agree.{makes_made, round_same}
use Rattle.search.proofs.Circuits.{searched_in}
use Rattle.search.proofs.searches.Search.full_round.Goals as goal

pub returns-clause-searched : goal.returns-clause-searched
returns-clause-searched g c =
    let s = c.args.self.now in
    let t : Terms = terms_of (g.S.Stage.window s.stage) (g.S.Stage.setup s.stage) (g.L.ReferenceList.meaning s.list) (g.M.Measure.cost s.measure) in
    let vetted = simp (to_z-of_z, c.ranges.picture) at c.in_ok-picture.ensures in
    let r = c.in_ok-picture.picture in
    let n = unsigned_abs c.args.picture in
    (vetted.0, makes_made t s.tally c.enter_round.new.self.tally (round_list n) (rounded t.window r) c.enter_round.result (round_same t s.tally r n vetted.1.0) c.enter_round.ensures.entered c.enter_round.ensures.made)

pub returns-clause-none_costs_less : goal.returns-clause-none_costs_less
returns-clause-none_costs_less g c =
    let s = c.args.self.now in
    let t : Terms = terms_of (g.S.Stage.window s.stage) (g.S.Stage.setup s.stage) (g.L.ReferenceList.meaning s.list) (g.M.Measure.cost s.measure) in
    let vetted = simp (to_z-of_z, c.ranges.picture) at c.in_ok-picture.ensures in
    searched_in t c.in_ok-picture.picture (unsigned_abs c.args.picture) c.enter_round.new.self.tally.cost vetted.1.0 c.enter_round.ensures.searched
