use Rattle.std.proofs.Common.{unsigned_abs}
use Rattle.std.proofs.lemmas.Int.{to_z-of_z}
use Rattle.search.specs.Terms.{Terms, terms_of}
use Rattle.search.specs.Calls.{offered}
use Rattle.search.specs.Agreed.{offer_list}
use Rattle.search.proofs.Agree.{makes_made, offer_same}
use Rattle.search.proofs.searches.Search.offer.Goals as goal

pub returns-clause-offered : goal.returns-clause-offered
returns-clause-offered g c =
    let s = c.args.self.now in
    let t : Terms = terms_of (g.S.Stage.window s.stage) (g.S.Stage.setup s.stage) (g.L.ReferenceList.meaning s.list) (g.M.Measure.cost s.measure) in
    let vetted = simp (to_z-of_z, c.ranges.picture) at c.in_ok-picture.ensures in
    let r = c.in_ok-picture.picture in
    let n = unsigned_abs c.args.picture in (
      vetted.0,
      makes_made t s.tally c.enter_pairs.new.self.tally (offer_list n c.args.xs.now c.args.ys.now) (offered t.window r c.args.xs.now c.args.ys.now) c.enter_pairs.result
          (offer_same t s.tally r n c.args.xs.now c.args.ys.now vetted.1.0) c.enter_pairs.ensures.entered c.enter_pairs.ensures.made,
    )
