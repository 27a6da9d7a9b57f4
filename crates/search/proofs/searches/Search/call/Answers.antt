use Rattle.std.proofs.Common.{◌≡◌, Err, SFits, w64, rules}
use Rattle.std.proofs.lemmas.Int.{to_z-of_z}
use Rattle.search.specs.Terms.{Terms, terms_of}
use Rattle.search.proofs.Answered.{called_try, called_offer, called_sweep, called_full, called_refused}
use Rattle.search.proofs.searches.Search.call.Goals as goal

pub returns-in_err-try_vector-in-Try-clause-called : goal.returns-in_err-try_vector-in-Try-clause-called
returns-in_err-try_vector-in-Try-clause-called g c =
    let s = c.args.self.now in
    let t : Terms = terms_of (g.S.Stage.window s.stage) (g.S.Stage.setup s.stage) (g.L.ReferenceList.meaning s.list) (g.M.Measure.cost s.measure) in
    let fits : SFits w64 c.in-Try.picture = search rules in
    let told = simp (to_z-of_z, fits) at c.in_err-try_vector-in-Try.ensures.tried in
    let e : c.from_residual.result ≡ Err c.in_err-try_vector-in-Try.field-0.0 = search rules in
    rw (c.in-Try.is, e) (called_refused t s.tally c.try_vector.new.self.tally _ c.in_err-try_vector-in-Try.field-0.0 told c.in_err-try_vector-in-Try.ensures.refused)

pub returns-in_ok-try_vector-in-Try-clause-called : goal.returns-in_ok-try_vector-in-Try-clause-called
returns-in_ok-try_vector-in-Try-clause-called g c =
    let s = c.args.self.now in
    let t : Terms = terms_of (g.S.Stage.window s.stage) (g.S.Stage.setup s.stage) (g.L.ReferenceList.meaning s.list) (g.M.Measure.cost s.measure) in
    let fits : SFits w64 c.in-Try.picture = search rules in
    let told = simp (to_z-of_z, fits) at c.in_ok-try_vector-in-Try.ensures.tried in
    rw c.in-Try.is (called_try t s.tally c.try_vector.new.self.tally c.in-Try.picture c.in-Try.vector c.in_ok-try_vector-in-Try.field-0 told)

pub returns-in_ok-offer-in-Offer-clause-called : goal.returns-in_ok-offer-in-Offer-clause-called
returns-in_ok-offer-in-Offer-clause-called g c =
    let s = c.args.self.now in
    let t : Terms = terms_of (g.S.Stage.window s.stage) (g.S.Stage.setup s.stage) (g.L.ReferenceList.meaning s.list) (g.M.Measure.cost s.measure) in
    let fits : SFits w64 c.in-Offer.picture = search rules in
    let told = simp (to_z-of_z, fits) at c.in_ok-offer-in-Offer.ensures.offered in
    rw c.in-Offer.is (called_offer t s.tally c.offer.new.self.tally c.in-Offer.picture c.in-Offer.pairs.xs.now c.in-Offer.pairs.ys.now c.in_ok-offer-in-Offer.field-0 told)

pub returns-in_ok-full_round-in-FullRound-clause-called : goal.returns-in_ok-full_round-in-FullRound-clause-called
returns-in_ok-full_round-in-FullRound-clause-called g c =
    let s = c.args.self.now in
    let t : Terms = terms_of (g.S.Stage.window s.stage) (g.S.Stage.setup s.stage) (g.L.ReferenceList.meaning s.list) (g.M.Measure.cost s.measure) in
    let fits : SFits w64 c.in-FullRound.picture = search rules in
    let told = simp (to_z-of_z, fits) at c.in_ok-full_round-in-FullRound.ensures.searched in
    rw c.in-FullRound.is (called_full t s.tally c.full_round.new.self.tally c.in-FullRound.picture c.in_ok-full_round-in-FullRound.field-0 told)

pub returns-in_ok-sweep-in-Sweep-clause-called : goal.returns-in_ok-sweep-in-Sweep-clause-called
returns-in_ok-sweep-in-Sweep-clause-called g c =
    let s = c.args.self.now in
    let t : Terms = terms_of (g.S.Stage.window s.stage) (g.S.Stage.setup s.stage) (g.L.ReferenceList.meaning s.list) (g.M.Measure.cost s.measure) in
    rw c.in-Sweep.is (called_sweep t s.tally c.sweep.new.self.tally _ c.in_ok-sweep-in-Sweep.field-0 c.in_ok-sweep-in-Sweep.ensures.swept)
