use Rattle.std.proofs.Common.{length, map-id, sym, ap, ◌∙◌, subst, arith}
use Rattle.std.proofs.lemmas.Iterator.Consumers.{YieldsList-from_first, YieldsList-turn, YieldsList-end}
use Rattle.std.proofs.lemmas.List.{length-map}
use Rattle.window.specs.Lefts.{left}
use Rattle.window.specs.Rounds.{Covers, round_of}
use Rattle.search.specs.Terms.{Terms, terms_of}
use Rattle.search.specs.Calls.{at_picture}
use Rattle.search.proofs.Passes.{same_terms}
use Rattle.search.proofs.Circuits.{next_inside, short_round, round_more, round_counted, round_whole, round_searched}
use Rattle.search.proofs.searches.Search.enter_round.Goals as goal

pub enter-requires-clause-may : goal.enter-requires-clause-may
enter-requires-clause-may g c =
    let s = c.args.self.now in
    let r = c.args.picture in
    let w = g.S.Stage.window s.stage in
    let all = round_of w r in
    let covers : Covers w r all = subst (Covers w r) c.of-vector-items.ensures.order c.of-vector-items.ensures.whole in
    let turn = YieldsList-turn (YieldsList-from_first (λ v. v) left all (ap left c.into_iter-vector-iterator.ensures.into_iter_gives ∙ c.of-vector-items.ensures.order)) c.loop-vector.yielded _ c.loop-vector.yielded_by _ _ c.in-Some.vector c.in-Some.is c.next.ensures.steps in
    rw c.loop-vector.invariant.4 (c.requires.named, next_inside w r all c.in-Some.vector (length c.loop-vector.yielded) covers turn.0 turn.1)

pub enter-requires-clause-room : goal.enter-requires-clause-room
enter-requires-clause-room g c =
    let s = c.args.self.now in
    let r = c.args.picture in
    let w = g.S.Stage.window s.stage in
    let t : Terms = terms_of w (g.S.Stage.setup s.stage) (g.L.ReferenceList.meaning s.list) (g.M.Measure.cost s.measure) in
    let all = round_of w r in
    let covers : Covers w r all = subst (Covers w r) c.of-vector-items.ensures.order c.of-vector-items.ensures.whole in
    let turn = YieldsList-turn (YieldsList-from_first (λ v. v) left all (ap left c.into_iter-vector-iterator.ensures.into_iter_gives ∙ c.of-vector-items.ensures.order)) c.loop-vector.yielded _ c.loop-vector.yielded_by _ _ c.in-Some.vector c.in-Some.is c.next.ensures.steps in
    omega (arith, turn.0, short_round w r all covers (g.met.S.Stage.narrow s.stage), round_counted t s.tally c.loop-vector.self.tally r c.loop-vector.yielded c.loop-vector.invariant.5, c.requires.room)

pub loop-vector-preserved : goal.loop-vector-preserved
loop-vector-preserved g c =
    let s = c.args.self.now in
    let inv = c.loop-vector.invariant in
    let t : Terms = terms_of (g.S.Stage.window s.stage) (g.S.Stage.setup s.stage) (g.L.ReferenceList.meaning s.list) (g.M.Measure.cost s.measure) in (
      tt,
      tt,
      c.enter.ensures.same.0 ∙ inv.2,
      c.enter.ensures.same.1 ∙ inv.3,
      c.enter.ensures.same.2 ∙ inv.4,
      round_more t _ s.tally c.loop-vector.self.tally c.enter.new.self.tally c.args.picture c.loop-vector.yielded c.in-Some.vector
          (same_terms g.S.Stage.window g.S.Stage.setup g.L.ReferenceList.meaning g.M.Measure.cost inv.2 inv.3 inv.4) inv.5 c.enter.ensures.entered,
    )

pub overflow_sub-result : goal.overflow_sub-result
overflow_sub-result g c =
    let s = c.args.self.now in
    let t : Terms = terms_of (g.S.Stage.window s.stage) (g.S.Stage.setup s.stage) (g.L.ReferenceList.meaning s.list) (g.M.Measure.cost s.measure) in
    omega (arith, round_counted t s.tally c.loop-vector.self.tally c.args.picture c.loop-vector.yielded c.loop-vector.invariant.5)

pub returns : goal.returns
returns g c =
    let s = c.args.self.now in
    let z = c.loop-vector.self in
    let r = c.args.picture in
    let w = g.S.Stage.window s.stage in
    let t : Terms = terms_of w (g.S.Stage.setup s.stage) (g.L.ReferenceList.meaning s.list) (g.M.Measure.cost s.measure) in
    let all = round_of w r in
    let covers : Covers w r all = subst (Covers w r) c.of-vector-items.ensures.order c.of-vector-items.ensures.whole in
    let last = YieldsList-end (YieldsList-from_first (λ v. v) left all (ap left c.into_iter-vector-iterator.ensures.into_iter_gives ∙ c.of-vector-items.ensures.order)) c.loop-vector.yielded _ c.loop-vector.yielded_by _ _ c.in-None.is c.next.ensures.steps in
    let done = round_whole t s.tally z.tally r c.loop-vector.yielded all (sym (map-id c.loop-vector.yielded) ∙ last.0) c.loop-vector.invariant.5 in
    record {
      entered = done;
      made = omega (arith, round_counted t s.tally z.tally r all done, length-map all (at_picture r));
      searched = round_searched t s.tally z.tally r covers done;
      same = (c.loop-vector.invariant.2, c.loop-vector.invariant.3, c.loop-vector.invariant.4);
    }
