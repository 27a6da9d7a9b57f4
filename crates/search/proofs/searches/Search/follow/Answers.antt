use Rattle.std.proofs.Common.{rules, ◌≡◌, ℕ, List, map, Ok, Err, sym, ap, ◌∙◌, subst, add-one, arith}
use Rattle.std.specs.List.{range_with_len}
use Rattle.search.specs.Terms.{Terms, terms_of}
use Rattle.search.specs.Runs.{Ask, Called}
use Rattle.search.specs.Recipes.{Followed}
use Rattle.search.proofs.Passes.{same_terms}
use Rattle.search.proofs.Refusals.{followed_on, followed_off, numbered_more, numbered_about}
use Rattle.search.proofs.searches.Search.follow.Goals as goal

pub returns-in_err-call-clause-followed : goal.returns-in_err-call-clause-followed
returns-in_err-call-clause-followed g c =
    λ ask told.
    let s = c.args.self.now in
    let z = c.loop-k.self in
    let k = c.loop-k.k in
    let t : Terms = terms_of (g.S.Stage.window s.stage) (g.S.Stage.setup s.stage) (g.L.ReferenceList.meaning s.list) (g.M.Measure.cost s.measure) in
    let u : Terms = terms_of (g.S.Stage.window z.stage) (g.S.Stage.setup z.stage) (g.L.ReferenceList.meaning z.list) (g.M.Measure.cost z.measure) in
    let f = c.in_err-call.field-0.0 in
    let inv = c.loop-k.invariant in
    let e : c.from_residual.result ≡ Err f = search rules in
    let one : Called u z.tally c.call.new.self.tally (ask k) (Err f) = subst (λ (a : Ask). Called u z.tally c.call.new.self.tally a (Err f)) (told k c.at.result c.loop-k-test.true c.at.ensures) c.in_err-call.ensures.called in
    let split = numbered_about ask 0 k c.args.count k (omega arith) c.loop-k-test.true in
    rw (e, split.1)
    (followed_off t u s.tally z.tally c.call.new.self.tally (map ask (range_with_len 0 k)) split.0 (ask k) (tt {0}) f
    (same_terms g.S.Stage.window g.S.Stage.setup g.L.ReferenceList.meaning g.M.Measure.cost inv.0 inv.1 inv.2) (inv.3 ask told) one)

pub loop-k-preserved : goal.loop-k-preserved
loop-k-preserved g c =
    let s = c.args.self.now in
    let z = c.loop-k.self in
    let k = c.loop-k.k in
    let t : Terms = terms_of (g.S.Stage.window s.stage) (g.S.Stage.setup s.stage) (g.L.ReferenceList.meaning s.list) (g.M.Measure.cost s.measure) in
    let u : Terms = terms_of (g.S.Stage.window z.stage) (g.S.Stage.setup z.stage) (g.L.ReferenceList.meaning z.list) (g.M.Measure.cost z.measure) in
    let v = c.in_ok-call.field-0 in
    let inv = c.loop-k.invariant in (
      c.call.ensures.same.0 ∙ inv.0,
      c.call.ensures.same.1 ∙ inv.1,
      c.call.ensures.same.2 ∙ inv.2,
      λ ask told.
          let one : Called u z.tally c.call.new.self.tally (ask k) (Ok v) = subst (λ (a : Ask). Called u z.tally c.call.new.self.tally a (Ok v)) (told k c.at.result c.loop-k-test.true c.at.ensures) c.in_ok-call.ensures.called in
          let more = followed_on t u s.tally z.tally c.call.new.self.tally (map ask (range_with_len 0 k)) (ask k) (tt {0}) v
          (same_terms g.S.Stage.window g.S.Stage.setup g.L.ReferenceList.meaning g.M.Measure.cost inv.0 inv.1 inv.2) (inv.3 ask told) one in
          subst (λ (asks : List Ask). Followed t s.tally c.call.new.self.tally asks (Ok (tt {0}))) (sym (ap (λ (n : ℕ). map ask (range_with_len 0 n)) (add-one k) ∙ numbered_more ask 0 k k (omega arith))) more,
    )
