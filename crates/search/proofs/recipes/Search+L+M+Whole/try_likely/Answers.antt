use Rattle.std.proofs.Common.{rules, ◌≡◌, ℕ, ◌-◌, ◌++◌, List, map, Ok, Err, sym, ap, ◌∙◌, subst, append_assoc}
use Rattle.std.specs.List.{range_with_len}
use Rattle.window.specs.declared.wholes.Whole.{Whole}
use Rattle.search.specs.Terms.{Terms}
use Rattle.search.specs.Openings.{whole_terms}
use Rattle.search.specs.Runs.{Ask}
use Rattle.search.specs.Recipes.{Followed, centre_ask, proposal_ask, pattern_asks}
use Rattle.search.proofs.Passes.{same_whole}
use Rattle.search.proofs.Refusals.{followed_then, followed_short}
use Rattle.search.proofs.recipes.Search+L+M+Whole.try_likely.Goals as goal

pub returns-in_err-try_centres-clause-followed : goal.returns-in_err-try_centres-clause-followed
returns-in_err-try_centres-clause-followed g c =
    let s = c.args.self.now in
    let w = s.stage.setup in
    let n = w.predicted.pictures in
    let t : Terms = whole_terms w (g.L.ReferenceList.meaning s.list) (g.M.Measure.cost s.measure) in
    let f = c.in_err-try_centres.field-0.0 in
    let e : c.from_residual.result ≡ Err f = search rules in
    let x = c.try_centres.new.self.tally in
    let centres : List Ask = map (centre_ask w) (range_with_len 0 (n - 1)) in
    let rest : List Ask = map (proposal_ask c.args.proposals.xs.now c.args.proposals.ys.now) (range_with_len 0 n) ++ pattern_asks w.range.value in
    subst (Followed t s.tally x (centres ++ rest)) (sym e) (followed_short (Unit {0}) t s.tally x centres rest f c.in_err-try_centres.ensures.followed)

pub returns-in_err-offer_all-clause-followed : goal.returns-in_err-offer_all-clause-followed
returns-in_err-offer_all-clause-followed g c =
    let s = c.args.self.now in
    let w = s.stage.setup in
    let n = w.predicted.pictures in
    let z = c.try_centres.new.self in
    let x = c.offer_all.new.self.tally in
    let t : Terms = whole_terms w (g.L.ReferenceList.meaning s.list) (g.M.Measure.cost s.measure) in
    let u : Terms = whole_terms z.stage.setup (g.L.ReferenceList.meaning z.list) (g.M.Measure.cost z.measure) in
    let f = c.in_err-offer_all.field-0.0 in
    let e : c.from_residual-in_err-offer_all.result ≡ Err f = search rules in
    let one = c.try_centres.ensures.same in
    let same : u ≡ t = same_whole g.L.ReferenceList.meaning g.M.Measure.cost one.0 one.1 one.2 in
    let centres : List Ask = map (centre_ask w) (range_with_len 0 (n - 1)) in
    let offers : ℕ → List Ask = λ (m : ℕ). map (proposal_ask c.args.proposals.xs.now c.args.proposals.ys.now) (range_with_len 0 m) in
    let patterns : List Ask = pattern_asks w.range.value in
    let two = followed_then {Y = Unit {0}} t u s.tally z.tally x centres (offers z.stage.setup.predicted.pictures) (tt {0}) (Err f) same c.in_ok-try_centres.ensures.followed c.in_err-offer_all.ensures.followed in
    let n_is : z.stage.setup.predicted.pictures ≡ n = ap (λ (k : Whole). k.setup.predicted.pictures) one.2 in
    let two_is : Followed {X = Unit {0}} t s.tally x (centres ++ offers n) (Err f) = subst (λ (m : ℕ). Followed {X = Unit {0}} t s.tally x (centres ++ offers m) (Err f)) n_is two in
    subst (Followed t s.tally x (centres ++ (offers n ++ patterns))) (sym e)
    (subst (λ (asks : List Ask). Followed {X = Unit {0}} t s.tally x asks (Err f)) (append_assoc centres (offers n) patterns) (followed_short (Unit {0}) t s.tally x (centres ++ offers n) patterns f two_is))

pub returns-clause-followed : goal.returns-clause-followed
returns-clause-followed g c =
    let s = c.args.self.now in
    let w = s.stage.setup in
    let n = w.predicted.pictures in
    let z = c.try_centres.new.self in
    let x = c.offer_all.new.self in
    let y = c.try_patterns.new.self.tally in
    let t : Terms = whole_terms w (g.L.ReferenceList.meaning s.list) (g.M.Measure.cost s.measure) in
    let u : Terms = whole_terms z.stage.setup (g.L.ReferenceList.meaning z.list) (g.M.Measure.cost z.measure) in
    let v : Terms = whole_terms x.stage.setup (g.L.ReferenceList.meaning x.list) (g.M.Measure.cost x.measure) in
    let one = c.try_centres.ensures.same in
    let two = c.offer_all.ensures.same in
    let same : u ≡ t = same_whole g.L.ReferenceList.meaning g.M.Measure.cost one.0 one.1 one.2 in
    let still : v ≡ t = same_whole g.L.ReferenceList.meaning g.M.Measure.cost (two.0 ∙ one.0) (two.1 ∙ one.1) (two.2 ∙ one.2) in
    let centres : List Ask = map (centre_ask w) (range_with_len 0 (n - 1)) in
    let offers : ℕ → List Ask = λ (m : ℕ). map (proposal_ask c.args.proposals.xs.now c.args.proposals.ys.now) (range_with_len 0 m) in
    let n_is : z.stage.setup.predicted.pictures ≡ n = ap (λ (k : Whole). k.setup.predicted.pictures) one.2 in
    let range_is : x.stage.setup.range.value ≡ w.range.value = ap (λ (k : Whole). k.setup.range.value) (two.2 ∙ one.2) in
    let front : Followed t s.tally x.tally (centres ++ offers n) (Ok (tt {0})) = subst (λ (m : ℕ). Followed t s.tally x.tally (centres ++ offers m) (Ok (tt {0}))) n_is
    (followed_then t u s.tally z.tally x.tally centres (offers z.stage.setup.predicted.pictures) (tt {0}) (Ok (tt {0})) same c.in_ok-try_centres.ensures.followed c.in_ok-offer_all.ensures.followed) in
    let all = followed_then t v s.tally x.tally y (centres ++ offers n) (pattern_asks x.stage.setup.range.value) (tt {0}) c.try_patterns.result still front c.try_patterns.ensures.followed in
    let all_is : Followed t s.tally y ((centres ++ offers n) ++ pattern_asks w.range.value) c.try_patterns.result = subst (λ (k : ℕ). Followed t s.tally y ((centres ++ offers n) ++ pattern_asks k) c.try_patterns.result) range_is all in
    subst (λ (asks : List Ask). Followed t s.tally y asks c.try_patterns.result) (append_assoc centres (offers n) (pattern_asks w.range.value)) all_is
