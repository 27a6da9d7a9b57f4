-- The second stage of a recipe, and a recipe as a whole.
use Rattle.std.proofs.Common.{◌≡◌, ℕ, ◌<◌, ◌≤◌, true, List, [], ◌∷◌, ◌++◌, map, pos, ℤ, Some, None, Option, Ok, Err, Result, refl, sym, ap, ◌∙◌, subst, arith}
use Rattle.std.specs.List.{range_with_len}
use Rattle.picture.specs.declared.faults.Fault.{Fault}
use Rattle.picture.specs.Planes.{Grid}
use Rattle.reference.specs.Lists.{ListMeaning}
use Rattle.block.specs.declared.places.BlockRequest.{BlockRequest}
use Rattle.settings.specs.declared.setups.Setup.{Setup}
use Rattle.cost.specs.Strips.{Cost}
use Rattle.rate.specs.declared.vectors.Vector.{Vector}
use Rattle.window.specs.declared.quarters.Quarter.{Quarter}
use Rattle.window.specs.Windows.{Window, inside}
use Rattle.window.specs.Stages.{whole_of}
use Rattle.window.specs.Rounds.{Covers, round_of}
use Rattle.search.specs.declared.calls.Answer.{Answer}
use Rattle.search.specs.declared.reports.Report.{Report}
use Rattle.search.specs.declared.tallies.Tally.{Tally}
use Rattle.search.specs.Terms.{Terms, price}
use Rattle.search.specs.Book.{Book, least, report_of}
use Rattle.search.specs.Tallies.{Agrees}
use Rattle.search.specs.Calls.{at_picture}
use Rattle.search.specs.Openings.{Opens, opening_book, whole_terms}
use Rattle.search.specs.Handovers.{Hands, handed_book, quarter_terms}
use Rattle.search.specs.Agreed.{Reports}
use Rattle.search.specs.Runs.{Ask, full, after_all, answers_to}
use Rattle.search.specs.Recipes.{first_refusal, Followed, unless_refused, eight_asks, full_asks, Refined, stage_book, Begun, Follows, Exhausts}
use Rattle.search.proofs.Holding.{holds, searched_all}
use Rattle.search.proofs.Refusals.{refusal_none, refusal_some, none_refused, numbered_about}

began : (s : Setup) (m : ListMeaning) (cost next : Cost) (y z : Tally) (f : Quarter) (v : Terms) → Hands s m cost next y z f → v ≡ quarter_terms s m next y.held →
    (b : Book) → Agrees (whole_terms s m cost) y b → Agrees v z (handed_book s m next b)
began s m cost next y z f v hands same b a = subst (λ (t : Terms). Agrees t z (handed_book s m next b)) (sym same) (hands.agrees b a)

pub refined_made : {X : Type 0} (s : Setup) (m : ListMeaning) (cost next : Cost) (y z u : Tally) (f : Quarter) (v w : Terms) (x : X) (r : Report) →
    Hands s m cost next y z f → v ≡ quarter_terms s m next y.held → Followed v z u eight_asks (Ok x) → w ≡ v → Reports w u r → Refined s m cost next y (Ok r)
refined_made s m cost next y z u f v w x r hands same followed still reports = λ b a.
    let c : Book = handed_book s m next b in
    let done = followed c (began s m cost next y z f v hands same b a) in
    let shown : r ≡ report_of (after_all c eight_asks) = reports.same (after_all c eight_asks) (subst (λ (t : Terms). Agrees t u (after_all c eight_asks)) (sym still) done.1) in
    ap (λ (k : Report). Ok k) shown ∙ sym (ap (λ (o : Option Fault). unless_refused o (report_of (after_all c eight_asks))) done.0)

pub refined_short : (X : Type 0) (s : Setup) (m : ListMeaning) (cost next : Cost) (y z u : Tally) (f : Quarter) (v : Terms) (e : Fault) →
    Hands s m cost next y z f → v ≡ quarter_terms s m next y.held → Followed {X = X} v z u eight_asks (Err e) → Refined s m cost next y (Err e)
refined_short X s m cost next y z u f v e hands same followed = λ b a.
    let c : Book = handed_book s m next b in
    sym (ap (λ (o : Option Fault). unless_refused o (report_of (after_all c eight_asks))) (followed c (began s m cost next y z f v hands same b a)))

module _
    (covers : (w : Window) (r : ℕ) → Covers w r (round_of w r))
    (current : Grid) (m : ListMeaning) (cost next : Cost) (q : BlockRequest) (qp range : ℤ) (xs ys : List ℤ) (asks : Setup → List Ask)
    (s : Setup) (t : Terms) (y z : Tally) (same : t ≡ whole_terms s m cost) (opens : Opens current m cost q qp range xs ys s y) where
  opened_so : Agrees t y (opening_book s m cost)
  opened_so = subst (λ (u : Terms). Agrees u y (opening_book s m cost)) (sym same) opens.agrees

  told : (r : Result Report Fault) →
      r ≡ unless_refused (first_refusal (answers_to (opening_book s m cost) (asks s) ++ answers_to (handed_book s m next (stage_book s m cost (asks s))) eight_asks))
      (report_of (after_all (handed_book s m next (stage_book s m cost (asks s))) eight_asks)) → Follows current m cost next q qp range xs ys asks r
  told r answer = record {
    setup = s;
    opened = opens.setup;
    answer = answer;
    first_stage = holds covers 0 0 (opening_book s m cost) (asks s) refl refl (omega arith);
    second_stage = holds covers (stage_book s m cost (asks s)).trials (stage_book s m cost (asks s)).strips (handed_book s m next (stage_book s m cost (asks s))) eight_asks refl refl refl;
  }

  -- a recipe whose first stage was followed to its end
  pub follows_on : {X : Type 0} (x : X) (r : Result Report Fault) → Followed t y z (asks s) (Ok x) → Refined s m cost next z r → Follows current m cost next q qp range xs ys asks r
  follows_on x r followed refined =
      let done = followed (opening_book s m cost) opened_so in
      let b : Book = stage_book s m cost (asks s) in
      let agreed : Agrees (whole_terms s m cost) z b = subst (λ (u : Terms). Agrees u z b) same done.1 in
      told r (refined b agreed ∙ sym (ap (λ (o : Option Fault). unless_refused o (report_of (after_all (handed_book s m next b) eight_asks)))
      (refusal_none (answers_to (opening_book s m cost) (asks s)) (answers_to (handed_book s m next b) eight_asks) done.0)))

  -- and one whose first stage ended at a refusal
  pub follows_off : (X : Type 0) (f : Fault) → Followed {X = X} t y z (asks s) (Err f) → Follows current m cost next q qp range xs ys asks (Err f)
  follows_off X f followed =
      let b : Book = stage_book s m cost (asks s) in
      told (Err f) (sym (ap (λ (o : Option Fault). unless_refused o (report_of (after_all (handed_book s m next b) eight_asks)))
      (refusal_some (answers_to (opening_book s m cost) (asks s)) (answers_to (handed_book s m next b) eight_asks) f (followed (opening_book s m cost) opened_so))))

-- after full rounds of all pictures, none of them refused, nothing in any window costs less
pub all_searched : ((w : Window) (r : ℕ) → Covers w r (round_of w r)) → (s : Setup) (m : ListMeaning) (cost : Cost) → first_refusal (answers_to (opening_book s m cost) (full_asks s)) ≡ None →
    (p : ℕ) (v : Vector) → p < s.predicted.pictures → inside (whole_of s) p v ≡ true → least (stage_book s m cost (full_asks s)) ≤ price (whole_terms s m cost) (at_picture p v)
all_searched covers s m cost none p v named in_it =
    let f : ℕ → Ask = λ (r : ℕ). full (pos r) in
    let about = numbered_about f 0 p s.predicted.pictures p (omega arith) named in
    let front : List Ask = map f (range_with_len 0 p) in
    let accepted = none_refused (opening_book s m cost) front about.0 (full (pos p)) (subst (λ (l : List Ask). first_refusal (answers_to (opening_book s m cost) l) ≡ None) about.1 none) in
    searched_all covers (opening_book s m cost) (full_asks s) front about.0 (pos p) about.1 accepted v in_it

-- a report tells that none of the first stage was refused
reported : (o : Option Fault) (x r : Report) → Ok r ≡ unless_refused o x → o ≡ None
reported None x r e = refl
reported (Some f) x r e = let z : ◌≡◌ {A = ℕ} 0 1 = cc in absurd (omega arith)

front_none : (rs ss : List (Result Answer Fault)) → first_refusal (rs ++ ss) ≡ None → first_refusal rs ≡ None
front_none [] ss e = refl
front_none (Ok x ∷ rs) ss e = front_none rs ss e
front_none (Err f ∷ rs) ss e = e

pub exhausts_made : ((w : Window) (r : ℕ) → Covers w r (round_of w r)) → (current : Grid) (m : ListMeaning) (cost next : Cost) (q : BlockRequest) (qp range : ℤ) (xs ys : List ℤ) (r : Result Report Fault) →
    Follows current m cost next q qp range xs ys full_asks r → Exhausts current m cost next q qp range xs ys r
exhausts_made covers current m cost next q qp range xs ys r h = record {
  follows = h;
  searched = λ report e p v named in_it.
      all_searched covers h.setup m cost
      (front_none (answers_to (opening_book h.setup m cost) (full_asks h.setup)) (answers_to (handed_book h.setup m next (stage_book h.setup m cost (full_asks h.setup))) eight_asks) (reported _ _ report (sym e ∙ h.answer)))
      p v named in_it;
}

pub refined_as : {s p : Setup} {m n : ListMeaning} {cost dear : Cost} (next : Cost) (y : Tally) (r : Result Report Fault) → p ≡ s → n ≡ m → dear ≡ cost → Refined s m cost next y r → Refined p n dear next y r
refined_as next y r a b c h = rw (a, b, c) h

-- an opening that no row turns away
pub begun_so : (o : Option Fault) (r : Result Report Fault) (P : Result Report Fault → Type 0) → o ≡ None → P r → Begun o r P
begun_so o r P e h = subst (λ (p : Option Fault). Begun p r P) (sym e) h
