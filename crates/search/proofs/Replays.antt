-- A whole run, in agreement with the book from its opening to its report.
use Rattle.std.proofs.Common.{◌≡◌, ℕ, List, [], ◌++◌, ℤ, Some, None, Result, refl, sym, ap, ◌∙◌, subst, append-nil, arith}
use Rattle.picture.specs.declared.faults.Fault.{Fault}
use Rattle.picture.specs.Planes.{Grid}
use Rattle.reference.specs.Lists.{ListMeaning}
use Rattle.block.specs.declared.places.BlockRequest.{BlockRequest}
use Rattle.settings.specs.declared.setups.Setup.{Setup}
use Rattle.cost.specs.Strips.{Cost}
use Rattle.window.specs.declared.quarters.Quarter.{Quarter}
use Rattle.window.specs.Windows.{Window}
use Rattle.window.specs.Rounds.{Covers, round_of}
use Rattle.search.specs.declared.calls.Answer.{Answer}
use Rattle.search.specs.declared.reports.Report.{Report}
use Rattle.search.specs.declared.tallies.Tally.{Tally}
use Rattle.search.specs.declared.replaying.Outcome.{Outcome}
use Rattle.search.specs.Terms.{Terms}
use Rattle.search.specs.Book.{Book}
use Rattle.search.specs.Tallies.{Agrees}
use Rattle.search.specs.Openings.{Opens, opening_book, whole_terms}
use Rattle.search.specs.Handovers.{Hands, handed_book, quarter_terms}
use Rattle.search.specs.Agreed.{Reports}
use Rattle.search.specs.Runs.{Ask, after_all, answers_to, Ran}
use Rattle.search.specs.Replays.{Finished, Replayed, Second}
use Rattle.search.proofs.Holding.{holds}

module _
    (covers : (w : Window) (r : ℕ) → Covers w r (round_of w r))
    (current : Grid) (m : ListMeaning) (cost : Cost) (q : BlockRequest) (qp range : ℤ) (xs ys : List ℤ) (asks : List Ask)
    (s : Setup) (t : Terms) (y z : Tally) (old mid : List (Result Answer Fault)) (o : Outcome)
    (same : t ≡ whole_terms s m cost) (none : old ≡ [])
    (opens : Opens current m cost q qp range xs ys s y) (ran : Ran t y z asks old mid) where
  abbrev start : Book
  start = opening_book s m cost

  began : Agrees t y start
  began = subst (λ (u : Terms). Agrees u y start) (sym same) opens.agrees

  -- the answers of the first stage
  first_answers : mid ≡ answers_to start asks
  first_answers = ran.answers start began ∙ ap (λ (rs : List (Result Answer Fault)). rs ++ answers_to start asks) none

  agreed : Agrees t z (after_all start asks)
  agreed = ran.agrees start began

  agreed_whole : Agrees (whole_terms s m cost) z (after_all start asks)
  agreed_whole = subst (λ (u : Terms). Agrees u z (after_all start asks)) same agreed

  -- a run of one stage
  pub replayed_one : (second : Second) → second ≡ None → o.answers.items ≡ mid → Reports t z o.report → Replayed current m cost q qp range xs ys asks second o
  replayed_one second one all reports = subst (λ (n : Second). Replayed current m cost q qp range xs ys asks n o) (sym one) (record {
    setup = s;
    opened = opens.setup;
    answers = all ∙ first_answers ∙ sym (append-nil (answers_to start asks));
    report = reports.same (after_all start asks) agreed;
    first_stage = holds covers 0 0 start asks refl refl (omega arith);
    second_stage = tt;
  })

  -- a run of two
  pub replayed_two : (second : Second) (next : Cost) (more : List Ask) → second ≡ Some (next, more) → Finished s m cost next z more mid o.answers.items o.report →
      Replayed current m cost q qp range xs ys asks second o
  replayed_two second next more two finished = subst (λ (n : Second). Replayed current m cost q qp range xs ys asks n o) (sym two) (record {
    setup = s;
    opened = opens.setup;
    answers = finished.answers (after_all start asks) agreed_whole ∙ ap (λ (rs : List (Result Answer Fault)). rs ++ answers_to (handed_book s m next (after_all start asks)) more) first_answers;
    report = finished.report (after_all start asks) agreed_whole;
    first_stage = holds covers 0 0 start asks refl refl (omega arith);
    second_stage = holds covers (after_all start asks).trials (after_all start asks).strips (handed_book s m next (after_all start asks)) more refl refl refl;
  })

-- a second stage, in agreement with the book from the handover to the report
pub finished_made : (s : Setup) (m : ListMeaning) (cost next : Cost) (y z u : Tally) (f : Quarter) (v w : Terms) (more : List Ask) (old new : List (Result Answer Fault)) (r : Report) →
    Hands s m cost next y z f → v ≡ quarter_terms s m next y.held → Ran v z u more old new → w ≡ v → Reports w u r → Finished s m cost next y more old new r
finished_made s m cost next y z u f v w more old new r hands same ran still reports = record {
  answers = λ b a. ran.answers (handed_book s m next b) (began b a);
  report = λ b a. reports.same (after_all (handed_book s m next b) more) (subst (λ (t : Terms). Agrees t u (after_all (handed_book s m next b) more)) (sym still) (ran.agrees (handed_book s m next b) (began b a)));
}
  where
    began : (b : Book) → Agrees (whole_terms s m cost) y b → Agrees v z (handed_book s m next b)
    began b a = subst (λ (t : Terms). Agrees t z (handed_book s m next b)) (sym same) (hands.agrees b a)

pub finished_as : {s p : Setup} {m n : ListMeaning} {cost dear : Cost} {new all : List (Result Answer Fault)} {r k : Report} (next : Cost) (y : Tally) (more : List Ask) (old : List (Result Answer Fault)) →
    p ≡ s → n ≡ m → dear ≡ cost → all ≡ new → k ≡ r → Finished s m cost next y more old new r → Finished p n dear next y more old all k
finished_as next y more old a b c d e h = rw (a, b, c, d, e) h
