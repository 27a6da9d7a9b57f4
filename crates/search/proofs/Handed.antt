-- What a handover leaves agrees with the book that begins with it.
use Rattle.std.proofs.Common.{◌≡◌, ap, ◌∙◌}
use Rattle.reference.specs.Lists.{ListMeaning}
use Rattle.settings.specs.declared.setups.Setup.{Setup}
use Rattle.cost.specs.declared.candidates.Candidate.{Candidate}
use Rattle.cost.specs.Strips.{Cost}
use Rattle.window.specs.declared.quarters.Quarter.{Quarter}
use Rattle.window.specs.Windows.{Window, quartered}
use Rattle.window.specs.Stages.{whole_of, quarter}
use Rattle.window.specs.Handing.{Handed}
use Rattle.search.specs.declared.tallies.Tally.{Tally}
use Rattle.search.specs.Terms.{Terms, terms_of}
use Rattle.search.specs.Book.{Book}
use Rattle.search.specs.Tallies.{begun, Agrees}
use Rattle.search.specs.Openings.{whole_terms}
use Rattle.search.specs.Handovers.{quarter_terms, handed_book, terms_in, Hands}

pub hands_made : (s : Setup) (m : ListMeaning) (M N : Cost) (y z : Tally) (q : Quarter) → Handed s y.held.picture y.held.vector q → z ≡ begun (terms_in q m N) q.handed y.trials y.strips → Hands s m M N y z q
hands_made s m M N y z q h e = record {
  setup = h.setup;
  terms = terms;
  agrees = λ b a. agrees b a;
}
  where
    terms : terms_in q m N ≡ quarter_terms s m N y.held
    terms = ap (λ (w : Window). terms_of w q.setup m N) h.window ∙ ap (λ (r : Setup). terms_of (Rattle.window.specs.Stages.handed (whole_of s) y.held.picture y.held.vector) r m N) h.setup

    start : z ≡ begun (quarter_terms s m N y.held) (quartered (whole_of s) y.held) y.trials y.strips
    start = e ∙ ap (λ (t : Terms). begun t q.handed y.trials y.strips) terms ∙ ap (λ (c : Candidate). begun (quarter_terms s m N y.held) c y.trials y.strips) h.candidate

    agrees : (b : Book) → Agrees (whole_terms s m M) y b → Agrees (quarter_terms s m N y.held) z (handed_book s m N b)
    agrees b a =
        (ap (λ (u : Tally). quarter_terms s m N u.held) a.1, start ∙ ap (λ (u : Tally). begun (quarter_terms s m N u.held) (quartered (whole_of s) u.held) u.trials u.strips) a.1)
