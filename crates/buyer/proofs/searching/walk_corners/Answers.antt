-- The search agrees with the book from its opening to its report.
use Rattle.std.proofs.Common.{ℕ, List, sym, subst}
use Rattle.rate.specs.declared.vectors.Vector.{Vector}
use Rattle.picture.specs.Planes.{grid_of}
use Rattle.settings.specs.declared.setups.Setup.{Setup}
use Rattle.window.specs.declared.quarters.Quarter.{Quarter}
use Rattle.search.specs.declared.opening.Opening.{Opening}
use Rattle.search.specs.declared.reports.Report.{Report}
use Rattle.search.specs.declared.tallies.Tally.{Tally}
use Rattle.search.specs.Agreed.{Reports}
use Rattle.search.specs.Book.{Book}
use Rattle.search.specs.Handovers.{Hands, handed_book, terms_in}
use Rattle.search.specs.Openings.{Opens, opening_book}
use Rattle.search.specs.Tallies.{Agrees}
use Rattle.search.specs.Terms.{Terms}
use Rattle.search.specs.Walks.{Settled, Walks, sweeps}
use Rattle.buyer.specs.declared.levels.Levels.{Levels}
use Rattle.buyer.specs.declared.middles.MiddleRows.{MiddleRows}
use Rattle.buyer.specs.Levels.{level_meaning}
use Rattle.buyer.specs.Middles.{middle_rows}
use Rattle.buyer.specs.Walked.{Walked, first_terms, walked_book}
use Rattle.buyer.proofs.searching.walk_corners.Goals as goal

module _ (o : Opening Levels MiddleRows) (os : List Vector) (s : Setup) (y z u : Tally) (n : ℕ) (f : Quarter) (r : Report)
    (opens : Opens (grid_of o.current) (level_meaning o.list) middle_rows o.request o.qp o.range o.xs.now o.ys.now s y)
    (walks : Walks (first_terms o s) y z os n)
    (hands : Hands s (level_meaning o.list) middle_rows middle_rows z u f)
    (reports : Reports (terms_in f (level_meaning o.list) middle_rows) u r) where
  abbrev start : Book
  start = opening_book s (level_meaning o.list) middle_rows

  abbrev last : Book
  last = handed_book s (level_meaning o.list) middle_rows (walked_book o s os)

  agreed : Agrees (first_terms o s) z (walked_book o s os)
  agreed = subst (λ (k : ℕ). Agrees (first_terms o s) z (sweeps k os start)) (walks.answers start opens.agrees) (walks.agrees start opens.agrees)

  walked : Walked o os r
  walked = record {
    setup = s;
    opened = opens.setup;
    settled = subst (λ (k : Tally). Settled (first_terms o s) os k.held k.cost) agreed.1 walks.settled;
    report = reports.same last (subst (λ (t : Terms). Agrees t u last) (sym hands.terms) (hands.agrees (walked_book o s os) agreed));
  }

pub returns : goal.returns
returns c =
    let opened = c.in_ok-search.ensures in
    let same = c.in_ok-walk.ensures.same in
    let walks = rw opened.1.1 at c.in_ok-walk.ensures.walked.1 in
    let hands = rw (same.2, same.0, opened.1.1) at c.hand_over.ensures.hands in
    let reports = rw (c.hand_over.ensures.kept.0, same.0, opened.1.1) at c.close.ensures in
    (opened.0, walked _ _ _ _ _ _ _ _ _ opened.1.0 walks hands reports)
