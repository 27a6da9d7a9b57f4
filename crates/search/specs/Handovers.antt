-- The handover: the second stage, and the book that it begins with.
use Rattle.std.specs.Prelude.{◌≡◌}
use Rattle.reference.specs.Lists.{ListMeaning}
use Rattle.settings.specs.declared.setups.Setup.{Setup}
use Rattle.cost.specs.declared.candidates.Candidate.{Candidate}
use Rattle.cost.specs.Strips.{Cost}
use Rattle.window.specs.declared.quarters.Quarter.{Quarter}
use Rattle.window.specs.Windows.{quartered}
use Rattle.window.specs.Stages.{whole_of, quarter, handed as window_of}
use Rattle.search.specs.declared.tallies.Tally.{Tally}
use Rattle.search.specs.Terms.{Terms, terms_of}
use Rattle.search.specs.Book.{Book, held, handed}
use Rattle.search.specs.Tallies.{Agrees}
use Rattle.search.specs.Openings.{whole_terms}

-- the second stage about a candidate c of the first: within 3 of its vector, in its picture
abbrev pub quarter_terms : Setup → ListMeaning → Cost → Candidate → Terms
quarter_terms s m cost c = terms_of (window_of (whole_of s) c.picture c.vector) s m cost

-- the book goes on with the candidate it held, in quarter samples, under the new measure
abbrev pub handed_book : Setup → ListMeaning → Cost → Book → Book
handed_book s m cost b = handed (quarter_terms s m cost (held b)) (quartered (whole_of s) (held b)) b

-- the terms of a search in the second stage
abbrev pub terms_in : Quarter → ListMeaning → Cost → Terms
terms_in q m cost = terms_of (quarter q.handed.picture q.handed.vector) q.setup m cost

-- a search with tally y and a measure of cost M was handed over to a measure of cost N
pub record Hands (s : Setup) (m : ListMeaning) (M N : Cost) (y z : Tally) (q : Quarter) : Type 0 where
  pub setup : q.setup ≡ s
  pub terms : terms_in q m N ≡ quarter_terms s m N y.held
  pub agrees : (b : Book) → Agrees (whole_terms s m M) y b → Agrees (quarter_terms s m N y.held) z (handed_book s m N b)
