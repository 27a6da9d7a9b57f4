-- What each accepted call leaves and answers: in agreement with every book that the search agreed with before.
use Rattle.std.specs.Prelude.{◌≡◌, ℕ, ◌≤◌, Bool, true, List, length, nat_lt, ℤ}
use Rattle.rate.specs.declared.vectors.Vector.{Vector}
use Rattle.cost.specs.declared.candidates.Candidate.{Candidate}
use Rattle.window.specs.Windows.{inside}
use Rattle.search.specs.declared.tallies.Tally.{Tally}
use Rattle.search.specs.declared.reports.Report.{Report}
use Rattle.search.specs.Terms.{Terms, price}
use Rattle.search.specs.Calls.{around, at_picture, offered, rounded}
use Rattle.search.specs.Book.{Book, Earliest, tried, held, least, entered, enters, report_of}
use Rattle.search.specs.Tallies.{Agrees}

-- one candidate was tried, and the answer tells whether it is better
pub record Tries (t : Terms) (y z : Tally) (c : Candidate) (better : Bool) : Type 0 where
  pub agrees : (b : Book) → Agrees t y b → Agrees t z (entered b c)
  pub answers : (b : Book) → Agrees t y b → better ≡ nat_lt (least (entered b c)) (least b)

-- what calls try, worked out from the book: an offer, a sweep, a full round
abbrev pub offer_list : ℕ → List ℤ → List ℤ → Book → List Candidate
offer_list r xs ys b = offered b.terms.window r xs ys

abbrev pub sweep_list : List Vector → Book → List Candidate
sweep_list os b = around b.terms.window (held b) os

abbrev pub round_list : ℕ → Book → List Candidate
round_list r b = rounded b.terms.window r

-- the candidates that the book lists were tried, in order, and the answer is their number
pub record Makes (t : Terms) (y z : Tally) (listed : Book → List Candidate) (made : ℕ) : Type 0 where
  pub agrees : (b : Book) → Agrees t y b → Agrees t z (enters b (listed b))
  pub answers : (b : Book) → Agrees t y b → made ≡ length (listed b)

-- the window of picture r was searched: no vector of it costs less than m
abbrev pub Searched : Terms → ℕ → ℕ → Type 0
Searched t r m = (v : Vector) → inside t.window r v ≡ true → m ≤ price t (at_picture r v)

-- what a report says: the book's, and of all tried in the stage the earliest of least cost, with its cost
pub record Reports (t : Terms) (y : Tally) (r : Report) : Type 0 where
  pub same : (b : Book) → Agrees t y b → r ≡ report_of b
  pub earliest : (b : Book) → Agrees t y b → Earliest (price t) (tried b) y.held × (r.cost ≡ price t y.held)
