-- The plain book of a search: it keeps every candidate tried, in order, and works out all that it shows from them.
use Rattle.std.specs.Prelude.{◌≡◌, ℕ, ◌+◌, ◌<◌, ◌≤◌, cond, List, [], ◌∷◌, ◌++◌, length, nat_lt, slice_index_or}
use Rattle.cost.specs.declared.candidates.Candidate.{Candidate}
use Rattle.cost.specs.Prices.{read_under}
use Rattle.window.specs.Windows.{in_quarters}
use Rattle.search.specs.declared.tallies.Tally.{Tally}
use Rattle.search.specs.declared.reports.Report.{Report}
use Rattle.search.specs.Terms.{Terms, price}

-- the stage's windows and prices, the candidates tried in it, and the totals of both stages
pub record Book : Type 0 where
  pub terms : Terms
  pub first : Candidate
  pub later : List Candidate
  pub trials : ℕ
  pub strips : ℕ

-- the first of least cost of a and those after it
abbrev pub first_least : (Candidate → ℕ) → Candidate → List Candidate → Candidate
first_least cost a [] = a
first_least cost a (c ∷ cs) = first_least cost (cond (nat_lt (cost c) (cost a)) c a) cs

-- h is the earliest of least cost of a list: it is among them, every earlier one costs more, none costs less
pub record Earliest (cost : Candidate → ℕ) (cs : List Candidate) (h : Candidate) : Type 0 where
  pub place : ℕ
  pub among : place < length cs
  pub is : slice_index_or cs place h ≡ h
  pub before : (i : ℕ) → i < place → cost h < cost (slice_index_or cs i h)
  pub least : (i : ℕ) → cost h ≤ cost (slice_index_or cs i h)

-- all that were tried in the stage, in order
abbrev pub tried : Book → List Candidate
tried b = b.first ∷ b.later

-- the candidate held, and its cost
abbrev pub held : Book → Candidate
held b = first_least (price b.terms) b.first b.later

abbrev pub least : Book → ℕ
least b = price b.terms (held b)

-- a search opens with one candidate, and reads all of its strips
abbrev pub opened : Terms → Candidate → Book
opened t c = record { terms = t; first = c; later = []; trials = 1; strips = length (t.parts c).strips }

-- one more trial: it reads the fewest leading strips at which the running total reaches the cost held, else all
abbrev pub entered : Book → Candidate → Book
entered b c = record {
  terms = b.terms;
  first = b.first;
  later = b.later ++ (c ∷ []);
  trials = b.trials + 1;
  strips = b.strips + read_under (b.terms.parts c) (least b);
}

-- trials of a list, in order
abbrev pub enters : Book → List Candidate → Book
enters b [] = b
enters b (c ∷ cs) = enters (entered b c) cs

-- the first stage is over: its candidates are dropped, and one is entered on the terms of the second, all strips read
abbrev pub handed : Terms → Candidate → Book → Book
handed t c b = record { terms = t; first = c; later = []; trials = b.trials + 1; strips = b.strips + length (t.parts c).strips }

-- what the book shows of the stage
abbrev pub kept : Book → Tally
kept b = record { held = held b; cost = least b; trials = b.trials; strips = b.strips }

-- a report of what is held, its vector in quarter samples
abbrev pub reported : Terms → Tally → Report
reported t y = record {
  picture = y.held.picture;
  vector = in_quarters t.window y.held.vector;
  cost = y.cost;
  trials = y.trials;
  strips = y.strips;
}

-- the report of the book
abbrev pub report_of : Book → Report
report_of b = reported b.terms (kept b)
