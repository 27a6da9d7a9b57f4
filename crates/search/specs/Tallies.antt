-- What a trial makes of a tally: the candidate held, its cost, and two counts.
use Rattle.std.specs.Prelude.{◌≡◌, ℕ, ◌+◌, cond, List, [], ◌∷◌, length, nat_lt}
use Rattle.cost.specs.declared.candidates.Candidate.{Candidate}
use Rattle.cost.specs.Prices.{read_under}
use Rattle.search.specs.declared.tallies.Tally.{Tally}
use Rattle.search.specs.Terms.{Terms, price}
use Rattle.search.specs.Book.{Book, kept}

-- a stage begins with a candidate, after so many trials and strips: all of its strips are read
abbrev pub begun : Terms → Candidate → ℕ → ℕ → Tally
begun t c trials strips = record { held = c; cost = price t c; trials = trials + 1; strips = strips + length (t.parts c).strips }

-- one more trial
abbrev pub tallied : Terms → Tally → Candidate → Tally
tallied t y c = record {
  held = cond (nat_lt (price t c) y.cost) c y.held;
  cost = cond (nat_lt (price t c) y.cost) (price t c) y.cost;
  trials = y.trials + 1;
  strips = y.strips + read_under (t.parts c) y.cost;
}

-- trials of a list, in order
abbrev pub tallies : Terms → Tally → List Candidate → Tally
tallies t y [] = y
tallies t y (c ∷ cs) = tallies t (tallied t y c) cs

-- a search of these terms and this tally agrees with a book: it shows what the book works out
abbrev pub Agrees : Terms → Tally → Book → Type 0
Agrees t y b = (t ≡ b.terms) × (y ≡ kept b)
