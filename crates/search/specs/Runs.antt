-- Runs of calls: what the plain book answers to each, and what holds of all of a stage.
use Rattle.std.specs.Prelude.{◌≡◌, ℕ, ◌+◌, ◌<◌, List, [], ◌∷◌, ◌++◌, length, take, ℤ, Some, None, Option, Ok, Err, Result, nat_lt, slice_index, slice_index_or, unsigned_abs}
use Rattle.std.specs.List.{sum}
use Rattle.picture.specs.declared.faults.Fault.{Fault}
use Rattle.rate.specs.declared.vectors.Vector.{Vector}
use Rattle.cost.specs.declared.candidates.Candidate.{Candidate}
use Rattle.cost.specs.Prices.{Fewest}
use Rattle.window.specs.Windows.{Window}
use Rattle.search.specs.declared.calls.Answer.{Answer}
use Rattle.search.specs.declared.calls.Answer.TheVariants.{Better, Trials, Sweeps}
use Rattle.search.specs.declared.calls.Call.{Call}
use Rattle.search.specs.declared.calls.Pairs.{Pairs}
use Rattle.search.specs.declared.calls.Call.TheVariants as calls
use Rattle.search.specs.declared.tallies.Tally.{Tally}
use Rattle.search.specs.Terms.{Terms, price}
use Rattle.search.specs.Book.{Book, Earliest, first_least, tried, held, least, entered, enters}
use Rattle.search.specs.Tallies.{Agrees}
use Rattle.search.specs.Calls.{in_picture, try_fault, offer_fault, limit_fault, round_fault}
use Rattle.search.specs.Agreed.{offer_list, sweep_list, round_list, Searched}
use Rattle.search.specs.Walks.{swept, sweeps, walk_sweeps, Settled}

-- a call, with the meaning of what is lent with it
pub data Ask : Type 0 where
  try : ℤ → Vector → Ask
  offer : ℤ → List ℤ → List ℤ → Ask
  sweep : List Vector → Ask
  walk : List Vector → Ask
  full : ℤ → Ask

-- what a call of the program asks, where patterns mean these offsets
abbrev pub ask_of : {P : Type 0} → (P → List Vector) → Call Pairs P → Ask
ask_of offsets (calls.Try r v) = try r v
ask_of offsets (calls.Offer r v) = offer r v.xs.now v.ys.now
ask_of offsets (calls.Sweep p) = sweep (offsets p)
ask_of offsets (calls.Walk p) = walk (offsets p)
ask_of offsets (calls.FullRound r) = full r

-- the fault of a call, in windows w, where so many trials were made before it
abbrev pub fault_in : Window → ℕ → Ask → Option Fault
fault_in w trials (try r v) = try_fault w trials r v
fault_in w trials (offer r xs ys) = offer_fault w trials r (length xs) (length ys)
fault_in w trials (sweep os) = limit_fault trials
fault_in w trials (walk os) = limit_fault trials
fault_in w trials (full r) = round_fault w trials r

abbrev pub fault_of : Book → Ask → Option Fault
fault_of b a = fault_in b.terms.window b.trials a

-- the book after a call that no row turns away
abbrev pub accepted : Book → Ask → Book
accepted b (try r v) = entered b (in_picture r v)
accepted b (offer r xs ys) = enters b (offer_list (unsigned_abs r) xs ys b)
accepted b (sweep os) = swept os b
accepted b (walk os) = sweeps (walk_sweeps os b) os b
accepted b (full r) = enters b (round_list (unsigned_abs r) b)

-- and what it answers: a try is better where the least cost falls
abbrev pub told : Book → Ask → Answer
told b (try r v) = Better (nat_lt (least (entered b (in_picture r v))) (least b))
told b (offer r xs ys) = Trials (length (offer_list (unsigned_abs r) xs ys b))
told b (sweep os) = Trials (length (sweep_list os b))
told b (walk os) = Sweeps (walk_sweeps os b)
told b (full r) = Trials (length (round_list (unsigned_abs r) b))

-- a fault leaves the book as it was, and is the answer
abbrev pub unless_fault : {X : Type 0} → Option Fault → X → (Fault → X) → X
unless_fault None x refused = x
unless_fault (Some f) x refused = refused f

abbrev pub after : Book → Ask → Book
after b a = unless_fault (fault_of b a) (accepted b a) (λ _. b)

abbrev pub answer : Book → Ask → Result Answer Fault
answer b a = unless_fault (fault_of b a) (Ok (told b a)) Err

-- the book after calls, one after the other, and the answers to all
abbrev pub after_all : Book → List Ask → Book
after_all b [] = b
after_all b (a ∷ asks) = after_all (after b a) asks

abbrev pub answers_to : Book → List Ask → List (Result Answer Fault)
answers_to b [] = []
answers_to b (a ∷ asks) = answer b a ∷ answers_to (after b a) asks

-- a call was made: for every book that the search agreed with, it agrees after it, and the answer is the book's
pub record Called (t : Terms) (y z : Tally) (a : Ask) (r : Result Answer Fault) : Type 0 where
  pub agrees : (b : Book) → Agrees t y b → Agrees t z (after b a)
  pub answers : (b : Book) → Agrees t y b → r ≡ answer b a

-- and calls, one after the other, whose answers were added to a list
pub record Ran (t : Terms) (y z : Tally) (asks : List Ask) (old new : List (Result Answer Fault)) : Type 0 where
  pub agrees : (b : Book) → Agrees t y b → Agrees t z (after_all b asks)
  pub answers : (b : Book) → Agrees t y b → new ≡ old ++ answers_to b asks

-- what each later trial of a stage read: the fewest leading strips, or none, at which its running total reaches the cost
-- then held, else all; the first of the stage reads all, after as many strips as went before
pub record Counted (before : ℕ) (b : Book) : Type 0 where
  pub reads : List ℕ
  pub each : length reads ≡ length b.later
  pub fewest : (i : ℕ) (c : Candidate) → i < length b.later →
      Fewest (b.terms.parts (slice_index_or b.later i c)) (price b.terms (first_least (price b.terms) b.first (take i b.later))) (slice_index reads i)
  pub strips : b.strips ≡ before + (length (b.terms.parts b.first).strips + sum reads)

-- what holds of a stage that began with a book, after so many trials and strips, and in which these calls were made
pub record Holds (made read : ℕ) (start : Book) (asks : List Ask) : Type 0 where
  -- the candidate held is, of all tried in the stage, the earliest of least cost
  pub earliest : Earliest (price start.terms) (tried (after_all start asks)) (held (after_all start asks))
  -- when an accepted walk ends, nothing of its pattern about the candidate held, inside the window, costs less
  pub settled : (front back : List Ask) (os : List Vector) → asks ≡ front ++ (walk os ∷ back) → fault_of (after_all start front) (walk os) ≡ None →
      Settled start.terms os (held (after_all start (front ++ (walk os ∷ [])))) (least (after_all start (front ++ (walk os ∷ []))))
  -- after an accepted full round of a picture nothing in its window costs less than what is held, as long as the stage lasts
  pub searched : (front back : List Ask) (r : ℤ) → asks ≡ front ++ (full r ∷ back) → fault_of (after_all start front) (full r) ≡ None →
      Searched start.terms (unsigned_abs r) (least (after_all start asks))
  -- one trial each, and the strips that each read
  pub trials : (after_all start asks).trials ≡ made + length (tried (after_all start asks))
  pub counted : Counted read (after_all start asks)
