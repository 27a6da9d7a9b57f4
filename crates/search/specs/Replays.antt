-- Whole runs: the opening, calls of the first stage, a handover or none, calls of the second, and the report.
use Rattle.std.specs.Prelude.{◌≡◌, ℕ, ◌+◌, ◌<◌, List, [], ◌++◌, map, length, ℤ, Some, None, Option, Ok, Err, Result}
use Rattle.picture.specs.declared.faults.Fault.{Fault}
use Rattle.picture.specs.Planes.{Grid}
use Rattle.reference.specs.Lists.{ListMeaning}
use Rattle.rate.specs.declared.vectors.Vector.{Vector}
use Rattle.block.specs.declared.places.BlockRequest.{BlockRequest}
use Rattle.settings.specs.declared.setups.Setup.{Setup}
use Rattle.settings.specs.Setups.{SetupIs}
use Rattle.cost.specs.Strips.{Cost}
use Rattle.search.specs.declared.calls.Answer.{Answer}
use Rattle.search.specs.declared.reports.Report.{Report}
use Rattle.search.specs.declared.replaying.SecondStage.{SecondStage}
use Rattle.search.specs.declared.replaying.Outcome.{Outcome}
use Rattle.search.specs.declared.replaying.ReplayError.{ReplayError}
use Rattle.search.specs.declared.replaying.ReplayError.TheVariants.{OutOfMemory, Refused}
use Rattle.search.specs.declared.tallies.Tally.{Tally}
use Rattle.search.specs.Tallies.{Agrees}
use Rattle.search.specs.Book.{Book, report_of}
use Rattle.search.specs.Openings.{size_of, opening_book, whole_terms}
use Rattle.search.specs.Handovers.{handed_book}
use Rattle.search.specs.Runs.{Ask, ask_of, after_all, answers_to, Holds}

-- the second stage: the cost of its measure, and its calls
abbrev pub Second : Type 0
Second = Option (Cost × List Ask)

abbrev pub second_of : {N P : Type 0} → (N → Cost) → (P → List Vector) → Option (SecondStage N P) → Second
second_of cost offsets None = None
second_of cost offsets (Some s) = Some (cost s.measure, map (ask_of offsets) s.calls.now)

-- the book at the end, where it was b after the first stage
abbrev pub last_book : Setup → ListMeaning → Book → Second → Book
last_book s m b None = b
last_book s m b (Some stage) = after_all (handed_book s m stage.0 b) stage.1

-- what it answers in the second stage
abbrev pub last_answers : Setup → ListMeaning → Book → Second → List (Result Answer Fault)
last_answers s m b None = []
last_answers s m b (Some stage) = answers_to (handed_book s m stage.0 b) stage.1

-- what holds of the second stage
abbrev pub HoldsLast : Setup → ListMeaning → Book → Second → Type 0
HoldsLast s m b None = Unit {0}
HoldsLast s m b (Some stage) = Holds b.trials b.strips (handed_book s m stage.0 b) stage.1

-- a second stage was made: for every book that the search agreed with, its answers were added to others, and the report is its
pub record Finished (s : Setup) (m : ListMeaning) (cost next : Cost) (y : Tally) (more : List Ask) (old new : List (Result Answer Fault)) (r : Report) : Type 0 where
  pub answers : (b : Book) → Agrees (whole_terms s m cost) y b → new ≡ old ++ answers_to (handed_book s m next b) more
  pub report : (b : Book) → Agrees (whole_terms s m cost) y b → r ≡ report_of (after_all (handed_book s m next b) more)

-- a whole run: all answers and the report are the book's, and what holds of each stage
pub record Replayed (current : Grid) (m : ListMeaning) (cost : Cost) (q : BlockRequest) (qp range : ℤ) (xs ys : List ℤ) (asks : List Ask) (second : Second) (o : Outcome) : Type 0 where
  pub setup : Setup
  pub opened : SetupIs current (size_of m) q qp range xs ys setup
  pub answers : o.answers.items ≡ answers_to (opening_book setup m cost) asks ++ last_answers setup m (after_all (opening_book setup m cost) asks) second
  pub report : o.report ≡ report_of (last_book setup m (after_all (opening_book setup m cost) asks) second)
  pub first_stage : Holds 0 0 (opening_book setup m cost) asks
  pub second_stage : HoldsLast setup m (after_all (opening_book setup m cost) asks) second

-- how many calls a run makes
abbrev pub calls_in : List Ask → Second → ℕ
calls_in asks None = length asks
calls_in asks (Some stage) = length asks + length stage.1

-- a run of n calls is refused just where its opening is, by that fault; want of memory is told before anything is tried, and
-- only where there are answers to keep
abbrev pub Told : Result Outcome ReplayError → ℕ → Option Fault → (Outcome → Type 0) → Type 0
Told (Ok o) n f P = (f ≡ None) × P o
Told (Err OutOfMemory) n f P = 0 < n
Told (Err (Refused e)) n f P = f ≡ Some e
