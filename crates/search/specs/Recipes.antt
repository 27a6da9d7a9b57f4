-- Recipes: lists of calls that end at the first refusal.
use Rattle.std.specs.Prelude.{◌≡◌, ℕ, ◌+◌, ◌-◌, ◌<◌, ◌≤◌, true, List, [], ◌∷◌, ◌++◌, map, ℤ, pos, Some, None, Option, Ok, Err, Result, slice_index_or}
use Rattle.std.specs.List.{range_with_len}
use Rattle.picture.specs.declared.faults.Fault.{Fault}
use Rattle.picture.specs.Planes.{Grid}
use Rattle.reference.specs.Lists.{ListMeaning}
use Rattle.block.specs.declared.places.BlockRequest.{BlockRequest}
use Rattle.settings.specs.declared.setups.Setup.{Setup}
use Rattle.settings.specs.Setups.{SetupIs}
use Rattle.cost.specs.Strips.{Cost}
use Rattle.rate.specs.declared.vectors.Vector.{Vector}
use Rattle.pattern.specs.Patterns.{cross, square, rings, hexagon, diamond, eight}
use Rattle.window.specs.Windows.{inside}
use Rattle.window.specs.Stages.{whole_of}
use Rattle.search.specs.declared.calls.Answer.{Answer}
use Rattle.search.specs.declared.reports.Report.{Report}
use Rattle.search.specs.declared.tallies.Tally.{Tally}
use Rattle.search.specs.Terms.{Terms, price}
use Rattle.search.specs.Book.{Book, least, report_of}
use Rattle.search.specs.Tallies.{Agrees}
use Rattle.search.specs.Calls.{at_picture}
use Rattle.search.specs.Openings.{size_of, opening_book, whole_terms}
use Rattle.search.specs.Handovers.{handed_book}
use Rattle.search.specs.Runs.{Ask, try, offer, sweep, walk, full, after_all, answers_to, Holds}

-- the first refusal among answers
abbrev pub first_refusal : List (Result Answer Fault) → Option Fault
first_refusal [] = None
first_refusal (Ok x ∷ rs) = first_refusal rs
first_refusal (Err f ∷ rs) = Some f

-- calls were made up to the first refusal: if there was none the search agrees with the book after all of them
abbrev pub Followed : {X : Type 0} → Terms → Tally → Tally → List Ask → Result X Fault → Type 0
Followed t y z asks (Ok _) = (b : Book) → Agrees t y b → (first_refusal (answers_to b asks) ≡ None) × Agrees t z (after_all b asks)
Followed t y z asks (Err f) = (b : Book) → Agrees t y b → first_refusal (answers_to b asks) ≡ Some f

-- the calls of the exhaustive recipe: a full round of each picture
abbrev pub full_asks : Setup → List Ask
full_asks s = map (λ (r : ℕ). full (pos r)) (range_with_len 0 s.predicted.pictures)

-- those of the fast recipe: the centres of the pictures from 1 on, the proposals in each picture, five patterns
abbrev pub centre_ask : Setup → ℕ → Ask
centre_ask s r = try (pos (r + 1)) ((whole_of s).centre (r + 1))

abbrev pub proposal_ask : List ℤ → List ℤ → ℕ → Ask
proposal_ask xs ys r = offer (pos r) xs ys

abbrev pub pattern_asks : ℕ → List Ask
pattern_asks w = sweep (cross w) ∷ sweep square ∷ sweep (rings w) ∷ walk hexagon ∷ walk diamond ∷ []

-- one of them, by its place
abbrev pub pattern_ask : ℕ → ℕ → Ask
pattern_ask w k = slice_index_or (pattern_asks w) k (walk diamond)

abbrev pub fast_asks : List ℤ → List ℤ → Setup → List Ask
fast_asks xs ys s =
    map (centre_ask s) (range_with_len 0 (s.predicted.pictures - 1)) ++
    (map (proposal_ask xs ys) (range_with_len 0 s.predicted.pictures) ++ pattern_asks s.range.value)

-- those of the second stage, of either recipe
abbrev pub eight_asks : List Ask
eight_asks = sweep (eight 2) ∷ sweep (eight 1) ∷ []

abbrev pub eight_ask : ℕ → Ask
eight_ask k = slice_index_or eight_asks k (sweep (eight 1))

-- what a recipe answers: the first refusal, else the report
abbrev pub unless_refused : {X : Type 0} → Option Fault → X → Result X Fault
unless_refused None x = Ok x
unless_refused (Some f) x = Err f

-- a search was handed over, the eights were swept, and the search closed: for every book that it agreed with
abbrev pub Refined : Setup → ListMeaning → Cost → Cost → Tally → Result Report Fault → Type 0
Refined s m cost next y r =
    (b : Book) → Agrees (whole_terms s m cost) y b →
    r ≡ unless_refused (first_refusal (answers_to (handed_book s m next b) eight_asks)) (report_of (after_all (handed_book s m next b) eight_asks))

-- the book of a recipe after its first stage
abbrev pub stage_book : Setup → ListMeaning → Cost → List Ask → Book
stage_book s m cost asks = after_all (opening_book s m cost) asks

-- a recipe was followed: its answer is that of the book for its calls, and what holds of any run holds of each stage
pub record Follows (current : Grid) (m : ListMeaning) (cost next : Cost) (q : BlockRequest) (qp range : ℤ) (xs ys : List ℤ) (asks : Setup → List Ask) (r : Result Report Fault) : Type 0 where
  pub setup : Setup
  pub opened : SetupIs current (size_of m) q qp range xs ys setup
  pub answer :
      r ≡ unless_refused
      (first_refusal (answers_to (opening_book setup m cost) (asks setup) ++ answers_to (handed_book setup m next (stage_book setup m cost (asks setup))) eight_asks))
      (report_of (after_all (handed_book setup m next (stage_book setup m cost (asks setup))) eight_asks))
  pub first_stage : Holds 0 0 (opening_book setup m cost) (asks setup)
  pub second_stage : Holds (stage_book setup m cost (asks setup)).trials (stage_book setup m cost (asks setup)).strips (handed_book setup m next (stage_book setup m cost (asks setup))) eight_asks

-- the exhaustive recipe: no vector of any picture's window costs less than the one handed over
pub record Exhausts (current : Grid) (m : ListMeaning) (cost next : Cost) (q : BlockRequest) (qp range : ℤ) (xs ys : List ℤ) (r : Result Report Fault) : Type 0 where
  pub follows : Follows current m cost next q qp range xs ys full_asks r
  pub searched : (report : Report) → r ≡ Ok report → (p : ℕ) (v : Vector) → p < follows.setup.predicted.pictures → inside (whole_of follows.setup) p v ≡ true →
      least (stage_book follows.setup m cost (full_asks follows.setup)) ≤ price (whole_terms follows.setup m cost) (at_picture p v)

-- a recipe whose opening a row turns away answers that fault; of any other P holds
abbrev pub Begun : Option Fault → Result Report Fault → (Result Report Fault → Type 0) → Type 0
Begun None r P = P r
Begun (Some f) r P = r ≡ Err f
