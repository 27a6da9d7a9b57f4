-- Searches over levels, by the middle rows: what they are refused by, and what they tell, in the search's own words.
use Rattle.std.specs.Prelude.{◌≡◌, List, [], ◌∷◌, Some, Option}
use Rattle.picture.specs.declared.faults.Fault.{Fault}
use Rattle.picture.specs.Planes.{grid_of}
use Rattle.rate.specs.declared.vectors.Vector.{Vector}
use Rattle.settings.specs.declared.setups.Setup.{Setup}
use Rattle.settings.specs.Setups.{SetupIs}
use Rattle.search.specs.declared.opening.Opening.{Opening}
use Rattle.search.specs.declared.replaying.Outcome.{Outcome}
use Rattle.search.specs.declared.reports.Report.{Report}
use Rattle.search.specs.Terms.{Terms}
use Rattle.search.specs.Book.{Book, held, least, report_of}
use Rattle.search.specs.Openings.{opening_book, opening_fault, size_of, whole_terms}
use Rattle.search.specs.Handovers.{handed_book}
use Rattle.search.specs.Replays.{Replayed}
use Rattle.search.specs.Runs.{after, walk}
use Rattle.search.specs.Walks.{Settled}
use Rattle.buyer.specs.declared.levels.Levels.{Levels}
use Rattle.buyer.specs.declared.middles.MiddleRows.{MiddleRows}
use Rattle.buyer.specs.Levels.{level_meaning}
use Rattle.buyer.specs.Middles.{middle_rows}

-- the fault of an opening
abbrev pub fault_of : Opening Levels MiddleRows → Option Fault
fault_of o = opening_fault o.current.size (level_meaning o.list) o.request o.qp o.range o.xs.now o.ys.now

-- the setup is what was asked for
abbrev pub IsSetup : Opening Levels MiddleRows → Setup → Type 0
IsSetup o s = SetupIs (grid_of o.current) (size_of (level_meaning o.list)) o.request o.qp o.range o.xs.now o.ys.now s

-- what the first stage goes by
abbrev pub first_terms : Opening Levels MiddleRows → Setup → Terms
first_terms o s = whole_terms s (level_meaning o.list) middle_rows

-- the book of a search that opened and walked
abbrev pub walked_book : Opening Levels MiddleRows → Setup → List Vector → Book
walked_book o s os = after (opening_book s (level_meaning o.list) middle_rows) (walk os)

-- it walked, handed over and closed: no offset from what it held costs less, and the report is the book's
pub record Walked (o : Opening Levels MiddleRows) (os : List Vector) (r : Report) : Type 0 where
  pub setup : Setup
  pub opened : IsSetup o setup
  pub settled : Settled (first_terms o setup) os (held (walked_book o setup os)) (least (walked_book o setup os))
  pub report : r ≡ report_of (handed_book setup (level_meaning o.list) middle_rows (walked_book o setup os))

-- a whole run: it walked, handed over, and walked other offsets
abbrev pub WalkedTwice : Opening Levels MiddleRows → List Vector → List Vector → Outcome → Type 0
WalkedTwice o far near told =
    Replayed (grid_of o.current) (level_meaning o.list) middle_rows o.request o.qp o.range o.xs.now o.ys.now (walk far ∷ []) (Some (middle_rows, walk near ∷ [])) told
