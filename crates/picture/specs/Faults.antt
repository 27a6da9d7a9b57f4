-- Faults: the numbers printed, which fault is given where several apply, and what an answer says of it.
use Rattle.std.specs.Prelude.{◌≡◌, ℕ, Bool, cond, not, List, [], ◌∷◌, ℤ, Some, None, Ok, Err, Option, Result}
use Rattle.picture.specs.declared.faults.Row.{Row}
use Rattle.picture.specs.declared.faults.Row.TheVariants as rows
use Rattle.picture.specs.declared.faults.Layer.{Layer}
use Rattle.picture.specs.declared.faults.Layer.TheVariants as layers
use Rattle.picture.specs.declared.faults.Fault.{Fault}

-- the number printed for a row
abbrev pub row_number : Row → ℕ
row_number rows.PictureSize = 1
row_number rows.PictureCount = 2
row_number rows.ArrayLength = 3
row_number rows.ByteLength = 4
row_number rows.BlockShape = 5
row_number rows.BlockPlace = 6
row_number rows.SizeMismatch = 7
row_number rows.Qp = 8
row_number rows.SearchRange = 9
row_number rows.PredictedVector = 10
row_number rows.PictureNumber = 11
row_number rows.OutsideWindow = 12
row_number rows.TrialLimit = 13

-- the number printed for a layer
abbrev pub layer_number : Layer → ℕ
layer_number layers.CurrentPicture = 1
layer_number layers.ReferenceList = 2
layer_number layers.Block = 3
layer_number layers.Settings = 4
layer_number layers.Search = 5
layer_number layers.JobFile = 6

abbrev pub fault : Row → Layer → ℤ → Fault
fault r l v = record { row = r; layer = l; value = v }

-- a rule: whether it applies, and the fault that it then gives
pub record Rule : Type 0 where
  pub applies : Bool
  pub gives : Fault

-- the fault of the first rule that applies
abbrev pub first : List Rule → Option Fault
first [] = None
first (r ∷ rs) = cond r.applies (Some r.gives) (first rs)

-- the fault given unless a rule is kept
abbrev pub unless : Bool → Row → Layer → ℤ → Option Fault
unless kept r l v = first (record { applies = not kept; gives = fault r l v } ∷ [])

-- the first of two faults that is there
abbrev pub earlier : Option Fault → Option Fault → Option Fault
earlier (Some f) g = Some f
earlier None g = g

-- a call is refused just where a rule applies, with that rule's fault; else it gives what P says
abbrev pub Answers : {A : Type 0} → Result A Fault → Option Fault → (A → Type 0) → Type 0
Answers (Ok v) f P = (f ≡ None) × P v
Answers (Err e) f P = f ≡ Some e
