-- What a search of one stage goes by: its windows, and what each of its candidates is priced by.
use Rattle.std.specs.Prelude.{◌≡◌, ℕ, Bool, true}
use Rattle.reference.specs.Lists.{ListMeaning}
use Rattle.settings.specs.declared.setups.Setup.{Setup}
use Rattle.cost.specs.declared.candidates.Candidate.{Candidate}
use Rattle.cost.specs.Prices.{CostParts, cost_of}
use Rattle.cost.specs.Strips.{Cost, parts_of}
use Rattle.window.specs.Windows.{Window, inside, quartered}

pub record Terms : Type 0 where
  pub window : Window
  pub parts : Candidate → CostParts

-- those of a stage with these windows: a block and its settings, a list's meaning, a measure's cost
abbrev pub terms_of : Window → Setup → ListMeaning → Cost → Terms
terms_of w s m cost = record { window = w; parts = λ c. parts_of s m cost (quartered w c) }

-- the cost J of a candidate, whose vector is in the stage's unit
abbrev pub price : Terms → Candidate → ℕ
price t c = cost_of (t.parts c)

-- whether a candidate's vector lies in its picture's window
abbrev pub is_inside : Window → Candidate → Bool
is_inside w c = inside w c.picture c.vector

-- a candidate of a picture that may be named, inside its window
abbrev pub MayTry : Window → Candidate → Type 0
MayTry w c = (w.named c.picture ≡ true) × (is_inside w c ≡ true)
