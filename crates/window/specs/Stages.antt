-- The windows of both stages.
use Rattle.std.specs.Prelude.{ℕ, Some, None, Option, ◌==◌, nat_lt}
use Rattle.rate.specs.declared.vectors.Vector.{Vector}
use Rattle.settings.specs.declared.predicted.Predicted.{Predicted}
use Rattle.settings.specs.declared.setups.Setup.{Setup}
use Rattle.settings.specs.Centres.{centre_in}
use Rattle.settings.specs.Predicted.{vector_at}
use Rattle.pattern.specs.Offsets.{still}
use Rattle.window.specs.Windows.{Window, in_quarters}

-- the first stage, in whole samples: each of n pictures, as far as the search range from the centre of its predicted vector
abbrev pub whole : ℕ → (ℕ → Vector) → ℕ → Window
whole n predicted far =
    record { named = λ r. nat_lt r n; centre = λ r. centre_in (predicted r); reach = far; scale = 4 }

-- the second stage, in quarter samples: one picture, at most 3 from the vector v
abbrev pub quarter : ℕ → Vector → Window
quarter picture v = record { named = λ r. (r == picture); centre = λ _. v; reach = 3; scale = 1 }

-- the second stage that follows where a window's vector v of a picture is handed over
abbrev pub handed : Window → ℕ → Vector → Window
handed w picture v = quarter picture (in_quarters w v)

-- a vector that may be missing, (0, 0) if it is
abbrev pub or_still : Option Vector → Vector
or_still (Some v) = v
or_still None = still

-- the predicted vector of picture r, (0, 0) if there is no such picture
abbrev pub predicted_at : Predicted → ℕ → Vector
predicted_at p r = or_still (vector_at p.pictures p.vectors r)

-- the first stage of a setup
abbrev pub whole_of : Setup → Window
whole_of s = whole s.predicted.pictures (predicted_at s.predicted) s.range.value
