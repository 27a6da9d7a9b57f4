-- The second stage that is made from the first.
use Rattle.std.specs.Prelude.{◌≡◌, ℕ, Bool, ◌&&◌}
use Rattle.rate.specs.declared.vectors.Vector.{Vector}
use Rattle.settings.specs.declared.setups.Setup.{Setup}
use Rattle.window.specs.declared.quarters.Quarter.{Quarter}
use Rattle.window.specs.Windows.{inside, quartered}
use Rattle.window.specs.Stages.{quarter, handed, whole_of}

-- whether a picture may be named and a vector lies in its window, in the first stage
abbrev pub is_inside : Setup → ℕ → Vector → Bool
is_inside s r v = (whole_of s).named r && inside (whole_of s) r v

-- the second stage about that vector, with the same setup
pub record Handed (s : Setup) (r : ℕ) (v : Vector) (q : Quarter) : Type 0 where
  pub candidate : q.handed ≡ quartered (whole_of s) (record { picture = r; vector = v })
  pub window : quarter q.handed.picture q.handed.vector ≡ handed (whole_of s) r v
  pub setup : q.setup ≡ s
