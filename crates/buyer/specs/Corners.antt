-- The corners of a square.
use Rattle.std.specs.Prelude.{ℕ, ◌≤◌, List, [], ◌∷◌, pos}
use Rattle.rate.specs.declared.vectors.Vector.{Vector}
use Rattle.pattern.specs.Offsets.{at}
use Rattle.pattern.specs.Patterns.{minus}

-- how far the corners may be from the middle
abbrev pub IsDistance : ℕ → Type 0
IsDistance k = (1 ≤ k) × (k ≤ 64)

-- those at the distance k: the upper two, then the lower two, each from the left
abbrev pub corners : ℕ → List Vector
corners k = at (minus k) (minus k) ∷ at (pos k) (minus k) ∷ at (minus k) (pos k) ∷ at (pos k) (pos k) ∷ []
