-- The vectors so far are near, and copied.
use Rattle.std.proofs.Common.{◌≡◌, ℕ, ◌<◌, get_or, pos}
use Rattle.settings.specs.Predicted.{vector, vector_in}
use Rattle.settings.proofs.Components.{Vetted}
use Rattle.settings.proofs.predicted.Predicted.new.Given as goal

abbrev pub invariant-loop-k : goal.invariant-loop-k
invariant-loop-k l =
    Vetted l.xs l.ys l.k ×
    ((j : ℕ) → j < l.k → vector_in l.vector-items j ≡ vector (get_or l.xs j (pos 0)) (get_or l.ys j (pos 0)))
