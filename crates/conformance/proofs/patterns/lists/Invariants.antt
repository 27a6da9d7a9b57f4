-- The offsets so far are the pattern's.
use Rattle.std.proofs.Common.{◌≡◌, ℕ, ◌<◌, slice_index_or}
use Rattle.pattern.specs.Offsets.{still}
use Rattle.conformance.proofs.patterns.lists.Given as goal

abbrev pub invariant-loop-i : goal.invariant-loop-i
invariant-loop-i g l =
    (k : ℕ) → k < l.i → slice_index_or (g.P.Pattern.offsets l.pattern) k still ≡ slice_index_or l.offsets k still
