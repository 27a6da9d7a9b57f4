use Rattle.std.proofs.Common.{ℕ, ◌*◌, ◌/◌, ◌%◌, ◌<◌}
use Rattle.std.specs.List.{HoldsAt}
use Rattle.reference.proofs.extents.fill_rows.Given as goal

abbrev pub invariant-loop-row : goal.invariant-loop-row
invariant-loop-row g l =
    (k : ℕ) → k < l.row-counter * l.extent.width → HoldsAt (λ v. goal.F-post g l.value (k % l.extent.width) (k / l.extent.width) v) l.out k
