use Rattle.std.proofs.Common.{◌≡◌, ℕ, ◌*◌, ◌/◌, ◌%◌, ◌<◌, pos, ◌+ℤ◌}
use Rattle.std.specs.List.{HoldsAt}
use Rattle.picture.specs.Planes.{grid_of}
use Rattle.reference.proofs.reading.copy_rows.Given as goal

abbrev pub invariant-loop-r : goal.invariant-loop-r
invariant-loop-r l =
    (k : ℕ) → k < l.r * l.width → HoldsAt (λ v. v ≡ grid_of l.plane (pos l.column +ℤ pos (k % l.width)) (pos l.row +ℤ pos (k / l.width))) l.out k
