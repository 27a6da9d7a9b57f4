use Rattle.std.proofs.Common.{◌≡◌, ℕ, ◌+◌, ◌*◌, ◌≤◌, length, arith, length-drop, length-take}
use Rattle.reference.proofs.Copies.{row_end}
use Rattle.reference.proofs.Filling.{row_more}
use Rattle.reference.proofs.extents.fill_rows.Goals as goal

pub loop-row-preserved : goal.loop-row-preserved
loop-row-preserved g c =
    let w : ℕ = c.args.extent.width in
    let fits : c.loop-row.row-counter * w + w ≤ length c.loop-row.out = omega (arith, row_end c.loop-row.row-counter c.args.extent.height w (omega arith)) in
    let long : length c.fill_row.new.row ≡ w = omega (arith, simp (length-take, length-drop) at c.fill_row.auto.row) in
    row_more (λ column row v. goal.F-post g c.args.value column row v) c.loop-row.out c.fill_row.new.row c.loop-row.row-counter w _ fits long
    (λ i lt d. c.fill_row.ensures i (simp (length-take, length-drop) (omega arith)) d)
    c.loop-row.invariant
