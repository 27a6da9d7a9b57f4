use Rattle.std.proofs.Common.{◌≡◌, ℕ, ◌+◌, ◌*◌, ◌≤◌, length, get_or, pos, ◌+ℤ◌, ap, ◌∙◌, arith}
use Rattle.picture.specs.Planes.{grid_of}
use Rattle.reference.proofs.Copies.{row_cut, row_end}
use Rattle.reference.proofs.Filling.{row_more}
use Rattle.reference.proofs.reading.copy_rows.Goals as goal

pub loop-r-preserved : goal.loop-r-preserved
loop-r-preserved c =
    let p = c.args.plane.now in
    let w : ℕ = c.args.extent.width in
    let fits : c.loop-r.r * w + w ≤ length c.loop-r.out = omega (arith, row_end c.loop-r.r c.args.extent.height w (omega arith)) in
    let long : length c.copy_from_slice.new.self ≡ w = omega (arith, c.copy_from_slice.ensures.len) in
    row_more (λ i r v. v ≡ grid_of p (pos c.args.column +ℤ pos i) (pos c.args.row +ℤ pos r)) c.loop-r.out c.copy_from_slice.new.self c.loop-r.r w _ fits long
    (λ i lt d. ap (λ xs. get_or xs i d) c.copy_from_slice.ensures.after ∙ row_cut p.size.width p.size.height p.samples.now c.args.column c.args.row c.loop-r.r w i _ _ d (omega arith) (omega arith) lt (omega arith) (omega arith) (omega (arith, p.full)))
    c.loop-r.invariant
