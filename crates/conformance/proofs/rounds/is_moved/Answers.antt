-- Vectors are the same where both components are.
use Rattle.std.proofs.Common.{◌≡◌, sym, ◌+ℤ◌, ap, refl, w16, SFits, rules}
use Rattle.std.proofs.lemmas.Int.{to_z-of_z}
use Rattle.rate.specs.declared.vectors.Vector.{Vector}
use Rattle.pattern.specs.Offsets.{moved}
use Rattle.conformance.proofs.rounds.is_moved.Goals as goal

same : (v p o : Vector) → v.x ≡ p.x +ℤ o.x → v.y ≡ p.y +ℤ o.y → v ≡ moved p o
same v p o e f = rw (sym e, sym f) refl

pub returns-then-across : goal.returns-then-across
returns-then-across c =
    let a : SFits w16 c.args.vector.x = search rules in
    let b : SFits w16 c.args.vector.y = search rules in
    let d : SFits w16 c.args.from.x = search rules in
    let e : SFits w16 c.args.from.y = search rules in
    let f : SFits w16 c.args.offset.x = search rules in
    let g : SFits w16 c.args.offset.y = search rules in
    let across = rw (to_z-of_z, to_z-of_z, to_z-of_z) at c.if-across.ensures in
    let down = rw (to_z-of_z, to_z-of_z, to_z-of_z) at c.is_sum-down.ensures in
    (λ t. same c.args.vector c.args.from c.args.offset (across.0 refl) (down.0 t), λ e. down.1 (ap (λ v. v.y) e))
