use Rattle.std.proofs.Common.{◌^◌, ◌<◌, pos, nat_abs, ap, ◌∙◌, arith, w32, SFits, rules}
use Rattle.std.specs.Int.{int_rem_euclid}
use Rattle.std.proofs.lemmas.Int.{ints, to_z-of_z}
use Rattle.reference.proofs.Sums.{summed}
use Rattle.reference.proofs.drawn.DrawnList.draw.Goals as goal

pub overflow_add-sum-2 : goal.overflow_add-sum-2
overflow_add-sum-2 c =
    let f : c.args.self.now.c < 2 ^ 8 = search rules in
    (summed c.scaled-across.result c.scaled-down.result c.from.result c.args.picture c.scaled-across.ensures.small c.scaled-down.ensures.small (rw c.from.ensures (omega (arith, ints))) (omega arith)).two

pub overflow_add-sum-3 : goal.overflow_add-sum-3
overflow_add-sum-3 c =
    let f : c.args.self.now.c < 2 ^ 8 = search rules in
    (summed c.scaled-across.result c.scaled-down.result c.from.result _ c.scaled-across.ensures.small c.scaled-down.ensures.small (rw c.from.ensures (omega (arith, ints))) (omega arith)).three

pub returns : goal.returns
returns c =
    let x = c.ranges.x in
    let y = c.ranges.y in
    let m : SFits w32 c.rem_euclid.result = search rules in
    let f : c.args.self.now.c < 2 ^ 8 = search rules in
    let s = (summed c.scaled-across.result c.scaled-down.result c.from.result c.args.picture c.scaled-across.ensures.small c.scaled-down.ensures.small (rw c.from.ensures (omega (arith, ints))) (omega arith)).value in
    let p = simp to_z-of_z at c.scaled-across.ensures.value in
    let q = simp to_z-of_z at c.scaled-down.ensures.value in
    simp to_z-of_z (ap nat_abs (c.rem_euclid.ensures.value ∙ ap (λ z. int_rem_euclid z (pos 256)) (s ∙ cc (p, q, c.from.ensures))))
