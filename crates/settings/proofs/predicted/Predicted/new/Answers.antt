use Rattle.std.proofs.Common.{get_or, pos, w16, SFits, length, refl, rules}
use Rattle.std.proofs.lemmas.Int.{to_z-of_z}
use Rattle.settings.specs.Predicted.{arrays_rule, component_rules}
use Rattle.settings.proofs.Components.{vetted_more, none_of}
use Rattle.settings.proofs.Copies.{done, kept_more}
use Rattle.settings.proofs.predicted.Predicted.new.Goals as goal

pub loop-k-preserved : goal.loop-k-preserved
loop-k-preserved c =
    let x : SFits w16 (get_or c.args.xs.now c.loop-k.k (pos 0)) = search rules in
    let y : SFits w16 (get_or c.args.ys.now c.loop-k.k (pos 0)) = search rules in
    let told = simp to_z-of_z at c.in_ok-vector.ensures in (
      vetted_more _ _ _ c.loop-k.invariant.0 (search rules) (search rules) (told.0, (told.1.1, told.1.2)),
      kept_more _ _ c.loop-k.vector-items c.loop-k.k _ (search rules) told.1.0 c.loop-k.invariant.1,
    )

pub returns : goal.returns
returns c =
    let n = c.args.list.pictures in
    let d = done c.args.xs.now c.args.ys.now c.loop-k.vector-items n c.loop-k.k (search rules) (search rules) (search rules) (search rules) c.loop-k.invariant.0 c.loop-k.invariant.1 in
    (none_of (arrays_rule n (length c.args.xs.now) (length c.args.ys.now)) (component_rules c.args.xs.now c.args.ys.now) c.in_ok-vet_arrays.ensures.0 d.0, (refl, d.1.0))

pub invariant_of-result : goal.invariant_of-result
invariant_of-result c =
    let n = c.args.list.pictures in
    let d = done c.args.xs.now c.args.ys.now c.loop-k.vector-items n c.loop-k.k (search rules) (search rules) (search rules) (search rules) c.loop-k.invariant.0 c.loop-k.invariant.1 in
    record { few = c.args.list.many; near = d.1.1 }
