-- One butterfly after the other gives the transformed numbers.
use Rattle.std.proofs.Common.{◌∙◌, w32, SFits, rules, slice_index_or, pos}
use Rattle.std.proofs.lemmas.Int.{to_z-of_z}
use Rattle.measure.specs.Turning.{turns}
use Rattle.measure.proofs.transforms.transform.Goals as goal

pub returns : goal.returns
returns c =
    let fa : SFits w32 (slice_index_or c.args.x 0 (pos 0)) = search rules in
    let fb : SFits w32 (slice_index_or c.args.x 1 (pos 0)) = search rules in
    let fc : SFits w32 (slice_index_or c.args.x 2 (pos 0)) = search rules in
    let fd : SFits w32 (slice_index_or c.args.x 3 (pos 0)) = search rules in
    let fs : SFits w32 c.cross-front_sum.result.0 = search rules in
    let ft : SFits w32 c.cross-front_sum.result.1 = search rules in
    let bs : SFits w32 c.cross-back_sum.result.0 = search rules in
    let bt : SFits w32 c.cross-back_sum.result.1 = search rules in
    let es : SFits w32 c.cross-even_sum.result.0 = search rules in
    let et : SFits w32 c.cross-even_sum.result.1 = search rules in
    let os : SFits w32 c.cross-odd_sum.result.0 = search rules in
    let ot : SFits w32 c.cross-odd_sum.result.1 = search rules in
    turns c.args.x _ _ _ _ _ _ _ _
    (simp to_z-of_z at c.cross-front_sum.ensures.0) (simp to_z-of_z at c.cross-front_sum.ensures.1)
    (simp to_z-of_z at c.cross-back_sum.ensures.0) (simp to_z-of_z at c.cross-back_sum.ensures.1)
    (to_z-of_z w32 _ es ∙ simp to_z-of_z at c.cross-even_sum.ensures.0) (to_z-of_z w32 _ et ∙ simp to_z-of_z at c.cross-even_sum.ensures.1)
    (to_z-of_z w32 _ ot ∙ simp to_z-of_z at c.cross-odd_sum.ensures.1) (to_z-of_z w32 _ os ∙ simp to_z-of_z at c.cross-odd_sum.ensures.0)
