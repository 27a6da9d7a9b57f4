-- One square more, and all of them; four at most, so that the sum is small.
use Rattle.std.proofs.Common.{◌≡◌, ◌/◌, length, ap, ◌∙◌, arith}
use Rattle.measure.specs.Fours.{entries}
use Rattle.measure.specs.Transforms.{satd4, satd_at}
use Rattle.measure.specs.Totals.{total_step, total_done, strip_lengths}
use Rattle.measure.proofs.transforms.transformed_sum.Goals as goal

pub loop-n-preserved : goal.loop-n-preserved
loop-n-preserved c =
    total_step (satd_at c.args.strips.a.now c.args.strips.b.now) 32640 _ _ _ c.loop-n.invariant
    (c.square_cost-sum.ensures.value ∙ ap (λ x. satd4 (entries x)) c.matrix_at.ensures.value) c.square_cost-sum.ensures.most

pub overflow_add-sum : goal.overflow_add-sum
overflow_add-sum c = let s = strip_lengths c.args.strips.a.now c.args.strips.b.now c.args.strips.strips in omega (arith, c.loop-n.invariant.1, c.square_cost-sum.ensures.most)

pub returns : goal.returns
returns c =
    let all : c.loop-n.n ≡ length c.args.strips.a.now / 16 = omega arith in
    total_done (satd_at c.args.strips.a.now c.args.strips.b.now) 32640 _ _ _ c.loop-n.invariant all
