-- The entries stay small, and half their sum is the cost.
use Rattle.std.proofs.Common.{◌≡◌, ◌*◌, ap, ◌∙◌, arith, rules}
use Rattle.measure.specs.Fours.{entries}
use Rattle.measure.specs.Turning.{done}
use Rattle.measure.proofs.Halves.{exact}
use Rattle.measure.proofs.Steps.{cost_is, near_steps}
use Rattle.measure.proofs.transforms.square_cost.Goals as goal

pub transform_rows-turned-requires : goal.transform_rows-turned-requires
transform_rows-turned-requires c = search (rules, near_steps)

pub matrix_size-requires : goal.matrix_size-requires
matrix_size-requires c = search (rules, near_steps)

pub returns : goal.returns
returns c =
    let d : c.transform_rows-turned.result ≡ done c.args.x = search rules in
    let v = cost_is c.args.x c.transform_rows-turned.result c.matrix_size.result d c.matrix_size.ensures.value in
    record { value = v; exact = ap (λ n. 2 * n) v ∙ exact (entries c.args.x); most = omega (arith, c.matrix_size.ensures.most) }
