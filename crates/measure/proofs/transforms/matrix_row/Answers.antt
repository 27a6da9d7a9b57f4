-- The chunk of four in that place is a row of that square.
use Rattle.std.proofs.Common.{◌+◌, ◌*◌, ◌/◌, length, get_or, [], ap, arith}
use Rattle.measure.proofs.Chunks.{square_row}
use Rattle.measure.proofs.transforms.matrix_row.Goals as goal

pub returns-clause-value : goal.returns-clause-value
returns-clause-value c =
    let at = square_row c.args.strips.a.now c.args.strips.b.now _ _ c.args.n c.args.r c.args.strips.strips c.requires.0 c.requires.1 (ap (λ t. get_or t (c.args.r * (length c.args.strips.a.now / 16) + c.args.n) []) c.as_chunks.ensures.front) (ap (λ t. get_or t (c.args.r * (length c.args.strips.a.now / 16) + c.args.n) []) c.as_chunks-2.ensures.front) in
    let e = c.differences.ensures.value in
    cc (at 0 (omega arith), at 1 (omega arith), at 2 (omega arith), at 3 (omega arith))
