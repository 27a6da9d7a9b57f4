-- A strip has 64 samples at most, whichever of the two are priced.
use Rattle.std.proofs.Common.{arith, rules}
use Rattle.measure.specs.Strips.{Bytes}
use Rattle.measure.specs.Totals.{asked_sad_most}
use Rattle.measure.proofs.asking.sad.Goals as goal

pub returns-clause-most : goal.returns-clause-most
returns-clause-most c =
    let a = c.args.a.now in
    let b = c.args.b.now in
    let x : Bytes a = search rules in
    let y : Bytes b = search rules in
    omega (arith, c.price.ensures, asked_sad_most a b x y, asked_sad_most a a x x, asked_sad_most b b y y)
