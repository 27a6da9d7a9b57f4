-- The quotient with floor, which fits 16 bits.
use Rattle.std.proofs.Common.{◌≡◌, ℤ, pos, ◌+ℤ◌, ap, ◌∙◌, arith}
use Rattle.std.specs.Int.{int_div_euclid}
use Rattle.std.proofs.lemmas.Int.{ints}
use Rattle.settings.specs.Centres.{centre_of, Floor4}
use Rattle.settings.proofs.Quarters.{floor_is}
use Rattle.settings.proofs.centres.centre.Goals as goal

pub returns : goal.returns
returns c =
    let q : c.div_euclid.result ≡ centre_of c.args.p =
    c.div_euclid.ensures ∙ ap (λ (z : ℤ). int_div_euclid z (pos 4)) (omega (arith, ints)) in
    let f : Floor4 (c.args.p +ℤ pos 2) c.div_euclid.result = floor_is _ _ q in
    record { value = omega (arith, ints); floor = (omega (arith, ints), omega (arith, ints)) }
