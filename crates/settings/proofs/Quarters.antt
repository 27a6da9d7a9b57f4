-- A whole number divided by 4, with floor.
use Rattle.std.proofs.Common.{◌≡◌, ℤ, pos, negsuc, arith}
use Rattle.std.specs.Int.{int_div_euclid}
use Rattle.std.proofs.lemmas.Int.{ints}
use Rattle.settings.specs.Centres.{Floor4}

floored : (z : ℤ) → Floor4 z (int_div_euclid z (pos 4))
floored (pos n) = (omega (arith, ints), omega (arith, ints))
floored (negsuc n) = (omega (arith, ints), omega (arith, ints))

pub floor_is : (z q : ℤ) → q ≡ int_div_euclid z (pos 4) → Floor4 z q
floor_is z q e = rw e (floored z)
