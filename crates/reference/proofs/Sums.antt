-- The sum of the drawn list's rule, each part read back from its bits.
use Rattle.std.proofs.Common.{◌≡◌, ℕ, ◌<◌, ℤ, pos, ◌+ℤ◌, arith, w32, SFits, to_z}
use Rattle.std.proofs.lemmas.Int.{ints, to_z-of_z}
use Rattle.reference.proofs.TapSums.{back}
use Rattle.reference.specs.Bounds.{Within}

pub record Summed (p q c : ℤ) (r : ℕ) : Type 0 where
  pub two : SFits w32 (back (back p +ℤ back q) +ℤ back c)
  pub three : SFits w32 (back (back (back p +ℤ back q) +ℤ back c) +ℤ to_z w32 r)
  pub value : back (back (back (back p +ℤ back q) +ℤ back c) +ℤ to_z w32 r) ≡ p +ℤ q +ℤ c +ℤ pos r

pub summed : (p q c : ℤ) (r : ℕ) → Within 8388608 p → Within 8388608 q → Within 255 c → r < 256 → Summed p q c r
summed p q c r h k b few =
    let p' : SFits w32 p = omega (arith, ints) in
    let q' : SFits w32 q = omega (arith, ints) in
    let c' : SFits w32 c = omega (arith, ints) in
    let r' : to_z w32 r ≡ pos r = omega (arith, ints) in
    let s : SFits w32 (p +ℤ q) = omega (arith, ints) in
    let t : SFits w32 (p +ℤ q +ℤ c) = omega (arith, ints) in
    let u : SFits w32 (p +ℤ q +ℤ c +ℤ pos r) = omega (arith, ints) in
    record { two = simp to_z-of_z t; three = simp (to_z-of_z, r') u; value = simp (to_z-of_z, r') }
