-- A 16-bit number read as signed, as the machine does it and as the format says it.
use Rattle.std.proofs.Common.{◌≡◌, ℕ, ◌+◌, ◌*◌, ◌<◌, ℤ, ap, ◌∙◌, arith, w16, to_z}
use Rattle.std.proofs.lemmas.Int.{ints}
use Rattle.std.proofs.lemmas.Bool.Decides.{nat_tests}
use Rattle.job.specs.Format.{signed16}

pub signed_is : (n : ℕ) → n < 65536 → to_z w16 n ≡ signed16 n
signed_is n h = grind (arith, ints, nat_tests)

-- from two bytes, low byte first
pub signed_bytes : (z : ℤ) (a b : ℕ) → a < 256 → b < 256 → z ≡ to_z w16 (a + b * 256) → z ≡ signed16 (a + 256 * b)
signed_bytes z a b p q e =
    let s : a + b * 256 ≡ a + 256 * b = omega arith in
    e ∙ signed_is (a + b * 256) (omega arith) ∙ ap signed16 s
