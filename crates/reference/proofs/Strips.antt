-- A strip as a list, and its length.
use Rattle.std.proofs.Common.{◌≡◌, ℕ, ◌*◌, ◌/◌, ◌<◌, ◌≤◌, true, List, length, get_or, ℤ, arith}
use Rattle.std.proofs.lemmas.List.FromFn.{fill_by_all}
use Rattle.std.proofs.lemmas.Bool.Decides.{nat_tests}
use Rattle.reference.specs.Lists.{ListMeaning, is_strip, strip_at, strip_of}

pub strip_all : (m : ListMeaning) (r : ℕ) (X Y : ℤ) (w : ℕ) (out : List ℕ) → length out ≡ 4 * w → ((k : ℕ) → k < length out → get_or out k 0 ≡ strip_at m r X Y w k) → out ≡ strip_of m r X Y w
unfolding strip_of
strip_all m r X Y w out long inv = fill_by_all (strip_at m r X Y w) out (4 * w) 0 long (λ k lt. inv k (omega arith))

-- the number of a strip's samples
pub strip_size : (n : ℕ) → is_strip n ≡ true → (16 ≤ n) × (n ≤ 64) × (n ≡ 4 * (n / 4)) × (4 ≤ n / 4) × (n / 4 ≤ 16)
strip_size n e = (grind (arith, nat_tests), grind (arith, nat_tests), grind (arith, nat_tests), grind (arith, nat_tests), grind (arith, nat_tests))
