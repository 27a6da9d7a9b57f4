-- What is left of a job's bytes after its current picture.
use Rattle.std.proofs.Common.{◌≡◌, ℕ, ◌+◌, ◌-◌, ◌*◌, mul_comm, mul-add, arith}

-- the pictures of the list, where one has p bytes
pub rest_is : (len from p n : ℕ) → len ≡ from + p * (n + 1) → len - (from + p) ≡ n * p
rest_is len from p n e = omega (arith, e, mul-add p n 1, mul_comm n p)
