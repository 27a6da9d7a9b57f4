-- The scaled lambda, and the rate part of a cost.
use Rattle.std.specs.Prelude.{ℕ, ◌+◌, ◌*◌, ◌/◌, ◌^◌, ◌≤◌, Bool, ◌&&◌, nat_le, nat_lt}
use Rattle.rate.specs.Greatest.{greatest}

-- the sixth power of l, times 8,000, is at most 4,913 times 2 to the power 84 + QP
abbrev pub Under : ℕ → ℕ → Type 0
Under qp l = l ^ 6 * 8000 ≤ 4913 * 2 ^ (84 + qp)

-- L(QP) as a number: the greatest l of which that holds
unfoldable pub scaled_lambda : ℕ → ℕ
scaled_lambda qp = greatest (λ l. nat_le (l ^ 6 * 8000) (4913 * 2 ^ (84 + qp))) (4913 * 2 ^ (84 + qp) + 1)

-- the rate part of R bits: floor(L(QP) * R / 65,536)
abbrev pub rate_part_at : ℕ → ℕ → ℕ
rate_part_at qp bits = scaled_lambda qp * bits / 65536

-- the test of the entry l at QP: it keeps the bound, and the next number does not
abbrev pub right : ℕ → ℕ → Bool
right qp l = nat_le (l ^ 6 * 8000) (4913 * 2 ^ (84 + qp)) && nat_lt (4913 * 2 ^ (84 + qp)) ((l + 1) ^ 6 * 8000)

-- the test that the entry l is no greater than that for QP 51
abbrev pub small : ℕ → ℕ → Bool
small qp l = nat_le l 5468703
