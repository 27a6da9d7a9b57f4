-- Code numbers of differences, and the lengths of their codes in bits.
use Rattle.std.specs.Prelude.{◌≡◌, ℕ, ◌+◌, ◌-◌, ◌*◌, ◌/◌, ◌^◌, ◌<◌, ◌≤◌, Bool, cond, ◌&&◌, ℤ, pos, negsuc, Some, None, Option, ◌==◌, nat_le, nat_lt, unsigned_abs}
use Rattle.rate.specs.Greatest.{greatest}

-- n is floor(log2(x))
pub record Log2 (x n : ℕ) : Type 0 where
  pub low : 2 ^ n ≤ x
  pub high : x < 2 ^ (n + 1)

-- the code number of a difference d: 2d - 1 for d > 0, and -2d otherwise (0 - 1 is 0 here)
abbrev pub code_number : ℤ → ℕ
code_number (pos d) = 2 * d - 1
code_number (negsuc d) = 2 * (d + 1)

-- the code number k has a code of this many bits: 2 * floor(log2(k + 1)) + 1
pub record CodeLength (k bits : ℕ) : Type 0 where
  pub log : ℕ
  pub is_log : Log2 (k + 1) log
  pub is_length : bits ≡ 2 * log + 1

-- floor(log2(x)) as a number, for x from 1
abbrev pub log2 : ℕ → ℕ
log2 x = greatest (λ n. nat_le (2 ^ n) x) x

-- that many bits as a number
abbrev pub code_length : ℕ → ℕ
code_length k = 2 * log2 (k + 1) + 1

-- whether the table has a difference: -261 to 261
abbrev pub is_tabled : ℤ → Bool
is_tabled d = nat_le (unsigned_abs d) 261

-- the length of the code of a difference that the table has
abbrev pub difference_length : ℤ → Option ℕ
difference_length d = cond (is_tabled d) (Some (code_length (code_number d))) None

-- the code number of the difference at a place of the table, which begins at -261
abbrev pub placed : ℕ → ℕ
placed i = cond (nat_lt 261 i) (2 * (i - 261) - 1) (2 * (261 - i))

-- the test of a length x of the code number k: x is odd, and half of it is the logarithm
abbrev pub fitting : ℕ → ℕ → Bool
fitting k x = x == 2 * (x / 2) + 1 && (nat_le (2 ^ (x / 2)) (k + 1) && nat_lt (k + 1) (2 ^ (x / 2 + 1)))

-- the test of the entry x at the place i
abbrev pub right : ℕ → ℕ → Bool
right i x = fitting (placed i) x
