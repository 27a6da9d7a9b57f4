-- Sizes of pictures and of lists of them.
use Rattle.std.specs.Prelude.{◌≡◌, ℕ, ◌%◌, ◌≤◌, Bool, false, ◌&&◌, ℤ, pos, negsuc, ◌==◌, nat_le}

-- a multiple of 16 from 16 to 1,920
abbrev pub Size : ℕ → Type 0
Size n = (16 ≤ n) × (n ≤ 1920) × (n % 16 ≡ 0)

-- whether a number is one
abbrev pub is_size : ℤ → Bool
is_size (pos n) = nat_le 16 n && (nat_le n 1920 && n % 16 == 0)
is_size (negsuc n) = false

-- whether a list may have that many pictures: 1 to 16
abbrev pub is_count : ℤ → Bool
is_count (pos n) = nat_le 1 n && nat_le n 16
is_count (negsuc n) = false
