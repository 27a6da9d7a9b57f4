-- The rate of a vector, in bits.
use Rattle.std.specs.Prelude.{ℕ, ◌+◌, Bool, cond, ◌&&◌, ℤ, Some, None, Option, ◌==◌, nat_le, nat_lt}
use Rattle.rate.specs.Lengths.{is_tabled, code_number, code_length}

-- the bits of a picture's number: none where there is one picture only
abbrev pub number_bits : ℕ → ℕ → ℕ
number_bits picture pictures = cond (pictures == 1) 0 (code_length picture)

-- the bits of a vector that differs by dx and dy from the predicted one, and of its picture's number
abbrev pub rate_bits : ℤ → ℤ → ℕ → ℕ → ℕ
rate_bits dx dy picture pictures =
    code_length (code_number dx) + code_length (code_number dy) + number_bits picture pictures

-- whether a list, of 16 pictures at most, has a picture of that number
abbrev pub is_listed : ℕ → ℕ → Bool
is_listed picture pictures = nat_lt picture pictures && nat_le pictures 16

-- the bits of a picture's number, where the list has it
abbrev pub number_length : ℕ → ℕ → Option ℕ
number_length picture pictures = cond (is_listed picture pictures) (Some (number_bits picture pictures)) None

-- the rate, where the table has both differences and the list the picture
abbrev pub vector_rate : ℤ → ℤ → ℕ → ℕ → Option ℕ
vector_rate dx dy picture pictures =
    cond (is_tabled dx && (is_tabled dy && is_listed picture pictures)) (Some (rate_bits dx dy picture pictures)) None
