-- Rows of whole samples.
use Rattle.std.specs.Prelude.{◌≡◌, ℕ, ◌+◌, ◌≤◌, ℤ, pos}

-- z is the whole number n, and so many from there on lie below the size
abbrev pub StartsAt : ℤ → ℕ → ℕ → ℕ → Type 0
StartsAt z span size n = (z ≡ pos n) × (n + span ≤ size)
