-- What a reference list means.
use Rattle.std.specs.Prelude.{◌≡◌, ℕ, ◌*◌, ◌/◌, ◌%◌, ◌<◌, ◌≤◌, Bool, ◌||◌, List, map, ℤ, pos, ◌+ℤ◌, ◌==◌}
use Rattle.std.specs.List.{range_with_len}
use Rattle.picture.specs.Sizes.{Size}

-- pictures of one size, and the sample of picture r at (X, Y), in quarter samples; the limits are part of the meaning
pub record ListMeaning : Type 0 where
  pub pictures : ℕ
  pub width : ℕ
  pub height : ℕ
  pub at : ℕ → ℤ → ℤ → ℕ
  pub many : (1 ≤ pictures) × (pictures ≤ 16)
  pub wide : Size width
  pub high : Size height
  pub byte : (r : ℕ) (X Y : ℤ) → at r X Y < 256
  pub past : (r : ℕ) (X Y : ℤ) → pictures ≤ r → at r X Y ≡ 0

-- sample k of rows of w samples, a whole sample apart, row by row from (X, Y) on
abbrev pub strip_at : ListMeaning → ℕ → ℤ → ℤ → ℕ → ℕ → ℕ
strip_at m r X Y w k = m.at r (X +ℤ pos (4 * (k % w))) (Y +ℤ pos (4 * (k / w)))

-- a strip: four such rows
unfoldable pub strip_of : ListMeaning → ℕ → ℤ → ℤ → ℕ → List ℕ
strip_of m r X Y w = map (strip_at m r X Y w) (range_with_len 0 (4 * w))

-- whether a strip has that many samples: four rows of 4, 8 or 16
abbrev pub is_strip : ℕ → Bool
is_strip n = n == 16 || (n == 32 || n == 64)
