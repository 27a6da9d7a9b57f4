-- The order of a full round: by growing distance from the centre.
use Rattle.std.specs.Prelude.{◌≡◌, ℕ, ◌+◌, ◌*◌, ◌<◌, max, Bool, true, List, map, length, filter, ◌==◌, ◌≢◌, slice_index_or, unsigned_abs}
use Rattle.std.specs.List.{range_with_len, flat_map, ContainsAt as Has}
use Rattle.rate.specs.declared.vectors.Vector.{Vector}
use Rattle.pattern.specs.Offsets.{still, moved, span, grid}
use Rattle.window.specs.Windows.{Window, inside}

-- the greater of an offset's components, without their signs
abbrev pub distance : Vector → ℕ
distance o = max (unsigned_abs o.x) (unsigned_abs o.y)

-- whether an offset is at distance k
abbrev pub is_on : ℕ → Vector → Bool
is_on k o = distance o == k

-- ring k: of the square from -k to k, by rows, what is at distance k
unfoldable pub ring : ℕ → List Vector
ring k = filter (is_on k) (grid (span k))

-- the offsets of a full round: ring 0, ring 1, and so on as far as the window reaches
unfoldable pub round : ℕ → List Vector
round far = flat_map ring (range_with_len 0 (far + 1))

-- the vectors of a full round of picture r
abbrev pub round_of : Window → ℕ → List Vector
round_of w r = map (moved (w.centre r)) (round w.reach)

-- a list goes through the window of picture r: a square of 2 reach + 1 by as many
pub record Covers (w : Window) (r : ℕ) (vs : List Vector) : Type 0 where
  -- it has every vector of the window
  pub every : (v : Vector) → inside w r v ≡ true → Has vs v
  -- and no other
  pub only : (v : Vector) → Has vs v → inside w r v ≡ true
  -- no vector twice
  pub once : (i j : ℕ) → i < j → j < length vs → slice_index_or vs i still ≢ slice_index_or vs j still
  -- and so many in all
  pub many : length vs ≡ (2 * w.reach + 1) * (2 * w.reach + 1)
