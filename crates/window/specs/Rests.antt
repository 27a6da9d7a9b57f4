-- What is left of a full round.
use Rattle.std.specs.Prelude.{◌≡◌, ℕ, ◌+◌, ◌-◌, ◌*◌, ◌≤◌, true, cond, List, [], ◌++◌, map, pos, ◌-ℤ◌, filter, nat_lt}
use Rattle.std.specs.List.{range_with_len, flat_map}
use Rattle.rate.specs.declared.vectors.Vector.{Vector}
use Rattle.pattern.specs.Offsets.{at}
use Rattle.window.specs.Rounds.{is_on, ring}

-- the offset in row j and column i of the square of ring k, both from 0 to 2 k
abbrev pub spot_at : ℕ → ℕ → ℕ → Vector
spot_at k j i = at (pos i -ℤ pos k) (pos j -ℤ pos k)

-- row j of ring k, n columns from column i on
unfoldable pub row_from : ℕ → ℕ → ℕ → ℕ → List Vector
row_from k j i n = filter (is_on k) (map (spot_at k j) (range_with_len i n))

-- n rows of ring k from row j on
unfoldable pub rows_from : ℕ → ℕ → ℕ → List Vector
rows_from k j n = flat_map (λ (m : ℕ). row_from k m 0 (2 * k + 1)) (range_with_len j n)

-- the offsets from row j and column i of ring k on, as far as the window reaches
unfoldable pub rest_from : ℕ → ℕ → ℕ → ℕ → List Vector
rest_from far k j i =
    cond (nat_lt far k) []
    (row_from k j i (2 * k + 1 - i) ++ (rows_from k (j + 1) (2 * k - j) ++ flat_map ring (range_with_len (k + 1) (far - k))))

-- a row and a column of the square of ring k that lie on the ring
abbrev pub Stands : ℕ → ℕ → ℕ → Type 0
Stands k j i = (j ≤ 2 * k) × (i ≤ 2 * k) × (is_on k (spot_at k j i) ≡ true)
