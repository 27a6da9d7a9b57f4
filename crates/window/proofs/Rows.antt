-- The rows of a ring: which places lie on it, and what is left from a place on.
use Rattle.std.proofs.Common.{◌≡◌, ℕ, zero, suc, ◌+◌, ◌-◌, ◌*◌, ◌<◌, ◌≤◌, true, false, ltb, ◌⊎◌, List, [], ◌∷◌, ◌++◌, map, ℤ, pos, ◌-ℤ◌, filter, sym, refl, ap, ◌∙◌, inl, inr, ⊎_elim, append_assoc, arith}
use Rattle.std.specs.List.{range_with_len, flat_map}
use Rattle.std.proofs.lemmas.Int.{ints}
use Rattle.std.proofs.lemmas.Bool.{eq-eqb, ne_eqb, lt-ltb, le-ltb, cases_lt, both_ways}
use Rattle.rate.specs.declared.vectors.Vector.{Vector}
use Rattle.pattern.specs.Offsets.{at, span}
use Rattle.window.specs.Rounds.{is_on, ring, round}
use Rattle.window.specs.Rests.{spot_at, row_from, rows_from, rest_from, Stands}
use Rattle.pattern.specs.Joins.{joined_map, joined_same, map_map, kept_joined}

-- an outer row lies on the ring
pub on_row : (k j i : ℕ) → i ≤ 2 * k → (j ≡ 0) ⊎ (j ≡ 2 * k) → is_on k (spot_at k j i) ≡ true
on_row k j i h (inl e) = eq-eqb _ k (omega (arith, ints))
on_row k j i h (inr e) = eq-eqb _ k (omega (arith, ints))

-- so does an outer column
pub on_column : (k j i : ℕ) → j ≤ 2 * k → (i ≡ 0) ⊎ (i ≡ 2 * k) → is_on k (spot_at k j i) ≡ true
on_column k j i h (inl e) = eq-eqb _ k (omega (arith, ints))
on_column k j i h (inr e) = eq-eqb _ k (omega (arith, ints))

-- nothing else does
pub off_ring : (k j i : ℕ) → 0 < j → j < 2 * k → 0 < i → i < 2 * k → is_on k (spot_at k j i) ≡ false
off_ring k j i a b c d = ne_eqb _ k (λ e. omega (arith, ints))

-- ring k is its rows
pub ring_rows : (k : ℕ) → ring k ≡ rows_from k 0 (2 * k + 1)
unfolding ring row_from rows_from
ring_rows k =
    ap (filter (is_on k)) (joined_map (λ (y : ℤ). map (λ (x : ℤ). at x y) (span k)) (λ (m : ℕ). pos m -ℤ pos k) (range_with_len 0 (2 * k + 1))) ∙
    (kept_joined (is_on k) (λ (m : ℕ). map (λ (x : ℤ). at x (pos m -ℤ pos k)) (span k)) (range_with_len 0 (2 * k + 1)) ∙
    joined_same _ _ (range_with_len 0 (2 * k + 1))
    (λ m. ap (filter (is_on k)) (map_map (λ (x : ℤ). at x (pos m -ℤ pos k)) (λ (i : ℕ). pos i -ℤ pos k) (range_with_len 0 (2 * k + 1)))))

-- a place on the ring comes first of its row
pub row_first : (k j i n m : ℕ) → n ≡ suc m → is_on k (spot_at k j i) ≡ true → row_from k j i n ≡ spot_at k j i ∷ row_from k j (i + 1) m
unfolding row_from
row_first k j i n m e on = rw (e, on) refl

-- a place off the ring is passed over
pub row_off : (k j i m : ℕ) → is_on k (spot_at k j i) ≡ false → row_from k j i (suc m) ≡ row_from k j (i + 1) m
unfolding row_from
row_off k j i m off = rw off refl

-- in a row between, all up to the last column is passed over
pub row_skip : (k j n i : ℕ) → 0 < j → j < 2 * k → 0 < i → i + n ≡ 2 * k → row_from k j i (suc n) ≡ row_from k j (2 * k) 1
row_skip k j zero i a b c e = let h : i ≡ 2 * k = omega arith in rw h refl
row_skip k j (suc n) i a b c e =
    row_off k j i (suc n) (off_ring k j i a b c (omega arith)) ∙
    row_skip k j n (i + 1) a b (omega arith) (omega arith)

-- the next row comes first of the rows that are left
pub rows_first : (k j n m : ℕ) → n ≡ suc m → rows_from k j n ≡ row_from k j 0 (2 * k + 1) ++ rows_from k (j + 1) m
unfolding rows_from
rows_first k j n m e = rw e refl

-- what is left of the rings that follow, from the first place of the next
pub rings_first : (far k : ℕ) → flat_map ring (range_with_len k (far + 1 - k)) ≡ rest_from far k 0 0
unfolding rest_from
rings_first far k =
    ⊎_elim
    (λ (lt : far < k).
    let e : far + 1 - k ≡ 0 = omega arith in
    let t : ltb far k ≡ true = lt-ltb far k lt in
    rw (e, t) refl)
    (λ (le : k ≤ far).
    let e : far + 1 - k ≡ suc (far - k) = omega arith in
    let t : ltb far k ≡ false = le-ltb far k le in
    let n : 2 * k + 1 - 0 ≡ 2 * k + 1 = omega arith in
    let m : 2 * k - 0 ≡ 2 * k = omega arith in
    rw (e, t, n, m)
    (ap (λ l. l ++ flat_map ring (range_with_len (k + 1) (far - k)))
    (ring_rows k ∙ rows_first k 0 (2 * k + 1) (2 * k) (omega arith)) ∙
    append_assoc (row_from k 0 0 (2 * k + 1)) (rows_from k 1 (2 * k)) (flat_map ring (range_with_len (k + 1) (far - k)))))
    (cases_lt far k)

-- a row that is opened at its first place
rest_row : (far k j i : ℕ) (o : Vector) (rest : List Vector) → k ≤ far → row_from k j i (2 * k + 1 - i) ≡ o ∷ rest → rest_from far k j i ≡ o ∷ (rest ++ (rows_from k (j + 1) (2 * k - j) ++ flat_map ring (range_with_len (k + 1) (far - k))))
unfolding rest_from
rest_row far k j i o rest le e = rw (le-ltb far k le, e) refl

-- what is left from a place within reach
rest_opened : (far k j i : ℕ) → k ≤ far → rest_from far k j i ≡ row_from k j i (2 * k + 1 - i) ++ (rows_from k (j + 1) (2 * k - j) ++ flat_map ring (range_with_len (k + 1) (far - k)))
unfolding rest_from
rest_opened far k j i le = rw (le-ltb far k le) refl

-- along an outer row
pub rest_right : (far k j i : ℕ) → k ≤ far → i < 2 * k → (j ≡ 0) ⊎ (j ≡ 2 * k) → rest_from far k j i ≡ spot_at k j i ∷ rest_from far k j (i + 1)
rest_right far k j i le lt outer =
    rest_row far k j i _ _ le (row_first k j i (2 * k + 1 - i) (2 * k + 1 - (i + 1)) (omega arith) (on_row k j i (omega arith) outer)) ∙
    ap (λ l. spot_at k j i ∷ l) (sym (rest_opened far k j (i + 1) le))

-- across a row between, from its first column to its last
rest_jump : (far k j : ℕ) → k ≤ far → 0 < j → j < 2 * k → rest_from far k j 0 ≡ spot_at k j 0 ∷ rest_from far k j (2 * k)
rest_jump far k j le a b =
    let n : 2 * k ≡ suc (2 * k - 1) = omega arith in
    let m : 2 * k + 1 - 2 * k ≡ 1 = omega arith in
    let skip : row_from k j 1 (2 * k) ≡ row_from k j (2 * k) (2 * k + 1 - 2 * k) =
    ap (row_from k j 1) n ∙ (row_skip k j (2 * k - 1) 1 a b (omega arith) (omega arith) ∙ ap (row_from k j (2 * k)) (sym m)) in
    rest_row far k j 0 _ _ le
    (row_first k j 0 (2 * k + 1 - 0) (2 * k) (omega arith) (on_column k j 0 (omega arith) (inl refl)) ∙ ap (λ l. spot_at k j 0 ∷ l) skip) ∙
    ap (λ l. spot_at k j 0 ∷ l) (sym (rest_opened far k j (2 * k) le))

-- the last place of a row
rest_last : (far k j i : ℕ) → k ≤ far → j ≤ 2 * k → i ≡ 2 * k → rest_from far k j i ≡ spot_at k j i ∷ (rows_from k (j + 1) (2 * k - j) ++ flat_map ring (range_with_len (k + 1) (far - k)))
unfolding row_from
rest_last far k j i le h e =
    rest_row far k j i _ _ le (row_first k j i (2 * k + 1 - i) 0 (omega arith) (on_column k j i h (inr e)))

-- down to the next row
pub rest_down : (far k j i : ℕ) → k ≤ far → j < 2 * k → i ≡ 2 * k → rest_from far k j i ≡ spot_at k j i ∷ rest_from far k (j + 1) 0
rest_down far k j i le lt e =
    let n : 2 * k + 1 ≡ 2 * k + 1 - 0 = omega arith in
    rest_last far k j i le (omega arith) e ∙
    ap (λ l. spot_at k j i ∷ l)
    (ap (λ l. l ++ flat_map ring (range_with_len (k + 1) (far - k))) (rows_first k (j + 1) (2 * k - j) (2 * k - (j + 1)) (omega arith)) ∙
    (append_assoc (row_from k (j + 1) 0 (2 * k + 1)) (rows_from k (j + 1 + 1) (2 * k - (j + 1))) (flat_map ring (range_with_len (k + 1) (far - k))) ∙
    (ap (λ m. row_from k (j + 1) 0 m ++ (rows_from k (j + 1 + 1) (2 * k - (j + 1)) ++ flat_map ring (range_with_len (k + 1) (far - k)))) n ∙
    sym (rest_opened far k (j + 1) 0 le))))

-- out to the next ring
pub rest_out : (far k j i : ℕ) → k ≤ far → j ≡ 2 * k → i ≡ 2 * k → rest_from far k j i ≡ spot_at k j i ∷ rest_from far (k + 1) 0 0
unfolding rows_from
rest_out far k j i le f e =
    let n : 2 * k - j ≡ 0 = omega arith in
    let m : far - k ≡ far + 1 - (k + 1) = omega arith in
    rest_last far k j i le (omega arith) e ∙
    ap (λ l. spot_at k j i ∷ l)
    (ap (λ n. rows_from k (j + 1) n ++ flat_map ring (range_with_len (k + 1) (far - k))) n ∙
    (ap (λ n. flat_map ring (range_with_len (k + 1) n)) m ∙ rings_first far (k + 1)))

-- past the last ring nothing is left
pub rest_none : (far k j i : ℕ) → far < k → rest_from far k j i ≡ []
unfolding rest_from
rest_none far k j i lt = rw (lt-ltb far k lt) refl

-- at the first place all is left
pub rest_whole : (far : ℕ) → rest_from far 0 0 0 ≡ round far
unfolding round
rest_whole far =
    let e : far + 1 - 0 ≡ far + 1 = omega arith in
    sym (rings_first far 0) ∙ ap (λ n. flat_map ring (range_with_len 0 n)) e

-- a place of a row between is at one of its ends
ends : (k j i : ℕ) → Stands k j i → 0 < j → j < 2 * k → i < 2 * k → i ≡ 0
ends k j zero s a b c = refl
ends k j (suc i) s a b c = absurd (both_ways (is_on k (spot_at k j (suc i))) (off_ring k j (suc i) a b (omega arith) c) s.2)

-- from a place of a row between that is not its last to its last
pub rest_across : (far k j i : ℕ) → k ≤ far → Stands k j i → 0 < j → j < 2 * k → i < 2 * k → rest_from far k j i ≡ spot_at k j i ∷ rest_from far k j (2 * k)
rest_across far k j i le s a b c = rw (ends k j i s a b c) (rest_jump far k j le a b)
