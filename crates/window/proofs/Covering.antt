-- A full round has every vector of the window, no other, each once.
use Rattle.std.proofs.Common.{◌≡◌, ℕ, zero, suc, ◌+◌, ◌-◌, ◌*◌, ◌<◌, ◌≤◌, true, ◌⊎◌, List, ◌∷◌, ◌++◌, map, length, ℤ, pos, ◌+ℤ◌, ◌-ℤ◌, nat_abs, sym, refl, ap, ◌∙◌, subst, inl, inr, add-mul, mul-add, arith, length-append}
use Rattle.std.specs.List.{range_with_len, flat_map, AllByRecursion}
use Rattle.std.proofs.lemmas.List.FromFn.{length-range_with_len}
use Rattle.std.proofs.ByRecursion.{all-has, all_kept_by, All-map, All-weaker, kept_by_passes}
use Rattle.std.proofs.lemmas.List.{length-map}
use Rattle.std.proofs.lemmas.Int.{ints}
use Rattle.std.proofs.lemmas.Bool.{and_from, and_parts, eq-eqb, eqb-true, le-leb, leb-true}
use Rattle.rate.specs.declared.vectors.Vector.{Vector}
use Rattle.pattern.specs.Offsets.{at, still, moved, span, grid}
use Rattle.window.specs.Windows.{Window, inside, inside_across, inside_down}
use Rattle.window.specs.Rounds.{distance, is_on, ring, round, round_of, Covers}
use Rattle.window.specs.Rests.{spot_at, row_from, rows_from}
use Rattle.pattern.specs.Joins.{joined_more, all_joined, all_counted, length_joined, kept_all}
use Rattle.window.proofs.Members.{In, in_joined, in_map, in_kept, in_counting, has_in, Fresh, fresh_joined, fresh_counted, fresh_kept, fresh_map, fresh_once}
use Rattle.window.proofs.Rows.{on_row, on_column, ring_rows, row_first, row_skip, rows_first}

-- no other: all of ring k is at distance k
ring_on : (k : ℕ) → AllByRecursion (λ o. distance o ≡ k) (ring k)
unfolding ring
ring_on k =
    All-weaker (λ o. is_on k o ≡ true) (λ o. distance o ≡ k) (λ o t. eqb-true _ k t) (ring k) (kept_by_passes (is_on k) (grid (span k)))

pub round_near : (far : ℕ) → AllByRecursion (λ o. distance o ≤ far) (round far)
unfolding round
round_near far =
    all_joined (λ o. distance o ≤ far) ring 0 (far + 1)
    (λ k l m. All-weaker (λ o. distance o ≡ k) (λ o. distance o ≤ far) (λ o e. omega arith) (ring k) (ring_on k))

-- every: each component from -k to k is in the span
span_has : (k : ℕ) (z : ℤ) → nat_abs z ≤ k → In z (span k)
span_has k z h =
    let i : ℕ = nat_abs (z +ℤ pos k) in
    let e : pos i -ℤ pos k ≡ z = omega (arith, ints) in
    subst (λ y. In y (span k)) e (in_map (λ (m : ℕ). pos m -ℤ pos k) i (range_with_len 0 (2 * k + 1)) (in_counting i 0 (2 * k + 1) (omega arith) (omega (arith, ints))))

ring_has : (k : ℕ) (o : Vector) → distance o ≡ k → In o (ring k)
unfolding ring
ring_has k o e =
    in_kept (is_on k) o (grid (span k)) (eq-eqb _ k e)
    (in_joined (λ (y : ℤ). map (λ (x : ℤ). at x y) (span k)) o.y o (span k) (span_has k o.y (omega arith))
    (in_map (λ (x : ℤ). at x o.y) o.x (span k) (span_has k o.x (omega arith))))

pub round_has : (far : ℕ) (o : Vector) → distance o ≤ far → In o (round far)
unfolding round
round_has far o h =
    in_joined ring (distance o) o (range_with_len 0 (far + 1)) (in_counting (distance o) 0 (far + 1) (omega arith) (omega arith)) (ring_has (distance o) o refl)

-- once: by distance, then row, then column
row_fresh : (k j n : ℕ) → AllByRecursion (λ o. nat_abs (o.y +ℤ pos k) ≡ j) (row_from k j 0 n) × Fresh (row_from k j 0 n)
unfolding row_from
row_fresh k j n = (
  all_kept_by (is_on k) (λ o. nat_abs (o.y +ℤ pos k) ≡ j) _ (all_counted (λ o. nat_abs (o.y +ℤ pos k) ≡ j) (spot_at k j) 0 n (λ i l m. omega (arith, ints))),
  fresh_kept (is_on k) _ (fresh_counted (λ (o : Vector). nat_abs (o.x +ℤ pos k)) (spot_at k j) 0 n (λ i l m. omega (arith, ints))),
)

ring_fresh : (k : ℕ) → Fresh (ring k)
unfolding rows_from
ring_fresh k =
    subst Fresh (sym (ring_rows k))
    (fresh_joined (λ (o : Vector). nat_abs (o.y +ℤ pos k)) (λ (j : ℕ). row_from k j 0 (2 * k + 1)) 0 (2 * k + 1) (λ j l m. row_fresh k j (2 * k + 1)))

pub round_fresh : (far : ℕ) → Fresh (round far)
unfolding round
round_fresh far = fresh_joined distance ring 0 (far + 1) (λ k l m. (ring_on k, ring_fresh k))

-- many: an outer row is whole, a row between has two
outer_row : (k j : ℕ) → (j ≡ 0) ⊎ (j ≡ 2 * k) → length (row_from k j 0 (2 * k + 1)) ≡ 2 * k + 1
unfolding row_from
outer_row k j outer =
    ap length (kept_all (is_on k) (map (spot_at k j) (range_with_len 0 (2 * k + 1)))
    (all_counted (λ o. is_on k o ≡ true) (spot_at k j) 0 (2 * k + 1) (λ i l m. on_row k j i (omega arith) outer))) ∙
    (length-map (range_with_len 0 (2 * k + 1)) (spot_at k j) ∙ length-range_with_len 0 (2 * k + 1))

inner_row : (k j : ℕ) → 0 < j → j < 2 * k → length (row_from k j 0 (2 * k + 1)) ≡ 2
unfolding row_from
inner_row k j a b =
    let n : 2 * k ≡ suc (2 * k - 1) = omega arith in
    ap length
    (row_first k j 0 (2 * k + 1) (2 * k) (omega arith) (on_column k j 0 (omega arith) (inl refl)) ∙
    ap (λ l. spot_at k j 0 ∷ l)
    (ap (row_from k j 1) n ∙
    (row_skip k j (2 * k - 1) 1 a b (omega arith) (omega arith) ∙
    row_first k j (2 * k) 1 0 refl (on_column k j (2 * k) (omega arith) (inr refl)))))

ring_many : (k : ℕ) → 0 < k → length (ring k) ≡ 8 * k
unfolding rows_from
ring_many k h =
    let f : ℕ → List Vector = λ j. row_from k j 0 (2 * k + 1) in
    let between : length (flat_map f (range_with_len 1 (2 * k - 1))) ≡ (2 * k - 1) * 2 =
    length_joined 2 f 1 (2 * k - 1) (λ j l m. inner_row k j (omega arith) (omega arith)) in
    let n : 2 * k ≡ suc (2 * k - 1) = omega arith in
    let m : 1 + (2 * k - 1) ≡ 2 * k = omega arith in
    let below : length (flat_map f (range_with_len 1 (2 * k))) ≡ (2 * k - 1) * 2 + (2 * k + 1) =
    ap (λ n. length (flat_map f (range_with_len 1 n))) n ∙
    (ap length (joined_more f 1 (2 * k - 1) ∙ ap (λ j. flat_map f (range_with_len 1 (2 * k - 1)) ++ f j) m) ∙
    (length-append (flat_map f (range_with_len 1 (2 * k - 1))) (f (2 * k)) ∙ omega (arith, outer_row k (2 * k) (inr refl)))) in
    ap length (ring_rows k ∙ rows_first k 0 (2 * k + 1) (2 * k) (omega arith)) ∙
    (length-append (f 0) (flat_map f (range_with_len 1 (2 * k))) ∙ omega (arith, outer_row k 0 (inl refl)))

squared : (n : ℕ) → (2 * suc n + 1) * (2 * suc n + 1) ≡ (2 * n + 1) * (2 * n + 1) + 8 * suc n
squared n =
    let m : ℕ = 2 * n + 1 in
    let e : 2 * suc n + 1 ≡ m + 2 = omega arith in
    rw e (mul-add (m + 2) m 2 ∙ omega (arith, add-mul m 2 m))

centre_alone : length (flat_map ring (range_with_len 0 (0 + 1))) ≡ 1
unfolding ring
centre_alone = refl

pub round_many : (far : ℕ) → length (round far) ≡ (2 * far + 1) * (2 * far + 1)
unfolding round
round_many zero = centre_alone
round_many (suc n) =
    let e : suc n + 1 ≡ suc (n + 1) = omega arith in
    let m : 0 + (n + 1) ≡ suc n = omega arith in
    ap (λ k. length (flat_map ring (range_with_len 0 k))) e ∙
    (ap length (joined_more ring 0 (n + 1) ∙ ap (λ k. flat_map ring (range_with_len 0 (n + 1)) ++ ring k) m) ∙
    (length-append (flat_map ring (range_with_len 0 (n + 1))) (ring (suc n)) ∙
    omega (arith, ring_many (suc n) (omega arith), squared n, round_many n)))

-- an offset from a centre: inside as far as it reaches
moved_inside : (w : Window) (r : ℕ) (o : Vector) → distance o ≤ w.reach → inside w r (moved (w.centre r) o) ≡ true
moved_inside w r o h =
    let c = w.centre r in
    and_from (inside_across w r (moved c o)) (inside_down w r (moved c o))
    (le-leb (nat_abs (c.x +ℤ o.x -ℤ c.x)) w.reach (omega (arith, ints)))
    (le-leb (nat_abs (c.y +ℤ o.y -ℤ c.y)) w.reach (omega (arith, ints)))

-- vectors with the same components
same_vector : (a b c d : ℤ) → a ≡ b → c ≡ d → at a c ≡ at b d
same_vector a b c d p q = cc

moved_same : (c o p : Vector) → moved c o ≡ moved c p → o ≡ p
moved_same c o p e =
    let x : o.x ≡ p.x = omega (arith, ints, ap (λ (v : Vector). v.x) e) in
    let y : o.y ≡ p.y = omega (arith, ints, ap (λ (v : Vector). v.y) e) in
    same_vector o.x p.x o.y p.y x y

-- a vector inside is an offset from the centre
from_centre : (w : Window) (r : ℕ) (v : Vector) → inside w r v ≡ true → In v (round_of w r)
from_centre w r v t =
    let c = w.centre r in
    let p = and_parts (inside_across w r v) (inside_down w r v) t in
    let x = leb-true _ _ p.0 in
    let y = leb-true _ _ p.1 in
    let o : Vector = at (v.x -ℤ c.x) (v.y -ℤ c.y) in
    let ex : c.x +ℤ (v.x -ℤ c.x) ≡ v.x = omega (arith, ints) in
    let ey : c.y +ℤ (v.y -ℤ c.y) ≡ v.y = omega (arith, ints) in
    subst (λ u. In u (round_of w r)) (same_vector _ _ _ _ ex ey) (in_map (moved c) o (round w.reach) (round_has w.reach o (omega arith)))

pub round_inside : (w : Window) (r : ℕ) → AllByRecursion (λ v. inside w r v ≡ true) (round_of w r)
round_inside w r =
    All-map (λ v. inside w r v ≡ true) (moved (w.centre r)) (round w.reach)
    (All-weaker (λ o. distance o ≤ w.reach) (λ o. inside w r (moved (w.centre r) o) ≡ true) (moved_inside w r) (round w.reach) (round_near w.reach))

pub round_covers : (w : Window) (r : ℕ) → Covers w r (round_of w r)
round_covers w r =
    record {
      every = λ v t. has_in v (round_of w r) (from_centre w r v t);
      only = λ v h. all-has (λ u. inside w r u ≡ true) (round_of w r) v (round_inside w r) h;
      once = fresh_once (round_of w r) still (fresh_map (moved (w.centre r)) (moved_same (w.centre r)) (round w.reach) (round_fresh w.reach));
      many = length-map (round w.reach) (moved (w.centre r)) ∙ round_many w.reach;
    }
