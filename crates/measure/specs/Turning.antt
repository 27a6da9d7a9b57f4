-- Four numbers and matrices transformed: what the butterflies give, and how large it grows.
use Rattle.std.specs.Prelude.{◌≡◌, ℕ, List, [], ◌∷◌, ◌+◌, ◌*◌, ◌/◌, ℤ, ◌+ℤ◌, ◌-ℤ◌}
use Rattle.std.proofs.Common.{sym, ap, zero-add, arith}
use Rattle.std.proofs.lemmas.Int.{ints}
use Rattle.measure.specs.Transforms.{along, satd4}
use Rattle.measure.specs.Fours.{entries, part, row, Within, AllWithin, turned, turned_rows, flipped, size_of}

-- the butterflies give the transformed numbers
pub turns : (x : List ℤ) (fs fd bs bd a b c d : ℤ) → fs ≡ part x 0 +ℤ part x 1 → fd ≡ part x 0 -ℤ part x 1 → bs ≡ part x 2 +ℤ part x 3 → bd ≡ part x 2 -ℤ part x 3 → a ≡ fs +ℤ bs → b ≡ fs -ℤ bs → c ≡ fd -ℤ bd → d ≡ fd +ℤ bd → (a ∷ b ∷ c ∷ d ∷ []) ≡ turned x
turns x fs fd bs bd a b c d e1 e2 e3 e4 e5 e6 e7 e8 =
    let f0 : a ≡ along (part x) 0 = omega (arith, ints) in
    let f1 : b ≡ along (part x) 1 = omega (arith, ints) in
    let f2 : c ≡ along (part x) 2 = omega (arith, ints) in
    let f3 : d ≡ along (part x) 3 = omega (arith, ints) in
    cc

-- a transform makes no number more than four times as large
turned_within : (m : ℕ) (x : List ℤ) → Within m x → Within (4 * m) (turned x)
turned_within m x h = (omega (arith, ints), omega (arith, ints), omega (arith, ints), omega (arith, ints))

pub rows_within : (m : ℕ) (x : List (List ℤ)) → AllWithin m x → AllWithin (4 * m) (turned_rows x)
rows_within m x h =
    (turned_within m (row x 0) h.0, (turned_within m (row x 1) h.1.0, (turned_within m (row x 2) h.1.1.0, turned_within m (row x 3) h.1.1.1)))

pub flipped_within : (m : ℕ) (x : List (List ℤ)) → AllWithin m x → AllWithin m (flipped x)
flipped_within m x h =
    let p = h.0 in
    let q = h.1.0 in
    let r = h.1.1.0 in
    let s = h.1.1.1 in
    ((p.0, q.0, r.0, s.0), ((p.1, q.1, r.1, s.1), ((p.2, q.2, r.2, s.2), (p.3, q.3, r.3, s.3))))

-- a matrix transformed both ways, as the program does it: the result's rows are the columns of K D Kᵀ
abbrev pub done : List (List ℤ) → List (List ℤ)
done x = turned_rows (flipped (turned_rows x))

pub done_within : (x : List (List ℤ)) → AllWithin 255 x → AllWithin 4080 (done x)
done_within x h = rows_within 1020 (flipped (turned_rows x)) (flipped_within 1020 (turned_rows x) (rows_within 255 x h))

pub done_is : (x : List (List ℤ)) → (size_of (row (done x) 0) + size_of (row (done x) 1) + size_of (row (done x) 2) + size_of (row (done x) 3)) / 2 ≡ satd4 (entries x)
done_is x =
    ap (λ n. (n + size_of (row (done x) 1) + size_of (row (done x) 2) + size_of (row (done x) 3)) / 2) (sym (zero-add (size_of (row (done x) 0))))

-- four numbers are the same where each is
pub same_four : {a b c d x y z w : ℤ} → a ≡ x → b ≡ y → c ≡ z → d ≡ w → a ∷ b ∷ c ∷ d ∷ [] ≡ x ∷ y ∷ z ∷ w ∷ []
same_four p q r s = cc
