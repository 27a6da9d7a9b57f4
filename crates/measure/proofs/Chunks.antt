-- A sum over the places of two lists, taken chunk by chunk.
use Rattle.std.proofs.Common.{◌≡◌, ℕ, zero, suc, ◌+◌, ◌*◌, ◌/◌, ◌<◌, ◌≤◌, List, [], length, drop, get_or, slice_index, refl, sym, ap, ◌∙◌, arith}
use Rattle.std.proofs.lemmas.List.{get_or-take, get_or-drop, length-take-le, length-drop}
use Rattle.std.proofs.lemmas.Nat.{mul-le}
use Rattle.std.specs.Simd.{first_chunks}
use Rattle.measure.specs.Sums.{total, cost_at}
use Rattle.measure.specs.Strips.{Strips}
use Rattle.measure.specs.Transforms.{difference_at, matrix_at}
use Rattle.measure.specs.Totals.{strip_lengths, total_more}

pub chunk_count : (m k : ℕ) (xs : List ℕ) → length (first_chunks m k xs) ≡ k
chunk_count m zero xs = refl
chunk_count m (suc k) xs = ap (λ (n : ℕ). suc n) (chunk_count m k (drop m xs))

pub chunk_long : (m k n : ℕ) (xs : List ℕ) → n < k → m * k ≤ length xs → length (get_or (first_chunks m k xs) n []) ≡ m
chunk_long m zero n xs h l = absurd (omega arith)
chunk_long m (suc k) zero xs h l = length-take-le m xs (omega arith)
chunk_long m (suc k) (suc n) xs h l = chunk_long m k n (drop m xs) (omega arith) (omega (arith, length-drop m xs))

-- a place of a chunk, in the whole list
pub chunk_place : (m k n i : ℕ) (xs : List ℕ) → n < k → i < m → slice_index (get_or (first_chunks m k xs) n []) i ≡ slice_index xs (m * n + i)
chunk_place m zero n i xs h l = absurd (omega arith)
chunk_place m (suc k) zero i xs h l =
    let e : i ≡ m * 0 + i = omega arith in get_or-take m xs i 0 l ∙ ap (slice_index xs) e
chunk_place m (suc k) (suc n) i xs h l =
    let e : m + (m * n + i) ≡ m * suc n + i = omega arith in
    chunk_place m k n i (drop m xs) (omega arith) l ∙ get_or-drop m xs (m * n + i) 0 ∙ ap (slice_index xs) e

total_split : (f : ℕ → ℕ) (m n : ℕ) → total (m + n) f ≡ total m f + total n (λ i. f (m + i))
total_split f m zero = let e : m + 0 ≡ m = omega arith in ap (λ (k : ℕ). total k f) e ∙ omega arith
total_split f m (suc n) =
    let e : m + suc n ≡ suc (m + n) = omega arith in
    ap (λ (k : ℕ). total k f) e ∙ omega (arith, total_split f m n)

total_alike : (f g : ℕ → ℕ) (n : ℕ) → ((i : ℕ) → i < n → f i ≡ g i) → total n f ≡ total n g
total_alike f g zero h = refl
total_alike f g (suc n) h = omega (arith, total_alike f g n (λ i l. h i (omega arith)), h n (omega arith))

total_chunk : (f : ℕ → ℕ → ℕ) (m j k n : ℕ) (a b p q : List ℕ) → n < j → n < k → p ≡ get_or (first_chunks m j a) n [] → q ≡ get_or (first_chunks m k b) n [] → total (m * (n + 1)) (cost_at f a b) ≡ total (m * n) (cost_at f a b) + total m (cost_at f p q)
total_chunk f m j k n a b p q x y d e =
    let w : m * (n + 1) ≡ m * n + m = omega arith in
    ap (λ (i : ℕ). total i (cost_at f a b)) w ∙ total_split (cost_at f a b) (m * n) m
    ∙ ap (λ (t : ℕ). total (m * n) (cost_at f a b) + t) (total_alike (λ i. cost_at f a b (m * n + i)) (cost_at f p q) m at_place)
  where
    same : (xs r : List ℕ) (z : ℕ) → n < z → r ≡ get_or (first_chunks m z xs) n [] → (i : ℕ) → i < m → slice_index xs (m * n + i) ≡ slice_index r i
    same xs r z u v i l = sym (ap (λ (t : List ℕ). slice_index t i) v ∙ chunk_place m z n i xs u l)

    at_place : (i : ℕ) → i < m → cost_at f a b (m * n + i) ≡ cost_at f p q i
    at_place i l = ap (λ (t : ℕ). f t (slice_index b (m * n + i))) (same a p j x d i l) ∙ ap (f (slice_index p i)) (same b q k y e i l)

-- one sample more of a chunk
pub sample_added : (f : ℕ → ℕ → ℕ) (n z : ℕ) (p q : List ℕ) (s t x y r : ℕ) → z ≡ n + 1 → x ≡ slice_index p n → y ≡ slice_index q n → r ≡ f x y → t ≡ s + total n (cost_at f p q) → t + r ≡ s + total z (cost_at f p q)
sample_added f n z p q s t x y r e d1 d2 d3 d4 = let more = total_more (cost_at f p q) n in let at : f x y ≡ cost_at f p q n = cc in let same : total z (cost_at f p q) ≡ total (n + 1) (cost_at f p q) = cc in omega arith

-- one chunk more of the lists
pub chunk_added : (f : ℕ → ℕ → ℕ) (m j k n y z : ℕ) (a b p q : List ℕ) (s t : ℕ) → n < j → n < k → p ≡ get_or (first_chunks m j a) n [] → q ≡ get_or (first_chunks m k b) n [] → y ≡ m → z ≡ n + 1 → s ≡ total (m * n) (cost_at f a b) → t ≡ s + total y (cost_at f p q) → t ≡ total (m * z) (cost_at f a b)
chunk_added f m j k n y z a b p q s t l1 l2 e1 e2 e3 e4 e5 e6 = let more = total_chunk f m j k n a b p q l1 l2 e1 e2 in cc

-- the chunks of four samples are the rows of the squares, those of a row of the strip from the left
pub square_row : (a b p q : List ℕ) (n r : ℕ) → Strips a b → n < length a / 16 → r < 4 → p ≡ get_or (first_chunks 4 (length a / 4) a) (r * (length a / 16) + n) [] → q ≡ get_or (first_chunks 4 (length b / 4) b) (r * (length a / 16) + n) [] → (c : ℕ) → c < 4 → difference_at p q c ≡ matrix_at a b n r c
square_row a b p q n r h l m d e c u =
    let s = strip_lengths a b h in
    let w = length a / 16 in
    let k = r * w + n in
    let rows : length a / 4 ≡ 4 * w = omega arith in
    let up : r * w ≤ 3 * w = mul-le _ _ _ _ (omega arith) (omega arith) in
    let four : r * (4 * w) ≡ 4 * (r * w) = grind arith in
    let at : 4 * k + c ≡ r * (length a / 4) + 4 * n + c = rw rows (omega arith) in
    let x = ap (λ (t : List ℕ). slice_index t c) d ∙ chunk_place 4 (length a / 4) k c a (omega arith) u ∙ ap (slice_index a) at in
    let y = ap (λ (t : List ℕ). slice_index t c) e ∙ chunk_place 4 (length b / 4) k c b (omega arith) u ∙ ap (slice_index b) at in
    cc
