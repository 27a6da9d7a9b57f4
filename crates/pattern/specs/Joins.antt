-- Lists that are joined from parts: by place, in length, and what is kept of them.
use Rattle.std.specs.Prelude.{◌≡◌, ℕ, zero, suc, ◌+◌, ◌-◌, ◌*◌, ◌<◌, ◌≤◌, Bool, true, List, [], ◌∷◌, ◌++◌, map, length, get_or, filter, slice_index_or, refl}
use Rattle.std.proofs.Common.{sym, ap, ◌∙◌, append_assoc, add-zero, zero-mul, suc-mul, not-suc-le-zero, arith, length-append}
use Rattle.std.specs.List.{range_with_len, flat_map, AllByRecursion}
use Rattle.std.proofs.lemmas.List.Elements.{filter-append}
use Rattle.std.proofs.lemmas.List.Folds.{flat_map-map}
use Rattle.std.proofs.ByRecursion.{All-append}
use Rattle.std.proofs.lemmas.List.{append-nil, get_or_append_left, get_or-append_right}

pub joined_map : {X Y A : Type 0} (f : Y → List A) (g : X → Y) (xs : List X) → flat_map f (map g xs) ≡ flat_map (λ (x : X). f (g x)) xs
joined_map f g xs = flat_map-map f g xs

pub joined_same : {X A : Type 0} (f g : X → List A) (xs : List X) → ((x : X) → f x ≡ g x) → flat_map f xs ≡ flat_map g xs
joined_same f g [] e = refl
joined_same f g (x ∷ xs) e = rw (e x) (ap (λ l. g x ++ l) (joined_same f g xs e))

pub map_map : {X Y Z : Type 0} (f : Y → Z) (g : X → Y) (xs : List X) → map f (map g xs) ≡ map (λ (x : X). f (g x)) xs
map_map f g [] = refl
map_map f g (x ∷ xs) = ap (λ l. f (g x) ∷ l) (map_map f g xs)

pub kept_joined : {X A : Type 0} (p : A → Bool) (f : X → List A) (xs : List X) → filter p (flat_map f xs) ≡ flat_map (λ (x : X). filter p (f x)) xs
kept_joined p f [] = refl
kept_joined p f (x ∷ xs) = filter-append p (f x) (flat_map f xs) ∙ ap (λ l. filter p (f x) ++ l) (kept_joined p f xs)

pub kept_all : {X : Type 0} (p : X → Bool) (xs : List X) → AllByRecursion (λ x. p x ≡ true) xs → filter p xs ≡ xs
kept_all p [] h = refl
kept_all p (x ∷ xs) h = rw h.0 (ap (λ l. x ∷ l) (kept_all p xs h.1))

-- one more part at the end
pub joined_more : {A : Type 0} (f : ℕ → List A) (a n : ℕ) → flat_map f (range_with_len a (suc n)) ≡ flat_map f (range_with_len a n) ++ f (a + n)
joined_more f a zero = rw (add-zero a) (append-nil (f a))
joined_more f a (suc n) =
    let e : a + 1 + n ≡ a + suc n = omega arith in
    ap (λ l. f a ++ l) (joined_more f (a + 1) n ∙ ap (λ k. flat_map f (range_with_len (a + 1) n) ++ f k) e) ∙
    sym (append_assoc (f a) (flat_map f (range_with_len (a + 1) n)) (f (a + suc n)))

-- what holds of each part holds of all
pub all_joined : {A : Type 0} (P : A → Type 0) (f : ℕ → List A) (a n : ℕ) → ((k : ℕ) → a ≤ k → k < a + n → AllByRecursion P (f k)) → AllByRecursion P (flat_map f (range_with_len a n))
all_joined P f a zero h = tt
all_joined P f a (suc n) h =
    All-append P (f a) (flat_map f (range_with_len (a + 1) n)) (h a (omega arith) (omega arith))
    (all_joined P f (a + 1) n (λ k l m. h k (omega arith) (omega arith)))

pub all_counted : {A : Type 0} (P : A → Type 0) (f : ℕ → A) (a n : ℕ) → ((k : ℕ) → a ≤ k → k < a + n → P (f k)) → AllByRecursion P (map f (range_with_len a n))
all_counted P f a zero h = tt
all_counted P f a (suc n) h =
    (h a (omega arith) (omega arith), all_counted P f (a + 1) n (λ k l m. h k (omega arith) (omega arith)))

-- parts of one length
pub length_joined : {A : Type 0} (m : ℕ) (f : ℕ → List A) (a n : ℕ) → ((k : ℕ) → a ≤ k → k < a + n → length (f k) ≡ m) → length (flat_map f (range_with_len a n)) ≡ n * m
length_joined m f a zero h = omega (arith, zero-mul m)
length_joined m f a (suc n) h =
    length-append (f a) (flat_map f (range_with_len (a + 1) n)) ∙
    omega (arith, h a (omega arith) (omega arith), length_joined m f (a + 1) n (λ k l g. h k (omega arith) (omega arith)), suc-mul n m)

-- the element at r of the part at q
pub get_or_joined : {X : Type 0} (n : ℕ) (f : ℕ → List X) → ((k : ℕ) → length (f k) ≡ n) → (a m q r : ℕ) (d : X) → q < m → r < n → slice_index_or (flat_map f (range_with_len a m)) (q * n + r) d ≡ slice_index_or (f (a + q)) r d
get_or_joined n f b a zero q r d lt in' = absurd (not-suc-le-zero lt)
get_or_joined n f b a (suc m) zero r d lt in' =
    let e : zero * n + r ≡ r = omega (arith, zero-mul n) in
    let l : r < length (f a) = omega (arith, b a) in
    rw (e, add-zero a) (get_or_append_left (f a) (flat_map f (range_with_len (a + 1) m)) d r l)
get_or_joined n f b a (suc m) (suc q) r d lt in' =
    let e : suc q * n + r - n ≡ q * n + r = omega (arith, suc-mul q n) in
    let s : a + 1 + q ≡ a + suc q = omega arith in
    get_or-append_right (f a) (flat_map f (range_with_len (a + 1) m)) n (suc q * n + r) d (b a) (omega (arith, suc-mul q n)) ∙
    ap (λ (i : ℕ). get_or (flat_map f (range_with_len (a + 1) m)) i d) e ∙
    get_or_joined n f b (a + 1) m q r d (omega arith) in' ∙
    ap (λ (k : ℕ). get_or (f k) r d) s
