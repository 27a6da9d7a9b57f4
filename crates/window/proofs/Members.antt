-- What a list holds, and that it holds nothing twice.
use Rattle.std.proofs.Common.{◌≡◌, ℕ, zero, suc, ◌+◌, ◌<◌, ◌≤◌, Bool, true, false, cond, ◌⊎◌, List, [], ◌∷◌, ◌++◌, map, length, get_or, filter, sym, refl, ap, ◌∙◌, subst, inl, inr, ⊎_elim, le_of_suc-le-suc, not-suc-le-zero, arith}
use Rattle.std.specs.List.{range_with_len, flat_map, ContainsAt as Has, AllByRecursion}
use Rattle.std.proofs.ByRecursion.{All-append, All-get_or, all_kept_by, All-map, All-weaker}
use Rattle.pattern.specs.Joins.{all_joined}

-- x is one of a list
abbrev pub In : {X : Type 0} → X → List X → Type 0
In x [] = ⊥
In x (y ∷ ys) = (y ≡ x) ⊎ In x ys

pub in_left : {X : Type 0} (x : X) (xs ys : List X) → In x xs → In x (xs ++ ys)
in_left x [] ys h = absurd h
in_left x (z ∷ xs) ys (inl e) = inl e
in_left x (z ∷ xs) ys (inr h) = inr (in_left x xs ys h)

pub in_right : {X : Type 0} (x : X) (xs ys : List X) → In x ys → In x (xs ++ ys)
in_right x [] ys h = h
in_right x (z ∷ xs) ys h = inr (in_right x xs ys h)

pub in_joined : {X A : Type 0} (f : X → List A) (x : X) (a : A) (xs : List X) → In x xs → In a (f x) → In a (flat_map f xs)
in_joined f x a [] h g = absurd h
in_joined f x a (z ∷ xs) (inl e) g = in_left a (f z) (flat_map f xs) (subst (λ y. In a (f y)) (sym e) g)
in_joined f x a (z ∷ xs) (inr h) g = in_right a (f z) (flat_map f xs) (in_joined f x a xs h g)

pub in_map : {X A : Type 0} (f : X → A) (x : X) (xs : List X) → In x xs → In (f x) (map f xs)
in_map f x [] h = absurd h
in_map f x (z ∷ xs) (inl e) = inl (ap f e)
in_map f x (z ∷ xs) (inr h) = inr (in_map f x xs h)

pub in_kept : {X : Type 0} (p : X → Bool) (x : X) (xs : List X) → p x ≡ true → In x xs → In x (filter p xs)
in_kept p x [] t h = absurd h
in_kept p x (z ∷ xs) t (inl e) =
    let s : p z ≡ true = ap p e ∙ t in
    subst (λ b. In x (cond b (z ∷ filter p xs) (filter p xs))) (sym s) (inl e)
in_kept p x (z ∷ xs) t (inr h) =
    elim (p z) as (λ b. In x (cond b (z ∷ filter p xs) (filter p xs)))
    [ true ↦ inr (in_kept p x xs t h) | false ↦ in_kept p x xs t h ]

pub in_counting : (k a n : ℕ) → a ≤ k → k < a + n → In k (range_with_len a n)
in_counting k a zero l m = omega arith
in_counting k a (suc n) l m =
    ⊎_elim (λ (e : a ≡ k). inl e) (λ (h : a < k). inr (in_counting k (a + 1) n (omega arith) (omega arith))) (either a k l)
  where
    either : (a k : ℕ) → a ≤ k → (a ≡ k) ⊎ (a < k)
    either a k l = grind arith

pub has_in : {X : Type 0} (x : X) (xs : List X) → In x xs → Has xs x
has_in x [] h = absurd h
has_in x (z ∷ xs) (inl e) = (zero, omega arith, λ d. e)
has_in x (z ∷ xs) (inr h) = let g = has_in x xs h in (suc g.0, omega arith, λ d. g.2 d)

-- nothing comes twice
abbrev pub Fresh : {X : Type 0} → List X → Type 0
Fresh [] = Unit {0}
Fresh (x ∷ xs) = AllByRecursion (λ y. x ≡ y → ⊥) xs × Fresh xs

pub fresh_append : {X : Type 0} (xs ys : List X) → Fresh xs → Fresh ys → AllByRecursion (λ x. AllByRecursion (λ y. x ≡ y → ⊥) ys) xs → Fresh (xs ++ ys)
fresh_append [] ys f g h = g
fresh_append (x ∷ xs) ys f g h =
    (All-append (λ y. x ≡ y → ⊥) xs ys f.0 h.0, fresh_append xs ys f.1 g h.1)

-- parts are apart that are told by a number
pub fresh_joined : {X : Type 0} (tag : X → ℕ) (f : ℕ → List X) (a n : ℕ) → ((k : ℕ) → a ≤ k → k < a + n → AllByRecursion (λ x. tag x ≡ k) (f k) × Fresh (f k)) → Fresh (flat_map f (range_with_len a n))
fresh_joined tag f a zero h = tt
fresh_joined {X} tag f a (suc n) h =
    let later : AllByRecursion (λ y. a < tag y) (flat_map f (range_with_len (a + 1) n)) =
    all_joined (λ y. a < tag y) f (a + 1) n
    (λ k l m. All-weaker (λ x. tag x ≡ k) (λ x. a < tag x) (λ x e. omega arith) (f k) (h k (omega arith) (omega arith)).0) in
    fresh_append (f a) (flat_map f (range_with_len (a + 1) n)) (h a (omega arith) (omega arith)).1
    (fresh_joined tag f (a + 1) n (λ k l m. h k (omega arith) (omega arith)))
    (All-weaker (λ x. tag x ≡ a) (λ x. AllByRecursion (λ y. x ≡ y → ⊥) (flat_map f (range_with_len (a + 1) n)))
    (λ x e. All-weaker (λ y. a < tag y) (λ y. x ≡ y → ⊥) (λ y l s. omega (arith, ap tag s)) (flat_map f (range_with_len (a + 1) n)) later)
    (f a) (h a (omega arith) (omega arith)).0)

pub fresh_counted : {X : Type 0} (tag : X → ℕ) (f : ℕ → X) (a n : ℕ) → ((k : ℕ) → a ≤ k → k < a + n → tag (f k) ≡ k) → Fresh (map f (range_with_len a n))
fresh_counted tag f a n h =
    subst Fresh (single f (range_with_len a n)) (fresh_joined tag (λ (k : ℕ). f k ∷ []) a n (λ k l m. ((h k l m, tt), (tt, tt))))
  where
    single : {X : Type 0} (f : ℕ → X) (ks : List ℕ) → flat_map (λ (k : ℕ). f k ∷ []) ks ≡ map f ks
    single f [] = refl
    single f (k ∷ ks) = ap (λ l. f k ∷ l) (single f ks)

pub fresh_kept : {X : Type 0} (p : X → Bool) (xs : List X) → Fresh xs → Fresh (filter p xs)
fresh_kept p [] h = tt
fresh_kept p (x ∷ xs) h =
    elim (p x) as (λ b. Fresh (cond b (x ∷ filter p xs) (filter p xs)))
    [ true ↦ (all_kept_by p (λ y. x ≡ y → ⊥) xs h.0, fresh_kept p xs h.1) | false ↦ fresh_kept p xs h.1 ]

pub fresh_map : {X Y : Type 0} (f : X → Y) → ((x y : X) → f x ≡ f y → x ≡ y) → (xs : List X) → Fresh xs → Fresh (map f xs)
fresh_map f inj [] h = tt
fresh_map f inj (x ∷ xs) h = (
  All-map (λ y. f x ≡ y → ⊥) f xs (All-weaker (λ y. x ≡ y → ⊥) (λ y. f x ≡ f y → ⊥) (λ y n e. n (inj x y e)) xs h.0),
  fresh_map f inj xs h.1,
)

pub fresh_once : {X : Type 0} (xs : List X) (d : X) → Fresh xs → (i j : ℕ) → i < j → j < length xs → get_or xs i d ≡ get_or xs j d → ⊥
fresh_once [] d h i j l m = absurd (not-suc-le-zero m)
fresh_once (x ∷ xs) d h i zero l m = absurd (not-suc-le-zero l)
fresh_once (x ∷ xs) d h zero (suc j) l m = All-get_or (λ y. x ≡ y → ⊥) xs j d (le_of_suc-le-suc m) h.0
fresh_once (x ∷ xs) d h (suc i) (suc j) l m = fresh_once xs d h.1 i j (le_of_suc-le-suc l) (le_of_suc-le-suc m)
