-- What `map` makes of an array of four, element by element.
use Rattle.std.proofs.Common.{◌≡◌, ℕ, zero, suc, List, [], ◌∷◌, ◌<◌, length, slice_index_or, subst, ap, ◌∙◌, arith}
use Rattle.std.specs.Fn.{Called, Mut}
use Rattle.std.specs.Array.{IsElementAt, IsMapOf, list_steps}
use Rattle.std.specs.Iterator.{CallableAtEachTurn, Yields}

-- an array of four is its elements
pub four_are : {A : Type 0} (xs : List A) (d a b e f : A) → length xs ≡ 4 → IsElementAt xs 0 a → IsElementAt xs 1 b → IsElementAt xs 2 e → IsElementAt xs 3 f → xs ≡ a ∷ b ∷ e ∷ f ∷ []
four_are [] d a b e f l i j k m = absurd (omega arith)
four_are (w ∷ []) d a b e f l i j k m = absurd (omega arith)
four_are (w ∷ x ∷ []) d a b e f l i j k m = absurd (omega arith)
four_are (w ∷ x ∷ y ∷ []) d a b e f l i j k m = absurd (omega arith)
four_are (w ∷ x ∷ y ∷ z ∷ []) d a b e f l i j k m = cc (i.0, j.0, k.0, m.0)
four_are (w ∷ x ∷ y ∷ z ∷ v ∷ t) d a b e f l i j k m = absurd (omega arith)

-- by `map` of an array of four, where a closure that stays as I says answers v
pub mapped : {F A B : Type 0} (g : Mut F (A × Unit {0}) B) (I : F → Type 0) (v : A → B) (d : A) → ((p : F) (x : A) (y : B) (q : F) → I p → Called g p (x, tt) y q → (y ≡ v x) × I q) → (f : F) (xs : List A) (ys : List B) → I f → IsMapOf g f xs ys 4 → ys ≡ v (slice_index_or xs 0 d) ∷ v (slice_index_or xs 1 d) ∷ v (slice_index_or xs 2 d) ∷ v (slice_index_or xs 3 d) ∷ []
mapped g I v d step f xs ys i m =
    let e0 = m.each in
    let s0 = step _ _ _ _ i e0.5 in
    let e1 = e0.6 in
    let s1 = step _ _ _ _ s0.1 e1.5 in
    let e2 = e1.6 in
    let s2 = step _ _ _ _ s1.1 e2.5 in
    let e3 = e2.6 in
    let s3 = step _ _ _ _ s2.1 e3.5 in
    let all = four_are ys e0.2 e0.2 e1.2 e2.2 e3.2 m.long e0.4 e1.4 e2.4 e3.4 in
    cc (s0.0, s1.0, s2.0, s3.0, e0.3.1 d, e1.3.1 d, e2.3.1 d, e3.3.1 d, all)

-- what holds of an array of four at 0 to 3 holds at each place
pub four_places : (P : ℕ → Type 0) → P 0 → P 1 → P 2 → P 3 → (i : ℕ) → i < 4 → P i
four_places P a b c d zero h = a
four_places P a b c d (suc zero) h = b
four_places P a b c d (suc (suc zero)) h = c
four_places P a b c d (suc (suc (suc zero))) h = d
four_places P a b c d (suc (suc (suc (suc i)))) h = absurd (omega arith)

-- a closure may be called at each element, where W of an element lets it
pub serves_each : {A P : Type 0} {R : P → A → P → Type 0} {Q : P → A → Type 0} (W : A → Type 0) (d : A) (xs : List A) (p : P) → ((i : ℕ) → i < length xs → W (slice_index_or xs i d)) → ((q : P) (x : A) → W x → Q q x) → CallableAtEachTurn list_steps R Q xs p
serves_each {A} {P} {R} {Q} W d xs p h k = record { at = λ ys t q x u y f s. k q x (found ys xs t x u y s h) }
  where
    found : (ys xs t : List A) (x : A) (u : List A) → Yields list_steps xs ys t → t ≡ x ∷ u → ((i : ℕ) → i < length xs → W (slice_index_or xs i d)) → W x
    found [] xs t x u y s h =
        let e : xs ≡ x ∷ u = y ∙ s in
        let long : length xs ≡ suc (length u) = ap length e in
        subst (λ (l : List A). W (slice_index_or l 0 d)) e (h 0 (omega arith))
    found (z ∷ ys) xs t x u y s h =
        let long : length xs ≡ suc (length y.0) = ap length y.1 in
        found ys y.0 t x u y.2 s (λ i l. subst (λ (v : List A). W (slice_index_or v (suc i) d)) y.1 (h (suc i) (omega arith)))
