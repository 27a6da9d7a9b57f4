-- The vectors of two arrays, written over the front of an array of zeros.
use Rattle.std.proofs.Common.{◌≡◌, ℕ, zero, suc, ◌+◌, ◌-◌, ◌<◌, ◌≤◌, List, [], ◌∷◌, ◌++◌, map, length, get_or, take, drop, set, replicate, ℤ, pos, None, sym, refl, ap, ◌∙◌, ⊎_elim, arith, length-append, length-take, lit≤}
use Rattle.std.proofs.lemmas.List.{ext_get_or, length-map, get_or-drop, get_or-take, get_or_append_left, get_or-append_right, get_or_past}
use Rattle.std.proofs.lemmas.List.Edits.{fill_by_more}
use Rattle.std.proofs.lemmas.Bool.{cases_lt}
use Rattle.rate.specs.declared.vectors.Vector.{Vector}
use Rattle.settings.specs.Predicted.{vector, vector_in, AllNear, Copied, Paired}
use Rattle.picture.specs.Faults.{first}
use Rattle.settings.specs.Predicted.{component_rules}
use Rattle.settings.proofs.Components.{NearAt, Vetted, vetted_all}

abbrev zeros : ℕ → List Vector
zeros n = replicate n (vector (pos 0) (pos 0))

zeros_at : (n k : ℕ) → vector_in (zeros n) k ≡ vector (pos 0) (pos 0)
zeros_at zero k = refl
zeros_at (suc n) zero = refl
zeros_at (suc n) (suc k) = zeros_at n k

-- what stands after the front
after : (vs : List Vector) (n k : ℕ) → length vs ≡ n → n ≤ k → vector_in (vs ++ drop n (zeros 16)) k ≡ vector (pos 0) (pos 0)
after vs n k e le =
    let z = vector (pos 0) (pos 0) in
    get_or-append_right vs (drop n (zeros 16)) n k z e le ∙ get_or-drop n (zeros 16) (k - n) z ∙ zeros_at 16 (n + (k - n))

abbrev pub Kept : List ℤ → List ℤ → List Vector → ℕ → Type 0
Kept xs ys vs n = (k : ℕ) → k < n → vector_in vs k ≡ vector (get_or xs k (pos 0)) (get_or ys k (pos 0))

-- one more vector
pub kept_more : (xs ys : List ℤ) (vs : List Vector) (k : ℕ) (v : Vector) → k < length vs → v ≡ vector (get_or xs k (pos 0)) (get_or ys k (pos 0)) → Kept xs ys vs k → Kept xs ys (set vs k v) (k + 1)
kept_more xs ys vs k v lt e kept =
    rw e (fill_by_more (λ (j : ℕ). vector (get_or xs j (pos 0)) (get_or ys j (pos 0))) vs k (vector (pos 0) (pos 0)) lt kept)

past : (zs : List ℤ) (n k : ℕ) → length zs ≡ n → n ≤ k → get_or zs k (pos 0) ≡ pos 0
past zs n k e le = get_or_past zs k (pos 0) (omega arith)

all_at : (xs ys : List ℤ) (vs : List Vector) (n : ℕ) → length xs ≡ n → length ys ≡ n → length vs ≡ n → Kept xs ys vs n → (k : ℕ) →
    vector_in (vs ++ drop n (zeros 16)) k ≡ vector (get_or xs k (pos 0)) (get_or ys k (pos 0))
all_at xs ys vs n ex ey ev kept k =
    ⊎_elim
    (λ (lt : k < n). get_or_append_left vs (drop n (zeros 16)) (vector (pos 0) (pos 0)) k (omega arith) ∙ kept k lt)
    (λ (le : n ≤ k). rw (after vs n k ev le, past xs n k ex le, past ys n k ey le) refl)
    (cases_lt k n)

mapped : (f : Vector → ℤ) (vs : List Vector) (k : ℕ) → f (vector (pos 0) (pos 0)) ≡ pos 0 → get_or (map f vs) k (pos 0) ≡ f (vector_in vs k)
mapped f [] k z = sym z
mapped f (v ∷ vs) zero z = refl
mapped f (v ∷ vs) (suc k) z = mapped f vs k z

component : (f : Vector → ℤ) (zs : List ℤ) (vs : List Vector) → f (vector (pos 0) (pos 0)) ≡ pos 0 → length zs ≤ length (map f vs) → ((k : ℕ) → f (vector_in vs k) ≡ get_or zs k (pos 0)) → Copied zs (map f vs)
component f zs vs z room e = (
  ext_get_or (pos 0) (take (length zs) (map f vs)) zs (simp length-take (omega (arith, room))) (λ k lt. get_or-take (length zs) (map f vs) k (pos 0) (omega (arith, simp length-take at lt)) ∙ mapped f vs k z ∙ e k),
  λ k. mapped f vs k z ∙ e k,
)

paired : (xs ys : List ℤ) (vs : List Vector) (n : ℕ) → length xs ≡ n → length ys ≡ n → length vs ≡ n → Kept xs ys vs n → Paired xs ys (vs ++ drop n (zeros 16))
paired xs ys vs n ex ey ev kept =
    let at = all_at xs ys vs n ex ey ev kept in
    let all = vs ++ drop n (zeros 16) in
    let room : n ≤ length all = simp length-append (omega arith) in (
      component (λ v. v.x) xs all refl (simp length-map (omega arith)) (λ k. ap (λ (v : Vector). v.x) (at k)),
      component (λ v. v.y) ys all refl (simp length-map (omega arith)) (λ k. ap (λ (v : Vector). v.y) (at k)),
    )

-- of near vectors, and zeros
near : (xs ys : List ℤ) (vs : List Vector) (n : ℕ) → length xs ≡ n → length ys ≡ n → length vs ≡ n → Kept xs ys vs n → ((k : ℕ) → k < n → NearAt xs ys k) → AllNear (vs ++ drop n (zeros 16))
near xs ys vs n ex ey ev kept h k =
    rw (all_at xs ys vs n ex ey ev kept k)
    (⊎_elim (λ (lt : k < n). h k lt) (λ (le : n ≤ k). rw (past xs n k ex le, past ys n k ey le) (lit≤ tt, lit≤ tt)) (cases_lt k n))

abbrev pub Done : List ℤ → List ℤ → List Vector → Type 0
Done xs ys vs = (first (component_rules xs ys) ≡ None) × (Paired xs ys vs × AllNear vs)

-- once all vectors are vetted, the array is made
pub done : (xs ys : List ℤ) (vs : List Vector) (n i : ℕ) → length xs ≡ n → length ys ≡ n → length vs ≡ n → n ≤ i → Vetted xs ys i → Kept xs ys vs i → Done xs ys (vs ++ drop n (zeros 16))
done xs ys vs n i ex ey ev le v kept =
    let k : Kept xs ys vs n = λ j lt. kept j (omega arith) in
    (vetted_all xs ys i v (omega arith), (paired xs ys vs n ex ey ev k, near xs ys vs n ex ey ev k (λ j lt. v.near j (omega arith))))
