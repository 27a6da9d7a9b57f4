-- A loop that writes rows one after another.
use Rattle.std.proofs.Common.{◌≡◌, ℕ, ◌+◌, ◌-◌, ◌*◌, ◌/◌, ◌%◌, ◌<◌, ◌≤◌, List, ◌++◌, length, take, sym, subst, ap, ◌∙◌, inl, inr, add-mul, arith, length-take}
use borrow.Rule.Slice.PartMut.{put_mid, post_of}
use Rattle.std.specs.List.{HoldsAt}
use Rattle.std.proofs.lemmas.Nat.{div-mul-add, mod-mul-add}
use Rattle.std.proofs.lemmas.List.{get_or-take, get_or_append_left, get_or-append_right}
use Rattle.std.proofs.lemmas.Bool.{cases_lt}

-- the rows below r are written, and now row r too
pub row_more : {X : Type 0} (Q : ℕ → ℕ → X → Type 0) (xs ys : List X) (r w n : ℕ) → r * w + w ≤ length xs → length ys ≡ w → ((i : ℕ) → i < w → HoldsAt (Q i r) ys i) →
    ((k : ℕ) → k < r * w → HoldsAt (Q (k % w) (k / w)) xs k) → (k : ℕ) → k < (r + 1) * w → HoldsAt (Q (k % w) (k / w)) (put_mid (r * w) n xs ys) k
row_more Q xs ys r w n fits long here before k lt d =
    let first : length (take (r * w) xs) ≡ r * w = length-take (r * w) xs ∙ omega arith in
    elim (cases_lt k (r * w)) [
      | inl below ↦ subst (Q (k % w) (k / w)) (sym (get_or_append_left (take (r * w) xs) (ys ++ post_of (r * w) n xs) d k (omega arith) ∙ get_or-take (r * w) xs k d below)) (before k below d)
      | inr above ↦
          let lt' : k - r * w < w = omega (arith, add-mul r 1 w) in
          let m : k % w ≡ k - r * w = ap (λ n. n % w) (omega arith) ∙ mod-mul-add r w (k - r * w) lt' in
          let q : k / w ≡ r = ap (λ n. n / w) (omega arith) ∙ div-mul-add r w (k - r * w) lt' in
          rw (m, q) (subst (Q (k - r * w) r) (sym (get_or-append_right (take (r * w) xs) (ys ++ post_of (r * w) n xs) (r * w) k d first above ∙ get_or_append_left ys (post_of (r * w) n xs) d (k - r * w) (omega arith))) (here (k - r * w) lt' d))
    ]
