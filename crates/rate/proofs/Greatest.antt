-- The greatest number that passes a test, once known.
use Rattle.std.proofs.Common.{◌≡◌, ℕ, zero, suc, ◌<◌, ◌≤◌, Bool, true, false, cond, T, sym, refl, subst, arith}
use Rattle.rate.specs.Greatest.{greatest}

never : {A : Type 0} (b : Bool) → b ≡ true → b ≡ false → A
never b p q = let z : ◌≡◌ {A = ℕ} 0 1 = cc in absurd (omega arith)

pub is_T : {b : Bool} → b ≡ true → T b
is_T {b} e = subst T (sym e) tt

last_one : (p : ℕ → Bool) (b n : ℕ) → n < suc b → p n ≡ true → ((m : ℕ) → p m ≡ true → m ≤ n) → (n < b → greatest p b ≡ n) → (v : Bool) → p b ≡ v → cond v b (greatest p b) ≡ n
last_one p b n lt hit most rest true e = let h : b ≤ n = most b e in omega arith
last_one p b n lt hit most rest false e =
    let ne : n ≡ b → ⊥ = λ q. let f : p n ≡ false = rw q e in never (p n) hit f in
    rest (omega arith)

pub greatest_is : (p : ℕ → Bool) (b n : ℕ) → n < b → p n ≡ true → ((m : ℕ) → p m ≡ true → m ≤ n) → greatest p b ≡ n
unfolding greatest
greatest_is p zero n lt hit most = absurd (omega arith)
greatest_is p (suc b) n lt hit most = last_one p b n lt hit most (λ h. greatest_is p b n h hit most) (p b) refl
