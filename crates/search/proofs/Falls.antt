-- What trials of a list leave: the cost never rises, it falls where another candidate is held, and none of the list costs less.
use Rattle.std.proofs.Common.{◌≡◌, ℕ, ◌<◌, ◌≤◌, ◌≢◌, true, false, Bool, cond, ◌⊎◌, List, [], ◌∷◌, filter, map, nat_lt, inl, inr, ⊎_elim, refl, ◌∙◌, arith}
use Rattle.std.specs.List.{AllByRecursion}
use Rattle.std.proofs.lemmas.Bool.Decides.{nat_tests}
use Rattle.cost.specs.declared.candidates.Candidate.{Candidate}
use Rattle.search.specs.declared.tallies.Tally.{Tally}
use Rattle.search.specs.Terms.{Terms, price}
use Rattle.search.specs.Tallies.{tallied, tallies}

-- a trial: its candidate is held and costs less than what was held, or nothing but the counts has changed
module _ (t : Terms) (y : Tally) (c : Candidate) where
  one_le : (tallied t y c).cost ≤ y.cost
  one_le = by (nat_lt (price t c) y.cost) refl
    where
      by : (b : Bool) → nat_lt (price t c) y.cost ≡ b → cond b (price t c) y.cost ≤ y.cost
      by true e = grind (arith, nat_tests)
      by false e = omega arith

  one_under : (tallied t y c).cost ≤ price t c
  one_under = by (nat_lt (price t c) y.cost) refl
    where
      by : (b : Bool) → nat_lt (price t c) y.cost ≡ b → cond b (price t c) y.cost ≤ price t c
      by true e = omega arith
      by false e = grind (arith, nat_tests)

  one_falls : ((tallied t y c).held ≡ y.held) ⊎ ((tallied t y c).cost < y.cost)
  one_falls = by (nat_lt (price t c) y.cost) refl
    where
      by : (b : Bool) → nat_lt (price t c) y.cost ≡ b → (cond b c y.held ≡ y.held) ⊎ (cond b (price t c) y.cost < y.cost)
      by true e = inr (grind (arith, nat_tests))
      by false e = inl refl

pub tallies_le : (t : Terms) (y : Tally) (cs : List Candidate) → (tallies t y cs).cost ≤ y.cost
tallies_le t y [] = omega arith
tallies_le t y (c ∷ cs) = omega (arith, tallies_le t (tallied t y c) cs, one_le t y c)

either : (t : Terms) (y : Tally) (cs : List Candidate) → ((tallies t y cs).held ≡ y.held) ⊎ ((tallies t y cs).cost < y.cost)
either t y [] = inl refl
either t y (c ∷ cs) =
    ⊎_elim
    (λ (e : (tallied t y c).held ≡ y.held).
    ⊎_elim (λ (f : (tallies t (tallied t y c) cs).held ≡ (tallied t y c).held). inl (f ∙ e)) (λ (l : (tallies t (tallied t y c) cs).cost < (tallied t y c).cost). inr (omega (arith, l, one_le t y c)))
    (either t (tallied t y c) cs))
    (λ (l : (tallied t y c).cost < y.cost). inr (omega (arith, l, tallies_le t (tallied t y c) cs))) (one_falls t y c)

pub tallies_falls : (t : Terms) (y : Tally) (cs : List Candidate) → (tallies t y cs).held ≢ y.held → (tallies t y cs).cost < y.cost
tallies_falls t y cs n = ⊎_elim (λ (e : (tallies t y cs).held ≡ y.held). absurd (n e)) (λ (l : (tallies t y cs).cost < y.cost). l) (either t y cs)

pub tallies_under : (t : Terms) (y : Tally) (cs : List Candidate) → AllByRecursion (λ (c : Candidate). (tallies t y cs).cost ≤ price t c) cs
tallies_under t y [] = tt
tallies_under t y (c ∷ cs) = (omega (arith, tallies_le t (tallied t y c) cs, one_under t y c), tallies_under t (tallied t y c) cs)

-- what holds of those of a list that pass a test
pub all_passed : {X : Type 0} (P : Candidate → Type 0) (test : Candidate → Bool) (f : X → Candidate) (xs : List X) → AllByRecursion P (filter test (map f xs)) →
    AllByRecursion (λ (x : X). test (f x) ≡ true → P (f x)) xs
all_passed P test f [] a = tt
all_passed {X = X} P test f (x ∷ xs) a =
    elim (test (f x)) as (λ b. test (f x) ≡ b → AllByRecursion P (cond b (f x ∷ filter test (map f xs)) (filter test (map f xs))) → AllByRecursion (λ (z : X). test (f z) ≡ true → P (f z)) (x ∷ xs)) [
      | true ↦ (λ e h. (λ _. h.0, all_passed P test f xs h.1))
      | false ↦ (λ e h. (λ s. let n : ◌≡◌ {A = ℕ} 0 1 = cc in absurd (omega arith), all_passed P test f xs h))
    ]
    refl a
