-- The first of least cost is the earliest of least cost.
use Rattle.std.proofs.Common.{◌≡◌, ℕ, zero, suc, ◌<◌, ◌≤◌, true, false, cond, List, [], ◌∷◌, nat_lt, slice_index_or, refl, arith, subst}
use Rattle.std.proofs.lemmas.Bool.Decides.{nat_tests}
use Rattle.cost.specs.declared.candidates.Candidate.{Candidate}
use Rattle.search.specs.Book.{first_least, Earliest}

-- the earliest of a list is that of one with a dearer candidate before it
module _ (cost : Candidate → ℕ) (a c h : Candidate) (cs : List Candidate) where
  before_it : cost c < cost a → (e : Earliest cost (c ∷ cs) h) → (i : ℕ) → i < suc e.place → cost h < cost (slice_index_or (a ∷ c ∷ cs) i h)
  before_it dear e zero l = omega (arith, e.least 0)
  before_it dear e (suc i) l = e.before i (omega arith)

  least_it : cost c < cost a → (e : Earliest cost (c ∷ cs) h) → (i : ℕ) → cost h ≤ cost (slice_index_or (a ∷ c ∷ cs) i h)
  least_it dear e zero = omega (arith, e.least 0)
  least_it dear e (suc i) = e.least i

  passed : cost c < cost a → Earliest cost (c ∷ cs) h → Earliest cost (a ∷ c ∷ cs) h
  passed dear e = record { place = suc e.place; among = omega (arith, e.among); is = e.is; before = before_it dear e; least = least_it dear e }

  -- and with one that is no cheaper after the first
  least_on : cost a ≤ cost c → (e : Earliest cost (a ∷ cs) h) → (i : ℕ) → cost h ≤ cost (slice_index_or (a ∷ c ∷ cs) i h)
  least_on dear e zero = e.least 0
  least_on dear e (suc zero) = omega (arith, e.least 0)
  least_on dear e (suc (suc i)) = e.least (suc i)

  before_on : (p : ℕ) → cost a ≤ cost c → ((i : ℕ) → i < suc p → cost h < cost (slice_index_or (a ∷ cs) i h)) → (i : ℕ) → i < suc (suc p) → cost h < cost (slice_index_or (a ∷ c ∷ cs) i h)
  before_on p dear f zero l = f 0 (omega arith)
  before_on p dear f (suc zero) l = omega (arith, f 0 (omega arith))
  before_on p dear f (suc (suc i)) l = f (suc i) (omega arith)

  kept_at : (p : ℕ) → cost a ≤ cost c → (e : Earliest cost (a ∷ cs) h) → e.place ≡ p → Earliest cost (a ∷ c ∷ cs) h
  kept_at zero dear e at = record {
    place = 0;
    among = omega arith;
    is = subst (λ (k : ℕ). slice_index_or (a ∷ cs) k h ≡ h) at e.is;
    before = λ i l. absurd (omega arith);
    least = least_on dear e;
  }
  kept_at (suc p) dear e at = record {
    place = suc (suc p);
    among = omega (arith, e.among);
    is = subst (λ (k : ℕ). slice_index_or (a ∷ cs) k h ≡ h) at e.is;
    before = before_on p dear (λ i l. e.before i (omega arith));
    least = least_on dear e;
  }

pub earliest_is : (cost : Candidate → ℕ) (a : Candidate) (cs : List Candidate) → Earliest cost (a ∷ cs) (first_least cost a cs)
earliest_is cost a [] = record { place = 0; among = omega arith; is = refl; before = λ i l. absurd (omega arith); least = only }
  where
    only : (i : ℕ) → cost a ≤ cost (slice_index_or (a ∷ []) i a)
    only zero = omega arith
    only (suc i) = omega arith
earliest_is cost a (c ∷ cs) =
    elim (nat_lt (cost c) (cost a)) as (λ b. nat_lt (cost c) (cost a) ≡ b → Earliest cost (a ∷ c ∷ cs) (first_least cost (cond b c a) cs)) [
      | true ↦ (λ t. passed cost a c (first_least cost c cs) cs (grind (arith, nat_tests)) (earliest_is cost c cs))
      | false ↦ (λ t. kept_at cost a c (first_least cost a cs) cs (earliest_is cost a cs).place (grind (arith, nat_tests)) (earliest_is cost a cs) refl)
    ]
    refl
