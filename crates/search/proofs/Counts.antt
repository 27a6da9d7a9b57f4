-- Trials and strips are those of the candidates that the book keeps.
use Rattle.std.proofs.Common.{◌≡◌, ℕ, zero, suc, ◌<◌, ◌≤◌, true, false, Bool, cond, List, [], ◌∷◌, ◌++◌, length, take, get_or, nat_le, ⊎_elim, refl, subst, arith, below_more, length-append, slice_index, slice_index_or}
use Rattle.std.proofs.lemmas.List.{get_or_append_left, take-append-le}
use Rattle.std.proofs.lemmas.List.Sums.{sum_by-append}
use Rattle.std.proofs.Math.Seq.{get_or-append_seam, take-append_seam}
use Rattle.std.proofs.lemmas.Bool.{cases_lt}
use Rattle.std.proofs.lemmas.Bool.Decides.{nat_tests}
use Rattle.cost.specs.declared.candidates.Candidate.{Candidate}
use Rattle.cost.specs.Prices.{CostParts, running, Fewest, fewest_of, read_under}
use Rattle.search.specs.Terms.{price}
use Rattle.search.specs.Book.{Book, first_least, least, entered}
use Rattle.search.specs.Runs.{Counted}

-- a number of strips of the first m is the fewest
pub record Least (p : CostParts) (bound m n : ℕ) : Type 0 where
  pub within : n ≤ m
  pub under : (k : ℕ) → k < n → running p k < bound
  pub reached : n < m → bound ≤ running p n

least_of : (p : CostParts) (bound m : ℕ) → Least p bound m (fewest_of p bound m)
least_of p bound zero = record { within = omega arith; under = λ k l. absurd (omega arith); reached = λ l. absurd (omega arith) }
least_of p bound (suc m) = by (nat_le bound (running p (fewest_of p bound m))) refl (least_of p bound m)
  where
    by : (b : Bool) → nat_le bound (running p (fewest_of p bound m)) ≡ b → Least p bound m (fewest_of p bound m) → Least p bound (suc m) (cond b (fewest_of p bound m) (suc m))
    by true e h = record { within = omega (arith, h.within); under = h.under; reached = λ l. grind (arith, nat_tests) }
    by false e h =
        let low : running p (fewest_of p bound m) < bound = grind (arith, nat_tests) in
        let all : fewest_of p bound m ≡ m = ⊎_elim (λ (l : fewest_of p bound m < m). let r : bound ≤ running p (fewest_of p bound m) = h.reached l in absurd (omega arith)) (λ (l : m ≤ fewest_of p bound m). omega (arith, h.within)) (cases_lt (fewest_of p bound m) m) in
        let top : running p m < bound = subst (λ (k : ℕ). running p k < bound) all low in
        record { within = omega arith; under = λ k l. below_more (λ (j : ℕ). running p j < bound) m (λ j i. h.under j (omega (arith, all))) top k (omega arith); reached = λ l. absurd (omega arith) }

pub read_fewest : (p : CostParts) (bound : ℕ) → Fewest p bound (read_under p bound)
read_fewest p bound = let h = least_of p bound (length p.strips) in record { within = h.within; under = h.under; reached = h.reached }

-- the last of a list that was added to
last_of : {X : Type 0} (xs : List X) (x d : X) (i : ℕ) → i ≡ length xs → get_or (xs ++ (x ∷ [])) i d ≡ x
last_of xs x d i e = rw e (get_or-append_seam xs x [] d)

all_but : {X : Type 0} (xs : List X) (x : X) (i : ℕ) → i ≡ length xs → take i (xs ++ (x ∷ [])) ≡ xs
all_but xs x i e = rw e (take-append_seam xs (x ∷ []))

-- the strips of one trial more
pub counted_on : (before : ℕ) (b : Book) (c : Candidate) → Counted before b → Counted before (entered b c)
counted_on before b c h = record {
  reads = h.reads ++ (n ∷ []);
  each = omega (arith, length-append h.reads (n ∷ []), length-append b.later (c ∷ []), h.each);
  fewest = fewest;
  strips = omega (arith, h.strips, sum_by-append (λ (k : ℕ). k) h.reads (n ∷ []));
}
  where
    n : ℕ
    n = read_under (b.terms.parts c) (least b)

    fewest : (i : ℕ) (d : Candidate) → i < length (b.later ++ (c ∷ [])) →
        Fewest (b.terms.parts (slice_index_or (b.later ++ (c ∷ [])) i d)) (price b.terms (first_least (price b.terms) b.first (take i (b.later ++ (c ∷ []))))) (slice_index (h.reads ++ (n ∷ [])) i)
    fewest i d l =
        ⊎_elim
        (λ (lt : i < length b.later).
        rw (get_or_append_left b.later (c ∷ []) d i lt, take-append-le i b.later (c ∷ []) (omega arith), get_or_append_left h.reads (n ∷ []) 0 i (omega (arith, h.each))) (h.fewest i d lt))
        (λ (ge : length b.later ≤ i).
        let e : i ≡ length b.later = omega (arith, l, length-append b.later (c ∷ [])) in
        rw (last_of b.later c d i e, all_but b.later c i e, last_of h.reads n 0 i (omega (arith, e, h.each))) (read_fewest (b.terms.parts c) (least b)))
        (cases_lt i (length b.later))
