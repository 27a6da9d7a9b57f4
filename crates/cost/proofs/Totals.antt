-- Running totals: they never fall, and where a trial stops.
use Rattle.std.proofs.Common.{◌≡◌, ℕ, zero, suc, ◌+◌, ◌*◌, ◌<◌, ◌≤◌, true, false, ltb, leb, length, Ok, Err, sym, ap, ◌∙◌, ⊎_elim, add-one, arith, below_more}
use Rattle.std.proofs.lemmas.Bool.Decides.{nat_tests}
use Rattle.std.proofs.lemmas.Bool.{cases_lt}
use Rattle.measure.specs.Sums.{total}
use Rattle.cost.specs.Prices.{CostParts, cost_at, running, cost_of, fewest_of, Tried}

total_rises : (f : ℕ → ℕ) (k n : ℕ) → k ≤ n → total k f ≤ total n f
total_rises f k zero h = let e : k ≡ 0 = omega arith in rw e (omega arith)
total_rises f k (suc n) h =
    ⊎_elim (λ (lt : k < suc n). omega (arith, total_rises f k n (omega arith))) (λ (le : suc n ≤ k). let e : k ≡ suc n = omega arith in rw e (omega arith)) (cases_lt k (suc n))

-- a trial that has read k strips, all of them below the bound, at most m each
pub record Reading (p : CostParts) (bound m sum k : ℕ) : Type 0 where
  pub within : k ≤ length p.strips
  pub sums : sum ≡ running p k
  pub under : (j : ℕ) → j < k → running p j < bound
  pub small : sum ≤ 3921 + m * k

-- one strip more
pub reading_more : (p : CostParts) (bound m sum k d : ℕ) → Reading p bound m sum k → k < length p.strips → sum < bound → d ≡ cost_at p k → d ≤ m → Reading p bound m (sum + d) (k + 1)
reading_more p bound m sum k d inv lt below e l = record {
  within = omega arith;
  sums = rw (add-one k) (omega (arith, inv.sums));
  under = below_more (λ j. running p j < bound) k inv.under (omega (arith, inv.sums));
  small = omega (arith, inv.small);
}

fewest_is : (p : CostParts) (bound n m : ℕ) → ((k : ℕ) → k < n → running p k < bound) → (n < m → bound ≤ running p n) → n ≤ m → fewest_of p bound m ≡ n
fewest_is p bound n zero under met le = omega arith
fewest_is p bound n (suc m) under met le =
    ⊎_elim
    (λ (lt : n < suc m).
    let e = fewest_is p bound n m under (λ l. met lt) (omega arith) in
    let r : bound ≤ running p n = met lt in
    let t : leb bound (running p n) ≡ true = grind (arith, nat_tests) in
    rw (e, t))
    (λ (ge : suc m ≤ n).
    let e = fewest_is p bound m m (λ k l. under k (omega arith)) (λ l. absurd (omega arith)) (omega arith) in
    let r : running p m < bound = under m (omega arith) in
    let t : leb bound (running p m) ≡ false = grind (arith, nat_tests) in
    rw (e, t) (omega arith))
    (cases_lt n (suc m))

below : (a b : ℕ) → a < b → true ≡ ltb a b
below a b h = grind (arith, nat_tests)

above : (a b : ℕ) → b ≤ a → false ≡ ltb a b
above a b h = grind (arith, nat_tests)

-- a trial that has read all n strips without reaching the bound
pub reading_all : (p : CostParts) (bound m sum k n : ℕ) → Reading p bound m sum k → sum < bound → k ≡ n → length p.strips ≡ n →
    Tried p bound (record { cost = Ok sum; strips = n })
reading_all p bound m sum k n inv lt e all =
    let j : sum ≡ cost_of p = inv.sums ∙ ap (running p) (e ∙ sym all) in
    let done : n < length p.strips → bound ≤ running p n = λ l. absurd (omega (arith, l, all)) in
    record {
      better = below (cost_of p) bound (omega (arith, j));
      sum = inv.sums ∙ ap (running p) e;
      cost = j;
      fewest = record { within = omega (arith, all); under = λ i l. inv.under i (omega (arith, l, e)); reached = done };
      read = sym (fewest_is p bound n (length p.strips) (λ i l. inv.under i (omega (arith, l, e))) done (omega (arith, all)));
    }

-- a trial that has read n strips, and whose total reaches the bound: so the cost does
pub reading_met : (p : CostParts) (bound m sum k n : ℕ) → Reading p bound m sum k → bound ≤ sum → k ≡ n →
    Tried p bound (record { cost = Err sum; strips = n })
reading_met p bound m sum k n inv ge e =
    let s : sum ≡ running p n = inv.sums ∙ ap (running p) e in
    let within : n ≤ length p.strips = omega (arith, inv.within, e) in
    let rises = total_rises (cost_at p) n (length p.strips) within in
    let met : bound ≤ running p n = omega (arith, s) in
    record {
      better = above (cost_of p) bound (omega (arith, met, rises));
      sum = s;
      cost = tt;
      fewest = record { within = within; under = λ i l. inv.under i (omega (arith, l, e)); reached = λ l. met };
      read = sym (fewest_is p bound n (length p.strips) (λ i l. inv.under i (omega (arith, l, e))) (λ l. met) within);
    }
