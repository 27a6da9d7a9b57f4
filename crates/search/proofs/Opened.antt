-- Trials that nothing bounds.
use Rattle.std.proofs.Common.{◌≡◌, ℕ, ◌<◌, ◌≤◌, length, ⊎_elim, ap, ◌∙◌, arith}
use Rattle.std.proofs.lemmas.Bool.{cases_lt}
use Rattle.cost.specs.declared.prices.Trial.{Trial}
use Rattle.cost.specs.Prices.{CostParts, running, cost_of, Tried, total_of}

-- under a bound that its total does not reach it reads all strips
pub all_read : (p : CostParts) (bound : ℕ) (t : Trial) → Tried p bound t → total_of t.cost < bound → t.strips ≡ length p.strips
all_read p bound t r l =
    ⊎_elim (λ (lt : t.strips < length p.strips). let met : bound ≤ running p t.strips = r.fewest.reached lt in absurd (omega (arith, r.sum)))
    (λ (ge : length p.strips ≤ t.strips). omega (arith, r.fewest.within)) (cases_lt t.strips (length p.strips))

-- and its total is the cost
pub all_summed : (p : CostParts) (bound : ℕ) (t : Trial) → Tried p bound t → total_of t.cost < bound → total_of t.cost ≡ cost_of p
all_summed p bound t r l = r.sum ∙ ap (running p) (all_read p bound t r l)
