-- Prices: running totals over strips, the cost J, and how far a trial under a bound reads.
use Rattle.std.specs.Prelude.{◌≡◌, ℕ, zero, suc, ◌+◌, ◌<◌, ◌≤◌, cond, List, length, is_ok, IfOk, Ok, Err, Result, nat_le, nat_lt, slice_index}
use Rattle.measure.specs.Sums.{total}
use Rattle.cost.specs.declared.prices.Trial.{Trial}

-- what one candidate is priced by: its rate part, and what each strip of the block costs, from the top
pub record CostParts : Type 0 where
  pub base : ℕ
  pub strips : List ℕ

-- what strip s costs
abbrev pub cost_at : CostParts → ℕ → ℕ
cost_at p s = slice_index p.strips s

-- the rate part and the costs of the first k strips
abbrev pub running : CostParts → ℕ → ℕ
running p k = p.base + total k (cost_at p)

-- the cost J: the rate part and the costs of all strips
abbrev pub cost_of : CostParts → ℕ
cost_of p = running p (length p.strips)

-- n is the fewest leading strips, or none, at which the running total reaches the bound, else all
pub record Fewest (p : CostParts) (bound n : ℕ) : Type 0 where
  pub within : n ≤ length p.strips
  pub under : (k : ℕ) → k < n → running p k < bound
  pub reached : n < length p.strips → bound ≤ running p n

-- that number, of the first m strips
abbrev pub fewest_of : CostParts → ℕ → ℕ → ℕ
fewest_of p bound zero = 0
fewest_of p bound (suc m) = cond (nat_le bound (running p (fewest_of p bound m))) (fewest_of p bound m) (suc m)

-- and of all strips
abbrev pub read_under : CostParts → ℕ → ℕ
read_under p bound = fewest_of p bound (length p.strips)

-- the total that a trial came to, whether it stayed below the bound or not
abbrev pub total_of : Result ℕ ℕ → ℕ
total_of (Ok total) = total
total_of (Err total) = total

-- what a trial tells: better just where J is below the bound, and J then; it reads no more strips than show that
pub record Tried (p : CostParts) (bound : ℕ) (t : Trial) : Type 0 where
  pub better : is_ok t.cost ≡ nat_lt (cost_of p) bound
  pub sum : total_of t.cost ≡ running p t.strips
  pub cost : IfOk t.cost (λ total. total ≡ cost_of p)
  pub fewest : Fewest p bound t.strips
  pub read : t.strips ≡ read_under p bound
