-- The sum so far is that of the chunks passed, and in a chunk that of its samples passed besides.
use Rattle.std.proofs.Common.{◌≡◌, ◌*◌, ◌≤◌, length, ℕ, ◌+◌}
use Rattle.measure.specs.Sums.{GivesWhat, IsSumBy, cost_at, total}
use Rattle.measure.proofs.sums.sum_by.Given as goal

abbrev pub invariant-loop-p : goal.invariant-loop-p
invariant-loop-p g l = record {
  small : l.sum ≤ 65025 * (16 * length l.yielded);
  so_far : IsSumBy (goal.F-post g l.cost) l.strips.a.now l.strips.b.now (16 * length l.yielded) l.sum;
}

abbrev pub invariant-loop-x : goal.invariant-loop-x
invariant-loop-x g l = record {
  small : l.sum ≤ l.initial.sum + 65025 * length l.yielded;
  so_far : (f : ℕ → ℕ → ℕ) → GivesWhat f (goal.F-post g l.cost)
      → l.sum ≡ l.initial.sum + total (length l.yielded) (cost_at f l.initial.x-iterator.a.rest.now l.initial.x-iterator.b.rest.now);
}
