use Rattle.std.proofs.Common.{ℕ, pos}
use Rattle.search.specs.Runs.{full}
use Rattle.search.proofs.recipes.Search+L+M+Whole.try_all.Goals as goal

pub returns-clause-followed : goal.returns-clause-followed
returns-clause-followed g c = c.follow.ensures.followed (λ (r : ℕ). full (pos r)) (λ k call l told. told)
