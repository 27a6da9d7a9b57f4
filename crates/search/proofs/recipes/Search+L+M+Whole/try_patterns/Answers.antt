use Rattle.search.specs.Recipes.{pattern_ask}
use Rattle.search.proofs.recipes.Search+L+M+Whole.try_patterns.Goals as goal

pub returns-clause-followed : goal.returns-clause-followed
returns-clause-followed g c = c.follow.ensures.followed (pattern_ask c.args.self.now.stage.setup.range.value) (λ k call l told. told)
