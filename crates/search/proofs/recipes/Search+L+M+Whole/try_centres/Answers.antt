use Rattle.search.specs.Recipes.{centre_ask}
use Rattle.search.proofs.recipes.Search+L+M+Whole.try_centres.Goals as goal

pub returns-clause-followed : goal.returns-clause-followed
returns-clause-followed g c = c.follow.ensures.followed (centre_ask c.args.self.now.stage.setup) (λ k call l told. told)
