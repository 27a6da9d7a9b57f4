use Rattle.search.specs.Recipes.{proposal_ask}
use Rattle.search.proofs.recipes.Search+L+M+Whole.offer_all.Goals as goal

pub returns-clause-followed : goal.returns-clause-followed
returns-clause-followed g c = c.follow.ensures.followed (proposal_ask c.args.proposals.xs.now c.args.proposals.ys.now) (λ k call l told. told)
