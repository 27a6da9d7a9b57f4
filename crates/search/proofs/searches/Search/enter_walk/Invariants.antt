-- The sweeps so far have each moved what is held, and lowered its cost.
use Rattle.std.proofs.Common.{◌≡◌}
use Rattle.search.specs.Terms.{terms_of}
use Rattle.search.proofs.Resting.{Walking}
use Rattle.search.proofs.searches.Search.enter_walk.Given as goal

abbrev pub invariant-loop : goal.invariant-loop
invariant-loop g l =
    (l.self.list ≡ l.fn.self.list) × (l.self.measure ≡ l.fn.self.measure) × (l.self.stage ≡ l.fn.self.stage) ×
    Walking (terms_of (g.S.Stage.window l.fn.self.stage) (g.S.Stage.setup l.fn.self.stage) (g.L.ReferenceList.meaning l.fn.self.list) (g.M.Measure.cost l.fn.self.measure)) l.fn.self.tally l.self.tally (g.P.Pattern.offsets l.pattern) l.sweeps

abbrev pub decreases-loop : goal.decreases-loop
decreases-loop g l = l.self.tally.cost
