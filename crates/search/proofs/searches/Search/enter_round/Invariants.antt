-- The vectors so far were tried.
use Rattle.std.proofs.Common.{◌≡◌, map}
use Rattle.search.specs.Terms.{terms_of}
use Rattle.search.specs.Tallies.{tallies}
use Rattle.search.specs.Calls.{at_picture}
use Rattle.search.proofs.searches.Search.enter_round.Given as goal

abbrev pub invariant-loop-vector : goal.invariant-loop-vector
invariant-loop-vector g l =
    (goal.iterator-loop-vector g).can_next l.vector-iterator × (goal.iterator-loop-vector g).is_finite l.vector-iterator ×
    (l.self.list ≡ l.fn.self.list) × (l.self.measure ≡ l.fn.self.measure) × (l.self.stage ≡ l.fn.self.stage) ×
    (l.self.tally ≡ tallies (terms_of (g.S.Stage.window l.fn.self.stage) (g.S.Stage.setup l.fn.self.stage) (g.L.ReferenceList.meaning l.fn.self.list) (g.M.Measure.cost l.fn.self.measure)) l.fn.self.tally (map (at_picture l.picture) l.yielded))
