-- The offsets so far were tried, as far as the candidates lie in the window.
use Rattle.std.proofs.Common.{◌≡◌, map, take, filter}
use Rattle.search.specs.Terms.{is_inside, terms_of}
use Rattle.search.specs.Tallies.{tallies}
use Rattle.search.specs.Calls.{shifted}
use Rattle.search.proofs.searches.Search.enter_around.Given as goal

abbrev pub invariant-loop-i : goal.invariant-loop-i
invariant-loop-i g l =
    (l.self.list ≡ l.fn.self.list) × (l.self.measure ≡ l.fn.self.measure) × (l.self.stage ≡ l.fn.self.stage) ×
    (l.self.tally ≡ tallies (terms_of (g.S.Stage.window l.fn.self.stage) (g.S.Stage.setup l.fn.self.stage) (g.L.ReferenceList.meaning l.fn.self.list) (g.M.Measure.cost l.fn.self.measure)) l.fn.self.tally (filter (is_inside (g.S.Stage.window l.fn.self.stage)) (take l.i (map (shifted l.fn.self.tally.held) (g.P.Pattern.offsets l.pattern)))))
