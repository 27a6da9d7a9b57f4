-- The calls so far were made, and their answers added.
use Rattle.std.proofs.Common.{◌≡◌, ◌+◌, ◌≤◌, map, take, vec_len, vec_capacity}
use Rattle.search.specs.Terms.{terms_of}
use Rattle.search.specs.Runs.{Ran, ask_of}
use Rattle.search.proofs.searches.Search.run.Given as goal

abbrev pub invariant-loop-call : goal.invariant-loop-call
invariant-loop-call g l =
    (l.self.list ≡ l.fn.self.list) × (l.self.measure ≡ l.fn.self.measure) × (l.self.stage ≡ l.fn.self.stage) ×
    (vec_len l.answers ≡ vec_len l.fn.answers + l.call-index) × (vec_capacity l.fn.answers ≤ vec_capacity l.answers) ×
    Ran (terms_of (g.S.Stage.window l.fn.self.stage) (g.S.Stage.setup l.fn.self.stage) (g.L.ReferenceList.meaning l.fn.self.list) (g.M.Measure.cost l.fn.self.measure)) l.fn.self.tally l.self.tally
    (map (ask_of g.P.Pattern.offsets) (take l.call-index l.calls)) l.fn.answers.items l.answers.items
