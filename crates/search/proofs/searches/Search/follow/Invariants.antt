-- The calls so far were taken.
use Rattle.std.proofs.Common.{◌≡◌, ℕ, ◌<◌, map, Ok}
use Rattle.std.specs.List.{range_with_len}
use Rattle.search.specs.Terms.{terms_of}
use Rattle.search.specs.Runs.{Ask, ask_of}
use Rattle.search.specs.Recipes.{Followed}
use Rattle.search.proofs.searches.Search.follow.Given as goal

abbrev pub invariant-loop-k : goal.invariant-loop-k
invariant-loop-k g l =
    (l.self.list ≡ l.fn.self.list) × (l.self.measure ≡ l.fn.self.measure) × (l.self.stage ≡ l.fn.self.stage) ×
    ((ask : ℕ → Ask) → ((k : ℕ) (c : _) → k < l.count → goal.F-post g l.at k c → ask_of g.P.Pattern.offsets c ≡ ask k) →
    Followed (terms_of (g.S.Stage.window l.fn.self.stage) (g.S.Stage.setup l.fn.self.stage) (g.L.ReferenceList.meaning l.fn.self.list) (g.M.Measure.cost l.fn.self.measure)) l.fn.self.tally l.self.tally (map ask (range_with_len 0 l.k)) (Ok (tt {0})))
