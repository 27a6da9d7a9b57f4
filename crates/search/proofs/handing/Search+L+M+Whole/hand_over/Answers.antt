use Rattle.std.proofs.Common.{rules}
use Rattle.search.proofs.Handed.{hands_made}
use Rattle.search.proofs.handing.Search+L+M+Whole.hand_over.Goals as goal

pub returns-clause-hands : goal.returns-clause-hands
returns-clause-hands g c =
    let s = c.args.self in
    hands_made s.stage.setup (g.L.ReferenceList.meaning s.list) (g.M.Measure.cost s.measure) (g.N.Measure.cost c.args.measure) s.tally c.first-tally.result c.second-stage.result c.second-stage.ensures c.first-tally.ensures.first

pub invariant_of-result : goal.invariant_of-result
invariant_of-result g c = record { inside = search rules; low = search rules; few = search rules; spare = search rules; full = search rules; bytes = search rules }
