use Rattle.std.proofs.Common.{rules}
use Rattle.search.proofs.opening.Search+L+M+Whole.start.Goals as goal

pub invariant_of-result : goal.invariant_of-result
invariant_of-result g c = record { inside = search rules; low = search rules; few = search rules; spare = search rules; full = search rules; bytes = search rules }
