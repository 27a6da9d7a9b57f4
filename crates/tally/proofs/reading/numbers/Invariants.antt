-- Each number so far is what its word says.
use Rattle.std.proofs.Common.{Ok}
use Rattle.std.specs.List.{AllZip}
use Rattle.tally.proofs.reading.numbers.Given as goal

abbrev pub invariant-loop-word : goal.invariant-loop-word
invariant-loop-word g l = AllZip (λ w n. g.T.FromStr.from_str_gives w.now (Ok n)) l.yielded l.numbers.items
