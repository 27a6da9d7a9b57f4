-- The strips read so far, all below the bound.
use Rattle.cost.specs.Strips.{parts_of}
use Rattle.cost.proofs.Totals.{Reading}
use Rattle.cost.proofs.pricing.Pricing.judge.Given as goal

abbrev pub invariant-loop-s : goal.invariant-loop-s
invariant-loop-s g l =
    Reading (parts_of l.self.setup.now (g.L.ReferenceList.meaning l.self.list.now) (g.M.Measure.cost l.self.measure.now) l.candidate) l.bound 4161600 l.total l.s
