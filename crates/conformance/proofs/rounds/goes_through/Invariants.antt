-- The offsets so far have been met, and the round has the rest left.
use Rattle.std.proofs.Common.{◌≡◌, ◌++◌, map, take}
use Rattle.pattern.specs.Offsets.{moved}
use Rattle.window.specs.Rounds.{round_of}
use Rattle.window.specs.Lefts.{left}
use Rattle.conformance.proofs.rounds.goes_through.Given as goal

abbrev pub invariant-loop-offset : goal.invariant-loop-offset
invariant-loop-offset g l =
    round_of (g.S.Stage.window l.stage) 0 ≡ map (moved l.centre) (take l.offset-index l.offsets) ++ left l.round
