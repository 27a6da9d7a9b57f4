-- What is written so far.
use Rattle.std.proofs.Common.{take}
use Rattle.std.specs.Fmt.{HasWritten, IsPlainFormatter}
use Rattle.opening.specs.Lines.{line_text}
use Rattle.opening.proofs.lines.LineDisplay.fmt.Given as goal

abbrev pub invariant-loop-cost : goal.invariant-loop-cost
invariant-loop-cost g l =
    IsPlainFormatter l.fn.f →
    HasWritten g.W.Write.write_str_gives l.fn.f (line_text l.self.candidate l.self.rate_part (take l.cost-index l.self.costs)) l.f
