use Rattle.std.proofs.Common.{◌≡◌, ℕ, ◌+◌, ◌<◌, get_or, pos}
use Rattle.job.specs.Format.{word}
use Rattle.job.proofs.reading.read_words.Given as goal

abbrev pub invariant-loop-k : goal.invariant-loop-k
invariant-loop-k l = (i : ℕ) → i < l.k → get_or l.word-items i (pos 0) ≡ word l.bytes (l.from + i)
