use Rattle.std.proofs.Common.{◌≡◌, ℕ, ◌<◌, get_or}
use Rattle.picture.specs.Planes.{grid_of}
use Rattle.block.specs.Blocks.{block_sample}
use Rattle.block.proofs.copying.copied.Given as goal

abbrev pub invariant-loop-k : goal.invariant-loop-k
invariant-loop-k l =
    (j : ℕ) → j < l.k → get_or l.sample-items j 0 ≡ block_sample (grid_of l.current) l.place.left l.place.top l.width j
