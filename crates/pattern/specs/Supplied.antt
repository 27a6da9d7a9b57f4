-- The offsets of a pattern supplied, by its name, and their bounds.
use Rattle.std.specs.Prelude.{ℕ, ◌≤◌, List, length, slice_index_or, refl}
use Rattle.std.proofs.Math.Dec.{lit≤}
use Rattle.rate.specs.declared.vectors.Vector.{Vector}
use Rattle.settings.specs.Ranges.{Reach}
use Rattle.pattern.specs.declared.supplied.Name.{Name}
use Rattle.pattern.specs.declared.supplied.Name.TheVariants as names
use Rattle.pattern.specs.declared.squares.Eight.TheVariants.{One, Two}
use Rattle.pattern.specs.Offsets.{still, Within}
use Rattle.pattern.specs.Patterns.{diamond, hexagon, square, cross, rings, eight}
use Rattle.pattern.specs.Shorts.{each_within}
use Rattle.pattern.specs.Arms.{cross_few, cross_short, rings_few, rings_short, eight_few, eight_short}

-- those of a name, where the cross and the rings are those of W
abbrev pub supplied_offsets : Name → ℕ → List Vector
supplied_offsets names.Diamond w = diamond
supplied_offsets names.Hexagon w = hexagon
supplied_offsets names.Square w = square
supplied_offsets names.Cross w = cross w
supplied_offsets names.Rings w = rings w
supplied_offsets names.EightOfOne w = eight 1
supplied_offsets names.EightOfTwo w = eight 2

pub supplied_few : (n : Name) (w : ℕ) → Reach w → length (supplied_offsets n w) ≤ 1024
unfolding square
supplied_few names.Diamond w ok = lit≤ tt
supplied_few names.Hexagon w ok = lit≤ tt
supplied_few names.Square w ok = lit≤ tt
supplied_few names.Cross w ok = cross_few w ok
supplied_few names.Rings w ok = rings_few w ok
supplied_few names.EightOfOne w ok = eight_few One
supplied_few names.EightOfTwo w ok = eight_few Two

pub supplied_short : (n : Name) (w : ℕ) → Reach w → (k : ℕ) → Within 64 (slice_index_or (supplied_offsets n w) k still)
unfolding square
supplied_short names.Diamond w ok k = each_within 64 diamond refl k
supplied_short names.Hexagon w ok k = each_within 64 hexagon refl k
supplied_short names.Square w ok k = each_within 64 square refl k
supplied_short names.Cross w ok k = cross_short w k ok
supplied_short names.Rings w ok k = rings_short w k ok
supplied_short names.EightOfOne w ok k = eight_short One k
supplied_short names.EightOfTwo w ok k = eight_short Two k
