-- What a round has yet to give; `of` and `next` say all that is to be known of it.
use Rattle.std.specs.Prelude.{List, map}
use Rattle.rate.specs.declared.vectors.Vector.{Vector}
use Rattle.window.specs.declared.rounds.Round.{Round}
use Rattle.pattern.specs.Offsets.{moved}
use Rattle.window.specs.Rests.{rest_from}

-- the vectors that are left, in order
unfoldable pub left : Round → List Vector
left r = map (moved r.centre) (rest_from r.reach r.spot.ring r.spot.row r.spot.column)
