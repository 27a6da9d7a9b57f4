-- The eight of 2 is twice that of 1.
use Rattle.std.proofs.Common.{◌∙◌}
use Rattle.pattern.proofs.Points.{eight_fits, eight_point}
use Rattle.pattern.proofs.squares.EightPattern.offset.Goals as goal

pub stretched-requires : goal.stretched-requires
stretched-requires c = eight_fits c.args.self.now _ c.args.i _ c.distance.ensures c.offset.ensures

pub returns : goal.returns
returns c = c.stretched.ensures ∙ eight_point c.args.self.now _ c.args.i _ c.distance.ensures c.offset.ensures
