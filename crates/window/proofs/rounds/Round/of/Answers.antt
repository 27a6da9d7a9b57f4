-- The first place is that of ring 0.
use Rattle.std.proofs.Common.{◌≡◌, map, sym, ap, subst}
use Rattle.window.specs.Lefts.{left}
use Rattle.pattern.specs.Offsets.{moved}
use Rattle.window.specs.Rests.{rest_from}
use Rattle.window.specs.Rounds.{round_of, Covers}
use Rattle.window.proofs.Covering.{round_covers}
use Rattle.window.proofs.Rows.{rest_whole}
use Rattle.window.proofs.rounds.Round.of.Goals as goal

pub returns : goal.returns
unfolding left
returns g c =
    let w = g.S.Stage.window c.args.stage.now in
    let e : map (moved c.centre.result) (rest_from c.reach.result 0 0 0) ≡ round_of w c.args.picture =
    rw (c.centre.ensures, c.reach.ensures) (ap (map (moved (w.centre c.args.picture))) (rest_whole w.reach)) in
    record { order = e; whole = subst (Covers w c.args.picture) (sym e) (round_covers w c.args.picture) }
