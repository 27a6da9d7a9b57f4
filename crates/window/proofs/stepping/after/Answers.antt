-- Each of the four steps.
use Rattle.std.proofs.Common.{◌*◌, ◌<◌, inl, inr, ⊎_elim, arith}
use Rattle.window.proofs.Rows.{rest_right, rest_across, rest_down, rest_out}
use Rattle.window.proofs.stepping.after.Goals as goal

pub returns-then-spot-eq0 : goal.returns-then-spot-eq0
returns-then-spot-eq0 c =
    let outer = ⊎_elim (λ e. inl e) (λ e. inr e.1) c.then-spot-eq0.either in
    record { follows = λ far le. rest_right far c.args.spot.ring c.args.spot.row c.args.spot.column le (omega arith) outer; near = omega arith }

pub returns-then-spot-last : goal.returns-then-spot-last
returns-then-spot-last c =
    let s = c.args.spot in
    let a : 0 < s.row = grind (arith, c.if-spot-eq0.false) in
    let b : s.row < 2 * s.ring = grind (arith, c.if-spot-last-2.false, s.stands.0) in
    record { follows = λ far le. rest_across far s.ring s.row s.column le s.stands a b (omega arith); near = omega arith }

pub returns-then-spot-last-3 : goal.returns-then-spot-last-3
returns-then-spot-last-3 c =
    record { follows = λ far le. rest_down far c.args.spot.ring c.args.spot.row c.args.spot.column le c.if-spot-last-3.true (omega arith); near = omega arith }

pub returns : goal.returns
returns c =
    record { follows = λ far le. rest_out far c.args.spot.ring c.args.spot.row c.args.spot.column le (omega arith) (omega arith); near = omega arith }
