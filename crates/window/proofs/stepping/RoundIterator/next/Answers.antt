-- Nothing is left past the last ring; before that a vector and what follows it.
use Rattle.std.proofs.Common.{◌≡◌, [], map, length, ap, arith}
use Rattle.window.specs.Lefts.{left}
use Rattle.pattern.specs.Offsets.{moved}
use Rattle.window.proofs.Rows.{rest_none}
use Rattle.window.proofs.stepping.RoundIterator.next.Goals as goal

pub returns-then-self-clause-steps : goal.returns-then-self-clause-steps
unfolding left
returns-then-self-clause-steps c =
    let s = c.args.self.now in
    let e : left s ≡ [] =
    ap (map (moved s.centre)) (rest_none s.reach s.spot.ring s.spot.row s.spot.column c.if-self.true) in
    (e, e)

pub returns-clause-steps : goal.returns-clause-steps
unfolding left
returns-clause-steps c =
    let s = c.args.self.now in
    rw (c.add-vector.ensures, c.offset_at.ensures.value) (ap (map (moved s.centre)) (c.after-self.ensures.follows s.reach c.if-self.false))

pub returns-clause-goes : goal.returns-clause-goes
returns-clause-goes c =
    let shorter = ap length (returns-clause-steps c) in
    record { on = λ f. (tt, tt, omega (arith, shorter)); keeps = tt; rests = λ f. tt }
