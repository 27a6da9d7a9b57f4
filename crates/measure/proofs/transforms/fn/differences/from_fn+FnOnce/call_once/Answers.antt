-- The difference, read back.
use Rattle.std.proofs.Common.{w32, SFits, rules}
use Rattle.std.proofs.lemmas.Int.{to_z-of_z}
use Rattle.measure.proofs.transforms.fn.differences.from_fn+FnOnce.call_once.Goals as goal

pub returns : goal.returns
returns c =
    let fits : SFits w32 c.from_fn.result = search rules in
    rw (to_z-of_z w32 c.from_fn.result fits) (c.from_fn.new.arg1, (c.from_fn.kept-captures, (c.from_fn.ensures.value, c.from_fn.ensures.most)))
