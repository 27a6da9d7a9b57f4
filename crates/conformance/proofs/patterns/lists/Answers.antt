-- As many, and the same at each place.
use Rattle.std.proofs.Common.{◌≡◌, length, ◌∙◌, arith, refl}
use Rattle.std.proofs.lemmas.List.{same_lists, get_or_default}
use Rattle.pattern.specs.Offsets.{still}
use Rattle.conformance.proofs.patterns.lists.Goals as goal

pub returns : goal.returns
returns g c =
    let os = g.P.Pattern.offsets c.args.pattern.now in
    let n : length os ≡ length c.args.offsets.now = omega (arith, c.len.ensures, c.if-len-offsets.false) in (
      λ _. same_lists os c.args.offsets.now n (λ k d lt.
          get_or_default os k d still lt ∙
          c.loop-i.invariant k (omega (arith, n, c.loop-i-test.false)) ∙
          get_or_default c.args.offsets.now k still d (omega (arith, n))),
      λ _. refl,
    )
