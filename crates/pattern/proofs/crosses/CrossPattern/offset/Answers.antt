-- The level line, the upright one, and nothing after them.
use Rattle.std.proofs.Common.{◌+◌, ◌<◌, ◌/◌, ◌∙◌, pos, sym, ap, arith, w16, SFits, rules}
use Rattle.std.proofs.lemmas.Int.{to_z-of_z}
use Rattle.pattern.specs.Offsets.{at}
use Rattle.pattern.specs.Arms.{length_cross, cross_level, cross_upright}
use Rattle.pattern.proofs.crosses.CrossPattern.offset.Goals as goal

pub returns-then-i-across : goal.returns-then-i-across
returns-then-i-across c =
    let f : SFits w16 c.along_line.result = search rules in
    simp to_z-of_z
    (ap (λ x. at x (pos 0)) c.along_line.ensures ∙
    sym (cross_level c.args.self.now.range.value c.args.i c.args.self.now.range.ok c.if-i-across.true))

pub returns-then-i-len : goal.returns-then-i-len
returns-then-i-len c =
    let w = c.args.self.now.range.value in
    let f : SFits w16 c.along_line-then-i-len.result = search rules in
    let l : c.args.i < w + w / 2 = omega (arith, c.len.ensures, length_cross w c.args.self.now.range.ok) in
    simp to_z-of_z
    (ap (λ y. at (pos 0) y) c.along_line-then-i-len.ensures ∙
    sym (cross_upright w c.args.i c.args.self.now.range.ok c.if-i-across.false l))
