-- Both have as many.
use Rattle.std.proofs.Common.{◌≡◌, length, refl, ◌∙◌}
use Rattle.pattern.specs.declared.squares.Eight.{Eight}
use Rattle.pattern.specs.declared.squares.Eight.TheVariants.{One, Two}
use Rattle.pattern.specs.Patterns.{eight, distance_of}
use Rattle.pattern.proofs.squares.EightPattern.len.Goals as goal

as_many : (e : Eight) → length (eight 1) ≡ length (eight (distance_of e))
unfolding eight
as_many One = refl
as_many Two = refl

pub returns : goal.returns
returns c = c.len.ensures ∙ as_many c.args.self.now
