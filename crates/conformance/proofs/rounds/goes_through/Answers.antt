-- A vector that is not the next one tells the lists apart.
use Rattle.std.proofs.Common.{◌≡◌, ℕ, zero, suc, ◌<◌, List, [], ◌∷◌, ◌++◌, map, take, drop, length, slice_index_or, sym, ◌∙◌, ap, not-suc-le-zero, arith}
use Rattle.rate.specs.declared.vectors.Vector.{Vector}
use Rattle.pattern.specs.Offsets.{still, moved}
use Rattle.window.specs.Lefts.{left}
use Rattle.conformance.proofs.rounds.goes_through.Goals as goal

next_is : (f : Vector → Vector) (os : List Vector) (i : ℕ) (v : Vector) (rest : List Vector) → i < length os → map f (take i os) ++ (v ∷ rest) ≡ map f os → v ≡ f (slice_index_or os i still)
next_is f [] i v rest lt e = absurd (not-suc-le-zero lt)
next_is f (o ∷ os) zero v rest lt e = ap (λ l. slice_index_or l 0 still) e
next_is f (o ∷ os) (suc i) v rest lt e = next_is f os i v rest (omega arith) (ap (drop 1) e)

pub returns-in_default : goal.returns-in_default
returns-in_default g c =
    let f = moved c.centre-centre.result in
    let os = c.args.offsets.now in
    let i = c.loop-offset.offset-index in (
      λ t. absurd (cc),
      λ e. c.if-is_moved.ensures.1 (next_is f os i c.in-Some.vector (left c.next.new.self) c.loop-offset-test.true
          (ap (λ l. map f (take i os) ++ l) (sym c.in-Some.ensures.steps) ∙
          sym c.loop-offset.invariant ∙ e ∙
          ap (λ p. map (moved p) os) (sym c.centre-centre.ensures))),
    )
