-- The word that is refused is the last that was taken.
use Rattle.std.proofs.Common.{◌≡◌, Ok, Err, Result, IsErrAnd, MatchResult, sym, subst, arith}
use Rattle.std.proofs.iter.Next.{Yields-more}
use Rattle.tally.specs.declared.reading.BadRecord.{BadRecord}
use Rattle.tally.specs.declared.reading.BadRecord.TheVariants.{NotANumber}
use Rattle.tally.proofs.reading.numbers.Goals as goal

-- what was made of the error of a refused word tells that error
its_error : {T E : Type 0} (P : Result T E → Type 0) (r : Result T E) (s : Result T (BadRecord E)) (f : BadRecord E) (e : E) →
    P r → MatchResult r (λ x. s ≡ Ok x) (λ d. IsErrAnd s (λ y. y ≡ NotANumber d)) → s ≡ Err f → f ≡ NotANumber e → P (Err e)
its_error P (Ok x) s f e p m w is = cc
its_error P (Err d) s f e p m w is =
    let n : f ≡ NotANumber d = subst (λ q. IsErrAnd q (λ y. y ≡ NotANumber d)) w m in
    let same : d ≡ e = cc in
    subst (λ x. P (Err x)) same p

pub returns-in_err-number-clause-refused : goal.returns-in_err-number-clause-refused
returns-in_err-number-clause-refused g c =
    let steps = g.W.Iterator.next_gives in
    let led = Yields-more steps c.into_iter-word-iterator.result c.loop-word.yielded c.loop-word.word-iterator c.in-Some.word c.next.new.self c.loop-word.yielded_by (rw (sym c.in-Some.is) c.next.ensures.steps) in
    λ e is. (
      c.loop-word.yielded,
      c.in-Some.word,
      c.next.new.self,
      rw (sym c.into_iter-word-iterator.ensures.into_iter_gives) led,
      its_error (λ r. g.T.FromStr.from_str_gives c.in-Some.word.now r) _ _ _ e c.parse.ensures.value c.map_err.ensures.cases c.in_err-number.was (grind (arith, c.from_residual.ensures, is)),
    )
