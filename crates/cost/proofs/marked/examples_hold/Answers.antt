-- What can be computed is computed; code lengths and lambda follow from their rules.
use Rattle.std.proofs.Common.{◌≡◌, ℕ, ◌+◌, ◌*◌, ◌/◌, ◌^◌, ◌<◌, ◌≤◌, Bool, true, false, ◌&&◌, T, eqb, List, [], ◌∷◌, ◌++◌, ℤ, pos, negsuc, sym, refl, ap, lit<, lit≤, eqb→eq}
use Rattle.std.specs.List.{AllByRecursion}
use Rattle.std.proofs.ByRecursion.{All-append}
use Rattle.reference.specs.Interpolation.{quarter, cell, across, tap, rounded}
use Rattle.rate.specs.Lengths.{code_length}
use Rattle.rate.proofs.Table.{parted}
use Rattle.rate.proofs.LengthRule.{length_is}
use Rattle.rate.proofs.LambdaRule.{lambda_tested}
use Rattle.cost.specs.Marked.{Example, gaps, dents, ones, lengths, lambdas, centres}
use Rattle.cost.proofs.marked.examples_hold.Goals as goal

-- a row holds
abbrev Holds : Example → Type 0
Holds e = e.found ≡ e.is

abbrev same : ℤ → ℤ → Bool
same (pos m) (pos n) = eqb m n
same (pos m) (negsuc n) = false
same (negsuc m) (pos n) = false
same (negsuc m) (negsuc n) = eqb m n

same_is : (x y : ℤ) → T (same x y) → x ≡ y
same_is (pos m) (pos n) t = ap pos (eqb→eq m n t)
same_is (pos m) (negsuc n) t = absurd t
same_is (negsuc m) (pos n) t = absurd t
same_is (negsuc m) (negsuc n) t = ap negsuc (eqb→eq m n t)

-- the test of all rows of a list
abbrev tests : List Example → Bool
tests [] = true
tests (e ∷ es) = same e.found e.is && tests es

tested : (es : List Example) → T (tests es) → AllByRecursion Holds es
tested [] t = tt
tested (e ∷ es) t =
    let p = parted (same e.found e.is) (tests es) t in
    (same_is e.found e.is p.0, tested es p.1)

-- a code length, from the logarithm
bits : (k log : ℕ) → 2 ^ log ≤ k + 1 → k + 1 < 2 ^ (log + 1) → pos (code_length k) ≡ pos (2 * log + 1)
bits k log low high =
    ap pos (sym (length_is k (2 * log + 1) (record { log = log; is_log = record { low = low; high = high }; is_length = refl })))

in_gaps : AllByRecursion Holds gaps
unfolding quarter cell across tap rounded
in_gaps = tested gaps tt

of_lengths : AllByRecursion Holds lengths
of_lengths = (bits 0 0 (lit≤ tt) (lit< tt), (bits 2 1 (lit≤ tt) (lit< tt), (bits 7 3 (lit≤ tt) (lit< tt), tt)))

of_lambdas : AllByRecursion Holds lambdas
of_lambdas = (
  ap pos (lambda_tested 0 15105 tt),
  (ap pos (lambda_tested 12 60421 tt), (ap pos (lambda_tested 30 483369 tt), (ap (λ l. pos (l * 8 / 65536)) (lambda_tested 30 483369 tt), tt))),
)

-- the rows after the measures'
abbrev later : List Example
later = lengths ++ (lambdas ++ centres)

of_later : AllByRecursion Holds later
of_later =
    All-append Holds lengths (lambdas ++ centres) of_lengths (All-append Holds lambdas centres of_lambdas (tested centres tt))

pub returns : goal.returns
returns c =
    All-append Holds gaps (dents 16 ++ (ones ++ later)) in_gaps
    (All-append Holds (dents 16) (ones ++ later) (tested (dents 16) tt) (All-append Holds ones later (tested ones tt) of_later))
