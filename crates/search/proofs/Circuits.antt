-- A full round under way, and what it leaves.
use Rattle.std.proofs.Common.{◌≡◌, ℕ, ◌+◌, ◌*◌, ◌<◌, ◌≤◌, true, List, [], ◌∷◌, ◌++◌, length, map, get_or, sym, ap, ◌∙◌, subst, arith}
use Rattle.std.specs.List.{AllByRecursion}
use Rattle.std.proofs.ByRecursion.{all-has}
use Rattle.std.proofs.lemmas.Nat.{row_fits}
use Rattle.std.proofs.lemmas.List.{get_or_default, map_push, length-map}
use Rattle.rate.specs.declared.vectors.Vector.{Vector}
use Rattle.cost.specs.declared.candidates.Candidate.{Candidate}
use Rattle.window.specs.Windows.{Window, inside}
use Rattle.window.specs.Rounds.{Covers, round_of}
use Rattle.search.specs.declared.tallies.Tally.{Tally}
use Rattle.search.specs.Terms.{Terms, price}
use Rattle.search.specs.Tallies.{tallied, tallies}
use Rattle.search.specs.Calls.{at_picture, rounded}
use Rattle.search.specs.Agreed.{Searched}
use Rattle.search.proofs.Passes.{tallies_append, counted}
use Rattle.search.proofs.Falls.{tallies_under}

-- the vector at a place of a full round lies in the window
pub next_inside : (w : Window) (r : ℕ) (vs : List Vector) (v : Vector) (k : ℕ) → Covers w r vs → k < length vs → v ≡ get_or vs k v → inside w r v ≡ true
next_inside w r vs v k covers l e = covers.only v (k, l, λ d. get_or_default vs k d v l ∙ sym e)

-- a full round of a window that reaches 64 at most is short
pub short_round : (w : Window) (r : ℕ) (vs : List Vector) → Covers w r vs → w.reach ≤ 64 → length vs ≤ 16770
short_round w r vs covers narrow = let m = covers.many in small w.reach (length vs) narrow m
  where
    small : (far n : ℕ) → far ≤ 64 → n ≡ (2 * far + 1) * (2 * far + 1) → n ≤ 16770
    small far n l e = omega (arith, e, row_fits (2 * far + 1) (2 * far + 1) 130 129 (omega arith) (omega arith))

-- one trial more
pub round_more : (t u : Terms) (y z x : Tally) (r : ℕ) (vs : List Vector) (v : Vector) → u ≡ t → z ≡ tallies t y (map (at_picture r) vs) → x ≡ tallied u z (at_picture r v) →
    x ≡ tallies t y (map (at_picture r) (vs ++ (v ∷ [])))
round_more t u y z x r vs v same e f =
    f ∙ ap (λ (s : Terms). tallied s z (at_picture r v)) same ∙ ap (λ (s : Tally). tallied t s (at_picture r v)) e
    ∙ sym (ap (tallies t y) (map_push (at_picture r) vs v) ∙ tallies_append t y (map (at_picture r) vs) (at_picture r v ∷ []))

-- so far as many trials as vectors
pub round_counted : (t : Terms) (y z : Tally) (r : ℕ) (vs : List Vector) → z ≡ tallies t y (map (at_picture r) vs) → z.trials ≡ y.trials + length vs
round_counted t y z r vs e = counted t y z (map (at_picture r) vs) e ∙ ap (λ (n : ℕ). y.trials + n) (length-map vs (at_picture r))

-- the round is done
pub round_whole : (t : Terms) (y z : Tally) (r : ℕ) (vs all : List Vector) → vs ≡ all → z ≡ tallies t y (map (at_picture r) vs) → z ≡ tallies t y (map (at_picture r) all)
round_whole t y z r vs all same e = e ∙ ap (λ (us : List Vector). tallies t y (map (at_picture r) us)) same

-- none of the window costs less than what is held then
under_all : (t : Terms) (m r : ℕ) (vs : List Vector) → AllByRecursion (λ (c : Candidate). m ≤ price t c) (map (at_picture r) vs) → AllByRecursion (λ (v : Vector). m ≤ price t (at_picture r v)) vs
under_all t m r [] a = tt
under_all t m r (v ∷ vs) a = (a.0, under_all t m r vs a.1)

pub round_searched : (t : Terms) (y z : Tally) (r : ℕ) → Covers t.window r (round_of t.window r) → z ≡ tallies t y (rounded t.window r) → Searched t r z.cost
round_searched t y z r covers e v in_it =
    all-has (λ (u : Vector). z.cost ≤ price t (at_picture r u)) (round_of t.window r) v
    (under_all t z.cost r (round_of t.window r) (subst (λ (u : Tally). AllByRecursion (λ (c : Candidate). u.cost ≤ price t c) (rounded t.window r)) (sym e) (tallies_under t y (rounded t.window r))))
    (covers.every v in_it)

-- the picture's number is that which was given
pub searched_in : (t : Terms) (r n m : ℕ) → r ≡ n → Searched t r m → Searched t n m
searched_in t r n m e h = subst (λ (k : ℕ). Searched t k m) e h
