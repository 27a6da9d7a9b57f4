-- Trials of a list: what they leave, and how far a loop over a list has come.
use Rattle.std.proofs.Common.{◌≡◌, ℕ, zero, suc, ◌+◌, ◌<◌, ◌≤◌, true, false, Bool, cond, List, [], ◌∷◌, ◌++◌, length, take, take_all, filter, map, get_or, slice_index_or, refl, sym, ap, ◌∙◌, subst, arith, ℤ}
use Rattle.std.proofs.lemmas.List.{take_more}
use Rattle.std.proofs.lemmas.List.Elements.{filter-append}
use Rattle.rate.specs.declared.vectors.Vector.{Vector}
use Rattle.pattern.specs.Offsets.{still}
use Rattle.cost.specs.declared.candidates.Candidate.{Candidate}
use Rattle.search.specs.declared.tallies.Tally.{Tally}
use Rattle.reference.specs.Lists.{ListMeaning}
use Rattle.settings.specs.declared.setups.Setup.{Setup}
use Rattle.cost.specs.Strips.{Cost}
use Rattle.window.specs.Windows.{Window}
use Rattle.window.specs.Stages.{whole_of, quarter}
use Rattle.window.specs.declared.wholes.Whole.{Whole}
use Rattle.window.specs.declared.quarters.Quarter.{Quarter}
use Rattle.search.specs.Openings.{whole_terms}
use Rattle.search.specs.Handovers.{terms_in}
use Rattle.search.specs.Calls.{pair_in, pairs, shifted}
use Rattle.search.specs.Terms.{Terms, terms_of, is_inside}
use Rattle.search.specs.Tallies.{tallied, tallies}

pub tallies_append : (t : Terms) (y : Tally) (cs ds : List Candidate) → tallies t y (cs ++ ds) ≡ tallies t (tallies t y cs) ds
tallies_append t y [] ds = refl
tallies_append t y (c ∷ cs) ds = tallies_append t (tallied t y c) cs ds

-- each adds one to the trials
pub tallies_trials : (t : Terms) (y : Tally) (cs : List Candidate) → (tallies t y cs).trials ≡ y.trials + length cs
tallies_trials t y [] = omega arith
tallies_trials t y (c ∷ cs) = omega (arith, tallies_trials t (tallied t y c) cs)

pub counted : (t : Terms) (y z : Tally) (cs : List Candidate) → z ≡ tallies t y cs → z.trials ≡ y.trials + length cs
counted t y z cs e = ap (λ (u : Tally). u.trials) e ∙ tallies_trials t y cs

-- those of a list that pass a test, as far as a place
pub passed_more : (t : Terms) (y z : Tally) (test : Candidate → Bool) (cs : List Candidate) (k : ℕ) (c : Candidate) → k < length cs → get_or cs k c ≡ c →
    z ≡ tallies t y (filter test (take k cs)) → cond (test c) (tallied t z c) z ≡ tallies t y (filter test (take (k + 1) cs))
passed_more t y z test cs k c l is e =
    sym (ap (λ (ds : List Candidate). tallies t y (filter test ds)) (take_more cs k c l ∙ ap (λ (d : Candidate). take k cs ++ (d ∷ [])) is)
    ∙ ap (tallies t y) (filter-append test (take k cs) (c ∷ []))
    ∙ tallies_append t y (filter test (take k cs)) (filter test (c ∷ []))
    ∙ ap (λ (u : Tally). tallies t u (filter test (c ∷ []))) (sym e)
    ∙ last (test c))
  where
    last : (b : Bool) → tallies t z (cond b (c ∷ []) []) ≡ cond b (tallied t z c) z
    last true = refl
    last false = refl

-- how many pass it
pub few_passed : (test : Candidate → Bool) (cs : List Candidate) (k : ℕ) → length (filter test (take k cs)) ≤ k
few_passed test [] zero = omega arith
few_passed test [] (suc k) = omega arith
few_passed test (c ∷ cs) zero = omega arith
few_passed test (c ∷ cs) (suc k) = by (test c) (few_passed test cs k)
  where
    by : (b : Bool) → length (filter test (take k cs)) ≤ k → length (cond b (c ∷ filter test (take k cs)) (filter test (take k cs))) ≤ suc k
    by true h = omega arith
    by false h = omega arith

pub few_kept : (test : Candidate → Bool) (cs : List Candidate) → length (filter test cs) ≤ length cs
few_kept test cs = subst (λ (ds : List Candidate). length (filter test ds) ≤ length cs) (take_all (length cs) cs (omega arith)) (few_passed test cs (length cs))

-- the terms of a search whose parts are unchanged
pub same_terms : {X Y Z : Type 0} (w : Z → Window) (set : Z → Setup) (m : X → ListMeaning) (cost : Y → Cost) {l k : X} {n j : Y} {s r : Z} →
    l ≡ k → n ≡ j → s ≡ r → terms_of (w s) (set s) (m l) (cost n) ≡ terms_of (w r) (set r) (m k) (cost j)
same_terms w set m cost e f h = rw (e, f, h)

-- and of one in each stage
pub same_whole : {X Y : Type 0} (m : X → ListMeaning) (cost : Y → Cost) {l k : X} {n j : Y} {s r : Whole} → l ≡ k → n ≡ j → s ≡ r → whole_terms s.setup (m l) (cost n) ≡ whole_terms r.setup (m k) (cost j)
same_whole m cost e f h = same_terms (λ (s : Whole). whole_of s.setup) (λ (s : Whole). s.setup) m cost e f h

pub same_quarter : {X Y : Type 0} (m : X → ListMeaning) (cost : Y → Cost) {l k : X} {n j : Y} {s r : Quarter} → l ≡ k → n ≡ j → s ≡ r → terms_in s (m l) (cost n) ≡ terms_in r (m k) (cost j)
same_quarter m cost e f h = same_terms (λ (q : Quarter). quarter q.handed.picture q.handed.vector) (λ (q : Quarter). q.setup) m cost e f h

-- one turn of a loop that tries those of a list that lie in the window
pub pass_more : (t u : Terms) (y z x : Tally) (cs : List Candidate) (k : ℕ) (c : Candidate) → u ≡ t → k < length cs → get_or cs k c ≡ c →
    z ≡ tallies t y (filter (is_inside t.window) (take k cs)) → x ≡ cond (is_inside u.window c) (tallied u z c) z →
    x ≡ tallies t y (filter (is_inside t.window) (take (k + 1) cs))
pass_more t u y z x cs k c same l is e f =
    f ∙ ap (λ (v : Terms). cond (is_inside v.window c) (tallied v z c) z) same ∙ passed_more t y z (is_inside t.window) cs k c l is e

-- so far no more trials than turns
pub pass_few : (t : Terms) (y z : Tally) (cs : List Candidate) (k : ℕ) → z ≡ tallies t y (filter (is_inside t.window) (take k cs)) → z.trials ≤ y.trials + k
pass_few t y z cs k e =
    let n : z.trials ≡ y.trials + length (filter (is_inside t.window) (take k cs)) = ap (λ (u : Tally). u.trials) e ∙ tallies_trials t y (filter (is_inside t.window) (take k cs)) in
    omega (arith, few_passed (is_inside t.window) cs k)

pub pass_grows : (t : Terms) (y z : Tally) (cs : List Candidate) (k : ℕ) → z ≡ tallies t y (filter (is_inside t.window) (take k cs)) → y.trials ≤ z.trials
pass_grows t y z cs k e = omega (arith, counted t y z (filter (is_inside t.window) (take k cs)) e)

-- the pair at a place of two arrays
pub pair_at : (r : ℕ) (xs ys : List ℤ) (k : ℕ) (d : Candidate) → length xs ≡ length ys → k < length xs →
    get_or (pairs r xs ys) k d ≡ pair_in r xs ys k
pair_at r [] ys k d e l = absurd (omega arith)
pair_at r (x ∷ xs) [] k d e l = absurd (omega arith)
pair_at r (x ∷ xs) (y ∷ ys) zero d e l = refl
pair_at r (x ∷ xs) (y ∷ ys) (suc k) d e l = pair_at r xs ys k d (omega arith) (omega arith)

pub pairs_many : (r : ℕ) (xs ys : List ℤ) → length xs ≡ length ys → length (pairs r xs ys) ≡ length xs
pairs_many r [] ys e = refl
pairs_many r (x ∷ xs) [] e = absurd (omega arith)
pairs_many r (x ∷ xs) (y ∷ ys) e = omega (arith, pairs_many r xs ys (omega arith))

-- the loop is done
pub pass_all : (t : Terms) (y z : Tally) (cs : List Candidate) (k : ℕ) → length cs ≤ k → z ≡ tallies t y (filter (is_inside t.window) (take k cs)) → z ≡ tallies t y (filter (is_inside t.window) cs)
pass_all t y z cs k l e = e ∙ ap (λ (ds : List Candidate). tallies t y (filter (is_inside t.window) ds)) (take_all k cs l)

-- the candidate by an offset of a list
pub shifted_at : (h : Candidate) (os : List Vector) (k : ℕ) (d : Candidate) (o : Vector) → k < length os → o ≡ slice_index_or os k still → get_or (map (shifted h) os) k d ≡ shifted h o
shifted_at h [] k d o l e = absurd (omega arith)
shifted_at h (v ∷ os) zero d o l e = ap (shifted h) (sym e)
shifted_at h (v ∷ os) (suc k) d o l e = shifted_at h os k d o (omega arith) e
