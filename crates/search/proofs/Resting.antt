-- How far a walk has come, and what it leaves.
use Rattle.std.proofs.Common.{◌≡◌, ℕ, zero, suc, ◌+◌, ◌*◌, ◌<◌, ◌≤◌, ◌≢◌, true, false, Bool, ◌&&◌, List, length, map, ⊎_elim, refl, sym, ap, ◌∙◌, subst, arith, add-one, below_more, ◌==◌, ℤ}
use Rattle.std.proofs.lemmas.List.{length-map}
use Rattle.std.specs.List.{AllByRecursion}
use Rattle.std.proofs.ByRecursion.{all-has}
use Rattle.std.proofs.lemmas.Bool.{cases_lt, and_parts}
use Rattle.std.proofs.lemmas.Bool.Decides.{nat_tests, Decides-int_eq}
use Rattle.rate.specs.declared.vectors.Vector.{Vector}
use Rattle.cost.specs.declared.candidates.Candidate.{Candidate}
use Rattle.std.specs.Ordering.{int_eq}
use Rattle.window.specs.Nearness.{same_picture}
use Rattle.search.specs.declared.tallies.Tally.{Tally}
use Rattle.search.specs.Terms.{Terms, price, is_inside}
use Rattle.search.specs.Book.{Book, held, least, enters}
use Rattle.search.specs.Tallies.{tallies, Agrees}
use Rattle.search.specs.Calls.{around, shifted}
use Rattle.search.specs.Walks.{swept, sweeps, is_same, moving, Settled, Walks}
use Rattle.search.proofs.Agree.{agrees_enters, sweep_same}
use Rattle.search.proofs.Passes.{counted, few_kept}
use Rattle.search.proofs.Falls.{tallies_falls, tallies_under, all_passed}

-- k sweeps were made, and each has moved what is held
pub record Walking (t : Terms) (y z : Tally) (os : List Vector) (k : ℕ) : Type 0 where
  pub agrees : (b : Book) → Agrees t y b → Agrees t z (sweeps k os b)
  pub moved : (b : Book) → Agrees t y b → (j : ℕ) → j < k → held (sweeps (suc j) os b) ≢ held (sweeps j os b)
  pub falls : z.cost + k ≤ y.cost
  pub few : z.trials ≤ y.trials + 1024 * k

pub walking_start : (t : Terms) (y : Tally) (os : List Vector) → Walking t y y os 0
unfolding sweeps
walking_start t y os = record {
  agrees = λ b a. a;
  moved = λ b a j l. absurd (omega arith);
  falls = omega arith;
  few = omega arith;
}

-- agreement after one more sweep
on : (t : Terms) (y z x : Tally) (os : List Vector) (k : ℕ) → Walking t y z os k → x ≡ tallies t z (around t.window z.held os) → (b : Book) → Agrees t y b → Agrees t x (sweeps (suc k) os b)
unfolding sweeps
on t y z x os k w e b a =
    let c : Book = sweeps k os b in
    let h : Agrees t z c = w.agrees b a in
    let n = agrees_enters t z c (around t.window z.held os) h in
    subst (λ (u : Tally). Agrees t u (swept os c)) (sym e)
    (subst (λ (cs : List Candidate). Agrees t (tallies t z (around t.window z.held os)) (enters c cs)) (sweep_same t z os c h) n)

-- what a search holds that agrees
agreed_held : (t : Terms) (y : Tally) (b : Book) → Agrees t y b → held b ≡ y.held
agreed_held t y b a = sym (ap (λ (u : Tally). u.held) a.1)

around_few : (t : Terms) (h : Candidate) (os : List Vector) → length (around t.window h os) ≤ length os
around_few t h os = omega (arith, few_kept (is_inside t.window) (map (shifted h) os), length-map os (shifted h))

-- a sweep on terms that are the same
pub same_sweep : (t u : Terms) (z x : Tally) (os : List Vector) → u ≡ t → x ≡ tallies u z (around u.window z.held os) → x ≡ tallies t z (around t.window z.held os)
same_sweep t u z x os same e = e ∙ ap (λ (v : Terms). tallies v z (around v.window z.held os)) same

-- each sweep but the last lowers the cost
pub sweep_falls : (t : Terms) (z x : Tally) (os : List Vector) → x ≡ tallies t z (around t.window z.held os) → x.held ≢ z.held → x.cost < z.cost
sweep_falls t z x os e n = subst (λ (u : Tally). u.cost < z.cost) (sym e) (tallies_falls t z (around t.window z.held os) (subst (λ (u : Tally). u.held ≢ z.held) e n))

-- one more sweep, which has moved what is held
pub walking_more : (t : Terms) (y z x : Tally) (os : List Vector) (k : ℕ) → Walking t y z os k → x ≡ tallies t z (around t.window z.held os) → x.held ≢ z.held → length os ≤ 1024 → Walking t y x os (k + 1)
walking_more t y z x os k w e n few = record {
  agrees = λ b a. rw (add-one k) (on t y z x os k w e b a);
  moved = λ b a. below_more (λ (j : ℕ). held (sweeps (suc j) os b) ≢ held (sweeps j os b)) k (w.moved b a)
      (λ s. n (sym (agreed_held t x (sweeps (suc k) os b) (on t y z x os k w e b a)) ∙ s ∙ agreed_held t z (sweeps k os b) (w.agrees b a)));
  falls = omega (arith, w.falls, sweep_falls t z x os e n);
  few = omega (arith, w.few, counted t z x (around t.window z.held os) e, around_few t z.held os);
}

-- the number of sweeps before the last
same_parts : {r n : ℕ} {x y u v : ℤ} → r ≡ n → x ≡ u → y ≡ v →
    ◌≡◌ {A = Candidate} (record { picture = r; vector = record { x = x; y = y } }) (record { picture = n; vector = record { x = u; y = v } })
same_parts e f g = rw (e, f, g)

pub same_told : (c d : Candidate) → is_same c d ≡ true → c ≡ d
same_told c d e =
    let p = and_parts (c.picture == d.picture) (int_eq c.vector.x d.vector.x && int_eq c.vector.y d.vector.y) e in
    let q = and_parts (int_eq c.vector.x d.vector.x) (int_eq c.vector.y d.vector.y) p.1 in
    same_parts (same_picture c.picture d.picture p.0) (no_further c.vector.x d.vector.x q.0) (no_further c.vector.y d.vector.y q.1)
  where
    no_further : (z u : ℤ) → int_eq z u ≡ true → z ≡ u
    no_further z u t = (Decides-int_eq z u).0 t

pub unsame : (c d : Candidate) → c ≢ d → is_same c d ≡ false
unsame c d n = elim (is_same c d) as (λ b. is_same c d ≡ b → b ≡ false) [ true ↦ (λ e. absurd (n (same_told c d e))) | false ↦ (λ e. refl) ] refl

pub same_is : (c d : Candidate) → c ≡ d → is_same c d ≡ true
same_is c d e = subst (λ (k : Candidate). is_same c k ≡ true) e (itself c)
  where
    near : (z : ℤ) → int_eq z z ≡ true
    near z = (Decides-int_eq z z).1 refl

    equal : (n : ℕ) → (n == n) ≡ true
    equal n = grind (arith, nat_tests)

    itself : (k : Candidate) → is_same k k ≡ true
    itself k = rw (equal k.picture, near k.vector.x, near k.vector.y)

pub moving_is : (os : List Vector) (b : Book) (k m : ℕ) → ((j : ℕ) → j < k → held (sweeps (suc j) os b) ≢ held (sweeps j os b)) → (k < m → held (sweeps (suc k) os b) ≡ held (sweeps k os b)) → k ≤ m → moving os b m ≡ k
unfolding moving
moving_is os b k zero moved rests le = omega arith
moving_is os b k (suc m) moved rests le =
    ⊎_elim
    (λ (lt : k < suc m).
    let e = moving_is os b k m moved (λ l. rests lt) (omega arith) in
    let t = same_is (held (sweeps (suc k) os b)) (held (sweeps k os b)) (rests lt) in
    rw (e, t))
    (λ (ge : suc m ≤ k).
    let e = moving_is os b m m (λ j l. moved j (omega arith)) (λ l. absurd (omega arith)) (omega arith) in
    let t = unsame (held (sweeps (suc m) os b)) (held (sweeps m os b)) (moved m (omega arith)) in
    rw (e, t) (omega arith))
    (cases_lt k (suc m))

-- a sweep that leaves the held candidate as it was leaves nothing about it that costs less
pub settle : (t : Terms) (z x : Tally) (os : List Vector) → x ≡ tallies t z (around t.window z.held os) → x.held ≡ z.held → Settled t os x.held x.cost
settle t z x os e same o has inside =
    subst (λ (h : Candidate). is_inside t.window (shifted h o) ≡ true → x.cost ≤ price t (shifted h o)) (sym same)
    (λ inside_it. all-has (λ (v : Vector). is_inside t.window (shifted z.held v) ≡ true → x.cost ≤ price t (shifted z.held v)) os o under has inside_it)
    inside
  where
    under : AllByRecursion (λ (v : Vector). is_inside t.window (shifted z.held v) ≡ true → x.cost ≤ price t (shifted z.held v)) os
    under =
        all_passed (λ (c : Candidate). x.cost ≤ price t c) (is_inside t.window) (shifted z.held) os
        (subst (λ (u : Tally). AllByRecursion (λ (c : Candidate). u.cost ≤ price t c) (around t.window z.held os)) (sym e) (tallies_under t z (around t.window z.held os)))

-- one more sweep, which has not: the walk is done
pub walking_done : (t : Terms) (y z x : Tally) (os : List Vector) (k n : ℕ) → Walking t y z os k → x ≡ tallies t z (around t.window z.held os) → x.held ≡ z.held → n ≡ k + 1 → Walks t y x os n
walking_done t y z x os k n w e same m = record {
  agrees = λ b a. rw many (on t y z x os k w e b a);
  is_walk = λ b a. record { before = k; last = many; moved = w.moved b a; rests = rw many (rest b a) };
  answers = λ b a. many ∙ ap suc (sym (moving_is os b k (least b) (w.moved b a) (λ l. rest b a) (omega (arith, w.falls, ap (λ (u : Tally). u.cost) a.1))));
  settled = settle t z x os e same;
}
  where
    many : n ≡ suc k
    many = omega (arith, m)

    rest : (b : Book) → Agrees t y b → held (sweeps (suc k) os b) ≡ held (sweeps k os b)
    rest b a = agreed_held t x (sweeps (suc k) os b) (on t y z x os k w e b a) ∙ same ∙ sym (agreed_held t z (sweeps k os b) (w.agrees b a))

-- what a test of two candidates tells
pub told_same : (c d : Candidate) (b : Bool) → b ≡ is_same c d → b ≡ true → c ≡ d
told_same c d b e t = same_told c d (sym e ∙ t)

pub told_other : (c d : Candidate) (b : Bool) → b ≡ is_same c d → b ≡ false → c ≢ d
told_other c d b e f same = let n : true ≡ false = sym (same_is c d same) ∙ sym e ∙ f in let z : ◌≡◌ {A = ℕ} 0 1 = cc in omega arith
