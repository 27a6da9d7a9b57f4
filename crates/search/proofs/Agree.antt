-- One more trial, of a book and of a search that agrees with it.
use Rattle.std.proofs.Common.{◌≡◌, ℕ, true, false, Bool, cond, List, [], ◌∷◌, ◌++◌, length, nat_lt, refl, sym, ap, ◌∙◌, subst, arith, ℤ}
use Rattle.std.proofs.lemmas.Bool.Decides.{nat_tests}
use Rattle.rate.specs.declared.vectors.Vector.{Vector}
use Rattle.cost.specs.declared.candidates.Candidate.{Candidate}
use Rattle.search.specs.declared.tallies.Tally.{Tally}
use Rattle.search.specs.declared.reports.Report.{Report}
use Rattle.search.specs.Terms.{Terms, price}
use Rattle.search.specs.Book.{Book, Earliest, first_least, tried, held, least, entered, enters, kept, reported}
use Rattle.search.specs.Tallies.{tallied, tallies, Agrees}
use Rattle.search.specs.Agreed.{Tries, Makes, Reports, offer_list, round_list, sweep_list}
use Rattle.search.specs.Calls.{around, offered, rounded}
use Rattle.search.proofs.Earliest.{earliest_is}

-- the first of least cost of a list with one more
pub least_more : (cost : Candidate → ℕ) (a : Candidate) (cs : List Candidate) (c : Candidate) →
    first_least cost a (cs ++ (c ∷ [])) ≡ cond (nat_lt (cost c) (cost (first_least cost a cs))) c (first_least cost a cs)
least_more cost a [] c = refl
least_more cost a (d ∷ cs) c = least_more cost (cond (nat_lt (cost d) (cost a)) d a) cs c

over_cond : {X Y : Type 0} (f : X → Y) (b : Bool) (u v : X) → f (cond b u v) ≡ cond b (f u) (f v)
over_cond f true u v = refl
over_cond f false u v = refl

same_tally : {h i : Candidate} {m n trials strips : ℕ} → h ≡ i → m ≡ n →
    ◌≡◌ {A = Tally} (record { held = h; cost = m; trials = trials; strips = strips }) (record { held = i; cost = n; trials = trials; strips = strips })
same_tally e f = rw (e, f)

pub least_entered : (b : Book) (c : Candidate) → least (entered b c) ≡ cond (nat_lt (price b.terms c) (least b)) (price b.terms c) (least b)
least_entered b c =
    ap (price b.terms) (least_more (price b.terms) b.first b.later c) ∙ over_cond (price b.terms) (nat_lt (price b.terms c) (least b)) c (held b)

pub kept_entered : (b : Book) (c : Candidate) → kept (entered b c) ≡ tallied b.terms (kept b) c
kept_entered b c =
    let h : held (entered b c) ≡ cond (nat_lt (price b.terms c) (least b)) c (held b) = least_more (price b.terms) b.first b.later c in
    same_tally h (least_entered b c)

-- agreement is kept
pub agrees_entered : (t : Terms) (y : Tally) (b : Book) (c : Candidate) → Agrees t y b → Agrees t (tallied t y c) (entered b c)
agrees_entered t y b c a = (a.0, ap (λ (u : Terms). tallied u y c) a.0 ∙ ap (λ (z : Tally). tallied b.terms z c) a.1 ∙ sym (kept_entered b c))

pub agrees_enters : (t : Terms) (y : Tally) (b : Book) (cs : List Candidate) → Agrees t y b → Agrees t (tallies t y cs) (enters b cs)
agrees_enters t y b [] a = a
agrees_enters t y b (c ∷ cs) a = agrees_enters t (tallied t y c) (entered b c) cs (agrees_entered t y b c a)

-- one trial, and what it answers: it is better just where the least cost falls
unmoved : (n : ℕ) → nat_lt n n ≡ false
unmoved n = grind (arith, nat_tests)

falls : (m n : ℕ) (s : Bool) → nat_lt m n ≡ s → s ≡ nat_lt (cond s m n) n
falls m n true e = sym e
falls m n false e = sym (unmoved n)

answer : (b : Book) (c : Candidate) → nat_lt (price b.terms c) (least b) ≡ nat_lt (least (entered b c)) (least b)
answer b c = falls (price b.terms c) (least b) (nat_lt (price b.terms c) (least b)) refl ∙ ap (λ (n : ℕ). nat_lt n (least b)) (sym (least_entered b c))

pub tries_made : (t : Terms) (y z : Tally) (d c : Candidate) (better : Bool) → d ≡ c → z ≡ tallied t y d → better ≡ nat_lt (price t d) y.cost → Tries t y z c better
tries_made t y z d c better same e f = subst (λ (k : Candidate). Tries t y z k better) same (record {
  agrees = λ b a. subst (λ (u : Tally). Agrees t u (entered b d)) (sym e) (agrees_entered t y b d a);
  answers = λ b a. f ∙ ap (λ (u : Terms). nat_lt (price u d) y.cost) a.0 ∙ ap (λ (u : Tally). nat_lt (price b.terms d) u.cost) a.1 ∙ answer b d;
})

-- trials of a list that the book lists too, and their number
pub makes_made : (t : Terms) (y z : Tally) (listed : Book → List Candidate) (cs : List Candidate) (made : ℕ) → ((b : Book) → Agrees t y b → cs ≡ listed b) → z ≡ tallies t y cs → made ≡ length cs → Makes t y z listed made
makes_made t y z listed cs made same e n = record {
  agrees = λ b a. subst (λ (ds : List Candidate). Agrees t z (enters b ds)) (same b a) (subst (λ (u : Tally). Agrees t u (enters b cs)) (sym e) (agrees_enters t y b cs a));
  answers = λ b a. n ∙ ap (λ (ds : List Candidate). length ds) (same b a);
}

-- what is listed in the windows of a search is listed in those of its book
pub offer_same : (t : Terms) (y : Tally) (r n : ℕ) (xs ys : List ℤ) → r ≡ n → (b : Book) → Agrees t y b → offered t.window r xs ys ≡ offer_list n xs ys b
offer_same t y r n xs ys e b a = ap (λ (u : Terms). offered u.window r xs ys) a.0 ∙ ap (λ (k : ℕ). offered b.terms.window k xs ys) e

pub sweep_same : (t : Terms) (y : Tally) (os : List Vector) (b : Book) → Agrees t y b → around t.window y.held os ≡ sweep_list os b
sweep_same t y os b a = ap (λ (u : Terms). around u.window y.held os) a.0 ∙ ap (λ (u : Tally). around b.terms.window u.held os) a.1

pub round_same : (t : Terms) (y : Tally) (r n : ℕ) → r ≡ n → (b : Book) → Agrees t y b → rounded t.window r ≡ round_list n b
round_same t y r n e b a = ap (λ (u : Terms). rounded u.window r) a.0 ∙ ap (λ (k : ℕ). rounded b.terms.window k) e

-- a report shows what the book works out
pub reports_made : (t : Terms) (y : Tally) (r : Report) → r ≡ reported t y → Reports t y r
reports_made t y r e = record {
  same = λ b a. e ∙ ap (λ (u : Terms). reported u y) a.0 ∙ ap (reported b.terms) a.1;
  earliest = λ b a. earliest b a;
}
  where
    earliest : (b : Book) → Agrees t y b → Earliest (price t) (tried b) y.held × (r.cost ≡ price t y.held)
    earliest b a =
        rw (a.0, ap (λ (u : Tally). u.held) a.1)
        (earliest_is (price b.terms) b.first b.later, ap (λ (u : Report). u.cost) e ∙ ap (λ (u : Tally). u.cost) a.1)
