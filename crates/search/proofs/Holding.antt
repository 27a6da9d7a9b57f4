-- What holds of all calls of a stage.
use Rattle.std.proofs.Common.{◌≡◌, ℕ, zero, suc, ◌+◌, ◌<◌, ◌≤◌, ◌≢◌, true, false, Bool, cond, List, [], ◌∷◌, ◌++◌, length, ℤ, None, Option, unsigned_abs, ⊎_elim, refl, sym, ap, ◌∙◌, subst, arith}
use Rattle.std.proofs.lemmas.Bool.{cases_lt}
use Rattle.picture.specs.declared.faults.Fault.{Fault}
use Rattle.rate.specs.declared.vectors.Vector.{Vector}
use Rattle.cost.specs.declared.candidates.Candidate.{Candidate}
use Rattle.window.specs.Windows.{Window}
use Rattle.window.specs.Rounds.{Covers, round_of}
use Rattle.search.specs.declared.tallies.Tally.{Tally}
use Rattle.search.specs.Terms.{Terms, price}
use Rattle.search.specs.Book.{Book, Earliest, tried, held, least, enters, kept}
use Rattle.search.specs.Tallies.{tallies}
use Rattle.search.specs.Agreed.{sweep_list, round_list, Searched}
use Rattle.search.specs.Walks.{swept, sweeps, is_same, moving, walk_sweeps, Settled}
use Rattle.search.specs.Runs.{Ask, walk, full, fault_of, accepted, unless_fault, after, after_all, Counted, Holds}
use Rattle.search.proofs.Earliest.{earliest_is}
use Rattle.search.proofs.Agree.{agrees_enters}
use Rattle.search.proofs.Falls.{tallies_falls}
use Rattle.search.proofs.Resting.{same_told, same_is, settle}
use Rattle.search.proofs.Circuits.{round_searched}
use Rattle.search.proofs.Counts.{counted_on}
use Rattle.search.proofs.Books.{on_all, on_sweeps, all_append, same_terms_all, never_rises, trials_all}

-- what a book shows after trials of a list
shown : (b : Book) (cs : List Candidate) → kept (enters b cs) ≡ tallies b.terms (kept b) cs
shown b cs = sym (agrees_enters b.terms (kept b) b cs (refl, refl)).1

-- so many sweeps of at most m have moved what is held, each lowering its cost; fewer than m where the next does not
record Moves (os : List Vector) (b : Book) (m n : ℕ) : Type 0 where
  within : n ≤ m
  lower : least (sweeps n os b) + n ≤ least b
  rests : n < m → held (sweeps (suc n) os b) ≡ held (sweeps n os b)

sweep_lowers : (os : List Vector) (b : Book) (n : ℕ) → held (sweeps (suc n) os b) ≢ held (sweeps n os b) → least (sweeps (suc n) os b) < least (sweeps n os b)
unfolding sweeps
sweep_lowers os b n moved =
    let c : Book = sweeps n os b in
    let e = shown c (sweep_list os c) in
    subst (λ (u : Tally). u.cost < least c) (sym e) (tallies_falls c.terms (kept c) (sweep_list os c) (subst (λ (u : Tally). u.held ≢ held c) e moved))

one_more : (os : List Vector) (b : Book) (m n : ℕ) (same : Bool) → is_same (held (sweeps (suc n) os b)) (held (sweeps n os b)) ≡ same → Moves os b m n → Moves os b (suc m) (cond same n (suc m))
one_more os b m n true e h = record { within = omega (arith, h.within); lower = h.lower; rests = λ l. same_told (held (sweeps (suc n) os b)) (held (sweeps n os b)) e }
one_more os b m n false e h = record { within = omega arith; lower = subst (λ (k : ℕ). least (sweeps (suc k) os b) + suc k ≤ least b) all fell; rests = λ l. absurd (omega arith) }
  where
    moved : held (sweeps (suc n) os b) ≢ held (sweeps n os b)
    moved same = let t : true ≡ false = sym (same_is (held (sweeps (suc n) os b)) (held (sweeps n os b)) same) ∙ e in let z : ◌≡◌ {A = ℕ} 0 1 = cc in omega arith

    all : n ≡ m
    all = ⊎_elim (λ (l : n < m). absurd (moved (h.rests l))) (λ (l : m ≤ n). omega (arith, h.within)) (cases_lt n m)

    fell : least (sweeps (suc n) os b) + suc n ≤ least b
    fell = omega (arith, h.lower, sweep_lowers os b n moved)

moves_of : (os : List Vector) (b : Book) (m : ℕ) → Moves os b m (moving os b m)
unfolding moving sweeps
moves_of os b zero = record { within = omega arith; lower = omega arith; rests = λ l. absurd (omega arith) }
moves_of os b (suc m) = one_more os b m (moving os b m) (is_same (held (sweeps (suc (moving os b m)) os b)) (held (sweeps (moving os b m) os b))) refl (moves_of os b m)

-- the last sweep of a walk leaves the held candidate as it was: a cost of 0 does not fall
walk_rests : (os : List Vector) (b : Book) → held (sweeps (walk_sweeps os b) os b) ≡ held (sweeps (moving os b (least b)) os b)
walk_rests os b =
    let n : ℕ = moving os b (least b) in
    let h : Moves os b (least b) n = moves_of os b (least b) in
    ⊎_elim (λ (l : n < least b). h.rests l)
    (λ (l : least b ≤ n). same_told _ _ (elim (is_same (held (sweeps (suc n) os b)) (held (sweeps n os b))) as (λ s. is_same (held (sweeps (suc n) os b)) (held (sweeps n os b)) ≡ s → s ≡ true) [
      | true ↦ (λ e. refl)
      | false ↦ (λ e. absurd (none os b n (omega (arith, h.lower, l)) (λ same. let t : true ≡ false = sym (same_is (held (sweeps (suc n) os b)) (held (sweeps n os b)) same) ∙ e in let z : ◌≡◌ {A = ℕ} 0 1 = cc in omega arith)))
    ] refl))
    (cases_lt n (least b))
  where
    none : (os : List Vector) (b : Book) (n : ℕ) → least (sweeps n os b) ≤ 0 → held (sweeps (suc n) os b) ≢ held (sweeps n os b) → ⊥
    none os b n low moved = omega (arith, low, sweep_lowers os b n moved)

walk_settles : (os : List Vector) (b : Book) → Settled b.terms os (held (sweeps (walk_sweeps os b) os b)) (least (sweeps (walk_sweeps os b) os b))
unfolding sweeps
walk_settles os b =
    let c : Book = sweeps (moving os b (least b)) os b in
    let on : c.terms ≡ b.terms = on_sweeps (λ (d : Book). d.terms ≡ b.terms) (λ d e h. h) (moving os b (least b)) os b refl in
    subst (λ (t : Terms). Settled t os (held (swept os c)) (least (swept os c))) on (settle c.terms (kept c) (kept (swept os c)) os (shown c (sweep_list os c)) (walk_rests os b))

-- the book after a call that no row turns away
after_is : (b : Book) (a : Ask) → fault_of b a ≡ None → after b a ≡ accepted b a
after_is b a e = ap (λ (o : Option Fault). unless_fault o (accepted b a) (λ _. b)) e

pub settled_all : (start : Book) (front : List Ask) (os : List Vector) → fault_of (after_all start front) (walk os) ≡ None →
    Settled start.terms os (held (after_all start (front ++ (walk os ∷ [])))) (least (after_all start (front ++ (walk os ∷ []))))
settled_all start front os none =
    let b : Book = after_all start front in
    let e : after_all start (front ++ (walk os ∷ [])) ≡ sweeps (walk_sweeps os b) os b = all_append start front (walk os ∷ []) ∙ after_is b (walk os) none in
    subst (λ (c : Book). Settled start.terms os (held c) (least c)) (sym e)
    (subst (λ (t : Terms). Settled t os (held (sweeps (walk_sweeps os b) os b)) (least (sweeps (walk_sweeps os b) os b))) (same_terms_all start front) (walk_settles os b))

pub searched_all : ((w : Window) (r : ℕ) → Covers w r (round_of w r)) → (start : Book) (asks front back : List Ask) (r : ℤ) → asks ≡ front ++ (full r ∷ back) → fault_of (after_all start front) (full r) ≡ None →
    Searched start.terms (unsigned_abs r) (least (after_all start asks))
searched_all covers start asks front back r split none =
    let b : Book = after_all start front in
    let n : ℕ = unsigned_abs r in
    let c : Book = enters b (round_list n b) in
    let e : after_all start asks ≡ after_all c back = ap (after_all start) split ∙ all_append start front (full r ∷ back) ∙ ap (λ (d : Book). after_all d back) (after_is b (full r) none) in
    let done : Searched b.terms n (least c) = round_searched b.terms (kept b) (kept c) n (covers b.terms.window n) (shown b (round_list n b)) in
    let on : Searched start.terms n (least c) = subst (λ (t : Terms). Searched t n (least c)) (same_terms_all start front) done in
    λ v in_it. let l = on v in_it in let m : least (after_all start asks) ≤ least c = rw e (never_rises c back) in omega (arith, l, m)

pub earliest_all : (start : Book) (asks : List Ask) → Earliest (price start.terms) (tried (after_all start asks)) (held (after_all start asks))
earliest_all start asks =
    let b : Book = after_all start asks in
    subst (λ (t : Terms). Earliest (price t) (tried b) (held b)) (same_terms_all start asks) (earliest_is (price b.terms) b.first b.later)

-- all of it, of a stage that begins with one candidate, all of whose strips were read
pub holds : ((w : Window) (r : ℕ) → Covers w r (round_of w r)) → (made read : ℕ) (start : Book) (asks : List Ask) →
    start.later ≡ [] → start.trials ≡ made + 1 → start.strips ≡ read + length (start.terms.parts start.first).strips → Holds made read start asks
holds covers made read start asks none trials strips = record {
  earliest = earliest_all start asks;
  settled = λ front back os split accepted. settled_all start front os accepted;
  searched = λ front back r split accepted. searched_all covers start asks front back r split accepted;
  trials = trials_all made start asks (omega (arith, trials, ap (λ (cs : List Candidate). length cs) none));
  counted = on_all (Counted read) (λ b c h. counted_on read b c h) start asks begins;
}
  where
    begins : Counted read start
    begins = record {
      reads = [];
      each = sym (ap (λ (cs : List Candidate). length cs) none);
      fewest = λ i c l. absurd (omega (arith, l, ap (λ (cs : List Candidate). length cs) none));
      strips = omega (arith, strips);
    }
