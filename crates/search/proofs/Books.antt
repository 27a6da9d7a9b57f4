-- What a trial keeps true of a book, every call keeps true.
use Rattle.std.proofs.Common.{◌≡◌, ℕ, zero, suc, ◌+◌, ◌≤◌, true, false, Bool, cond, List, [], ◌∷◌, ◌++◌, length, Some, None, Option, Result, nat_lt, refl, ap, arith, length-append}
use Rattle.std.proofs.lemmas.Bool.Decides.{nat_tests}
use Rattle.picture.specs.declared.faults.Fault.{Fault}
use Rattle.rate.specs.declared.vectors.Vector.{Vector}
use Rattle.cost.specs.declared.candidates.Candidate.{Candidate}
use Rattle.search.specs.declared.calls.Answer.{Answer}
use Rattle.search.specs.Terms.{price}
use Rattle.search.specs.Book.{Book, tried, least, entered, enters}
use Rattle.search.specs.Calls.{in_picture}
use Rattle.search.specs.Agreed.{offer_list, sweep_list, round_list}
use Rattle.search.specs.Walks.{sweeps, walk_sweeps}
use Rattle.search.specs.Runs.{Ask, try, offer, sweep, walk, full, fault_of, accepted, unless_fault, after, answer, after_all, answers_to}
use Rattle.search.proofs.Agree.{least_entered}

module _ (P : Book → Type 0) (one : (b : Book) (c : Candidate) → P b → P (entered b c)) where
  pub on_enters : (b : Book) (cs : List Candidate) → P b → P (enters b cs)
  on_enters b [] h = h
  on_enters b (c ∷ cs) h = on_enters (entered b c) cs (one b c h)

  pub on_sweeps : (n : ℕ) (os : List Vector) (b : Book) → P b → P (sweeps n os b)
  unfolding sweeps
  on_sweeps zero os b h = h
  on_sweeps (suc n) os b h = on_enters (sweeps n os b) (sweep_list os (sweeps n os b)) (on_sweeps n os b h)

  on_accepted : (b : Book) (a : Ask) → P b → P (accepted b a)
  on_accepted b (try r v) h = one b (in_picture r v) h
  on_accepted b (offer r xs ys) h = on_enters b (offer_list _ xs ys b) h
  on_accepted b (sweep os) h = on_enters b (sweep_list os b) h
  on_accepted b (walk os) h = on_sweeps (walk_sweeps os b) os b h
  on_accepted b (full r) h = on_enters b (round_list _ b) h

  on_unless : (o : Option Fault) (b c : Book) → P b → P c → P (unless_fault o b (λ _. c))
  on_unless None b c h g = h
  on_unless (Some f) b c h g = g

  pub on_after : (b : Book) (a : Ask) → P b → P (after b a)
  on_after b a h = on_unless (fault_of b a) (accepted b a) b (on_accepted b a h) h

  pub on_all : (b : Book) (asks : List Ask) → P b → P (after_all b asks)
  on_all b [] h = h
  on_all b (a ∷ asks) h = on_all (after b a) asks (on_after b a h)

-- calls, and calls after them
pub all_append : (b : Book) (front back : List Ask) → after_all b (front ++ back) ≡ after_all (after_all b front) back
all_append b [] back = refl
all_append b (a ∷ front) back = all_append (after b a) front back

pub answers_append : (b : Book) (front back : List Ask) → answers_to b (front ++ back) ≡ answers_to b front ++ answers_to (after_all b front) back
answers_append b [] back = refl
answers_append b (a ∷ front) back = ap (λ (told : List (Result Answer Fault)). answer b a ∷ told) (answers_append (after b a) front back)

-- all of a stage is on the same terms
pub same_terms_all : (b : Book) (asks : List Ask) → (after_all b asks).terms ≡ b.terms
same_terms_all b asks = on_all (λ (c : Book). c.terms ≡ b.terms) (λ c d h. h) b asks refl

-- the cost held never rises
one_lower : (b : Book) (c : Candidate) → least (entered b c) ≤ least b
one_lower b c = rw (least_entered b c) (by (nat_lt (price b.terms c) (least b)) refl)
  where
    by : (t : Bool) → nat_lt (price b.terms c) (least b) ≡ t → cond t (price b.terms c) (least b) ≤ least b
    by true e = grind (arith, nat_tests)
    by false e = omega arith

pub never_rises : (b : Book) (asks : List Ask) → least (after_all b asks) ≤ least b
never_rises b asks = on_all (λ (c : Book). least c ≤ least b) (λ c d h. omega (arith, h, one_lower c d)) b asks (omega arith)

-- one trial for each candidate
pub trials_all : (made : ℕ) (b : Book) (asks : List Ask) → b.trials ≡ made + length (tried b) → (after_all b asks).trials ≡ made + length (tried (after_all b asks))
trials_all made b asks h = on_all (λ (c : Book). c.trials ≡ made + length (tried c)) (λ c d g. omega (arith, g, length-append c.later (d ∷ []))) b asks h
