-- What a call leaves and answers is the book's.
use Rattle.std.proofs.Common.{◌≡◌, ℕ, Bool, List, ℤ, Some, None, Option, Ok, Err, unsigned_abs, sym, ap, ◌∙◌, subst}
use Rattle.picture.specs.declared.faults.Fault.{Fault}
use Rattle.rate.specs.declared.vectors.Vector.{Vector}
use Rattle.search.specs.declared.calls.Answer.{Answer}
use Rattle.search.specs.declared.calls.Answer.TheVariants.{Better, Trials, Sweeps}
use Rattle.search.specs.declared.tallies.Tally.{Tally}
use Rattle.search.specs.Terms.{Terms}
use Rattle.search.specs.Book.{Book}
use Rattle.search.specs.Tallies.{Agrees}
use Rattle.search.specs.Calls.{in_picture}
use Rattle.search.specs.Agreed.{Tries, Makes, offer_list, sweep_list, round_list}
use Rattle.search.specs.Walks.{sweeps, Walks}
use Rattle.search.specs.Runs.{Ask, try, offer, sweep, walk, full, fault_in, fault_of, accepted, told, unless_fault, Called}

-- a row that applies to the search applies to its book
same_fault : (t : Terms) (y : Tally) (a : Ask) (b : Book) → Agrees t y b → fault_in t.window y.trials a ≡ fault_of b a
same_fault t y a b e = ap (λ (u : Terms). fault_in u.window y.trials a) e.0 ∙ ap (λ (u : Tally). fault_in b.terms.window u.trials a) e.1

pub called_accepted : (t : Terms) (y z : Tally) (a : Ask) (x : Answer) → fault_in t.window y.trials a ≡ None →
    ((b : Book) → Agrees t y b → Agrees t z (accepted b a)) → ((b : Book) → Agrees t y b → x ≡ told b a) → Called t y z a (Ok x)
called_accepted t y z a x none agrees answers = record {
  agrees = λ b e. subst (λ (o : Option Fault). Agrees t z (unless_fault o (accepted b a) (λ _. b))) (sym none ∙ same_fault t y a b e) (agrees b e);
  answers = λ b e. ap (λ (v : Answer). Ok v) (answers b e) ∙ ap (λ (o : Option Fault). unless_fault o (Ok (told b a)) Err) (sym none ∙ same_fault t y a b e);
}

pub called_refused : (t : Terms) (y z : Tally) (a : Ask) (f : Fault) → fault_in t.window y.trials a ≡ Some f → z ≡ y → Called t y z a (Err f)
called_refused t y z a f some same = record {
  agrees = λ b e. subst (λ (o : Option Fault). Agrees t z (unless_fault o (accepted b a) (λ _. b))) (sym some ∙ same_fault t y a b e) (subst (λ (u : Tally). Agrees t u b) (sym same) e);
  answers = λ b e. ap (λ (o : Option Fault). unless_fault o (Ok (told b a)) Err) (sym some ∙ same_fault t y a b e);
}

-- each call that is accepted
pub called_try : (t : Terms) (y z : Tally) (r : ℤ) (v : Vector) (better : Bool) → (fault_in t.window y.trials (try r v) ≡ None) × Tries t y z (in_picture r v) better → Called t y z (try r v) (Ok (Better better))
called_try t y z r v better h = called_accepted t y z (try r v) (Better better) h.0 h.1.agrees (λ b e. ap Better (h.1.answers b e))

pub called_offer : (t : Terms) (y z : Tally) (r : ℤ) (xs ys : List ℤ) (made : ℕ) → (fault_in t.window y.trials (offer r xs ys) ≡ None) × Makes t y z (offer_list (unsigned_abs r) xs ys) made → Called t y z (offer r xs ys) (Ok (Trials made))
called_offer t y z r xs ys made h = called_accepted t y z (offer r xs ys) (Trials made) h.0 h.1.agrees (λ b e. ap Trials (h.1.answers b e))

pub called_sweep : (t : Terms) (y z : Tally) (os : List Vector) (made : ℕ) → (fault_in t.window y.trials (sweep os) ≡ None) × Makes t y z (sweep_list os) made → Called t y z (sweep os) (Ok (Trials made))
called_sweep t y z os made h = called_accepted t y z (sweep os) (Trials made) h.0 h.1.agrees (λ b e. ap Trials (h.1.answers b e))

pub called_walk : (t : Terms) (y z : Tally) (os : List Vector) (n : ℕ) → (fault_in t.window y.trials (walk os) ≡ None) × Walks t y z os n → Called t y z (walk os) (Ok (Sweeps n))
called_walk t y z os n h =
    called_accepted t y z (walk os) (Sweeps n) h.0 (λ b e. subst (λ (k : ℕ). Agrees t z (sweeps k os b)) (h.1.answers b e) (h.1.agrees b e)) (λ b e. ap Sweeps (h.1.answers b e))

pub called_full : (t : Terms) (y z : Tally) (r : ℤ) (made : ℕ) → (fault_in t.window y.trials (full r) ≡ None) × Makes t y z (round_list (unsigned_abs r)) made → Called t y z (full r) (Ok (Trials made))
called_full t y z r made h = called_accepted t y z (full r) (Trials made) h.0 h.1.agrees (λ b e. ap Trials (h.1.answers b e))
