-- Calls up to the first that is refused.
use Rattle.std.proofs.Common.{◌≡◌, ℕ, zero, suc, ◌+◌, ◌<◌, List, [], ◌∷◌, ◌++◌, map, Some, None, Option, Ok, Err, Result, refl, sym, ap, ◌∙◌, subst, arith}
use Rattle.std.specs.List.{range_with_len}
use Rattle.picture.specs.declared.faults.Fault.{Fault}
use Rattle.search.specs.declared.calls.Answer.{Answer}
use Rattle.search.specs.declared.tallies.Tally.{Tally}
use Rattle.search.specs.Terms.{Terms}
use Rattle.search.specs.Book.{Book}
use Rattle.search.specs.Tallies.{Agrees}
use Rattle.search.specs.Runs.{Ask, fault_of, told, unless_fault, after, answer, after_all, answers_to, Called}
use Rattle.search.specs.Recipes.{first_refusal, Followed}
use Rattle.search.proofs.Books.{all_append, answers_append}

pub refusal_none : (xs ys : List (Result Answer Fault)) → first_refusal xs ≡ None → first_refusal (xs ++ ys) ≡ first_refusal ys
refusal_none [] ys e = refl
refusal_none (Ok x ∷ xs) ys e = refusal_none xs ys e
refusal_none (Err f ∷ xs) ys e = let z : ◌≡◌ {A = ℕ} 0 1 = cc in absurd (omega arith)

pub refusal_some : (xs ys : List (Result Answer Fault)) (f : Fault) → first_refusal xs ≡ Some f → first_refusal (xs ++ ys) ≡ Some f
refusal_some [] ys f e = let z : ◌≡◌ {A = ℕ} 0 1 = cc in absurd (omega arith)
refusal_some (Ok x ∷ xs) ys f e = refusal_some xs ys f e
refusal_some (Err g ∷ xs) ys f e = e

-- where none of a list was refused, none of its calls has a fault
answer_none : (o : Option Fault) (x : Answer) → first_refusal (unless_fault o (Ok x) Err ∷ []) ≡ None → o ≡ None
answer_none None x e = refl
answer_none (Some f) x e = let z : ◌≡◌ {A = ℕ} 0 1 = cc in absurd (omega arith)

head_none : (r : Result Answer Fault) (rs : List (Result Answer Fault)) → first_refusal (r ∷ rs) ≡ None → first_refusal (r ∷ []) ≡ None
head_none (Ok x) rs e = refl
head_none (Err f) rs e = e

tail_none : (r : Result Answer Fault) (rs : List (Result Answer Fault)) → first_refusal (r ∷ rs) ≡ None → first_refusal rs ≡ None
tail_none (Ok x) rs e = e
tail_none (Err f) rs e = let z : ◌≡◌ {A = ℕ} 0 1 = cc in absurd (omega arith)

pub none_refused : (b : Book) (front back : List Ask) (a : Ask) → first_refusal (answers_to b (front ++ (a ∷ back))) ≡ None → fault_of (after_all b front) a ≡ None
none_refused b [] back a e = answer_none (fault_of b a) (told b a) (head_none (answer b a) (answers_to (after b a) back) e)
none_refused b (c ∷ front) back a e = none_refused (after b c) front back a (tail_none (answer b c) (answers_to (after b c) (front ++ (a ∷ back))) e)

-- calls that were followed, and one more
pub followed_none : {X : Type 0} (t : Terms) (y : Tally) (x : X) → Followed t y y [] (Ok x)
followed_none t y x = λ b e. (refl, e)

pub followed_on : {X : Type 0} (t u : Terms) (y z w : Tally) (asks : List Ask) (a : Ask) (x : X) (v : Answer) → u ≡ t → Followed t y z asks (Ok x) → Called u z w a (Ok v) → Followed t y w (asks ++ (a ∷ [])) (Ok x)
followed_on t u y z w asks a x v same h called b e =
    let g = h b e in
    let one : Called t z w a (Ok v) = subst (λ (k : Terms). Called k z w a (Ok v)) same called in
    let last : first_refusal (answer (after_all b asks) a ∷ []) ≡ None = sym (ap (λ (r : Result Answer Fault). first_refusal (r ∷ [])) (one.answers (after_all b asks) g.1)) in (
      ap first_refusal (answers_append b asks (a ∷ [])) ∙ refusal_none (answers_to b asks) (answer (after_all b asks) a ∷ []) g.0 ∙ last,
      subst (λ (c : Book). Agrees t w c) (sym (all_append b asks (a ∷ []))) (one.agrees (after_all b asks) g.1),
    )

-- and one that was refused, whatever would have come after it
pub followed_off : {X : Type 0} (t u : Terms) (y z w : Tally) (asks back : List Ask) (a : Ask) (x : X) (f : Fault) → u ≡ t → Followed t y z asks (Ok x) → Called u z w a (Err f) → Followed {X = X} t y w (asks ++ (a ∷ back)) (Err f)
followed_off t u y z w asks back a x f same h called b e =
    let g = h b e in
    let one : Called t z w a (Err f) = subst (λ (k : Terms). Called k z w a (Err f)) same called in
    let c : Book = after_all b asks in
    let first : first_refusal (answers_to c (a ∷ back)) ≡ Some f = sym (ap (λ (r : Result Answer Fault). first_refusal (r ∷ answers_to (after c a) back)) (one.answers c g.1)) in
    ap first_refusal (answers_append b asks (a ∷ back)) ∙ refusal_none (answers_to b asks) (answers_to c (a ∷ back)) g.0 ∙ first

-- lists that are followed one after the other
pub followed_then : {X Y : Type 0} (t u : Terms) (y z w : Tally) (asks more : List Ask) (x : X) (r : Result Y Fault) → u ≡ t → Followed t y z asks (Ok x) → Followed u z w more r → Followed t y w (asks ++ more) r
followed_then t u y z w asks more x (Ok v) same h g = λ b e.
    let one = h b e in
    let two = subst (λ (k : Terms). Followed k z w more (Ok v)) same g (after_all b asks) one.1 in (
      ap first_refusal (answers_append b asks more) ∙ refusal_none (answers_to b asks) (answers_to (after_all b asks) more) one.0 ∙ two.0,
      subst (λ (c : Book). Agrees t w c) (sym (all_append b asks more)) two.1,
    )
followed_then {Y = Y} t u y z w asks more x (Err f) same h g = λ b e.
    let one = h b e in
    let two = subst (λ (k : Terms). Followed {X = Y} k z w more (Err f)) same g (after_all b asks) one.1 in
    ap first_refusal (answers_append b asks more) ∙ refusal_none (answers_to b asks) (answers_to (after_all b asks) more) one.0 ∙ two

-- what was refused stays so, whatever would have come after
pub followed_short : (X : Type 0) (t : Terms) (y z : Tally) (asks more : List Ask) (f : Fault) → Followed {X = X} t y z asks (Err f) → Followed {X = X} t y z (asks ++ more) (Err f)
followed_short X t y z asks more f h b e = ap first_refusal (answers_append b asks more) ∙ refusal_some (answers_to b asks) (answers_to (after_all b asks) more) f (h b e)

-- numbered lists: one more, and what lies about a place
pub numbered_more : {X : Type 0} (f : ℕ → X) (a k j : ℕ) → j ≡ a + k → map f (range_with_len a (suc k)) ≡ map f (range_with_len a k) ++ (f j ∷ [])
numbered_more f a zero j e = let s : j ≡ a = omega arith in rw s refl
numbered_more f a (suc k) j e = ap (λ xs. f a ∷ xs) (numbered_more f (a + 1) k j (omega arith))

pub numbered_about : {X : Type 0} (f : ℕ → X) (a k n j : ℕ) → j ≡ a + k → k < n → (back : List X) × (map f (range_with_len a n) ≡ map f (range_with_len a k) ++ (f j ∷ back))
numbered_about f a k zero j e l = absurd (omega arith)
numbered_about f a zero (suc n) j e l = let s : j ≡ a = omega arith in (map f (range_with_len (a + 1) n), rw s refl)
numbered_about f a (suc k) (suc n) j e l = let h = numbered_about f (a + 1) k n j (omega arith) (omega arith) in (h.0, ap (λ xs. f a ∷ xs) h.1)
