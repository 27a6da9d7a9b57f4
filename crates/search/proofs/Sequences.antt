-- Calls one after the other.
use Rattle.std.proofs.Common.{◌≡◌, List, [], ◌∷◌, ◌++◌, Result, sym, ap, ◌∙◌, subst, append_assoc, append-nil}
use Rattle.picture.specs.declared.faults.Fault.{Fault}
use Rattle.search.specs.declared.calls.Answer.{Answer}
use Rattle.search.specs.declared.tallies.Tally.{Tally}
use Rattle.search.specs.Terms.{Terms}
use Rattle.search.specs.Book.{Book}
use Rattle.search.specs.Tallies.{Agrees}
use Rattle.search.specs.Runs.{Ask, answer, after_all, answers_to, Called, Ran}
use Rattle.search.proofs.Books.{all_append, answers_append}

pub ran_none : (t : Terms) (y : Tally) (old : List (Result Answer Fault)) → Ran t y y [] old old
ran_none t y old = record { agrees = λ b e. e; answers = λ b e. sym (append-nil old) }

-- one call more
pub ran_more : (t u : Terms) (y z x : Tally) (asks : List Ask) (a : Ask) (old mid new : List (Result Answer Fault)) (r : Result Answer Fault) →
    u ≡ t → Ran t y z asks old mid → Called u z x a r → new ≡ mid ++ (r ∷ []) → Ran t y x (asks ++ (a ∷ [])) old new
ran_more t u y z x asks a old mid new r same ran called added = record {
  agrees = λ b e. subst (λ (c : Book). Agrees t x c) (sym (all_append b asks (a ∷ []))) (one.agrees (after_all b asks) (ran.agrees b e));
  answers = λ b e.
      added
      ∙ ap (λ (rs : List (Result Answer Fault)). rs ++ (r ∷ [])) (ran.answers b e)
      ∙ ap (λ (q : Result Answer Fault). (old ++ answers_to b asks) ++ (q ∷ [])) (one.answers (after_all b asks) (ran.agrees b e))
      ∙ append_assoc old (answers_to b asks) (answer (after_all b asks) a ∷ [])
      ∙ ap (λ (rs : List (Result Answer Fault)). old ++ rs) (sym (answers_append b asks (a ∷ [])));
}
  where
    one : Called t z x a r
    one = subst (λ (v : Terms). Called v z x a r) same called
