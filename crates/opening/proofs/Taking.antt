-- Reading to the end of what is taken of an input.
use Rattle.std.proofs.Common.{◌≡◌, ℕ, List, [], ◌++◌, take, Option, Some, None, IfSome, subst}
use Rattle.std.specs.Option.{option_map}

pub taken : (all rest : Option (List ℕ)) (n m : ℕ) (before after : List ℕ) → all ≡ rest → n ≡ m → before ≡ [] →
    IfSome (option_map (take n) all) (λ xs. after ≡ before ++ xs) → IfSome rest (λ xs. after ≡ take m xs)
taken all rest n m before after er en eb h = over rest (subst (λ (r : Option (List ℕ)). IfSome (option_map (take n) r) (λ xs. after ≡ before ++ xs)) er h)
  where
    over : (r : Option (List ℕ)) → IfSome (option_map (take n) r) (λ xs. after ≡ before ++ xs) → IfSome r (λ xs. after ≡ take m xs)
    over None h = tt
    over (Some xs) h = rw (← en) (subst (λ (b : List ℕ). after ≡ b ++ take n xs) eb h)
