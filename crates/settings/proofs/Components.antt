-- The components of predicted vectors, vetted one vector after the other.
use Rattle.std.proofs.Common.{◌≡◌, ℕ, ◌+◌, ◌<◌, ◌≤◌, List, [], ◌∷◌, length, get_or, drop, ℤ, pos, nat_abs, None, sym, ap, ◌∙◌, arith, below_more}
use Rattle.std.proofs.lemmas.List.{drop_more, drop_all}
use Rattle.picture.specs.Faults.{Rule, first}
use Rattle.settings.specs.Predicted.{component_rule, component_rules}

-- a vector within the bounds
abbrev pub NearAt : List ℤ → List ℤ → ℕ → Type 0
NearAt xs ys k = (nat_abs (get_or xs k (pos 0)) ≤ 4096) × (nat_abs (get_or ys k (pos 0)) ≤ 4096)

-- the vectors below i are near, and the first fault is that of the others
pub record Vetted (xs ys : List ℤ) (i : ℕ) : Type 0 where
  pub left : first (component_rules (drop i xs) (drop i ys)) ≡ first (component_rules xs ys)
  pub near : (k : ℕ) → k < i → NearAt xs ys k

-- the rules of the vector at i come first of what is left
opened : (xs ys : List ℤ) (i : ℕ) → i < length xs → i < length ys → component_rules (drop i xs) (drop i ys) ≡ component_rule (get_or xs i (pos 0)) ∷ component_rule (get_or ys i (pos 0)) ∷ component_rules (drop (i + 1) xs) (drop (i + 1) ys)
opened xs ys i h g = rw (drop_more xs i (pos 0) h, drop_more ys i (pos 0) g)

-- neither of two rules applies, so the fault is that of the others
passed : (a b : Rule) (rs : List Rule) → first (a ∷ b ∷ []) ≡ None → first rs ≡ first (a ∷ b ∷ rs)
passed a b rs h = grind arith

-- nor does one before them
pub none_of : (a : Rule) (rs : List Rule) → first (a ∷ []) ≡ None → first rs ≡ None → first (a ∷ rs) ≡ None
none_of a rs h g = grind arith

-- one more vector
pub vetted_more : (xs ys : List ℤ) (i : ℕ) → Vetted xs ys i → i < length xs → length xs ≡ length ys → (first (component_rule (get_or xs i (pos 0)) ∷ component_rule (get_or ys i (pos 0)) ∷ []) ≡ None) × NearAt xs ys i → Vetted xs ys (i + 1)
vetted_more xs ys i v h e here =
    let x = component_rule (get_or xs i (pos 0)) in
    let y = component_rule (get_or ys i (pos 0)) in
    let rest = component_rules (drop (i + 1) xs) (drop (i + 1) ys) in
    record {
      left = passed x y rest here.0 ∙ sym (ap first (opened xs ys i h (omega arith))) ∙ v.left;
      near = below_more (NearAt xs ys) i v.near here.1;
    }

-- no rule applies to any vector
pub vetted_all : (xs ys : List ℤ) (i : ℕ) → Vetted xs ys i → length xs ≤ i → first (component_rules xs ys) ≡ None
vetted_all xs ys i v h = sym v.left ∙ ap (λ (l : List ℤ). first (component_rules l (drop i ys))) (drop_all i xs h)
