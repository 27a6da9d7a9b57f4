-- How large the entries are after each step of a square's transform, in whichever order the steps come.
use Rattle.std.proofs.Common.{◌≡◌, ℕ, ◌/◌, ◌∙◌, ap, List, ℤ, sym, subst, arith}
use Rattle.measure.specs.Sums.{total}
use Rattle.measure.specs.Transforms.{satd4}
use Rattle.measure.specs.Fours.{AllWithin, entries, row, size_of, turned_rows, flipped}
use Rattle.measure.specs.Turning.{done, rows_within, flipped_within}

-- a transform of the rows makes entries at most four times as large
pub rows_near : (x y : List (List ℤ)) → y ≡ turned_rows x → AllWithin 255 x → AllWithin 1020 y
rows_near x y e h = subst (AllWithin 1020) (sym e) (rows_within 255 x h)

pub rows_far : (x y : List (List ℤ)) → y ≡ turned_rows x → AllWithin 1020 x → AllWithin 4080 y
rows_far x y e h = subst (AllWithin 4080) (sym e) (rows_within 1020 x h)

-- and turning it on its side leaves them as they are
pub flipped_near : (x y : List (List ℤ)) → y ≡ flipped x → AllWithin 255 x → AllWithin 255 y
flipped_near x y e h = subst (AllWithin 255) (sym e) (flipped_within 255 x h)

pub flipped_mid : (x y : List (List ℤ)) → y ≡ flipped x → AllWithin 1020 x → AllWithin 1020 y
flipped_mid x y e h = subst (AllWithin 1020) (sym e) (flipped_within 1020 x h)

pub wider : (x : List (List ℤ)) → AllWithin 255 x → AllWithin 1020 x
wider x h = omega arith

pub ruleset near_steps = (rows_near, rows_far, flipped_near, flipped_mid, wider)

-- half the size of the matrix transformed is the cost
pub cost_is : (x t : List (List ℤ)) (s : ℕ) → t ≡ done x → s ≡ total 4 (λ r. size_of (row t r)) → s / 2 ≡ satd4 (entries x)
cost_is x t s d e = ap (λ (n : ℕ). n / 2) (e ∙ ap (λ (v : List (List ℤ)). total 4 (λ r. size_of (row v r))) d)
