-- The samples of a computing list, in a picture that there is and in one that there is not.
use Rattle.std.proofs.Common.{◌≡◌, ℕ, ◌<◌, ◌≤◌, true, cond, ltb, ℤ, sym, ap, ◌∙◌, arith}
use Rattle.std.proofs.lemmas.Bool.Decides.{nat_tests}
use Rattle.picture.specs.Planes.{Grid}
use Rattle.reference.specs.declared.computed.ComputedList.{ComputedList}
use Rattle.reference.specs.Interpolation.{quarter}
use Rattle.reference.specs.Computed.{computed, grid_at}

is_below : (a b : ℕ) → a < b → ltb a b ≡ true
is_below a b h = grind (arith, nat_tests)

pub listed : (l : ComputedList) (r : ℕ) (X Y : ℤ) (g : Grid) (v : ℕ) → r < l.pictures.size.pictures → g ≡ grid_at l r → v ≡ quarter g X Y → v ≡ (computed l).at r X Y
listed l r X Y g v lt e f =
    let b = is_below r l.pictures.size.pictures lt in
    f ∙ ap (λ (h : Grid). quarter h X Y) e ∙ sym (ap (λ t. cond t (quarter (grid_at l r) X Y) 0) b)

pub unlisted : (l : ComputedList) (r : ℕ) (X Y : ℤ) (v : ℕ) → l.pictures.size.pictures ≤ r → v ≡ 0 → v ≡ (computed l).at r X Y
unlisted l r X Y v le e = e ∙ sym ((computed l).past r X Y le)
