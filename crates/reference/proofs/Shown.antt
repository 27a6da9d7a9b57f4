-- A patch that was read shows the picture.
use Rattle.std.proofs.Common.{◌≡◌, ℕ, ◌+◌, ◌*◌, ◌<◌, List, ◌++◌, length, get_or, ℤ, pos, ◌+ℤ◌, ◌-ℤ◌, ◌∙◌, arith}
use Rattle.std.proofs.lemmas.Nat.{div-mul-add, mod-mul-add}
use Rattle.std.proofs.lemmas.List.{get_or_append_left}
use Rattle.picture.specs.Planes.{Grid, grid_sample}
use Rattle.reference.proofs.Places.{place_below}

pub shows_is : (g : Grid) (x y : ℤ) (s h : ℕ) (v rest : List ℕ) → length v ≡ h * s → ((k : ℕ) → k < h * s → get_or v k 0 ≡ grid_sample g (x -ℤ pos 2) (y -ℤ pos 2) s k) →
    (c r : ℕ) → c < s → r < h → get_or (v ++ rest) (r * s + c) 0 ≡ g (x -ℤ pos 2 +ℤ pos c) (y -ℤ pos 2 +ℤ pos r)
shows_is g x y s h v rest long read c r lc lr =
    let lt : r * s + c < h * s = place_below s h r c lc lr in
    let m = mod-mul-add r s c lc in
    let d = div-mul-add r s c lc in
    get_or_append_left v rest 0 (r * s + c) (omega arith) ∙ read (r * s + c) lt ∙ cc (m, d)
