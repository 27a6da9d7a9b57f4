-- Luma samples at quarter-sample positions, as H.264 defines them (clause 8.4.2.2.1).
use Rattle.std.specs.Prelude.{ℕ, ◌+◌, ◌*◌, ◌/◌, min, List, [], ◌∷◌, ℤ, pos, negsuc, ◌+ℤ◌, ◌-ℤ◌, ◌*ℤ◌, slice_index, unsigned_abs}
use Rattle.std.specs.Int.{int_div_euclid, int_rem_euclid}
use Rattle.picture.specs.Planes.{Grid}

-- clipped to 0 .. 255
abbrev pub clip : ℤ → ℕ
clip (pos n) = min n 255
clip (negsuc n) = 0

-- floor((u + v + 1) / 2)
abbrev pub mean : ℕ → ℕ → ℕ
mean u v = (u + v + 1) / 2

-- the six taps
unfoldable pub tap : ℤ → ℤ → ℤ → ℤ → ℤ → ℤ → ℤ
tap E F G H I J = E -ℤ pos 5 *ℤ F +ℤ pos 20 *ℤ G +ℤ pos 20 *ℤ H -ℤ pos 5 *ℤ I +ℤ J

-- the unrounded sum of a row, in the gap right of column x
unfoldable pub across : Grid → ℤ → ℤ → ℤ
across g x y =
    tap (pos (g (x -ℤ pos 2) y)) (pos (g (x -ℤ pos 1) y)) (pos (g x y)) (pos (g (x +ℤ pos 1) y)) (pos (g (x +ℤ pos 2) y)) (pos (g (x +ℤ pos 3) y))

-- the unrounded sum of a column, in the gap below row y
unfoldable pub downwards : Grid → ℤ → ℤ → ℤ
downwards g x y =
    tap (pos (g x (y -ℤ pos 2))) (pos (g x (y -ℤ pos 1))) (pos (g x y)) (pos (g x (y +ℤ pos 1))) (pos (g x (y +ℤ pos 2))) (pos (g x (y +ℤ pos 3)))

-- the same sum, down a column of the rows' unrounded sums
unfoldable pub middle : Grid → ℤ → ℤ → ℤ
middle g x y =
    tap (across g x (y -ℤ pos 2)) (across g x (y -ℤ pos 1)) (across g x y) (across g x (y +ℤ pos 1)) (across g x (y +ℤ pos 2)) (across g x (y +ℤ pos 3))

-- floor((t + 16) / 32), clipped (`int_div_euclid` rounds down where the divisor is positive)
unfoldable pub rounded : ℤ → ℕ
rounded t = clip (int_div_euclid (t +ℤ pos 16) (pos 32))

-- floor((t + 512) / 1024), clipped
unfoldable pub rounded_twice : ℤ → ℕ
rounded_twice t = clip (int_div_euclid (t +ℤ pos 512) (pos 1024))

-- the sixteen samples of the cell at column x, row y: fractions 0 to 3 across in a line, 0 to 3 downwards from line to line
unfoldable pub cell : Grid → ℤ → ℤ → List ℕ
cell g x y =
    let G : ℕ = g x y in
    let H : ℕ = g (x +ℤ pos 1) y in
    let M : ℕ = g x (y +ℤ pos 1) in
    let b : ℕ = rounded (across g x y) in
    let s : ℕ = rounded (across g x (y +ℤ pos 1)) in
    let h : ℕ = rounded (downwards g x y) in
    let m : ℕ = rounded (downwards g (x +ℤ pos 1) y) in
    let j : ℕ = rounded_twice (middle g x y) in
    G ∷ mean G b ∷ b ∷ mean b H ∷
    mean G h ∷ mean b h ∷ mean b j ∷ mean b m ∷
    h ∷ mean h j ∷ j ∷ mean j m ∷
    mean h M ∷ mean h s ∷ mean j s ∷ mean s m ∷ []

-- the place of a position in its cell: the fraction across, and four times the fraction downwards, never negative
abbrev pub place_of : ℤ → ℤ → ℕ
place_of X Y = 4 * unsigned_abs (int_rem_euclid Y (pos 4)) + unsigned_abs (int_rem_euclid X (pos 4))

-- the sample at a position in quarter samples: its cell is at floor(X / 4), floor(Y / 4)
unfoldable pub quarter : Grid → ℤ → ℤ → ℕ
quarter g X Y = slice_index (cell g (int_div_euclid X (pos 4)) (int_div_euclid Y (pos 4))) (place_of X Y)
