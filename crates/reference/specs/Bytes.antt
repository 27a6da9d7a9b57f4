-- Every sample is a byte.
use Rattle.std.specs.Prelude.{ℕ, zero, suc, ◌+◌, ◌*◌, ◌<◌, Bool, true, false, cond, List, [], ◌∷◌, take, drop, ℤ, pos, negsuc, slice_index}
use Rattle.std.proofs.Common.{lit<, get_or-drop, arith}
use Rattle.std.specs.List.{AllByRecursion}
use Rattle.picture.specs.Planes.{Grid, grid, nearest}
use Rattle.reference.specs.Interpolation.{clip, mean, rounded, rounded_twice, cell, quarter}

abbrev pub Bytes : List ℕ → Type 0
Bytes xs = (k : ℕ) → slice_index xs k < 256

pub bytes_take : (n : ℕ) (xs : List ℕ) → Bytes xs → Bytes (take n xs)
bytes_take zero xs b k = lit< tt
bytes_take (suc n) [] b k = lit< tt
bytes_take (suc n) (x ∷ xs) b zero = b zero
bytes_take (suc n) (x ∷ xs) b (suc k) = bytes_take n xs (λ i. b (suc i)) k

pub bytes_drop : (n : ℕ) (xs : List ℕ) → Bytes xs → Bytes (drop n xs)
bytes_drop n xs b k = rw (get_or-drop n xs k 0) (b (n + k))

pub bytes_all : (xs : List ℕ) → AllByRecursion (λ v. v < 256) xs → Bytes xs
bytes_all [] a k = lit< tt
bytes_all (x ∷ xs) a zero = a.0
bytes_all (x ∷ xs) a (suc k) = bytes_all xs a.1 k

pub grid_byte : (w h : ℕ) (xs : List ℕ) → Bytes xs → (x y : ℤ) → grid w h xs x y < 256
unfolding grid
grid_byte w h xs b x y = b (nearest h y * w + nearest w x)

pub clip_byte : (z : ℤ) → clip z < 256
clip_byte (pos n) = omega arith
clip_byte (negsuc n) = lit< tt

pub rounded_byte : (t : ℤ) → rounded t < 256
unfolding rounded
rounded_byte t = clip_byte _

pub rounded_twice_byte : (t : ℤ) → rounded_twice t < 256
unfolding rounded_twice
rounded_twice_byte t = clip_byte _

mean_byte : (u v : ℕ) → u < 256 → v < 256 → mean u v < 256
mean_byte u v p q = omega arith

pub cell_byte : (g : Grid) → ((x y : ℤ) → g x y < 256) → (x y : ℤ) → Bytes (cell g x y)
unfolding cell
cell_byte g b x y =
    let r = rounded_byte in
    let t = rounded_twice_byte in
    let m = mean_byte in
    bytes_all (cell g x y) (b _ _, (m _ _ (b _ _) (r _), (r _, (m _ _ (r _) (b _ _), (m _ _ (b _ _) (r _), (m _ _ (r _) (r _), (m _ _ (r _) (t _), (m _ _ (r _) (r _), (r _, (m _ _ (r _) (t _), (t _, (m _ _ (t _) (r _), (m _ _ (r _) (b _ _), (m _ _ (r _) (r _), (m _ _ (t _) (r _), (m _ _ (r _) (r _), tt))))))))))))))))

pub quarter_byte : (g : Grid) → ((x y : ℤ) → g x y < 256) → (X Y : ℤ) → quarter g X Y < 256
unfolding quarter
quarter_byte g b X Y = cell_byte g b _ _ _

pub byte_if : (b : Bool) (n : ℕ) → n < 256 → cond b n 0 < 256
byte_if true n h = h
byte_if false n h = lit< tt
