-- What a strip's squares can cost at most.
use Rattle.std.specs.Prelude.{ℕ, ◌+◌, ◌*◌, ◌/◌, ◌≤◌, List, length, ℤ, pos, ◌-ℤ◌, unsigned_abs}
use Rattle.std.proofs.Common.{subst, arith}
use Rattle.std.proofs.lemmas.Int.{ints}
use Rattle.measure.specs.Strips.{Bytes}
use Rattle.measure.specs.Transforms.{matrix_at, satd4, satd_at, satd}
use Rattle.measure.specs.Fours.{row, matrix_of, entries, AllWithin, Within, size_of}
use Rattle.measure.specs.Totals.{total_most}
use Rattle.measure.specs.Turning.{done, done_within, done_is}

less_most : (x y : ℕ) → x ≤ 255 → y ≤ 255 → unsigned_abs (pos x -ℤ pos y) ≤ 255
less_most x y p q = omega (arith, ints)

size_most : (m : ℕ) (x : List ℤ) → Within m x → size_of x ≤ 4 * m
size_most m x h = omega arith

halved_most : (a b c d : ℕ) → a ≤ 16320 → b ≤ 16320 → c ≤ 16320 → d ≤ 16320 → (a + b + c + d) / 2 ≤ 32640
halved_most a b c d p q r s = omega arith

square_most : (x : List (List ℤ)) → AllWithin 255 x → satd4 (entries x) ≤ 32640
square_most x h =
    let w = done_within x h in
    subst (λ (n : ℕ). n ≤ 32640) (done_is x)
    (halved_most (size_of (row (done x) 0)) (size_of (row (done x) 1)) (size_of (row (done x) 2)) (size_of (row (done x) 3)) (size_most 4080 (row (done x) 0) w.0)
    (size_most 4080 (row (done x) 1) w.1.0) (size_most 4080 (row (done x) 2) w.1.1.0) (size_most 4080 (row (done x) 3) w.1.1.1))

matrix_within : (d : ℕ → ℕ → ℤ) → ((r c : ℕ) → unsigned_abs (d r c) ≤ 255) → AllWithin 255 (matrix_of d)
matrix_within d h =
    ((h 0 0, h 0 1, h 0 2, h 0 3), ((h 1 0, h 1 1, h 1 2, h 1 3), ((h 2 0, h 2 1, h 2 2, h 2 3), (h 3 0, h 3 1, h 3 2, h 3 3))))

pub satd_most : (a b : List ℕ) → Bytes a → Bytes b → satd a b ≤ 32640 * (length a / 16)
satd_most a b x y =
    total_most (satd_at a b) 32640 (length a / 16)
    (λ n. square_most (matrix_of (matrix_at a b n)) (matrix_within (matrix_at a b n) (λ r c. less_most _ _ (x _) (y _))))

-- so that SATD too keeps the bound of every measure
pub satd_within : (a b : List ℕ) → Bytes a → Bytes b → satd a b ≤ 65025 * length a
satd_within a b x y = omega (arith, satd_most a b x y)
