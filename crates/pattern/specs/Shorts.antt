-- Bounds on the components of offsets.
use Rattle.std.specs.Prelude.{◌≡◌, ℕ, zero, suc, ◌*◌, ◌≤◌, Bool, IsTrue, ◌&&◌, List, [], ◌∷◌, map, ℤ, pos, FitsSigned, nat_le, slice_index_or, unsigned_abs, refl}
use Rattle.std.specs.List.{list_all}
use Rattle.std.proofs.Common.{arith, mul-le-mul_left}
use Rattle.std.proofs.Math.IntN.{*ℤ-zero}
use Rattle.std.specs.Int.{w16}
use Rattle.std.proofs.lemmas.Int.{ints, unsigned_abs-mul}
use Rattle.std.proofs.lemmas.Bool.{and_parts, leb-true}
use Rattle.rate.specs.declared.vectors.Vector.{Vector}
use Rattle.pattern.specs.Offsets.{still, Within, times}

-- whether both components are from -m to m
abbrev pub is_within : ℕ → Vector → Bool
is_within m o = nat_le (unsigned_abs o.x) m && nat_le (unsigned_abs o.y) m

-- a test of the whole list tells of each place, and past the end there is (0, 0)
pub each_within : (m : ℕ) (os : List Vector) → IsTrue (list_all (is_within m) os) → (k : ℕ) → Within m (slice_index_or os k still)
each_within m [] t k = (omega arith, omega arith)
each_within m (o ∷ os) t zero =
    let p = and_parts (nat_le (unsigned_abs o.x) m) _ (and_parts (is_within m o) _ t).0 in
    (leb-true _ _ p.0, leb-true _ _ p.1)
each_within m (o ∷ os) t (suc k) = each_within m os (and_parts (is_within m o) _ t).1 k

-- whatever bounds an offset's components bounds its multiple's
pub times_within : (k m n : ℕ) (o : Vector) → Within m o → k * m ≤ n → Within n (times k o)
times_within k m n o h le =
    (omega (arith, unsigned_abs-mul (pos k) o.x, mul-le-mul_left k h.0), omega (arith, unsigned_abs-mul (pos k) o.y, mul-le-mul_left k h.1))

-- an element of a list's multiple
pub get_or_times : (k : ℕ) (os : List Vector) (i : ℕ) → slice_index_or (map (times k) os) i still ≡ times k (slice_index_or os i still)
get_or_times k [] i = rw *ℤ-zero refl
get_or_times k (o ∷ os) zero = refl
get_or_times k (o ∷ os) (suc i) = get_or_times k os i

-- a component of a stretched offset is a 16-bit number
pub small_fits : (z : ℤ) → unsigned_abs z ≤ 4355 → FitsSigned w16 z
small_fits z h = omega (arith, ints)

-- what bounds an offset's components bounds them with more
pub within_more : (m n : ℕ) (o : Vector) → Within m o → m ≤ n → Within n o
within_more m n o h le = (omega arith, omega arith)
