-- How far the vectors of a window lie from (0, 0) and from the predicted vector.
use Rattle.std.specs.Prelude.{◌≡◌, ℕ, ◌<◌, ◌≤◌, Bool, true, false, leb, ℤ, pos, ◌+ℤ◌, ◌-ℤ◌, ◌*ℤ◌, nat_le, nat_lt, unsigned_abs, ◌==◌, refl}
use Rattle.std.proofs.Common.{sym, subst, arith}
use Rattle.std.proofs.lemmas.Int.{ints}
use Rattle.std.proofs.lemmas.Bool.{and_parts, leb-true}
use Rattle.std.proofs.lemmas.Bool.Decides.{nat_tests}
use Rattle.rate.specs.declared.vectors.Vector.{Vector}
use Rattle.settings.specs.declared.predicted.Predicted.{Predicted}
use Rattle.settings.specs.declared.setups.Setup.{Setup}
use Rattle.settings.specs.Centres.{centre_of}
use Rattle.settings.proofs.Quarters.{floor_is}
use Rattle.cost.specs.declared.candidates.Candidate.{Candidate}
use Rattle.cost.specs.Rating.{predicted_in, across, down, is_priced}
use Rattle.pattern.specs.Offsets.{Within}
use Rattle.window.specs.Windows.{Window, Apart, inside, inside_across, inside_down, in_quarters, quartered}
use Rattle.window.specs.Stages.{predicted_at, whole_of, quarter}

-- both components of a vector inside are near the centre's
pub inside_apart : (w : Window) (r : ℕ) (v : Vector) → inside w r v ≡ true → Apart w.reach v (w.centre r)
inside_apart w r v t =
    let p = and_parts (inside_across w r v) (inside_down w r v) t in
    (leb-true (unsigned_abs (v.x -ℤ (w.centre r).x)) w.reach p.0, leb-true (unsigned_abs (v.y -ℤ (w.centre r).y)) w.reach p.1)

-- predicted vectors are from -4,096 to 4,096
predicted_near : (p : Predicted) (r : ℕ) → Within 4096 (predicted_at p r)
predicted_near p r = by (nat_lt r p.pictures) refl
  where
    by : (b : Bool) → nat_lt r p.pictures ≡ b → Within 4096 (predicted_at p r)
    by true e = rw e (p.near r)
    by false e = rw e (omega arith, omega arith)

-- centres of whole samples are from -1,024 to 1,024
centre_near : (z : ℤ) → unsigned_abs z ≤ 4096 → unsigned_abs (centre_of z) ≤ 1024
centre_near z h = let f = floor_is (z +ℤ pos 2) (centre_of z) refl in omega (arith, ints)

-- so those of the first stage are central
pub whole_central : (s : Setup) (r : ℕ) → Within 4352 ((whole_of s).centre r)
whole_central s r =
    let n = predicted_near s.predicted r in
    (omega (arith, centre_near (predicted_at s.predicted r).x n.0), omega (arith, centre_near (predicted_at s.predicted r).y n.1))

-- a component at most 64 from the centre: four times it is at most 258 from the predicted one
whole_component : (p z : ℤ) (far : ℕ) → unsigned_abs p ≤ 4096 → far ≤ 64 → unsigned_abs (z -ℤ centre_of p) ≤ far → (unsigned_abs z ≤ 1088) × (unsigned_abs (pos 4 *ℤ z) ≤ 4352) × (unsigned_abs (pos 4 *ℤ z -ℤ p) ≤ 258)
whole_component p z far h le apart =
    let f = floor_is (p +ℤ pos 2) (centre_of p) refl in
    let c = centre_near p h in
    (omega (arith, ints), omega (arith, ints), omega (arith, ints))

-- the predicted vector of a picture of the list
named_is : (s : Setup) (r : ℕ) → nat_lt r s.predicted.pictures ≡ true → predicted_at s.predicted r ≡ predicted_in s r
named_is s r e = rw e

-- the first stage: vectors inside, in both units, and their differences
pub whole_near : (s : Setup) (r : ℕ) (v : Vector) → (whole_of s).named r ≡ true → inside (whole_of s) r v ≡ true → Within 1088 v × Within 4352 (in_quarters (whole_of s) v) × Apart 258 (in_quarters (whole_of s) v) (predicted_in s r)
whole_near s r v named t =
    let a = inside_apart (whole_of s) r v t in
    let n = predicted_near s.predicted r in
    let far = s.range.ok.1 in
    let x = whole_component (predicted_at s.predicted r).x v.x s.range.value n.0 far a.0 in
    let y = whole_component (predicted_at s.predicted r).y v.y s.range.value n.1 far a.1 in
    let apart : Apart 258 (in_quarters (whole_of s) v) (predicted_at s.predicted r) = (x.2, y.2) in
    ((x.0, y.0), (x.1, y.1), subst (Apart 258 (in_quarters (whole_of s) v)) (named_is s r named) apart)

-- both differences have a code length, so the candidate has a price
pub apart_priced : (s : Setup) (c : Candidate) → nat_lt c.picture s.predicted.pictures ≡ true → Apart 261 c.vector (predicted_in s c.picture) → is_priced s c ≡ true
apart_priced s c named a =
    let x : leb (unsigned_abs (across s c)) 261 ≡ true = leb_yes _ 261 a.0 in
    let y : leb (unsigned_abs (down s c)) 261 ≡ true = leb_yes _ 261 a.1 in
    rw (named, x, y)
  where
    leb_yes : (m n : ℕ) → m ≤ n → nat_le m n ≡ true
    leb_yes m n h = grind (arith, nat_tests)

-- so every candidate inside a window of the first stage has a price
pub whole_priced : (s : Setup) (c : Candidate) → (whole_of s).named c.picture ≡ true → inside (whole_of s) c.picture c.vector ≡ true → is_priced s (quartered (whole_of s) c) ≡ true
whole_priced s c named t =
    let h = whole_near s c.picture c.vector named t in
    apart_priced s (quartered (whole_of s) c) named (omega (arith, h.2.0), omega (arith, h.2.1))

quarter_component : (p c z : ℤ) → unsigned_abs c ≤ 4352 → unsigned_abs (c -ℤ p) ≤ 258 → unsigned_abs (z -ℤ c) ≤ 3 → unsigned_abs (pos 1 *ℤ z -ℤ p) ≤ 261
quarter_component p c z h g apart = omega (arith, ints)

-- the second stage
pub quarter_near : (picture r : ℕ) (p c v : Vector) → Within 4352 c → Apart 258 c p → inside (quarter picture c) r v ≡ true → Apart 261 (in_quarters (quarter picture c) v) p
quarter_near picture r p c v h g t =
    let a = inside_apart (quarter picture c) r v t in
    (quarter_component p.x c.x v.x h.0 g.0 a.0, quarter_component p.y c.y v.y h.1 g.1 a.1)

-- inside a window that reaches 64 about a central vector
pub inside_near : (w : Window) (r : ℕ) (v : Vector) → w.reach ≤ 64 → Within 4352 (w.centre r) → inside w r v ≡ true → Within 4416 v
inside_near w r v narrow central t = let a = inside_apart w r v t in (close v.x (w.centre r).x w.reach narrow central.0 a.0, close v.y (w.centre r).y w.reach narrow central.1 a.1)
  where
    close : (z c : ℤ) (far : ℕ) → far ≤ 64 → unsigned_abs c ≤ 4352 → unsigned_abs (z -ℤ c) ≤ far → unsigned_abs z ≤ 4416
    close z c far le h g = omega (arith, ints)

-- the number that was named is the picture's
pub same_picture : (r p : ℕ) → (r == p) ≡ true → r ≡ p
same_picture r p e = grind (arith, nat_tests)

-- so it is below the number of pictures
pub same_below : (r p n : ℕ) → r ≡ p → p < n → nat_lt r n ≡ true
same_below r p n e h = grind (arith, nat_tests)

-- and so has every candidate inside the window of the second
pub quarter_priced : (s : Setup) (picture : ℕ) (v : Vector) (c : Candidate) → picture < s.predicted.pictures → Within 4352 v → Apart 258 v (predicted_in s picture) →
    (quarter picture v).named c.picture ≡ true → inside (quarter picture v) c.picture c.vector ≡ true → is_priced s (quartered (quarter picture v) c) ≡ true
quarter_priced s picture v c listed near tabled named t =
    let e = same_picture c.picture picture named in
    let a = quarter_near picture c.picture (predicted_in s picture) v c.vector near tabled t in
    apart_priced s (quartered (quarter picture v) c) (same_below c.picture picture s.predicted.pictures e listed)
    (subst (λ (r : ℕ). Apart 261 (in_quarters (quarter picture v) c.vector) (predicted_in s r)) (sym e) a)
