-- Strips of a block and of a list, as they are cut out of arrays.
use Rattle.std.proofs.Common.{◌≡◌, ℕ, ◌*◌, ◌/◌, ◌<◌, true, List, length, ℤ, sym, refl, ap, ◌∙◌, arith}
use Rattle.std.proofs.lemmas.List.FromFn.{length-map-range_with_len, get_or-map-range_with_len}
use Rattle.std.proofs.lemmas.Bool.Decides.{nat_tests}
use Rattle.block.specs.declared.shapes.Shape.{Shape}
use Rattle.block.specs.declared.shapes.Shape.TheVariants.{B16x16, B16x8, B8x16, B8x8, B8x4, B4x8, B4x4}
use Rattle.block.specs.Shapes.{shape_width, shape_height}
use Rattle.reference.specs.Lists.{ListMeaning, is_strip, strip_at, strip_of}
use Rattle.measure.specs.Strips.{are_strips, asked}
use Rattle.settings.specs.declared.setups.Setup.{Setup}
use Rattle.cost.specs.declared.candidates.Candidate.{Candidate}
use Rattle.cost.specs.Prices.{cost_at}
use Rattle.cost.specs.Strips.{Cost, strip_cost, parts_of}

-- a strip of any shape is a strip
pub shape_strip : (s : Shape) → is_strip (4 * shape_width s) ≡ true
shape_strip B16x16 = refl
shape_strip B16x8 = refl
shape_strip B8x16 = refl
shape_strip B8x8 = refl
shape_strip B8x4 = refl
shape_strip B4x8 = refl
shape_strip B4x4 = refl

pub strip_length : (m : ListMeaning) (r : ℕ) (X Y : ℤ) (w : ℕ) → length (strip_of m r X Y w) ≡ 4 * w
unfolding strip_of
strip_length m r X Y w = length-map-range_with_len (strip_at m r X Y w) 0 (4 * w)

-- the strips that a candidate is priced by: how many, and the cost of each
pub strips_many : (s : Setup) (m : ListMeaning) (cost : Cost) (c : Candidate) → length (parts_of s m cost c).strips ≡ shape_height s.block.shape / 4
strips_many s m cost c = length-map-range_with_len (strip_cost cost m s.block c) 0 (shape_height s.block.shape / 4)

pub strip_costs : (s : Setup) (m : ListMeaning) (cost : Cost) (c : Candidate) (k : ℕ) → k < shape_height s.block.shape / 4 → cost_at (parts_of s m cost c) k ≡ strip_cost cost m s.block c k
strip_costs s m cost c k lt = get_or-map-range_with_len (strip_cost cost m s.block c) 0 (shape_height s.block.shape / 4) k k 0 lt (omega arith)

are_both : (m n : ℕ) → is_strip m ≡ true → n ≡ m → are_strips m n ≡ true
are_both m n e h = grind (arith, nat_tests)

-- what a measure answers of two strips is their cost
pub asked_is : (cost : List ℕ → List ℕ → ℕ) (r : ℕ) (a b c d : List ℕ) → r ≡ asked cost a b → a ≡ c → b ≡ d → is_strip (length c) ≡ true → length d ≡ length c → r ≡ cost c d
asked_is cost r a b c d e p q s l =
    let t = are_both (length c) (length d) s l in
    e ∙ rw (p, q, t)

-- the cost of a block's strip, against one that a list wrote into n places
pub strip_cost_is : (cost : Cost) (m : ListMeaning) (r : ℕ) (x y X Y : ℤ) (sh : Shape) (a b cut ys : List ℕ) (n answer : ℕ) →
    cut ≡ a → length cut ≡ 4 * shape_width sh → n ≡ 4 * shape_width sh → x ≡ X → y ≡ Y → ys ≡ strip_of m r x y (n / 4) → b ≡ strip_of m r X Y (shape_width sh) → answer ≡ asked cost cut ys →
    answer ≡ cost a b
strip_cost_is cost m r x y X Y sh a b cut ys n answer ec long en ex ey read eb got =
    let w : n / 4 ≡ shape_width sh = omega arith in
    let eys : ys ≡ b = read ∙ rw (w, ex, ey) refl ∙ sym eb in
    let la : length a ≡ 4 * shape_width sh = sym (ap length ec) ∙ long in
    let lb : length b ≡ length a = ap length eb ∙ strip_length m r X Y (shape_width sh) ∙ sym la in
    asked_is cost answer cut ys a b got ec eys (rw la (shape_strip sh)) lb
