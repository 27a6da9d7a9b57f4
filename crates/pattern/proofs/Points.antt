-- Multiples of the offsets of a table.
use Rattle.std.proofs.Common.{◌≡◌, ℕ, ◌+◌, ◌*◌, ◌/◌, ◌%◌, ◌≤◌, ◌<◌, ◌∙◌, IsTrue, List, map, slice_index_or, sym, ap, subst, refl, arith}
use Rattle.std.specs.List.{list_all}
use Rattle.rate.specs.declared.vectors.Vector.{Vector}
use Rattle.settings.specs.Ranges.{Reach}
use Rattle.pattern.specs.declared.squares.Eight.{Eight}
use Rattle.pattern.specs.declared.squares.Eight.TheVariants.{One, Two}
use Rattle.pattern.specs.Offsets.{still, times, Within}
use Rattle.pattern.specs.Patterns.{distance_of, eight, rings, sixteen}
use Rattle.pattern.specs.Arms.{rings_at}
use Rattle.pattern.specs.Shorts.{is_within, each_within, get_or_times, times_within}

-- a multiple of an offset of a table is short
multiple_short : (k : ℕ) (os : List Vector) (i : ℕ) (o : Vector) → IsTrue (list_all (is_within 64) os) → k ≤ 16 → o ≡ slice_index_or os i still → Within 4355 (times k o)
multiple_short k os i o t le e = times_within k 64 4355 o (subst (Within 64) (sym e) (each_within 64 os t i)) (omega arith)

-- a point of ring 1, at its ring
pub ring_fits : (k i : ℕ) (o : Vector) → k ≤ 16 → o ≡ slice_index_or sixteen i still → Within 4355 (times k o)
unfolding sixteen
ring_fits k i o le e = multiple_short k sixteen i o refl le e

pub ring_point : (w i : ℕ) (o : Vector) → Reach w → i < 4 * w → o ≡ slice_index_or sixteen (i % 16) still → times (1 + i / 16) o ≡ slice_index_or (rings w) i still
ring_point w i o h lt e = rw e (sym (rings_at w i h lt))

-- an offset of the eight of distance 1, at its distance
pub eight_fits : (e : Eight) (d i : ℕ) (o : Vector) → d ≡ distance_of e → o ≡ slice_index_or (eight 1) i still → Within 4355 (times d o)
unfolding eight
eight_fits One d i o de oe = multiple_short d (eight 1) i o refl (omega arith) oe
eight_fits Two d i o de oe = multiple_short d (eight 1) i o refl (omega arith) oe

multiples : (e : Eight) → map (times (distance_of e)) (eight 1) ≡ eight (distance_of e)
unfolding eight
multiples One = refl
multiples Two = refl

pub eight_point : (e : Eight) (d i : ℕ) (o : Vector) → d ≡ distance_of e → o ≡ slice_index_or (eight 1) i still → times d o ≡ slice_index_or (eight (distance_of e)) i still
eight_point e d i o de oe =
    rw (de, oe) (sym (get_or_times (distance_of e) (eight 1) i) ∙ ap (λ os. slice_index_or os i still) (multiples e))
