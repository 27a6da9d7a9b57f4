-- Why the measure and the pattern keep the laws of their traits.
use Rattle.std.specs.Prelude.{ℕ, zero, suc, ◌*◌, ◌/◌, ◌≤◌, List, length, slice_index_or}
use Rattle.std.proofs.Common.{arith}
use Rattle.std.proofs.lemmas.Nat.{mul-le}
use Rattle.std.proofs.lemmas.Int.{ints}
use Rattle.measure.specs.Strips.{Bytes}
use Rattle.measure.specs.Totals.{gap_most, total_most}
use Rattle.pattern.specs.Offsets.{still, Within}
use Rattle.buyer.specs.Middles.{middle_rows, weight, weighted_at}
use Rattle.buyer.specs.Corners.{IsDistance, corners}

-- no row counts more than twice
pub weight_most : (row : ℕ) → weight row ≤ 2
weight_most row = grind arith

-- so no place adds more than 510, and no strip more than that a sample
pub middle_rows_most : (a b : List ℕ) → Bytes a → Bytes b → middle_rows a b ≤ 65025 * length a
middle_rows_most a b x y =
    let most : middle_rows a b ≤ 510 * length a =
    total_most (weighted_at a b) 510 (length a) (λ k. mul-le _ _ 2 255 (weight_most (k / (length a / 4))) (gap_most a b x y k)) in
    omega arith

-- no corner is further away than 64, nor is (0, 0)
pub corners_short : (distance k : ℕ) → IsDistance distance → Within 64 (slice_index_or (corners distance) k still)
corners_short d zero h = (omega (arith, ints), omega (arith, ints))
corners_short d (suc zero) h = (omega (arith, ints), omega (arith, ints))
corners_short d (suc (suc zero)) h = (omega (arith, ints), omega (arith, ints))
corners_short d (suc (suc (suc zero))) h = (omega (arith, ints), omega (arith, ints))
corners_short d (suc (suc (suc (suc k)))) h = (omega arith, omega arith)
