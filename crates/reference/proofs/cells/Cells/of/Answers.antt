use Rattle.std.proofs.Common.{◌≡◌, ℕ, ◌+◌, ◌*◌, ◌/◌, ◌%◌, length, get_or, pos, arith, rules}
use Rattle.std.proofs.lemmas.List.{get_or_append_left}
use Rattle.reference.specs.Bounds.{Within}
use Rattle.reference.specs.Patches.{row_tap}
use Rattle.reference.proofs.cells.Cells.of.Goals as goal

pub invariant_of-result : goal.invariant_of-result
invariant_of-result c =
    let w : ℕ = c.args.patch.width in
    let out = c.fill_rows.new.out in
    let long : length out ≡ (c.args.patch.height + 5) * w = search rules in
    record {
      summed = λ k lt.
          let h = c.fill_rows.ensures k (omega (arith, c.fill_rows.auto.out)) (pos 0) in
          let s : (get_or out k (pos 0) ≡ row_tap c.args.patch (k % w) (k / w)) × Within 16384 (get_or out k (pos 0)) = search rules in
          rw (get_or_append_left out _ (pos 0) k (omega arith)) s;
    }
