use Rattle.std.proofs.Common.{◌+◌, pos, ◌∙◌, w32, SFits, rules}
use Rattle.std.proofs.lemmas.Int.{to_z-of_z}
use Rattle.reference.specs.Patches.{row_tap, patch_at}
use Rattle.reference.proofs.TapSums.{six_bytes}
use Rattle.reference.proofs.patches.Patch.row_sum.Goals as goal

pub tap_sum-requires : goal.tap_sum-requires
tap_sum-requires c = (six_bytes c.six.result (λ k. patch_at c.args.self.now (c.args.c + k) c.args.r) (λ k lt. let h = c.six.ensures k lt (pos 0) in search rules)).taps

pub returns : goal.returns
unfolding row_tap
returns c =
    let t : SFits w32 c.tap_sum.result = search rules in
    let s = six_bytes c.six.result (λ k. patch_at c.args.self.now (c.args.c + k) c.args.r) (λ k lt. let h = c.six.ensures k lt (pos 0) in search rules) in
    simp to_z-of_z (record { value = c.tap_sum.ensures ∙ s.value; small = rw c.tap_sum.ensures s.small })
