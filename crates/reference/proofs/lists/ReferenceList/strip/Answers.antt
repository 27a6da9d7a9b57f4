use Rattle.std.proofs.Common.{◌≡◌, ◌∙◌, ℕ, ◌<◌, ◌/◌, length, arith, rules, slice_index_or, subst}
use Rattle.std.proofs.lemmas.Int.{to_z-of_z}
use Rattle.reference.specs.Lists.{strip_at}
use Rattle.reference.proofs.Strips.{strip_all, strip_size}
use Rattle.reference.proofs.lists.ReferenceList.strip.Goals as goal

pub returns : goal.returns
returns g c =
    let s = strip_size (length c.args.out.now) c.requires.wide in
    let x = c.ranges.x in
    let y = c.ranges.y in
    let long : length c.fill_rows.new.out ≡ length c.args.out.now = search rules in
    let each : (k : ℕ) → k < length c.args.out.now → slice_index_or c.fill_rows.new.out k 0 ≡ strip_at (g.Self.ReferenceList.meaning c.args.self.now) c.args.picture c.args.x c.args.y (length c.args.out.now / 4) k =
    λ k lt. let h = simp to_z-of_z at (c.fill_rows.ensures k (omega (arith, lt, long)) 0) in search rules in
    let copied : c.copy_from_slice.new.self ≡ c.fill_rows.new.out = search rules in
    copied ∙
    strip_all (g.Self.ReferenceList.meaning c.args.self.now) c.args.picture c.args.x c.args.y (length c.args.out.now / 4) c.fill_rows.new.out (long ∙ s.2)
    (λ k lt. each k (subst (λ (n : ℕ). k < n) long lt))
