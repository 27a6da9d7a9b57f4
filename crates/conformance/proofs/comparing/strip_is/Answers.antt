-- The strip that was written is compared.
use Rattle.std.proofs.Common.{◌∙◌, sym, rules}
use Rattle.std.proofs.lemmas.Slice.Eq.{slice_eq-Decides}
use Rattle.std.proofs.lemmas.Bool.Decides.{Decides-eqb}
use Rattle.conformance.proofs.comparing.strip_is.Goals as goal

pub returns : goal.returns
returns g c =
    let same = slice_eq-Decides Decides-eqb c.strip.new.out c.args.samples.now c.eq.result c.eq.ensures in
    (λ t. (search rules, search rules, search rules, sym (search rules) ∙ same.0 t), λ h. same.1 (search rules ∙ h.3))
