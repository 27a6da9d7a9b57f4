use Rattle.std.proofs.Common.{w16, SFits, rules}
use Rattle.std.proofs.lemmas.Int.{to_z-of_z}
use Rattle.job.specs.Format.{word}
use Rattle.job.proofs.Signed16.{signed_bytes}
use Rattle.job.proofs.reading.word_at.Goals as goal

pub returns : goal.returns
unfolding word
returns c =
    let f : SFits w16 c.from_le_bytes.result = search rules in
    simp to_z-of_z (signed_bytes _ _ _ (search rules) (search rules) c.from_le_bytes.ensures)
