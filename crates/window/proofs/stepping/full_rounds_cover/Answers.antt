use Rattle.window.proofs.Covering.{round_covers}
use Rattle.window.proofs.stepping.full_rounds_cover.Goals as goal

pub returns : goal.returns
returns c = round_covers
