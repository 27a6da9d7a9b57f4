use Rattle.reference.proofs.TapSums.{tap_code}
use Rattle.reference.proofs.taps.tap_sum.Goals as goal

pub overflow_add-result-4 : goal.overflow_add-result-4
overflow_add-result-4 c = (tap_code _ _ _ _ _ _ c.requires.0 c.requires.1 c.requires.2 c.requires.3 c.requires.4 c.requires.5).0

pub returns : goal.returns
returns c = (tap_code _ _ _ _ _ _ c.requires.0 c.requires.1 c.requires.2 c.requires.3 c.requires.4 c.requires.5).1
