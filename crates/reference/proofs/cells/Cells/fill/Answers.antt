use Rattle.std.proofs.Common.{rules}
use Rattle.reference.proofs.cells.Cells.fill.Goals as goal

pub returns : goal.returns
returns c = λ k lt. let h = c.fill_rows.ensures k lt 0 in search rules
