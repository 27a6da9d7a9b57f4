-- What is printed for a refusal.
use Rattle.std.specs.Prelude.{ℕ, List, ◌++◌, codes, decimal}
use Rattle.std.specs.Fmt.{signed_decimal}
use Rattle.picture.specs.declared.faults.Fault.{Fault}
use Rattle.picture.specs.Faults.{row_number, layer_number}

-- the word, and the numbers of row and layer and the value, in decimal
abbrev pub refusal_text : Fault → List ℕ
refusal_text f =
    codes "refused " ++ (decimal (row_number f.row) ++ (codes " " ++ (decimal (layer_number f.layer) ++ (codes " " ++ signed_decimal f.value))))
