-- What is printed of a record that gives no numbers.
use Rattle.std.specs.Prelude.{ℕ, List, Some, Option, codes}
use Rattle.tally.specs.declared.reading.BadRecord.{BadRecord}
use Rattle.tally.specs.declared.reading.BadRecord.TheVariants.{NotANumber, OutOfMemory}

-- what the number's own error says, or that no memory was left
abbrev pub reason_text : {E : Type 0} → (E → Option (List ℕ)) → BadRecord E → Option (List ℕ)
reason_text text (NotANumber e) = text e
reason_text text OutOfMemory = Some (codes "memory allocation failed")
