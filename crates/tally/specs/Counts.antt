-- What a tally is after one more comparison, and how it is printed.
use Rattle.std.specs.Prelude.{ℕ, ◌+◌, ◌-◌, ◌^◌, Bool, true, false, min, List, ◌++◌, codes, decimal}
use Rattle.tally.specs.declared.counts.Tally.{Tally}

-- one more, as far as 64 bits go
abbrev pub one_more : ℕ → ℕ
one_more n = min (n + 1) (2 ^ 64 - 1)

-- a tally and one comparison
abbrev pub counted : Tally → Bool → Tally
counted t true = record { agreed = one_more t.agreed; differed = t.differed }
counted t false = record { agreed = t.agreed; differed = one_more t.differed }

-- the text of a tally
abbrev pub tally_text : Tally → List ℕ
tally_text t = decimal t.agreed ++ (codes " agree, " ++ (decimal t.differed ++ codes " differ"))
