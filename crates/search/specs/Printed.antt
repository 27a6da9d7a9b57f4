-- What is printed of a report.
use Rattle.std.specs.Prelude.{ℕ, List, ◌++◌, codes, decimal}
use Rattle.std.specs.Fmt.{signed_decimal}
use Rattle.search.specs.declared.reports.Report.{Report}

-- picture, vector, cost, trials and strips, in decimal, a space between
abbrev pub report_text : Report → List ℕ
report_text r =
    decimal r.picture ++ (codes " " ++ (signed_decimal r.vector.x ++ (codes " " ++ (signed_decimal r.vector.y ++
    (codes " " ++ (decimal r.cost ++ (codes " " ++ (decimal r.trials ++ (codes " " ++ decimal r.strips)))))))))
