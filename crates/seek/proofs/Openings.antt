-- A refusal of a recipe is one of the program.
use Rattle.std.proofs.Common.{◌≡◌, inl, inr, List, ℕ, ℤ, Ok, Err, Result, subst}
use Rattle.std.specs.Prelude.{MatchResult}
use Rattle.picture.specs.declared.faults.Fault.{Fault}
use Rattle.job.specs.declared.jobs.Job.{Job}
use Rattle.picture.specs.Planes.{grid_of}
use Rattle.reference.specs.declared.computed.ComputedList.{ComputedList}
use Rattle.reference.specs.Computed.{computed}
use Rattle.measure.specs.Sums.{sad}
use Rattle.measure.specs.Transforms.{satd}
use Rattle.measure.specs.declared.supplied.Sad.{Sad}
use Rattle.job.specs.Format.{proposed_x, proposed_y}
use Rattle.search.specs.declared.opening.Opening.{Opening}
use Rattle.search.specs.declared.reports.Report.{Report}
use Rattle.search.specs.Openings.{opening_fault}
use Rattle.search.specs.Recipes.{Begun, Follows, fast_asks}
use Rattle.seek.specs.Recipes.{IsOpening, Full, Fast, Refused}

pub full_refused : (b : List ℕ) (j : Job) (f : Fault) (r : Result (Report × Report) Fault) → r ≡ Err f → j.bytes.now ≡ b → Full j (Err f) →
    MatchResult r (λ p. (x : Job) × (x.bytes.now ≡ b) × Full x (Ok p.0) × Fast x (Ok p.1)) (λ g. Refused b g)
full_refused b j f r e same h = rw e (inr (j, same, inl h))

pub fast_refused : (b : List ℕ) (j : Job) (f : Fault) (r : Result (Report × Report) Fault) (full : Report) → r ≡ Err f → j.bytes.now ≡ b → Full j (Ok full) → Fast j (Err f) →
    MatchResult r (λ p. (x : Job) × (x.bytes.now ≡ b) × Full x (Ok p.0) × Fast x (Ok p.1)) (λ g. Refused b g)
fast_refused b j f r full e same g h = rw e (inr (j, same, inr ((full, g), h)))

pub fast_of : (j : Job) (o : Opening ComputedList Sad) (xs ys : List ℤ) (r : Result Report Fault) → IsOpening j o → xs ≡ proposed_x j.bytes.now → ys ≡ proposed_y j.bytes.now →
    Begun (opening_fault o.current.size (computed o.list) o.request o.qp o.range o.xs.now o.ys.now) r
    (Follows (grid_of o.current) (computed o.list) sad satd o.request o.qp o.range o.xs.now o.ys.now (fast_asks xs ys)) → Fast j r
fast_of j o xs ys r is a b h =
    let P = λ (us vs : List ℤ). Begun (opening_fault o.current.size (computed o.list) o.request o.qp o.range o.xs.now o.ys.now) r
    (Follows (grid_of o.current) (computed o.list) sad satd o.request o.qp o.range o.xs.now o.ys.now (fast_asks us vs)) in
    (o, is, subst (λ (us : List ℤ). P us (proposed_y j.bytes.now)) a (subst (λ (vs : List ℤ). P xs vs) b h))
