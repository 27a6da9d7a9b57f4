-- What both recipes answer over a job.
use Rattle.std.specs.Prelude.{◌≡◌, ◌⊎◌, List, ℕ, Some, Ok, Err, Result}
use Rattle.picture.specs.declared.faults.Fault.{Fault}
use Rattle.picture.specs.Planes.{grid_of}
use Rattle.reference.specs.declared.computed.ComputedList.{ComputedList}
use Rattle.reference.specs.Computed.{computed}
use Rattle.measure.specs.Sums.{sad}
use Rattle.measure.specs.Transforms.{satd}
use Rattle.measure.specs.declared.supplied.Sad.{Sad}
use Rattle.job.specs.declared.jobs.Job.{Job}
use Rattle.job.specs.Vetting.{job_fault}
use Rattle.job.specs.Format.{current_in, predicted_x, predicted_y, proposed_x, proposed_y, reference_in}
use Rattle.search.specs.declared.opening.Opening.{Opening}
use Rattle.search.specs.declared.reports.Report.{Report}
use Rattle.search.specs.Openings.{opening_fault}
use Rattle.search.specs.Recipes.{Begun, Exhausts, Follows, fast_asks}

-- an opening is that of a job
pub record IsOpening (j : Job) (o : Opening ComputedList Sad) : Type 0 where
  pub size : o.current.size ≡ j.header.list.picture
  pub current : o.current.samples.now ≡ current_in j.bytes.now
  pub pictures : o.list.pictures.size ≡ j.header.list
  pub reference : o.list.pictures.samples.now ≡ reference_in j.bytes.now
  pub request : o.request ≡ j.header.request
  pub qp : o.qp ≡ j.header.qp
  pub range : o.range ≡ j.header.range
  pub xs : o.xs.now ≡ predicted_x j.bytes.now
  pub ys : o.ys.now ≡ predicted_y j.bytes.now

-- what the exhaustive recipe answers, by SAD and then by SATD
abbrev pub Full : Job → Result Report Fault → Type 0
Full j r =
    (o : Opening ComputedList Sad) × IsOpening j o ×
    Begun (opening_fault o.current.size (computed o.list) o.request o.qp o.range o.xs.now o.ys.now) r
    (Exhausts (grid_of o.current) (computed o.list) sad satd o.request o.qp o.range o.xs.now o.ys.now)

-- and the fast one, with the job's proposals
abbrev pub Fast : Job → Result Report Fault → Type 0
Fast j r =
    (o : Opening ComputedList Sad) × IsOpening j o ×
    Begun (opening_fault o.current.size (computed o.list) o.request o.qp o.range o.xs.now o.ys.now) r
    (Follows (grid_of o.current) (computed o.list) sad satd o.request o.qp o.range o.xs.now o.ys.now (fast_asks (proposed_x j.bytes.now) (proposed_y j.bytes.now)))

-- a fault of the bytes, or a recipe's refusal over the job that they are: the fast one's only where the exhaustive one reports
abbrev pub Refused : List ℕ → Fault → Type 0
Refused b f = (job_fault b ≡ Some f) ⊎ ((j : Job) × (j.bytes.now ≡ b) × (Full j (Err f) ⊎ (((r : Report) × Full j (Ok r)) × Fast j (Err f))))
