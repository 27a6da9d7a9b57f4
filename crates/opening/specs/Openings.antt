-- What an accepted job asks to be priced.
use Rattle.std.specs.Prelude.{◌≡◌, ℕ, ◌⊎◌, List, Some, Option}
use Rattle.picture.specs.declared.faults.Fault.{Fault}
use Rattle.picture.specs.Planes.{Grid, grid}
use Rattle.block.specs.declared.places.BlockRequest.{BlockRequest}
use Rattle.settings.specs.declared.setups.Setup.{Setup}
use Rattle.settings.specs.Setups.{setup_fault, SetupIs}
use Rattle.job.specs.declared.jobs.Job.{Job}
use Rattle.job.specs.Vetting.{job_fault}
use Rattle.job.specs.Format.{left_in, top_in, block_width_in, block_height_in, qp_in, range_in, predicted_x, predicted_y, current_in}

-- the block that the bytes ask for
abbrev pub request_in : List ℕ → BlockRequest
request_in b = record { left = left_in b; top = top_in b; width = block_width_in b; height = block_height_in b }

-- the whole samples of a job's current picture
abbrev pub current_of : Job → Grid
current_of j = grid j.header.list.picture.width j.header.list.picture.height (current_in j.bytes.now)

-- why the job's block or settings are refused
abbrev pub opening_fault : Job → Option Fault
opening_fault j =
    setup_fault j.header.list.picture j.header.list (request_in j.bytes.now) (qp_in j.bytes.now) (range_in j.bytes.now)
    (predicted_x j.bytes.now) (predicted_y j.bytes.now)

-- the setup is that of the job's bytes
abbrev pub OpenedBy : Job → Setup → Type 0
OpenedBy j =
    SetupIs (current_of j) j.header.list (request_in j.bytes.now) (qp_in j.bytes.now) (range_in j.bytes.now)
    (predicted_x j.bytes.now) (predicted_y j.bytes.now)

-- a fault of the bytes, or of the block or the settings of the job that they are
abbrev pub Refused : List ℕ → Fault → Type 0
Refused b f = (job_fault b ≡ Some f) ⊎ ((j : Job) × (j.bytes.now ≡ b) × (opening_fault j ≡ Some f))
