-- When a job is refused.
use Rattle.std.specs.Prelude.{◌≡◌, ℕ, ◌≤◌, Bool, false, not, List, [], ◌∷◌, length, ℤ, pos, negsuc, Option, ◌==◌, nat_le, nat_lt}
use Rattle.picture.specs.declared.Row.TheVariants as rows
use Rattle.picture.specs.declared.Layer.TheVariants as layers
use Rattle.picture.specs.declared.Fault.{Fault}
use Rattle.picture.specs.Faults.{fault, first, earlier}
use Rattle.picture.specs.Vetting.{size_fault, count_fault}
use Rattle.job.specs.Format.{width_in, height_in, pictures_in, proposals_in, stated_length}

-- longer than any job, or too short for a head
abbrev pub extent_fault : ℕ → Option Fault
extent_fault found =
    first
    (record { applies = nat_lt 65536 found; gives = fault rows.ByteLength layers.JobFile (pos 65537) } ∷
    record { applies = nat_lt found 20; gives = fault rows.ByteLength layers.JobFile (pos found) } ∷ [])

abbrev pub InExtent : ℕ → Type 0
InExtent found = (20 ≤ found) × (found ≤ 65536)

-- the number of proposals: 0 to 64
abbrev pub is_proposals : ℤ → Bool
is_proposals (pos m) = nat_le m 64
is_proposals (negsuc m) = false

abbrev pub proposals_fault : ℤ → Option Fault
proposals_fault m = first (record { applies = not (is_proposals m); gives = fault rows.ArrayLength layers.JobFile m } ∷ [])

abbrev pub ProposalsAre : ℤ → ℕ → Type 0
ProposalsAre m k = (pos k ≡ m) × (k ≤ 64)

-- bytes that are not of the stated number
abbrev pub length_fault : ℕ → ℕ → Option Fault
length_fault stated found = first (record { applies = not (found == stated); gives = fault rows.ByteLength layers.JobFile (pos found) } ∷ [])

-- the numbers of the head: the size of the pictures, how many they are, how many proposals
abbrev pub head_fault : ℤ → ℤ → ℤ → ℤ → Option Fault
head_fault w h n m = earlier (size_fault layers.CurrentPicture w h) (earlier (count_fault n) (proposals_fault m))

-- a job's extent, its head, then the length that the head states
abbrev pub job_fault : List ℕ → Option Fault
job_fault b =
    earlier (extent_fault (length b))
    (earlier (head_fault (width_in b) (height_in b) (pictures_in b) (proposals_in b)) (length_fault (stated_length b) (length b)))
