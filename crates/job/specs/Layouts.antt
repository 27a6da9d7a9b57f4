-- Where the parts of a job lie, by its header.
use Rattle.std.specs.Prelude.{ℕ, ◌+◌, ◌*◌}
use Rattle.job.specs.declared.headers.Header.{Header}

-- where the pictures begin
abbrev pub pixels_from : Header → ℕ
pixels_from h = 20 + 4 * (h.list.pictures + h.proposals)

-- the number of a picture's bytes
abbrev pub pixels : Header → ℕ
pixels h = h.list.picture.height * h.list.picture.width

-- the number of bytes of the job
abbrev pub stated : Header → ℕ
stated h = pixels_from h + pixels h * (h.list.pictures + 1)
