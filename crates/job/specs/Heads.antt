-- The head of a job.
use Rattle.std.specs.Prelude.{◌≡◌, ℕ, List}
use Rattle.job.specs.declared.headers.Head.{Head}
use Rattle.job.specs.Format.{width_in, height_in, pictures_in, proposals_in, left_in, top_in, block_width_in, block_height_in, qp_in, range_in}

-- the ten numbers are those of the bytes
pub record IsHead (b : List ℕ) (h : Head) : Type 0 where
  pub width : h.width ≡ width_in b
  pub height : h.height ≡ height_in b
  pub pictures : h.pictures ≡ pictures_in b
  pub proposals : h.proposals ≡ proposals_in b
  pub left : h.request.left ≡ left_in b
  pub top : h.request.top ≡ top_in b
  pub block_width : h.request.width ≡ block_width_in b
  pub block_height : h.request.height ≡ block_height_in b
  pub qp : h.qp ≡ qp_in b
  pub range : h.range ≡ range_in b
