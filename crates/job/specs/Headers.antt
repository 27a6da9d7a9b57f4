-- The head of an accepted job.
use Rattle.std.specs.Prelude.{◌≡◌, ℕ, List, length, pos}
use Rattle.job.specs.declared.headers.Head.{Head}
use Rattle.job.specs.declared.headers.Header.{Header}
use Rattle.job.specs.Format.{width_in, height_in, pictures_in, proposals_in, left_in, top_in, block_width_in, block_height_in, qp_in, range_in, stated_length}

-- the header has the sizes and counts of the bytes, and these are as many as it states
abbrev pub Counted : List ℕ → Header → Type 0
Counted b h =
    (pos h.list.picture.width ≡ width_in b) × (pos h.list.picture.height ≡ height_in b) ×
    (pos h.list.pictures ≡ pictures_in b) × (pos h.proposals ≡ proposals_in b) × (length b ≡ stated_length b)

-- the header has the numbers that the bytes give for the block
abbrev pub Placed : List ℕ → Header → Type 0
Placed b h =
    (h.request.left ≡ left_in b) × (h.request.top ≡ top_in b) × (h.request.width ≡ block_width_in b) × (h.request.height ≡ block_height_in b)

-- and for the settings
abbrev pub Configured : List ℕ → Header → Type 0
Configured b h = (h.qp ≡ qp_in b) × (h.range ≡ range_in b)

-- the header is the one that the bytes tell
abbrev pub Told : List ℕ → Header → Type 0
Told b h = Counted b h × Placed b h × Configured b h

-- the header has the numbers of the head
abbrev pub HeadedBy : Head → Header → Type 0
HeadedBy d h =
    (pos h.list.picture.width ≡ d.width) × (pos h.list.picture.height ≡ d.height) ×
    (pos h.list.pictures ≡ d.pictures) × (pos h.proposals ≡ d.proposals) ×
    (h.request ≡ d.request) ×
    (h.qp ≡ d.qp) × (h.range ≡ d.range)
