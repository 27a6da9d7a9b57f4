-- The strips of a block, and what they cost against the samples of a list.
use Rattle.std.specs.Prelude.{ℕ, ◌+◌, ◌*◌, ◌/◌, cond, List, map, take, drop, pos, ◌+ℤ◌, Some, None, Option}
use Rattle.std.specs.List.{range_with_len}
use Rattle.reference.specs.Lists.{ListMeaning, strip_of}
use Rattle.block.specs.declared.blocks.Block.{Block}
use Rattle.block.specs.Shapes.{shape_width, shape_height}
use Rattle.settings.specs.declared.setups.Setup.{Setup}
use Rattle.cost.specs.declared.candidates.Candidate.{Candidate}
use Rattle.cost.specs.declared.prices.Price.{Price}
use Rattle.cost.specs.Rating.{is_priced, rate_part_of}
use Rattle.cost.specs.Prices.{CostParts, cost_of}

-- what two strips of one width cost
abbrev pub Cost : Type 0
Cost = List ℕ → List ℕ → ℕ

-- strip s of a block: four of its rows, counted from the top
abbrev pub block_strip : Block → ℕ → List ℕ
block_strip b s = take (4 * shape_width b.shape) (drop (s * (4 * shape_width b.shape)) b.samples)

-- the list's strip that lies under it, once the block is moved by the candidate's vector in the candidate's picture
abbrev pub list_strip : ListMeaning → Block → Candidate → ℕ → List ℕ
list_strip m b c s =
    strip_of m c.picture (pos (4 * b.left) +ℤ c.vector.x) (pos (4 * (b.top + 4 * s)) +ℤ c.vector.y) (shape_width b.shape)

-- the cost of that strip, the block's strip first and the list's second
abbrev pub strip_cost : Cost → ListMeaning → Block → Candidate → ℕ → ℕ
strip_cost cost m b c s = cost (block_strip b s) (list_strip m b c s)

-- what a candidate is priced by, over a list and by a measure of these meanings
abbrev pub parts_of : Setup → ListMeaning → Cost → Candidate → CostParts
parts_of s m cost c =
    record { base = rate_part_of s c; strips = map (strip_cost cost m s.block c) (range_with_len 0 (shape_height s.block.shape / 4)) }

-- the price of a candidate that has one
abbrev pub price_of : Setup → ListMeaning → Cost → Candidate → Option Price
price_of s m cost c =
    cond (is_priced s c) (Some (record { vector = c.vector; rate_part = rate_part_of s c; cost = cost_of (parts_of s m cost c) })) None
