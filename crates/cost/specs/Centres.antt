-- The price of the centre of a picture's window, by SAD over whole samples.
use Rattle.std.specs.Prelude.{ℕ, ◌+◌, ◌*◌, ◌/◌, cond, List, map, ℤ, pos, ◌+ℤ◌, Some, None, Option, nat_lt}
use Rattle.std.specs.List.{range_with_len}
use Rattle.picture.specs.Planes.{Grid, grid_sample}
use Rattle.rate.specs.declared.vectors.Vector.{Vector}
use Rattle.block.specs.declared.blocks.Block.{Block}
use Rattle.block.specs.Shapes.{shape_width, shape_height}
use Rattle.measure.specs.Strips.{asked}
use Rattle.measure.specs.Sums.{sad, total}
use Rattle.settings.specs.declared.setups.Setup.{Setup}
use Rattle.settings.specs.Centres.{centre_in}
use Rattle.cost.specs.declared.candidates.Candidate.{Candidate}
use Rattle.cost.specs.declared.prices.Price.{Price}
use Rattle.cost.specs.Candidates.{quarters_of}
use Rattle.cost.specs.Rating.{predicted_in, rate_part_of}
use Rattle.cost.specs.Strips.{block_strip}

-- the candidate of a whole-sample vector v in picture r
abbrev pub in_quarters : ℕ → Vector → Candidate
in_quarters r v = record { picture = r; vector = quarters_of v }

-- the centre of the window of picture r, in quarter samples, where that has a predicted vector
abbrev pub centre_candidate : Setup → ℕ → Option Candidate
centre_candidate s r = cond (nat_lt r s.predicted.pictures) (Some (in_quarters r (centre_in (predicted_in s r)))) None

-- four rows of w whole samples, from column x and row y on
unfoldable pub grid_strip : Grid → ℤ → ℤ → ℕ → List ℕ
grid_strip g x y w = map (grid_sample g x y w) (range_with_len 0 (4 * w))

-- the SAD of strip s of a block against the samples that lie under it once it is moved by the vector (x, y)
abbrev pub strip_sad : Block → Grid → ℤ → ℤ → ℕ → ℕ
strip_sad b g x y s =
    asked sad (block_strip b s) (grid_strip g (pos b.left +ℤ x) (pos (b.top + 4 * s) +ℤ y) (shape_width b.shape))

-- over all strips of the block
abbrev pub block_sad : Block → Grid → ℤ → ℤ → ℕ
block_sad b g x y = total (shape_height b.shape / 4) (strip_sad b g x y)

-- the price under SAD of a whole-sample vector v in picture r, whose whole samples are g
abbrev pub whole_price : Setup → Grid → ℕ → Vector → Price
whole_price s g r v =
    record {
      vector = quarters_of v;
      rate_part = rate_part_of s (in_quarters r v);
      cost = rate_part_of s (in_quarters r v) + block_sad s.block g v.x v.y;
    }

-- that of the centre of the picture's window, where the picture has a predicted vector
abbrev pub centre_price : Setup → Grid → ℕ → Option Price
centre_price s g r = cond (nat_lt r s.predicted.pictures) (Some (whole_price s g r (centre_in (predicted_in s r)))) None
