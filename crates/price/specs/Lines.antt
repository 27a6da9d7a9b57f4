-- What `price` prints of a candidate.
use Rattle.std.specs.Prelude.{ℕ, cond, [], ◌∷◌, Some, None, Option, nat_lt, slice_index_or}
use Rattle.reference.specs.Lists.{ListMeaning}
use Rattle.measure.specs.Sums.{sad, ssd}
use Rattle.measure.specs.Transforms.{satd}
use Rattle.settings.specs.declared.setups.Setup.{Setup}
use Rattle.settings.specs.Centres.{centre_in}
use Rattle.cost.specs.declared.candidates.Candidate.{Candidate}
use Rattle.cost.specs.declared.prices.Price.{Price}
use Rattle.cost.specs.Centres.{in_quarters}
use Rattle.cost.specs.Rating.{is_priced, predicted_in, rate_part_of}
use Rattle.cost.specs.Prices.{cost_of}
use Rattle.cost.specs.Strips.{parts_of}
use Rattle.opening.specs.declared.lines.Line.{Line}

-- the line of a candidate that has a price: its rate part, and the cost J under each measure
abbrev pub line_of : Setup → ListMeaning → Candidate → Option (Line 3)
line_of s m c =
    cond (is_priced s c)
    (Some (record {
      candidate = c;
      rate_part = rate_part_of s c;
      costs = cost_of (parts_of s m sad c) ∷ cost_of (parts_of s m ssd c) ∷ cost_of (parts_of s m satd c) ∷ [];
    })) None

-- that of the centre of the window of picture r, where the picture has a predicted vector
abbrev pub centre_line : Setup → ListMeaning → ℕ → Option (Line 3)
centre_line s m r =
    cond (nat_lt r s.predicted.pictures) (line_of s m (in_quarters r (centre_in (predicted_in s r)))) None

-- what a line tells of the price under SAD
abbrev pub sad_price : Line 3 → Price
sad_price l =
    record { vector = l.candidate.vector; rate_part = l.rate_part; cost = slice_index_or l.costs 0 0 }
