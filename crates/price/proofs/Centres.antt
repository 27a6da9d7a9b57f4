-- The line of a window's centre tells the price under SAD that the picture's own samples give.
use Rattle.std.proofs.Common.{◌≡◌, ℕ, Bool, true, false, Some, refl, ap, ◌∙◌, ltb}
use Rattle.std.specs.Option.{option_map}
use Rattle.picture.specs.Pictures.{whole_of}
use Rattle.reference.specs.declared.computed.ComputedList.{ComputedList}
use Rattle.reference.specs.Lists.{ListMeaning}
use Rattle.reference.specs.Computed.{computed}
use Rattle.measure.specs.Sums.{sad}
use Rattle.settings.specs.declared.setups.Setup.{Setup}
use Rattle.cost.specs.declared.candidates.Candidate.{Candidate}
use Rattle.settings.specs.Centres.{centre_in}
use Rattle.cost.specs.Rating.{is_priced, predicted_in}
use Rattle.cost.specs.Strips.{price_of}
use Rattle.cost.specs.Centres.{centre_candidate, centre_price, in_quarters}
use Rattle.cost.proofs.Wholes.{Stored, price_is}
use Rattle.price.specs.Lines.{centre_line, line_of, sad_price}

-- a line tells the price under SAD
told : (s : Setup) (m : ListMeaning) (c : Candidate) → option_map sad_price (line_of s m c) ≡ price_of s m sad c
told s m c = by (is_priced s c) refl
  where
    by : (b : Bool) → is_priced s c ≡ b → option_map sad_price (line_of s m c) ≡ price_of s m sad c
    by true e = rw e refl
    by false e = rw e refl

-- that of the centre, the price that the picture's own samples give
own_at : (s : Setup) (l : ComputedList) (r : ℕ) (b : Bool) → Stored s.block → ltb r s.predicted.pictures ≡ b →
    option_map sad_price (centre_line s (computed l) r) ≡ centre_price s (whole_of l.pictures r) r
own_at s l r true stored e =
    let c = in_quarters r (centre_in (predicted_in s r)) in
    let is : Some c ≡ centre_candidate s r = rw e refl in
    let its : centre_line s (computed l) r ≡ line_of s (computed l) c = rw e refl in
    ap (option_map sad_price) its ∙ told s (computed l) c ∙ price_is s l l.pictures r c (price_of s (computed l) sad c) stored is refl refl
own_at s l r false stored e = rw e refl

pub own_is : (s : Setup) (l : ComputedList) (r : ℕ) → Stored s.block →
    option_map sad_price (centre_line s (computed l) r) ≡ centre_price s (whole_of l.pictures r) r
own_is s l r stored = own_at s l r (ltb r s.predicted.pictures) stored refl
