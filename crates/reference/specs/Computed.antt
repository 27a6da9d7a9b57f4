-- What a computing list means.
use Rattle.std.specs.Prelude.{ℕ, cond, ℤ, nat_lt}
use Rattle.std.proofs.lemmas.Bool.{le-ltb}
use Rattle.std.proofs.Common.{ap}
use Rattle.picture.specs.Planes.{Grid, grid}
use Rattle.picture.specs.Pictures.{picture_of, area}
use Rattle.reference.specs.declared.computed.ComputedList.{ComputedList}
use Rattle.reference.specs.Interpolation.{quarter}
use Rattle.reference.specs.Bytes.{byte_if, bytes_take, bytes_drop, grid_byte, quarter_byte}
use Rattle.reference.specs.Lists.{ListMeaning}

-- the whole samples of picture r
abbrev pub grid_at : ComputedList → ℕ → Grid
grid_at l r = grid l.pictures.size.picture.width l.pictures.size.picture.height (picture_of l.pictures r)

-- each sample worked out from the picture's bytes; 0 in a picture that there is not
abbrev pub sample_of : ComputedList → ℕ → ℤ → ℤ → ℕ
sample_of l r X Y = cond (nat_lt r l.pictures.size.pictures) (quarter (grid_at l r) X Y) 0

-- what the list means
abbrev pub computed : ComputedList → ListMeaning
computed l = record {
  pictures = l.pictures.size.pictures;
  width = l.pictures.size.picture.width;
  height = l.pictures.size.picture.height;
  at = sample_of l;
  many = l.pictures.size.many;
  wide = l.pictures.size.picture.wide;
  high = l.pictures.size.picture.high;
  byte = λ r X Y. byte_if (nat_lt r l.pictures.size.pictures) (quarter (grid_at l r) X Y) (quarter_byte (grid_at l r) (grid_byte l.pictures.size.picture.width l.pictures.size.picture.height (picture_of l.pictures r) (bytes_take (area l.pictures.size.picture) _ (bytes_drop _ l.pictures.samples.now l.pictures.bytes))) X Y);
  past = λ r X Y h. ap (λ b. cond b (quarter (grid_at l r) X Y) 0) (le-ltb r l.pictures.size.pictures h);
}
