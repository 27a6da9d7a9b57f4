-- What a drawn list means.
use Rattle.std.specs.Prelude.{ℕ, ◌<◌, cond, ℤ, pos, negsuc, ◌+ℤ◌, ◌*ℤ◌, nat_lt, unsigned_abs}
use Rattle.std.proofs.lemmas.Bool.{le-ltb}
use Rattle.std.proofs.Common.{ap, arith}
use Rattle.std.specs.Int.{int_rem_euclid}
use Rattle.reference.specs.declared.drawn.DrawnList.{DrawnList}
use Rattle.reference.specs.Bytes.{byte_if}
use Rattle.reference.specs.Lists.{ListMeaning}

-- (aX + bY + c + r) mod 256, never negative
abbrev pub ruled : DrawnList → ℕ → ℤ → ℤ → ℕ
ruled l r X Y = unsigned_abs (int_rem_euclid (pos l.a *ℤ X +ℤ pos l.b *ℤ Y +ℤ pos l.c +ℤ pos r) (pos 256))

pub mod_byte : (z : ℤ) → unsigned_abs (int_rem_euclid z (pos 256)) < 256
mod_byte (pos n) = omega arith
mod_byte (negsuc n) = omega arith

-- what the list means
abbrev pub drawn : DrawnList → ListMeaning
drawn l = record {
  pictures = l.size.pictures;
  width = l.size.picture.width;
  height = l.size.picture.height;
  at = λ r X Y. cond (nat_lt r l.size.pictures) (ruled l r X Y) 0;
  many = l.size.many;
  wide = l.size.picture.wide;
  high = l.size.picture.high;
  byte = λ r X Y. byte_if (nat_lt r l.size.pictures) (ruled l r X Y) (mod_byte _);
  past = λ r X Y h. ap (λ b. cond b (ruled l r X Y) 0) (le-ltb r l.size.pictures h);
}
