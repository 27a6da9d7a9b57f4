-- What a list of levels means.
use Rattle.std.specs.Prelude.{length, slice_index}
use Rattle.std.proofs.lemmas.List.{get_or_past}
use Rattle.reference.specs.Lists.{ListMeaning}
use Rattle.buyer.specs.declared.levels.Levels.{Levels}

-- every sample of picture r is level r (past the last, `slice_index` gives 0); then why the limits hold
abbrev pub level_meaning : Levels → ListMeaning
level_meaning l = record {
  pictures = length l.levels.now;
  width = l.size.width;
  height = l.size.height;
  at = λ r X Y. slice_index l.levels.now r;
  many = l.many;
  wide = l.size.wide;
  high = l.size.high;
  byte = λ r X Y. l.bytes r;
  past = λ r X Y h. get_or_past l.levels.now r 0 h;
}
