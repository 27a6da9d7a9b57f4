-- The pictures of a list, back to back.
use Rattle.std.specs.Prelude.{ℕ, ◌*◌, cond, List, take, drop, nat_lt}
use Rattle.picture.specs.declared.sizes.PictureSize.{PictureSize}
use Rattle.picture.specs.declared.pictures.ReferencePictures.{ReferencePictures}
use Rattle.picture.specs.Planes.{Grid, grid}

-- the number of a picture's bytes
abbrev pub area : PictureSize → ℕ
area s = s.height * s.width

-- part r of bytes that are cut into parts of s
abbrev pub cut : ℕ → ℕ → List ℕ → List ℕ
cut s r bytes = take s (drop (r * s) bytes)

-- the bytes of picture r
abbrev pub picture_of : ReferencePictures → ℕ → List ℕ
picture_of l r = cut (area l.size.picture) r l.samples.now

-- the whole samples of picture r, clamped; 0 in a picture that there is not
abbrev pub whole_of : ReferencePictures → ℕ → Grid
whole_of l r x y = cond (nat_lt r l.size.pictures) (grid l.size.picture.width l.size.picture.height (picture_of l r) x y) 0
