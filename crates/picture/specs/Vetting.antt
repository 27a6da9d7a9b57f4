-- When a picture or a list is refused, and what is known of an accepted one.
use Rattle.std.specs.Prelude.{◌≡◌, ℕ, ◌*◌, not, [], ◌∷◌, ℤ, pos, Option, ◌==◌, unsigned_abs}
use Rattle.picture.specs.declared.faults.Row.TheVariants as rows
use Rattle.picture.specs.declared.faults.Layer.{Layer}
use Rattle.picture.specs.declared.faults.Layer.TheVariants as layers
use Rattle.picture.specs.declared.faults.Fault.{Fault}
use Rattle.picture.specs.declared.sizes.PictureSize.{PictureSize}
use Rattle.picture.specs.declared.sizes.ListSize.{ListSize}
use Rattle.picture.specs.Faults.{Rule, fault, first}
use Rattle.picture.specs.Sizes.{is_size, is_count}

-- a wrong width, then a wrong height
abbrev pub width_rule : Layer → ℤ → Rule
width_rule layer w = record { applies = not (is_size w); gives = fault rows.PictureSize layer w }

abbrev pub height_rule : Layer → ℤ → Rule
height_rule layer h = record { applies = not (is_size h); gives = fault rows.PictureSize layer h }

-- a list of no pictures, or of too many
abbrev pub count_rule : ℤ → Rule
count_rule n = record { applies = not (is_count n); gives = fault rows.PictureCount layers.ReferenceList n }

-- bytes that are not of the stated number
abbrev pub bytes_rule : Layer → ℕ → ℕ → Rule
bytes_rule layer stated found = record { applies = not (found == stated); gives = fault rows.ByteLength layer (pos found) }

-- the fault of one of the two
abbrev pub side_fault : Layer → ℤ → Option Fault
side_fault layer n = first (width_rule layer n ∷ [])

-- the fault of a number of bytes
abbrev pub bytes_fault : Layer → ℕ → ℕ → Option Fault
bytes_fault layer stated found = first (bytes_rule layer stated found ∷ [])

abbrev pub size_fault : Layer → ℤ → ℤ → Option Fault
size_fault layer w h = first (width_rule layer w ∷ height_rule layer h ∷ [])

abbrev pub count_fault : ℤ → Option Fault
count_fault n = first (count_rule n ∷ [])

abbrev pub picture_fault : ℤ → ℤ → ℕ → Option Fault
picture_fault w h found =
    first
    (width_rule layers.CurrentPicture w ∷ height_rule layers.CurrentPicture h ∷
    bytes_rule layers.CurrentPicture (unsigned_abs h * unsigned_abs w) found ∷ [])

abbrev pub list_fault : ℤ → ℤ → ℤ → ℕ → Option Fault
list_fault n w h found =
    first
    (width_rule layers.ReferenceList w ∷ height_rule layers.ReferenceList h ∷ count_rule n ∷
    bytes_rule layers.ReferenceList (unsigned_abs n * (unsigned_abs h * unsigned_abs w)) found ∷ [])

-- the numbers that were vetted
abbrev pub SizeIs : ℤ → ℤ → PictureSize → Type 0
SizeIs w h s = (pos s.width ≡ w) × (pos s.height ≡ h)

abbrev pub CountIs : ℤ → ℕ → Type 0
CountIs n k = pos k ≡ n

-- and that the bytes are of their number
abbrev pub PictureIs : ℤ → ℤ → ℕ → PictureSize → Type 0
PictureIs w h found s = SizeIs w h s × (found ≡ s.height * s.width)

abbrev pub ListIs : ℤ → ℤ → ℤ → ℕ → ListSize → Type 0
ListIs n w h found s = (pos s.pictures ≡ n) × SizeIs w h s.picture × (found ≡ s.pictures * (s.picture.height * s.picture.width))
