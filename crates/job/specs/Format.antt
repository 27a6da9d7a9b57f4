-- The job format: signed 16-bit numbers, low byte first, then the bytes of the pictures.
use Rattle.std.specs.Prelude.{ℕ, ◌+◌, ◌*◌, cond, List, map, take, drop, ℤ, pos, ◌-ℤ◌, nat_lt, slice_index, unsigned_abs}
use Rattle.std.specs.List.{range_with_len}

-- a 16-bit number read as signed: the upper half stands for the negative ones
abbrev pub signed16 : ℕ → ℤ
signed16 n = cond (nat_lt n 32768) (pos n) (pos n -ℤ pos 65536)

-- number k of the job: bytes 2k and 2k + 1, low byte first
unfoldable pub word : List ℕ → ℕ → ℤ
word b k = signed16 (slice_index b (2 * k) + 256 * slice_index b (2 * k + 1))

-- count numbers from number i on
unfoldable pub words : List ℕ → ℕ → ℕ → List ℤ
words b i count = map (λ k. word b (i + k)) (range_with_len 0 count)

-- the head: the size of the pictures, how many the list has, how many proposals there are,
abbrev pub width_in : List ℕ → ℤ
width_in b = word b 0

abbrev pub height_in : List ℕ → ℤ
height_in b = word b 1

abbrev pub pictures_in : List ℕ → ℤ
pictures_in b = word b 2

abbrev pub proposals_in : List ℕ → ℤ
proposals_in b = word b 3

-- the block's place and shape, and the settings
abbrev pub left_in : List ℕ → ℤ
left_in b = word b 4

abbrev pub top_in : List ℕ → ℤ
top_in b = word b 5

abbrev pub block_width_in : List ℕ → ℤ
block_width_in b = word b 6

abbrev pub block_height_in : List ℕ → ℤ
block_height_in b = word b 7

abbrev pub qp_in : List ℕ → ℤ
qp_in b = word b 8

abbrev pub range_in : List ℕ → ℤ
range_in b = word b 9

-- the two arrays, of horizontals and then of verticals: the predicted vectors of the pictures, then the proposals
abbrev pub predicted_x : List ℕ → List ℤ
predicted_x b = words b 10 (unsigned_abs (pictures_in b))

abbrev pub proposed_x : List ℕ → List ℤ
proposed_x b = words b (10 + unsigned_abs (pictures_in b)) (unsigned_abs (proposals_in b))

abbrev pub predicted_y : List ℕ → List ℤ
predicted_y b = words b (10 + unsigned_abs (pictures_in b) + unsigned_abs (proposals_in b)) (unsigned_abs (pictures_in b))

abbrev pub proposed_y : List ℕ → List ℤ
proposed_y b = words b (10 + unsigned_abs (pictures_in b) + unsigned_abs (proposals_in b) + unsigned_abs (pictures_in b)) (unsigned_abs (proposals_in b))

-- where the pictures begin, and how many bytes one has
abbrev pub pictures_from : List ℕ → ℕ
pictures_from b = 20 + 4 * (unsigned_abs (pictures_in b) + unsigned_abs (proposals_in b))

abbrev pub picture_bytes : List ℕ → ℕ
picture_bytes b = unsigned_abs (height_in b) * unsigned_abs (width_in b)

-- the current picture, then those of the list
abbrev pub current_in : List ℕ → List ℕ
current_in b = take (picture_bytes b) (drop (pictures_from b) b)

abbrev pub reference_in : List ℕ → List ℕ
reference_in b = drop (pictures_from b + picture_bytes b) b

-- the number of bytes that the head states
abbrev pub stated_length : List ℕ → ℕ
stated_length b = pictures_from b + picture_bytes b * (unsigned_abs (pictures_in b) + 1)
