-- The calls of a search: which row refuses each, and which candidates each tries.
use Rattle.std.specs.Prelude.{ℕ, max, Bool, false, not, ◌&&◌, List, [], ◌∷◌, map, ℤ, pos, negsuc, Option, ◌==◌, filter, nat_le, slice_index_or, unsigned_abs}
use Rattle.picture.specs.declared.faults.Row.TheVariants as rows
use Rattle.picture.specs.declared.faults.Layer.TheVariants as layers
use Rattle.picture.specs.declared.faults.Fault.{Fault}
use Rattle.picture.specs.Faults.{Rule, fault, first}
use Rattle.rate.specs.declared.vectors.Vector.{Vector}
use Rattle.cost.specs.declared.candidates.Candidate.{Candidate}
use Rattle.pattern.specs.Offsets.{moved}
use Rattle.window.specs.Windows.{Window, inside_across, inside_down}
use Rattle.window.specs.Rounds.{round_of}
use Rattle.search.specs.Terms.{is_inside}

-- a vector in picture r
abbrev pub at_picture : ℕ → Vector → Candidate
at_picture r v = record { picture = r; vector = v }

-- a vector in the picture that a number names
abbrev pub in_picture : ℤ → Vector → Candidate
in_picture r v = at_picture (unsigned_abs r) v

-- whether a number is that of a picture that may be named
abbrev pub is_named : Window → ℤ → Bool
is_named w (pos r) = w.named r
is_named w (negsuc r) = false

-- turns away a picture that may not be named
abbrev pub picture_rule : Window → ℤ → Rule
picture_rule w r = record { applies = not (is_named w r); gives = fault rows.PictureNumber layers.Search r }

-- turns away a vector outside the window, by its horizontal component if that is outside, else by its vertical
abbrev pub across_rule : Window → Candidate → Rule
across_rule w c = record { applies = not (inside_across w c.picture c.vector); gives = fault rows.OutsideWindow layers.Search c.vector.x }

abbrev pub down_rule : Window → Candidate → Rule
down_rule w c = record { applies = not (inside_down w c.picture c.vector); gives = fault rows.OutsideWindow layers.Search c.vector.y }

-- turns away every call once 1,000,000 trials were made
abbrev pub limit_rule : ℕ → Rule
limit_rule trials = record { applies = nat_le 1000000 trials; gives = fault rows.TrialLimit layers.Search (pos trials) }

-- turns away two arrays of an offer unless they are equally long, and no longer than 64
abbrev pub pairs_rule : ℕ → ℕ → Rule
pairs_rule m n = record { applies = not (m == n && nat_le m 64); gives = fault rows.ArrayLength layers.Search (pos (max m n)) }

-- the fault of each call, in windows w, where so many trials were made before it
abbrev pub try_fault : Window → ℕ → ℤ → Vector → Option Fault
try_fault w trials r v = first (picture_rule w r ∷ across_rule w (in_picture r v) ∷ down_rule w (in_picture r v) ∷ limit_rule trials ∷ [])

abbrev pub offer_fault : Window → ℕ → ℤ → ℕ → ℕ → Option Fault
offer_fault w trials r m n = first (pairs_rule m n ∷ picture_rule w r ∷ limit_rule trials ∷ [])

abbrev pub round_fault : Window → ℕ → ℤ → Option Fault
round_fault w trials r = first (picture_rule w r ∷ limit_rule trials ∷ [])

-- of a sweep, or a walk
abbrev pub limit_fault : ℕ → Option Fault
limit_fault trials = first (limit_rule trials ∷ [])

-- the vector at a place of two parallel arrays, in picture r
abbrev pub pair_in : ℕ → List ℤ → List ℤ → ℕ → Candidate
pair_in r xs ys i = record { picture = r; vector = record { x = slice_index_or xs i (pos 0); y = slice_index_or ys i (pos 0) } }

-- all of them, in order
abbrev pub pairs : ℕ → List ℤ → List ℤ → List Candidate
pairs r [] ys = []
pairs r (x ∷ xs) [] = []
pairs r (x ∷ xs) (y ∷ ys) = record { picture = r; vector = record { x = x; y = y } } ∷ pairs r xs ys

-- what an offer tries: the pairs that lie in the window
abbrev pub offered : Window → ℕ → List ℤ → List ℤ → List Candidate
offered w r xs ys = filter (is_inside w) (pairs r xs ys)

-- the candidate that lies by an offset from another
abbrev pub shifted : Candidate → Vector → Candidate
shifted c o = record { picture = c.picture; vector = moved c.vector o }

-- what a sweep tries from a candidate: those by each offset that lie in the window
abbrev pub around : Window → Candidate → List Vector → List Candidate
around w c os = filter (is_inside w) (map (shifted c) os)

-- what a full round tries: the window of picture r
abbrev pub rounded : Window → ℕ → List Candidate
rounded w r = map (at_picture r) (round_of w r)
