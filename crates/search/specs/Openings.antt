-- What an accepted opening gives.
use Rattle.std.specs.Prelude.{List, ℤ, Option}
use Rattle.picture.specs.declared.sizes.ListSize.{ListSize}
use Rattle.picture.specs.declared.sizes.PictureSize.{PictureSize}
use Rattle.picture.specs.declared.faults.Fault.{Fault}
use Rattle.picture.specs.Planes.{Grid}
use Rattle.reference.specs.Lists.{ListMeaning}
use Rattle.block.specs.declared.places.BlockRequest.{BlockRequest}
use Rattle.settings.specs.declared.setups.Setup.{Setup}
use Rattle.settings.specs.Setups.{SetupIs, setup_fault}
use Rattle.cost.specs.declared.candidates.Candidate.{Candidate}
use Rattle.cost.specs.Strips.{Cost}
use Rattle.window.specs.Stages.{whole_of}
use Rattle.search.specs.declared.tallies.Tally.{Tally}
use Rattle.search.specs.Terms.{Terms, terms_of}
use Rattle.search.specs.Book.{Book, opened}
use Rattle.search.specs.Tallies.{Agrees}

-- the size of a list of this meaning
abbrev pub size_of : ListMeaning → ListSize
size_of m = record {
  picture = record { width = m.width; height = m.height; wide = m.wide; high = m.high };
  pictures = m.pictures;
  many = m.many;
}

-- the fault of an opening
abbrev pub opening_fault : PictureSize → ListMeaning → BlockRequest → ℤ → ℤ → List ℤ → List ℤ → Option Fault
opening_fault current m q qp range xs ys = setup_fault current (size_of m) q qp range xs ys

-- the first stage of a setup, over a list and by a measure of these meanings
abbrev pub whole_terms : Setup → ListMeaning → Cost → Terms
whole_terms s m cost = terms_of (whole_of s) s m cost

-- the centre of picture 0
abbrev pub first_centre : Setup → Candidate
first_centre s = record { picture = 0; vector = (whole_of s).centre 0 }

-- the book of a search as it opens
abbrev pub opening_book : Setup → ListMeaning → Cost → Book
opening_book s m cost = opened (whole_terms s m cost) (first_centre s)

-- a search has opened: its setup is what was asked for, and it agrees with the book
pub record Opens (current : Grid) (m : ListMeaning) (cost : Cost) (q : BlockRequest) (qp range : ℤ) (xs ys : List ℤ) (s : Setup) (y : Tally) : Type 0 where
  pub setup : SetupIs current (size_of m) q qp range xs ys s
  pub agrees : Agrees (whole_terms s m cost) y (opening_book s m cost)
