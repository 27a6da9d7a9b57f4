-- Walks: sweep after sweep, until one leaves the held candidate as it was.
use Rattle.std.specs.Prelude.{◌≡◌, ℕ, zero, suc, ◌<◌, ◌≤◌, ◌≢◌, Bool, true, ◌&&◌, cond, List, ◌==◌}
use Rattle.std.specs.List.{ContainsAt as Has}
use Rattle.rate.specs.declared.vectors.Vector.{Vector}
use Rattle.cost.specs.declared.candidates.Candidate.{Candidate}
use Rattle.std.specs.Ordering.{int_eq}
use Rattle.search.specs.declared.tallies.Tally.{Tally}
use Rattle.search.specs.Terms.{Terms, price, is_inside}
use Rattle.search.specs.Book.{Book, held, least, enters}
use Rattle.search.specs.Tallies.{Agrees}
use Rattle.search.specs.Calls.{shifted}
use Rattle.search.specs.Agreed.{sweep_list}

-- a sweep
abbrev pub swept : List Vector → Book → Book
swept os b = enters b (sweep_list os b)

-- n sweeps, each from what the one before left held
unfoldable pub sweeps : ℕ → List Vector → Book → Book
sweeps zero os b = b
sweeps (suc n) os b = swept os (sweeps n os b)

-- n sweeps are a walk: the last is the first that leaves the held candidate as it was
pub record IsWalk (os : List Vector) (b : Book) (n : ℕ) : Type 0 where
  pub before : ℕ
  pub last : n ≡ suc before
  pub moved : (k : ℕ) → k < before → held (sweeps (suc k) os b) ≢ held (sweeps k os b)
  pub rests : held (sweeps n os b) ≡ held (sweeps before os b)

-- whether two candidates are one
abbrev pub is_same : Candidate → Candidate → Bool
is_same c d = c.picture == d.picture && (int_eq c.vector.x d.vector.x && int_eq c.vector.y d.vector.y)

-- the first of at most m sweeps after which another leaves the held candidate as it was
unfoldable pub moving : List Vector → Book → ℕ → ℕ
moving os b zero = 0
moving os b (suc m) = cond (is_same (held (sweeps (suc (moving os b m)) os b)) (held (sweeps (moving os b m) os b))) (moving os b m) (suc m)

-- the number of sweeps of a walk; each but the last lowers the cost held, so no more than that cost go before the last
abbrev pub walk_sweeps : List Vector → Book → ℕ
walk_sweeps os b = suc (moving os b (least b))

-- a candidate of cost m has settled: none that lies by an offset from it, inside the window, costs less
abbrev pub Settled : Terms → List Vector → Candidate → ℕ → Type 0
Settled t os h m = (o : Vector) → Has os o → is_inside t.window (shifted h o) ≡ true → m ≤ price t (shifted h o)

-- a walk of n sweeps was made
pub record Walks (t : Terms) (y z : Tally) (os : List Vector) (n : ℕ) : Type 0 where
  pub agrees : (b : Book) → Agrees t y b → Agrees t z (sweeps n os b)
  pub is_walk : (b : Book) → Agrees t y b → IsWalk os b n
  pub answers : (b : Book) → Agrees t y b → n ≡ walk_sweeps os b
  pub settled : Settled t os z.held z.cost
