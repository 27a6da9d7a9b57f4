-- The parts of a job, by its header and by its bytes.
use Rattle.std.proofs.Common.{◌≡◌, ℕ, ◌+◌, ◌-◌, ◌<◌, ◌≤◌, List, map, length, get_or, take, drop, ℤ, pos, nat_abs, ap, ◌∙◌, arith, length-take, length-drop}
use Rattle.std.proofs.lemmas.Slice.{between_to_end}
use Rattle.job.specs.declared.headers.Header.{Header}
use Rattle.job.specs.Format.{word, words, pictures_in, proposals_in, width_in, height_in, pictures_from, picture_bytes}
use Rattle.job.specs.Headers.{Counted}
use Rattle.job.specs.Layouts.{pixels_from, pixels}
use Rattle.std.specs.List.{range_with_len}
use Rattle.std.proofs.lemmas.List.FromFn.{fill_by_all}
use Rattle.std.proofs.lemmas.List.{get_or-take, get_or-drop}

-- the counts and sizes as whole numbers
pub record Counts (b : List ℕ) (h : Header) : Type 0 where
  pub pictures : h.list.pictures ≡ nat_abs (pictures_in b)
  pub proposals : h.proposals ≡ nat_abs (proposals_in b)
  pub from : pixels_from h ≡ pictures_from b
  pub area : pixels h ≡ picture_bytes b

pub counts : (b : List ℕ) (h : Header) → Counted b h → Counts b h
counts b h e =
    let w : h.list.picture.width ≡ nat_abs (width_in b) = ap nat_abs e.0 in
    let t : h.list.picture.height ≡ nat_abs (height_in b) = ap nat_abs e.1 in
    let n : h.list.pictures ≡ nat_abs (pictures_in b) = ap nat_abs e.2 in
    let m : h.proposals ≡ nat_abs (proposals_in b) = ap nat_abs e.3 in
    record { pictures = n; proposals = m; from = cc; area = cc }

-- a part of an array that holds a function's values
part_is : {X : Type 0} (d : X) (g : ℕ → X) (xs : List X) (i n t c : ℕ) → i + n ≤ length xs → t ≡ n → n ≡ c → ((k : ℕ) → k < n → get_or xs (i + k) d ≡ g k) →
    take t (drop i xs) ≡ map g (range_with_len 0 c)
part_is d g xs i n t c room te ce inv =
    rw (te, ← ce)
    (fill_by_all g (take n (drop i xs)) n d (simp (length-take, length-drop) (omega arith))
    (λ k lt. get_or-take n (drop i xs) k d lt ∙ get_or-drop i xs k d ∙ inv k lt))

-- a part of an array that holds a job's numbers from number f on
pub words_part : (b : List ℕ) (xs : List ℤ) (f all i n t s c : ℕ) → ((k : ℕ) → k < all → get_or xs k (pos 0) ≡ word b (f + k)) →
    all ≤ length xs → i + n ≤ all → t ≡ n → f + i ≡ s → n ≡ c → take t (drop i xs) ≡ words b s c
unfolding words
words_part b xs f all i n t s c read room inside te se ce =
    part_is (pos 0) (λ k. word b (s + k)) xs i n t c (omega arith) te ce
    (λ k lt. let a : f + (i + k) ≡ s + k = omega arith in read (i + k) (omega arith) ∙ ap (word b) a)

-- what is left from a place on
pub rest_part : (b : List ℕ) (i j : ℕ) → i ≡ j → take (length b - i) (drop i b) ≡ drop j b
rest_part b i j e = between_to_end b i (length b) (omega arith) ∙ ap (λ n. drop n b) e
