-- When a list gives what the table says.
use Rattle.std.specs.Prelude.{◌≡◌, ℕ, ◌/◌, true, List, length, ℤ, pos, ◌≤ℤ◌}
use Rattle.reference.specs.Lists.{ListMeaning, is_strip, strip_of}
use Rattle.conformance.specs.declared.records.Outcome.{Outcome}
use Rattle.conformance.specs.declared.records.Outcome.TheVariants.{Sample, Strip}

-- a strip of these samples, where a list may be asked for one
abbrev pub HasStrip : ListMeaning → ℕ → ℤ → ℤ → List ℕ → Type 0
HasStrip m picture x y ss =
    (is_strip (length ss) ≡ true) × (x ≤ℤ pos 32707) × (y ≤ℤ pos 32755) × (strip_of m picture x y (length ss / 4) ≡ ss)

-- a sample, or a strip
abbrev pub Gives : ListMeaning → Outcome → Type 0
Gives m (Sample p s) = m.at p.picture p.x p.y ≡ s
Gives m (Strip p ss) = HasStrip m p.picture p.x p.y ss.items
