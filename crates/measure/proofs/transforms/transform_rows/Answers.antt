-- Row by row.
use Rattle.std.proofs.Common.{◌≡◌, length, [], slice_index_or, arith, rules}
use Rattle.measure.specs.Fours.{turned, Within}
use Rattle.measure.proofs.Arrays.{mapped, serves_each, four_places}
use Rattle.measure.proofs.transforms.transform_rows.Goals as goal

pub map-requires : goal.map-requires
map-requires c =
    let long : length c.args.x ≡ 4 = search rules in
    (omega arith, (omega arith, (omega arith, serves_each (Within 1020) [] c.args.x _ (λ i l. four_places (λ j. Within 1020 (slice_index_or c.args.x j [])) c.requires.0 c.requires.1.0 c.requires.1.1.0 c.requires.1.1.1 i (omega arith)) (λ q x w. w))))

pub returns : goal.returns
returns c = mapped _ (λ p. Unit {0}) turned [] (λ p x y q i h. (h.met, tt)) _ _ _ tt c.map.ensures.items
