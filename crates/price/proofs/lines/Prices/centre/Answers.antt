-- The SAD that a centre's line tells is that of the picture's own samples.
use Rattle.std.proofs.Common.{◌≡◌, ap, ◌∙◌, rules}
use Rattle.std.specs.Option.{option_map}
use Rattle.reference.specs.Computed.{computed}
use Rattle.price.specs.Lines.{centre_line, sad_price}
use Rattle.price.proofs.Centres.{own_is}
use Rattle.price.proofs.lines.Prices.centre.Goals as goal

pub returns-clause-own : goal.returns-clause-own
returns-clause-own c =
    let s = c.args.self.now.setup.now in
    let l = c.args.self.now.list.now in
    let centre : c.line.result ≡ centre_line s (computed l) c.args.picture = search rules in
    ap (option_map sad_price) centre ∙ own_is s l c.args.picture (c.first-first.ensures.full, c.first-first.ensures.bytes)
