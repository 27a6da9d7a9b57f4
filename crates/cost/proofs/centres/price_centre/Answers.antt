-- The centre has a price, and J is worked out from the picture's own samples.
use Rattle.cost.proofs.Wholes.{Stored, price_is, price_most}
use Rattle.cost.proofs.centres.price_centre.Goals as goal

pub returns-clause-value : goal.returns-clause-value
returns-clause-value c =
    let stored : Stored c.args.setup.now.block = (c.first-first.ensures.full, c.first-first.ensures.bytes) in
    price_is c.args.setup.now c.new-list.result c.args.pictures.now c.args.picture c.in_ok-candidate.candidate c.price.result stored
    c.in_ok-candidate.ensures c.new-list.ensures c.price.ensures.value

pub returns-clause-most : goal.returns-clause-most
returns-clause-most c =
    let stored : Stored c.args.setup.now.block = (c.first-first.ensures.full, c.first-first.ensures.bytes) in
    rw (returns-clause-value c) (price_most c.args.setup.now c.args.pictures.now c.args.picture stored)
