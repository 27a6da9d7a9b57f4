use Rattle.std.proofs.Common.{length, rules}
use Rattle.job.proofs.Rests.{rest_is}
use Rattle.job.proofs.vetting.vet_pictures.Goals as goal

pub returns-in_err-vet_list : goal.returns-in_err-vet_list
returns-in_err-vet_list c =
    let r = rest_is (length c.args.bytes.now) c.pixels_from-from.result c.area.result c.args.header.now.list.pictures (search rules) in
    search rules
