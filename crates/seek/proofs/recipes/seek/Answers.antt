use Rattle.std.proofs.Common.{rules, ◌≡◌, Ok, Err}
use Rattle.seek.proofs.Openings.{full_refused, fast_refused, fast_of}
use Rattle.seek.proofs.recipes.seek.Goals as goal

pub returns-in_err-full : goal.returns-in_err-full
returns-in_err-full c =
    let f = c.in_err-full.field-0.0 in
    let e : c.from_residual-in_err-full.result ≡ Err f = search rules in
    full_refused c.args.bytes.now c.in_ok-job.job f c.from_residual-in_err-full.result e c.in_ok-job.ensures.1 (c.opening.result, c.opening.ensures, c.in_err-full.ensures)

pub returns-in_err-fast : goal.returns-in_err-fast
returns-in_err-fast c =
    let f = c.in_err-fast.field-0.0 in
    let j = c.in_ok-job.job in
    let e : c.from_residual-in_err-fast.result ≡ Err f = search rules in
    fast_refused c.args.bytes.now j f c.from_residual-in_err-fast.result c.in_ok-full.full e c.in_ok-job.ensures.1 (c.opening.result, c.opening.ensures, c.in_ok-full.ensures)
    (fast_of j c.opening-2.result c.proposals.result.xs.now c.proposals.result.ys.now (Err f) c.opening-2.ensures c.proposals.ensures.0 c.proposals.ensures.1 c.in_err-fast.ensures)

pub returns : goal.returns
returns c =
    let j = c.in_ok-job.job in (
      j,
      c.in_ok-job.ensures.1,
      (c.opening.result, c.opening.ensures, c.in_ok-full.ensures),
      fast_of j c.opening-2.result c.proposals.result.xs.now c.proposals.result.ys.now (Ok c.in_ok-fast.fast) c.opening-2.ensures c.proposals.ensures.0 c.proposals.ensures.1 c.in_ok-fast.ensures,
    )
