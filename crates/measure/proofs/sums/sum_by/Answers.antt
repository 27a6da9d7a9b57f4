-- One sample more, one chunk more, and all of them.
use Rattle.std.proofs.Common.{◌≡◌, ◌*◌, ◌/◌, ◌<◌, ◌∙◌, length, length-append, ap, refl, [], ◌∷◌, arith}
use Rattle.std.proofs.lemmas.Slice.Zip.{zip_turn, zip_end}
use Rattle.std.specs.Simd.{first_chunks}
use Rattle.measure.specs.Sums.{cost_at, total}
use Rattle.measure.specs.Totals.{strip_lengths}
use Rattle.measure.proofs.Chunks.{chunk_added, chunk_count, chunk_long, sample_added}
use Rattle.measure.proofs.sums.sum_by.Goals as goal

pub loop-p-preserved : goal.loop-p-preserved
loop-p-preserved g c =
    let these : c.into_iter-p-iterator.result.a.rest.now ≡ first_chunks 16 (length c.args.strips.a.now / 16) c.args.strips.a.now = cc in
    let those : c.into_iter-p-iterator.result.b.rest.now ≡ first_chunks 16 (length c.args.strips.b.now / 16) c.args.strips.b.now = cc in
    let turn = zip_turn _ _ c.loop-p.yielded c.into_iter-p-iterator.result c.loop-p.p-iterator c.next.new.self _ these those c.loop-p.yielded_by (c.in-Some.p, c.in-Some.q) c.in-Some.is c.next.ensures.steps in
    let p : c.into_iter-x-iterator.result.a.rest.now ≡ c.in-Some.p.now = cc in
    let q : c.into_iter-x-iterator.result.b.rest.now ≡ c.in-Some.q.now = cc in
    let full = zip_end _ _ c.loop-x.yielded c.into_iter-x-iterator.result c.loop-x.x-iterator c.next-in-loop-x.new.self _ p q c.loop-x.yielded_by c.in-None-2.is c.next-in-loop-x.ensures.steps in
    let i : length c.loop-p.yielded < length c.args.strips.a.now / 16 = omega (arith, turn.0, chunk_count 16 (length c.args.strips.a.now / 16) c.args.strips.a.now) in
    let j : length c.loop-p.yielded < length c.args.strips.b.now / 16 = omega (arith, turn.1, chunk_count 16 (length c.args.strips.b.now / 16) c.args.strips.b.now) in
    let u : length c.in-Some.p.now ≡ 16 = ap length (turn.2 []) ∙ chunk_long 16 _ _ _ i (omega arith) in
    let v : length c.in-Some.q.now ≡ 16 = ap length (turn.3 []) ∙ chunk_long 16 _ _ _ j (omega arith) in
    let all : length c.loop-x.yielded ≡ 16 = omega (arith, full) in
    let more = length-append c.loop-p.yielded ((c.in-Some.p, c.in-Some.q) ∷ []) in
    record {
      small = omega (arith, more);
      so_far = λ f h. chunk_added f 16 _ _ _ _ _ _ _ _ _ _ _ i j (p ∙ turn.2 []) (q ∙ turn.3 []) all more (c.loop-p.invariant.so_far f h) (c.loop-x.invariant.so_far f h);
    }

pub overflow_add-sum : goal.overflow_add-sum
overflow_add-sum g c =
    let these : c.into_iter-p-iterator.result.a.rest.now ≡ first_chunks 16 (length c.args.strips.a.now / 16) c.args.strips.a.now = cc in
    let those : c.into_iter-p-iterator.result.b.rest.now ≡ first_chunks 16 (length c.args.strips.b.now / 16) c.args.strips.b.now = cc in
    let turn = zip_turn _ _ c.loop-p.yielded c.into_iter-p-iterator.result c.loop-p.p-iterator c.next.new.self _ these those c.loop-p.yielded_by (c.in-Some.p, c.in-Some.q) c.in-Some.is c.next.ensures.steps in
    let p : c.into_iter-x-iterator.result.a.rest.now ≡ c.in-Some.p.now = cc in
    let within = zip_turn _ _ c.loop-x.yielded c.into_iter-x-iterator.result c.loop-x.x-iterator c.next-in-loop-x.new.self _ p refl c.loop-x.yielded_by (c.in-Some-2.x, c.in-Some-2.y) c.in-Some-2.is c.next-in-loop-x.ensures.steps in
    let s = strip_lengths c.args.strips.a.now c.args.strips.b.now c.args.strips.strips in
    let i : length c.loop-p.yielded < length c.args.strips.a.now / 16 = omega (arith, turn.0, chunk_count 16 (length c.args.strips.a.now / 16) c.args.strips.a.now) in
    let u : length c.in-Some.p.now ≡ 16 = ap length (turn.2 []) ∙ chunk_long 16 _ _ _ i (omega arith) in
    let low = c.requires.most _ _ _ c.cost-sum.ensures in
    omega (arith, within.0, low)

pub loop-x-preserved : goal.loop-x-preserved
loop-x-preserved g c =
    let turn = zip_turn _ _ c.loop-x.yielded c.into_iter-x-iterator.result c.loop-x.x-iterator c.next-in-loop-x.new.self _ refl refl c.loop-x.yielded_by (c.in-Some-2.x, c.in-Some-2.y) c.in-Some-2.is c.next-in-loop-x.ensures.steps in
    let more = length-append c.loop-x.yielded ((c.in-Some-2.x, c.in-Some-2.y) ∷ []) in
    let low = c.requires.most _ _ _ c.cost-sum.ensures in
    record {
      small = omega (arith, more, low);
      so_far = λ f h. sample_added f _ _ _ _ _ _ _ _ _ more (turn.2 0) (turn.3 0) (h _ _ _ c.cost-sum.ensures) (c.loop-x.invariant.so_far f h);
    }

pub returns : goal.returns
returns g c =
    let these : c.into_iter-p-iterator.result.a.rest.now ≡ first_chunks 16 (length c.args.strips.a.now / 16) c.args.strips.a.now = cc in
    let those : c.into_iter-p-iterator.result.b.rest.now ≡ first_chunks 16 (length c.args.strips.b.now / 16) c.args.strips.b.now = cc in
    let end = zip_end _ _ c.loop-p.yielded c.into_iter-p-iterator.result c.loop-p.p-iterator c.next.new.self _ these those c.loop-p.yielded_by c.in-None.is c.next.ensures.steps in
    let s = strip_lengths c.args.strips.a.now c.args.strips.b.now c.args.strips.strips in
    let all : 16 * length c.loop-p.yielded ≡ length c.args.strips.a.now =
    omega (arith, end, chunk_count 16 (length c.args.strips.a.now / 16) c.args.strips.a.now, chunk_count 16 (length c.args.strips.b.now / 16) c.args.strips.b.now) in
    λ f h. c.loop-p.invariant.so_far f h ∙ ap (λ n. total n (cost_at f c.args.strips.a.now c.args.strips.b.now)) all
