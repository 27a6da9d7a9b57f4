use Rattle.std.proofs.Common.{◌≡◌, map, refl, sym, ap, ◌∙◌, subst}
use Rattle.window.specs.declared.wholes.Whole.{Whole}
use Rattle.search.specs.declared.replaying.Outcome.{Outcome}
use Rattle.search.specs.Terms.{Terms}
use Rattle.search.specs.Openings.{whole_terms}
use Rattle.search.specs.Agreed.{Reports}
use Rattle.search.specs.Runs.{ask_of}
use Rattle.search.specs.Replays.{second_of}
use Rattle.search.proofs.Passes.{same_whole}
use Rattle.search.proofs.Replays.{finished_as, replayed_one, replayed_two}
use Rattle.search.proofs.replaying.replay.Goals as goal
use Rattle.search.proofs.replaying.replay.Goals.{in-None, in-Some}

pub returns : goal.returns
returns g c =
    let opened = c.in_ok-search.ensures in
    let s = c.in_ok-search.search in
    let z = c.run.new.self in
    let t : Terms = whole_terms s.stage.setup (g.L.ReferenceList.meaning s.list) (g.M.Measure.cost s.measure) in
    let u : Terms = whole_terms z.stage.setup (g.L.ReferenceList.meaning z.list) (g.M.Measure.cost z.measure) in
    let on = same_whole g.L.ReferenceList.meaning g.M.Measure.cost opened.1.1 opened.1.2 (refl {a = s.stage}) in
    let kept : u ≡ t = same_whole g.L.ReferenceList.meaning g.M.Measure.cost c.run.ensures.same.0 c.run.ensures.same.1 c.run.ensures.same.2 in
    let asks = map (ask_of g.P.Pattern.offsets) c.args.calls.now in
    let o : Outcome = record { answers = c.match-second-4.answers; report = c.match-second-4.report } in
    let none = c.in_ok-answers.ensures.items in (
      opened.0,
      elim c.match-second-4.branch [
        | in-None w ↦
            replayed_one c.full_rounds_cover.ensures _ _ _ _ _ _ _ _ asks s.stage.setup t s.tally z.tally c.in_ok-answers.answers.items c.run.new.answers.items o on none opened.1.0 c.run.ensures.ran
            (second_of g.N.Measure.cost g.P.Pattern.offsets c.args.second) (ap (second_of g.N.Measure.cost g.P.Pattern.offsets) w.in-None.is) (ap (λ v. v.items) w.answers-is)
            (subst (Reports t z.tally) (sym w.report-is) (subst (λ (v : Terms). Reports v z.tally w.close-report.result) kept w.close-report.ensures))
        | in-Some w ↦
            replayed_two c.full_rounds_cover.ensures _ _ _ _ _ _ _ _ asks s.stage.setup t s.tally z.tally c.in_ok-answers.answers.items c.run.new.answers.items o on none opened.1.0 c.run.ensures.ran
            (second_of g.N.Measure.cost g.P.Pattern.offsets c.args.second) (g.N.Measure.cost w.in-Some.second.measure) (map (ask_of g.P.Pattern.offsets) w.in-Some.second.calls.now)
            (ap (second_of g.N.Measure.cost g.P.Pattern.offsets) w.in-Some.is)
            (finished_as (g.N.Measure.cost w.in-Some.second.measure) z.tally (map (ask_of g.P.Pattern.offsets) w.in-Some.second.calls.now) c.run.new.answers.items
            (sym (ap (λ (k : Whole). k.setup) c.run.ensures.same.2)) (ap g.L.ReferenceList.meaning (sym (c.run.ensures.same.0 ∙ opened.1.1))) (ap g.M.Measure.cost (sym (c.run.ensures.same.1 ∙ opened.1.2)))
            (ap (λ v. v.items) w.answers-is) w.report-is w.finish-report.ensures)
      ],
    )
