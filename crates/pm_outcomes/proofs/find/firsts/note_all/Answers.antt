use Rattle.std.proofs.Common.{◌++◌, map, take, sym, subst, arith}
use Rattle.std.proofs.lemmas.List.{append-nil, take_all}
use Rattle.pm_outcomes.specs.list.Firsts.{AreFirsts}
use Rattle.pm_outcomes.proofs.find.Seeing.{noted_more, placed, up_to_more}
use Rattle.pm_outcomes.proofs.find.firsts.note_all.Goals as goal

pub loop-observation-init : goal.loop-observation-init
loop-observation-init c = λ seen up_to firsts. subst (λ l. AreFirsts l c.args.firsts.now.entries.entries) (sym (append-nil seen)) firsts

pub loop-observation-preserved : goal.loop-observation-preserved
loop-observation-preserved c = λ seen up_to firsts.
    noted_more seen c.args.observations.now c.args.place c.loop-observation.observation-index _ c.note.new.firsts.entries.entries c.loop-observation-test.true
    (c.in_ok-note.ensures (seen ++ map (placed c.args.place) (take c.loop-observation.observation-index c.args.observations.now)) (up_to_more seen (take c.loop-observation.observation-index c.args.observations.now) c.args.place up_to) (c.loop-observation.invariant seen up_to firsts))

pub returns : goal.returns
returns c = λ seen up_to firsts.
    let all = take_all c.loop-observation.observation-index c.args.observations.now (omega arith) in
    subst (λ l. AreFirsts (seen ++ map (placed c.args.place) l) c.loop-observation.firsts.entries.entries) all (c.loop-observation.invariant seen up_to firsts)
