use Rattle.std.proofs.Common.{◌≡◌, ◌∙◌, true, drop, ap, arith, refl, subst, sym}
use Rattle.std.proofs.lemmas.Option.{slice_get_within}
use Rattle.pm_cmd_ends.proofs.OutputLemmas.{behind_err}
use Rattle.pm_io.proofs.Rose.{rose_later}
use Rattle.pm_cmd_ends.proofs.Writing.{IsUnderWay, under_way_first, under_way_last, under_way_more, under_way_part}
use Rattle.pm_cmd_ends.specs.Pieces.{AreInTime, line_pieces}
use Rattle.pm_model.specs.declared.event.Line.{Line}
use Rattle.pm_model.specs.declared.plan.Plan.{Plan}
use Rattle.pm_model.specs.LineOf.{is_line_of}
use Rattle.pm_model.specs.Serial.{serial}
use Rattle.pm_serial.specs.Coming.{Coming}
use Rattle.pm_cmd_top.proofs.SerialLemmas.{all_came, by_actor, in_time_here, no_pieces, pieces_here, there}
use Rattle.pm_cmd_top.proofs.serial.write_coming.Goals as goal

pub loop-turn-init : goal.loop-turn-init
loop-turn-init g c =
    let taken = g.O.Sink.taken in
    let lines = serial c.args.lines.now.plan in
    let whole = line_pieces c.args.format c.args.speller.now 0 lines in
    let start = c.requires.start in
    record {
      way = subst (λ n. IsUnderWay (taken c.args.out.now) (taken c.args.out.now) whole (line_pieces c.args.format c.args.speller.now 0 (drop n lines))) (sym start) (under_way_first (taken c.args.out.now) whole);
      in_time = subst (λ n. AreInTime 0 (drop n lines)) (sym start) c.requires.in_time;
      plan = refl;
      within = omega (arith, start);
      faults = omega arith;
    }

pub spell-requires-clause-of_plan : goal.spell-requires-clause-of_plan
spell-requires-clause-of_plan g c =
    let plan = c.args.lines.now.plan in
    let line : Line = record { time = c.in-Some.turn.time; actor = c.actor-actor.result; event = c.event-said.result.now } in
    let here = there plan c.loop-turn.lines.plan c.loop-turn.lines.came line c.loop-turn.invariant.plan (by_actor _ c.in-Some.turn.time c.actor-actor.result _ c.event-said.result.now c.actor-actor.ensures (sym c.event-said.ensures)) in
    subst (λ (q : Plan). is_line_of q line ≡ true) (sym c.requires.plan) (c.requires.of_plan c.loop-turn.lines.came line here)

pub spell-requires-clause-in_time : goal.spell-requires-clause-in_time
spell-requires-clause-in_time g c =
    let plan = c.args.lines.now.plan in
    let line : Line = record { time = c.in-Some.turn.time; actor = c.actor-actor.result; event = c.event-said.result.now } in
    let here = there plan c.loop-turn.lines.plan c.loop-turn.lines.came line c.loop-turn.invariant.plan (by_actor _ c.in-Some.turn.time c.actor-actor.result _ c.event-said.result.now c.actor-actor.ensures (sym c.event-said.ensures)) in
    (in_time_here c.loop-turn.base (serial plan) c.loop-turn.lines.came line here c.loop-turn.invariant.in_time).0

pub returns-in_err-write_whole-clause-plan : goal.returns-in_err-write_whole-clause-plan
returns-in_err-write_whole-clause-plan g c = ap (λ (x : Coming). x.plan) c.go_on.ensures ∙ c.loop-turn.invariant.plan

pub returns-in_err-write_whole-clause-prefix : goal.returns-in_err-write_whole-clause-prefix
returns-in_err-write_whole-clause-prefix g c =
    let taken = g.O.Sink.taken in
    let plan = c.args.lines.now.plan in
    let line : Line = record { time = c.in-Some.turn.time; actor = c.actor-actor.result; event = c.event-said.result.now } in
    let here = there plan c.loop-turn.lines.plan c.loop-turn.lines.came line c.loop-turn.invariant.plan (by_actor _ c.in-Some.turn.time c.actor-actor.result _ c.event-said.result.now c.actor-actor.ensures (sym c.event-said.ensures)) in
    behind_err c.from_residual.result
    (under_way_part (taken c.args.out.now) (taken c.loop-turn.out) (taken c.write_whole.new.sink) _ _ c.as_slice.result.now _ c.loop-turn.invariant.way
    (pieces_here c.args.format c.args.speller.now c.loop-turn.base (serial plan) c.loop-turn.lines.came line c.as_slice.result.now here (c.as_slice.ensures ∙ c.spell.ensures))
    c.in_err-write_whole.ensures.prefix)

pub returns-in_err-write_whole-clause-failed : goal.returns-in_err-write_whole-clause-failed
returns-in_err-write_whole-clause-failed g c =
    let faults = g.O.Sink.faults in
    behind_err c.from_residual.result
    (rose_later (faults c.args.out.now) (faults c.loop-turn.out) (faults c.write_whole.new.sink) c.loop-turn.invariant.faults c.in_err-write_whole.ensures.failed)

pub loop-turn-smaller : goal.loop-turn-smaller
loop-turn-smaller g c =
    let plan = c.args.lines.now.plan in
    let line : Line = record { time = c.in-Some.turn.time; actor = c.actor-actor.result; event = c.event-said.result.now } in
    let here = there plan c.loop-turn.lines.plan c.loop-turn.lines.came line c.loop-turn.invariant.plan (by_actor _ c.in-Some.turn.time c.actor-actor.result _ c.event-said.result.now c.actor-actor.ensures (sym c.event-said.ensures)) in
    let within = slice_get_within (serial plan) c.loop-turn.lines.came line here in
    let more = ap (λ (x : Coming). x.came) c.go_on.ensures in
    omega (arith, within, more)

pub loop-turn-preserved : goal.loop-turn-preserved
loop-turn-preserved g c =
    let taken = g.O.Sink.taken in
    let plan = c.args.lines.now.plan in
    let lines = serial plan in
    let line : Line = record { time = c.in-Some.turn.time; actor = c.actor-actor.result; event = c.event-said.result.now } in
    let here = there plan c.loop-turn.lines.plan c.loop-turn.lines.came line c.loop-turn.invariant.plan (by_actor _ c.in-Some.turn.time c.actor-actor.result _ c.event-said.result.now c.actor-actor.ensures (sym c.event-said.ensures)) in
    let within = slice_get_within lines c.loop-turn.lines.came line here in
    let more = ap (λ (x : Coming). x.came) c.go_on.ensures in
    record {
      way = subst (λ n. IsUnderWay (taken c.args.out.now) (taken c.write_whole.new.sink) (line_pieces c.args.format c.args.speller.now 0 lines) (line_pieces c.args.format c.args.speller.now line.time (drop n lines))) (sym more)
          (under_way_more (taken c.args.out.now) (taken c.loop-turn.out) (taken c.write_whole.new.sink) _ _ c.as_slice.result.now _ c.loop-turn.invariant.way
          (pieces_here c.args.format c.args.speller.now c.loop-turn.base lines c.loop-turn.lines.came line c.as_slice.result.now here (c.as_slice.ensures ∙ c.spell.ensures))
          c.in_ok-write_whole.ensures.bytes);
      in_time = subst (λ n. AreInTime line.time (drop n lines)) (sym more) (in_time_here c.loop-turn.base lines c.loop-turn.lines.came line here c.loop-turn.invariant.in_time).1;
      plan = ap (λ (x : Coming). x.plan) c.go_on.ensures ∙ c.loop-turn.invariant.plan;
      within = omega (arith, within, more);
      faults = omega (arith, c.loop-turn.invariant.faults, c.write_whole.ensures.never_falls);
    }

pub returns-clause-text : goal.returns-clause-text
returns-clause-text g c =
    let taken = g.O.Sink.taken in
    let plan = c.args.lines.now.plan in
    let all = all_came plan c.loop-turn.lines.plan c.loop-turn.lines.came c.loop-turn.invariant.plan (sym c.in_default.ensures.none) c.loop-turn.invariant.within in
    under_way_last (taken c.args.out.now) (taken c.loop-turn.out) _ _ c.loop-turn.invariant.way (no_pieces c.args.format c.args.speller.now c.loop-turn.base c.loop-turn.lines.came (serial plan) all)

pub returns-clause-whole : goal.returns-clause-whole
returns-clause-whole g c =
    all_came c.args.lines.now.plan c.loop-turn.lines.plan c.loop-turn.lines.came c.loop-turn.invariant.plan (sym c.in_default.ensures.none) c.loop-turn.invariant.within

pub returns-clause-plan : goal.returns-clause-plan
returns-clause-plan g c = c.loop-turn.invariant.plan
