use Rattle.std.proofs.Common.{◌∙◌, List, Some, ap, map, refl, subst, sym, ℕ}
use Rattle.std.specs.Prelude.{Contains}
use Rattle.pm_io.specs.Faults.{Rose}
use Rattle.pm_cmd_ends.specs.Ending.{taking}
use Rattle.pm_cmd_top.specs.TraceCommands.{unknown}
use Rattle.pm_cmd_top.proofs.TraceLemmas.{came_named, named_here}
use Rattle.pm_cmd_top.proofs.why.why_by.Goals as goal

pub returns-in-Some-clause-came : goal.returns-in-Some-clause-came
returns-in-Some-clause-came g c =
    let files = g.F.Files in
    came_named files.tells_all (files.told c.args.files.now c.args.trace.now) c.args.device.now c.args.plan _ (Rose (files.faults c.args.files.now) (files.faults c.why_of.new.files))
    (taking g.O.Sink.taken g.O.Sink.faults c.args.out.now c.why_of.new.out) c.why_of.result (c.in-Some.ensures.found ∙ ap Some c.as_bytes.ensures.value) c.why_of.ensures.came

pub returns-in-None-clause-came : goal.returns-in-None-clause-came
returns-in-None-clause-came g c =
    (unknown (λ has. c.in-None.ensures.missing (subst (λ (name : List ℕ). Contains (map (λ row. row.name) c.args.plan.devices) name) (sym c.as_bytes.ensures.value) has)), refl)

pub returns-in-Some-clause-alone : goal.returns-in-Some-clause-alone
returns-in-Some-clause-alone g c = λ lacks. absurd (lacks (named_here _ _ _ (c.in-Some.ensures.found ∙ ap Some c.as_bytes.ensures.value)))
