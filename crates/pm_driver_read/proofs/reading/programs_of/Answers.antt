use Rattle.std.proofs.Common.{List, rules}
use Rattle.std.specs.Vec.Iter.{into_iter_items}
use Rattle.pm_driver_read.proofs.ProgramLemmas.{next_caller, rest_few}
use Rattle.pm_driver_read.specs.Programs.{programs_from}
use Rattle.pm_driver_read.specs.declared.scripts.CallerSteps.{CallerSteps}
use Rattle.pm_driver_read.proofs.reading.programs_of.Goals as goal

pub loop-caller-preserved : goal.loop-caller-preserved
loop-caller-preserved c =
    let old : List CallerSteps = into_iter_items c.loop-caller.caller-iterator in
    let rest : List CallerSteps = into_iter_items c.next.new.self in
    record {
      rest = next_caller c.args.names.now c.args.managed.now old rest c.in-Some.caller c.len-number.result c.loop-caller.programs.items c.push.new.self.items c.in_ok-program_or.field-0
          (programs_from c.args.names.now c.args.managed.now 0 c.args.scripts.items) c.in-Some.ensures.steps.0 (search rules) c.in_ok-program_or.ensures.ok c.in_ok-push.ensures.items c.loop-caller.invariant.rest;
      few = rest_few old rest c.in-Some.caller c.in-Some.ensures.steps.0 c.loop-caller.invariant.few;
    }
