use Rattle.std.proofs.Common.{◌∙◌, refl, sym}
use Rattle.pm_cmd_ends.specs.Ending.{taking}
use Rattle.pm_cmd_lab.proofs.order.WorkLemmas.{came_missing, came_of_observation}
use Rattle.pm_lab_words.specs.Request.{sought_in}
use Rattle.pm_cmd_lab.proofs.order.order.write_asked.Goals as goal

pub returns-in-Ok : goal.returns-in-Ok
returns-in-Ok g c =
    came_of_observation c.args.bounds (sought_in c.args.asked.now) c.args.plan c.in-Ok.observation (taking g.O.Sink.taken g.O.Sink.faults c.args.out.now c.write_order.new.out) c.write_order.result (sym c.observation_sought.ensures ∙ c.in-Ok.is) c.write_order.ensures

pub returns-in_ok-text-in-Err : goal.returns-in_ok-text-in-Err
returns-in_ok-text-in-Err g c =
    came_missing c.args.bounds (sought_in c.args.asked.now) c.args.plan c.in-Err.missing c.in_ok-text-in-Err.text (taking g.O.Sink.taken g.O.Sink.faults c.args.out.now c.args.out.now) (sym c.observation_sought.ensures ∙ c.in-Err.is) c.in_ok-text-in-Err.ensures refl
