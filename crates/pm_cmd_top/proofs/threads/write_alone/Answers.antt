use Rattle.pm_cmd_ends.specs.Ending.{taking}
use Rattle.pm_cmd_ends.proofs.EndLemmas.{came_weaker}
use Rattle.pm_cmd_top.specs.Runs.{RunEnds, SerialEnds}
use Rattle.pm_cmd_top.proofs.RunLemmas.{ends_as_one}
use Rattle.pm_cmd_top.proofs.threads.write_alone.Goals as goal

pub returns : goal.returns
returns g c =
    let plan = c.args.plan in
    let out = taking g.O.Sink.taken g.O.Sink.faults c.args.out.now c.write_serial.new.out in
    came_weaker (SerialEnds plan) (RunEnds plan) ⊥ ⊥ (ends_as_one plan) (λ none. none) out c.write_serial.result c.write_serial.ensures
