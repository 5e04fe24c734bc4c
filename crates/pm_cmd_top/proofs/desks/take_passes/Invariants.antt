use Rattle.std.proofs.Common.{◌≡◌}
use Rattle.pm_cmd_top.proofs.desks.take_passes.Given as goal

-- the plan stays
abbrev pub invariant-loop-caller : goal.invariant-loop-caller
invariant-loop-caller l = l.desk.plan ≡ l.initial.desk.plan
