use Rattle.std.proofs.Common.{◌≡◌}
use Rattle.pm_cmd_top.proofs.desks.call_all.Given as goal

-- the pass is the same caller's
abbrev pub invariant-loop-command : goal.invariant-loop-command
invariant-loop-command g l = l.pass.caller ≡ l.initial.pass.caller
