use Rattle.std.proofs.Common.{◌≡◌, ◌++◌}
use Rattle.pm_make.specs.Draws.{in_turn}
use Rattle.pm_make.specs.Generator.{round_step}
use Rattle.pm_make.proofs.callers.push_rounds.Given as goal

abbrev pub invariant-loop-round : goal.invariant-loop-round
invariant-loop-round l = record {
  item : l.commands.items ≡ l.fn.commands.items ++ (in_turn (round_step l.devices) l._round l.fn.draws.state).item;
  state : l.draws.state ≡ (in_turn (round_step l.devices) l._round l.fn.draws.state).state;
}
