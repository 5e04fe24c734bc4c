use Rattle.std.proofs.Common.{◌≡◌}
use Rattle.pm_make.specs.Draws.{in_turn}
use Rattle.pm_make.specs.Generator.{link_step}
use Rattle.pm_make.proofs.rows.link_rows.Given as goal

abbrev pub invariant-loop-place : goal.invariant-loop-place
invariant-loop-place l = record {
  item : l.rows.items ≡ (in_turn link_step l.place l.fn.draws.state).item;
  state : l.draws.state ≡ (in_turn link_step l.place l.fn.draws.state).state;
}
