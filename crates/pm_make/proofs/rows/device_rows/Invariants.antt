use Rattle.std.proofs.Common.{◌≡◌, ◌≤◌, vec_len}
use Rattle.pm_make.specs.Draws.{in_turn}
use Rattle.pm_make.specs.Generator.{device_step}
use Rattle.pm_make.proofs.rows.device_rows.Given as goal

abbrev pub invariant-loop-place : goal.invariant-loop-place
invariant-loop-place l = record {
  item : l.rows.items ≡ (in_turn device_step l.place l.fn.draws.state).item;
  few : vec_len l.rows ≤ l.place;
  state : l.draws.state ≡ (in_turn device_step l.place l.fn.draws.state).state;
}
