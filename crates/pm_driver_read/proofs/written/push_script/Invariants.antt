use Rattle.std.proofs.Common.{◌≡◌, ◌+◌, ◌++◌, length}
use Rattle.std.specs.Vec.Iter.{into_iter_items}
use Rattle.pm_driver_read.specs.Written.{own_lines, own_steps}
use Rattle.pm_driver_read.proofs.written.push_script.Given as goal

abbrev pub invariant-loop-step : goal.invariant-loop-step
invariant-loop-step l = record {
  steps : l.out.items ++ own_steps l.undo.managed.now l.undo.caller l.number (into_iter_items l.step-iterator) ≡ l.fn.out.items ++ own_steps l.undo.managed.now l.undo.caller 0 l.fn.steps.items;
  lines : l.lines.items ++ own_lines l.undo.managed.now l.undo.caller l.number (into_iter_items l.step-iterator) ≡ l.fn.lines.items ++ own_lines l.undo.managed.now l.undo.caller 0 l.fn.steps.items;
  even : length l.lines.items ≡ length l.out.items;
  count : l.number + length (into_iter_items l.step-iterator) ≡ length l.fn.steps.items;
}
