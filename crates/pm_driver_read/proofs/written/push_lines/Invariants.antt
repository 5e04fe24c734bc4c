use Rattle.std.proofs.Common.{◌≡◌, ◌++◌, drop, map}
use Rattle.pm_driver_read.proofs.written.push_lines.Given as goal

abbrev pub invariant-loop-step : goal.invariant-loop-step
invariant-loop-step l = l.lines.items ++ map (λ s. l.fn.line) (drop l._step-index l.fresh) ≡ l.fn.lines.items ++ map (λ s. l.fn.line) l.fresh
