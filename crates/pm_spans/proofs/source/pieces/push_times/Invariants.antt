use Rattle.std.proofs.Common.{◌≡◌, ◌++◌, replicate}
use Rattle.pm_spans.proofs.source.pieces.push_times.Given as goal

abbrev pub invariant-loop-time : goal.invariant-loop-time
invariant-loop-time l = l.out.items ≡ l.initial.out.items ++ replicate l._time l.byte
