use Rattle.std.proofs.Common.{◌≡◌, ◌++◌, drop, take}
use Rattle.pm_islands.specs.Labels.{relabelled}
use Rattle.pm_islands.proofs.labels.relabel.Given as goal

abbrev pub invariant-loop-label : goal.invariant-loop-label
invariant-loop-label l = l.labels ≡ relabelled l.from l.to (take l.label-index l.fn.labels) ++ drop l.label-index l.fn.labels
