use Rattle.std.proofs.Common.{◌≡◌, ◌++◌, drop}
use Rattle.pm_spans.specs.source.Visible.{visible, visible_from}
use Rattle.pm_spans.proofs.source.visible.push_visible.Given as goal

-- what is left to be shown completes what was shown
abbrev pub invariant-loop-i : goal.invariant-loop-i
invariant-loop-i l = l.out.items ++ visible_from l.left (drop l.i l.bytes) ≡ l.initial.out.items ++ visible l.bytes
