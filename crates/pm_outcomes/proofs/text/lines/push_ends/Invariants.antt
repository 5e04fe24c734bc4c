use Rattle.std.proofs.Common.{◌≡◌, ◌++◌}
use Rattle.std.specs.List.{flat_map, range_with_len}
use Rattle.pm_outcomes.specs.text.Texts.{end_line}
use Rattle.pm_outcomes.proofs.text.lines.push_ends.Given as goal

-- the lines of so many devices
abbrev pub invariant-loop-device : goal.invariant-loop-device
invariant-loop-device l = l.text.items ≡ l.initial.text.items ++ flat_map (end_line l.plan l.differ l.outcomes) (range_with_len 0 l.device)
