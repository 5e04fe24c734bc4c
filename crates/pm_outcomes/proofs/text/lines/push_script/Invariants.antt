use Rattle.std.proofs.Common.{◌≡◌, ◌++◌}
use Rattle.std.specs.List.{flat_map, range_with_len}
use Rattle.pm_outcomes.specs.text.Texts.{command_line}
use Rattle.pm_outcomes.proofs.text.lines.push_script.Given as goal

-- the lines of so many commands
abbrev pub invariant-loop-place : goal.invariant-loop-place
invariant-loop-place l = l.text.items ≡ l.initial.text.items ++ flat_map (command_line l.plan l.differ l.outcomes l.caller l.row) (range_with_len 0 l.place)
