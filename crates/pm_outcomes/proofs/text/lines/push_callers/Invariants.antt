use Rattle.std.proofs.Common.{◌≡◌, ◌++◌}
use Rattle.std.specs.List.{flat_map, range_with_len}
use Rattle.pm_outcomes.specs.text.Texts.{caller_lines}
use Rattle.pm_outcomes.proofs.text.lines.push_callers.Given as goal

-- the lines of so many callers
abbrev pub invariant-loop-caller : goal.invariant-loop-caller
invariant-loop-caller l = l.text.items ≡ l.initial.text.items ++ flat_map (caller_lines l.plan l.differ l.outcomes) (range_with_len 0 l.caller)
