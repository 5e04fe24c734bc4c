use Rattle.std.proofs.Common.{◌≡◌, ◌++◌, take}
use Rattle.std.specs.List.{flat_map, zip}
use Rattle.pm_expect_report.proofs.trace.PlainLemmas.{line_of}
use Rattle.pm_expect_report.proofs.trace.plain.push_lines.Given as goal

-- the lines of those so far
abbrev pub invariant-loop-number : goal.invariant-loop-number
invariant-loop-number l = l.text.items ≡ l.fn.text.items ++ flat_map (line_of l.file l.trace) (take l.number (zip l.places l.items))
