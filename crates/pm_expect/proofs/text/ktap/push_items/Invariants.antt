use Rattle.std.proofs.Common.{◌≡◌, ◌++◌, ◌+◌, drop}
use Rattle.pm_expect.specs.text.Texts.{ktap_lines}
use Rattle.pm_expect.proofs.text.ktap.push_items.Given as goal

-- behind what is left
abbrev pub invariant-loop-place : goal.invariant-loop-place
invariant-loop-place l = l.text.items ++ ktap_lines l.trace (l.place + 1) (drop l.place l.items) ≡ l.fn.text.items ++ ktap_lines l.trace 1 l.items
