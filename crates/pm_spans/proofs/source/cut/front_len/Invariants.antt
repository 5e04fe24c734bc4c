use Rattle.std.proofs.Common.{◌≡◌, ◌+◌, drop}
use Rattle.pm_spans.specs.source.Excerpts.{front_len}
use Rattle.pm_spans.proofs.source.cut.front_len.Given as goal

-- what the characters that are left have, behind those that were seen
abbrev pub invariant-loop-i : goal.invariant-loop-i
invariant-loop-i l = front_len l.count l.bytes ≡ l.i + front_len l.left (drop l.i l.bytes)
