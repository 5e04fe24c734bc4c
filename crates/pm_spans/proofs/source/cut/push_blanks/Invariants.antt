use Rattle.std.proofs.Common.{◌≡◌, ◌++◌, take}
use Rattle.pm_spans.specs.source.Excerpts.{blanks}
use Rattle.pm_spans.proofs.source.cut.push_blanks.Given as goal

abbrev pub invariant-loop-byte : goal.invariant-loop-byte
invariant-loop-byte l = l.out.items ≡ l.initial.out.items ++ blanks (take l.byte-index l.bytes)
