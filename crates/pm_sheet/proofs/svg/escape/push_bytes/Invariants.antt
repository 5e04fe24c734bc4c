use Rattle.std.proofs.Common.{◌≡◌, ◌++◌, take}
use Rattle.pm_sheet.specs.svg.Escape.{escaped}
use Rattle.pm_sheet.proofs.svg.escape.push_bytes.Given as goal

-- the bytes so far
abbrev pub invariant-loop-byte : goal.invariant-loop-byte
invariant-loop-byte l = l.text.items ≡ l.fn.text.items ++ escaped (take l.byte-index l.bytes)
