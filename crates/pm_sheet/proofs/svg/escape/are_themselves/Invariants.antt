use Rattle.std.proofs.Common.{◌≡◌, take, true}
use Rattle.std.specs.List.{list_all}
use Rattle.pm_sheet.specs.svg.Escape.{is_itself}
use Rattle.pm_sheet.proofs.svg.escape.are_themselves.Given as goal

-- the bytes so far
abbrev pub invariant-loop-byte : goal.invariant-loop-byte
invariant-loop-byte l = list_all is_itself (take l.byte-index l.bytes) ≡ true
