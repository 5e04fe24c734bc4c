use Rattle.std.proofs.Common.{◌≡◌, ◌++◌, map, take}
use Rattle.pm_picture.specs.events.Plain.{plain_byte}
use Rattle.pm_picture.proofs.events.plain.push_plain.Given as goal

-- the bytes so far
abbrev pub invariant-loop-byte : goal.invariant-loop-byte
invariant-loop-byte l = l.text.items ≡ l.fn.text.items ++ map plain_byte (take l.byte-index l.bytes)
