use Rattle.std.proofs.Common.{◌≡◌, drop}
use Rattle.std.specs.Prelude.{find}
use Rattle.pm_expect.specs.verdicts.Verdicts.{is_other}
use Rattle.pm_expect.proofs.verdicts.answering.find_other.Given as goal

-- none so far
abbrev pub invariant-loop-returned : goal.invariant-loop-returned
invariant-loop-returned l = find (is_other l.code) (drop l.returned-index l.all) ≡ find (is_other l.code) l.all
