-- No space was passed.
use Rattle.std.proofs.Common.{◌≡◌, ◌+◌, drop}
use Rattle.std.specs.List.{position_or_len}
use Rattle.pm_script.specs.Words.{is_space}
use Rattle.pm_script.proofs.words.space_at.Given as goal

abbrev pub invariant-loop-at : goal.invariant-loop-at
invariant-loop-at l = position_or_len is_space l.bytes ≡ l.at + position_or_len is_space (drop l.at l.bytes)
