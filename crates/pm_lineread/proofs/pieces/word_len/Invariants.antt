-- No stop was passed.
use Rattle.std.proofs.Common.{◌≡◌, ◌+◌, drop, nat_eq}
use Rattle.std.specs.List.{position_or_len}
use Rattle.pm_lineread.proofs.pieces.word_len.Given as goal

abbrev pub invariant-loop-at : goal.invariant-loop-at
invariant-loop-at l = position_or_len (λ b. nat_eq b l.stop) l.bytes ≡ l.at + position_or_len (λ b. nat_eq b l.stop) (drop l.at l.bytes)
