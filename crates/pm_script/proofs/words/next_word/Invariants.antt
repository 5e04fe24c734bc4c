use Rattle.std.proofs.Common.{◌≡◌, ◌≤◌, length}
use Rattle.pm_script.specs.Words.{words_of}
use Rattle.pm_script.proofs.words.next_word.Given as goal

abbrev pub invariant-loop-rest : goal.invariant-loop-rest
invariant-loop-rest l = record {
  same : words_of l.rest ≡ words_of l.bytes;
  shorter : length l.rest ≤ length l.bytes;
}

abbrev pub decreases-loop-rest : goal.decreases-loop-rest
decreases-loop-rest l = length l.rest
