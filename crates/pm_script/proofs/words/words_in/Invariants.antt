use Rattle.std.proofs.Common.{◌≡◌, ◌++◌, length}
use Rattle.pm_script.specs.Words.{words_of}
use Rattle.pm_script.proofs.words.words_in.Given as goal

-- the words so far and those of what is left
abbrev pub invariant-loop-word : goal.invariant-loop-word
invariant-loop-word l = l.words.items ++ words_of l.rest ≡ words_of l.bytes

abbrev pub decreases-loop-word : goal.decreases-loop-word
decreases-loop-word l = length l.rest
