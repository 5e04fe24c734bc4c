use Rattle.std.proofs.Common.{◌≡◌, drop}
use Rattle.pm_driver_text.specs.Exits.{exits_from, exits_in}
use Rattle.pm_driver_text.proofs.ExitLemmas.{behind}
use Rattle.pm_driver_text.proofs.exits.exits_in.Given as goal

-- the exits so far, and those of what is left
abbrev pub invariant-loop-word : goal.invariant-loop-word
invariant-loop-word l = exits_in l.words ≡ behind l.exits.items (exits_from l.awaited (drop l.word-index l.words))
