use Rattle.std.proofs.Common.{◌≡◌, map, take}
use Rattle.pm_expect.specs.verdicts.Verdicts.{judged}
use Rattle.pm_expect.specs.uses.Uses.{use_by}
use Rattle.pm_expect.proofs.uses.judging.uses.Given as goal

-- those so far
abbrev pub invariant-loop-watch : goal.invariant-loop-watch
invariant-loop-watch l = l.verdicts.items ≡ map (λ w. judged (use_by l.plan l.all w.missed) w.expected) (take l.watch-index l.watch-items)
