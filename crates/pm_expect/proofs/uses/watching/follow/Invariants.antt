use Rattle.std.proofs.Common.{◌≡◌, ◌++◌, drop, map, take}
use Rattle.pm_expect.specs.uses.Watching.{watch_after}
use Rattle.pm_expect.proofs.uses.watching.follow.Given as goal

-- those so far have gone on
abbrev pub invariant-loop-place : goal.invariant-loop-place
invariant-loop-place l = l.watches.items ≡ map (watch_after l.plan l.parts.views l.number l.line) (take l.place l.fn.watches.items) ++ drop l.place l.fn.watches.items
