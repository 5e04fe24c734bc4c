use Rattle.std.proofs.Common.{◌≡◌, [], map, take}
use Rattle.pm_expect.specs.uses.Watching.{watch_of}
use Rattle.pm_expect.proofs.uses.watching.fresh.Given as goal

-- those so far
abbrev pub invariant-loop-each : goal.invariant-loop-each
invariant-loop-each l = l.watches.items ≡ map (watch_of l.plan []) (take l.each-index l.expected)
