use Rattle.std.proofs.Common.{◌≡◌, length}
use Rattle.pm_state.specs.Chains.{AreOwn}
use Rattle.pm_state.proofs.own.OwnLinks.of.Given as goal

-- the links so far
abbrev pub invariant-loop-link : goal.invariant-loop-link
invariant-loop-link l = record {
  own : AreOwn l.links l.link l.last.items l.before.items;
  each : length l.last.items ≡ length l.plan.devices;
}
