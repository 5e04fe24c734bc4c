use Rattle.std.proofs.Common.{ℕ, ◌≡◌, ◌+◌, ◌≤◌, drop, length, nat_eq, reverse}
use Rattle.indexmap.specs.IndexMap.{get}
use Rattle.pm_lanes.specs.calls.Calls.{answer, calls_from}
use Rattle.pm_lanes.proofs.calls.call.calls.Given as goal

-- the calls from this place on, the last first, and of each caller its next return from there on
abbrev pub invariant-loop-place : goal.invariant-loop-place
invariant-loop-place l = record {
  within : l.place ≤ length l.lines;
  all : l.all.items ≡ reverse (calls_from (l.place + 1) (drop l.place l.lines));
  next : (c : ℕ) → get nat_eq l.answers c ≡ answer c (l.place + 1) (drop l.place l.lines);
}

abbrev pub decreases-loop-place : goal.decreases-loop-place
decreases-loop-place l = l.place
