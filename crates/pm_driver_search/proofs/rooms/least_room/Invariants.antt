use Rattle.std.proofs.Common.{ℕ, ◌≤◌, ◌+◌}
use Rattle.pm_base.specs.declared.DevId.{DevId}
use Rattle.pm_laws.specs.stacks.Depth.{longest_chain}
use Rattle.pm_driver_search.proofs.rooms.least_room.Given as goal

abbrev pub invariant-loop-dev : goal.invariant-loop-dev
invariant-loop-dev l = (room : ℕ) → ((d : DevId) → longest_chain l.plan d + 3 ≤ room) → l.room ≤ room
