-- What a state is filled with to stand where a snapshot of a driver goes on (this project's own).
use Rattle.std.specs.Prelude.{ℕ, ◌≡◌, All, Bool, length, map, if◌then◌else◌}
use Rattle.pm_device.specs.Parts.{IsInTime}
use Rattle.pm_model.specs.declared.plan.Plan.{Plan}
use Rattle.pm_model.specs.World.{World}
use Rattle.pm_driver_flat.specs.Flat.{bare, begun_so}
use Rattle.pm_driver_orders.specs.Drivers.{Driver, next_place, places_from}
use Rattle.pm_driver_orders.specs.DriverSnapshots.{DriverSnapshot}
use Rattle.pm_state.specs.Places.{HasRoom}
use Rattle.pm_driver_rules.specs.declared.node.DriverNode.{DriverNode}
use Rattle.pm_driver_search.specs.declared.pose.Pose.{Pose}
use Rattle.pm_driver_rules.specs.Nodes.{driver_snapshot_of}

-- it is that of the snapshot
pub record IsPose (D : Driver) (s : DriverSnapshot) (failing : Bool) (p : Pose) : Type 0 where
  pub devices : p.devices.items ≡ map (begun_so (if failing then 1 else 2)) s.snapshot.world.views.devices
  pub called : p.called.items ≡ places_from (next_place D s.positions (bare s.snapshot.world.views)) 0 s.snapshot.world.called

-- the world of a node, with what a pose says
abbrev pub world_by : DriverNode → Pose → World
world_by n p = let s = driver_snapshot_of n in record s.snapshot.world { views = record s.snapshot.world.views { devices = p.devices.items }; called = p.called.items }

-- there are as many entries as the plan wants
pub record AreMany (plan : Plan) (n : DriverNode) (p : Pose) : Type 0 where
  pub devices : length p.devices.items ≡ length plan.devices
  pub pending : length n.snapshot.pending.items ≡ length plan.devices
  pub timers : length n.snapshot.timers.items ≡ length plan.devices
  pub on : length n.snapshot.on.items ≡ length plan.domains
  pub held : length n.snapshot.held.items ≡ length plan.links
  pub present : length n.snapshot.present.items ≡ length plan.links
  pub callers : length n.snapshot.caller_places.items ≡ length plan.callers
  pub works : length n.snapshot.work_places.items ≡ length plan.devices
  pub timer_places : length n.snapshot.timer_places.items ≡ length plan.devices
  pub called : length p.called.items ≡ length plan.callers

-- a state with so much room can stand there
pub record CanPose (plan : Plan) (room : ℕ) (n : DriverNode) (p : Pose) : Type 0 where
  pub many : AreMany plan n p
  pub in_time : All IsInTime p.devices.items
  pub caller_room : HasRoom room (map (λ v. v.items) n.snapshot.caller_places.items)
  pub work_room : HasRoom room (map (λ v. v.items) n.snapshot.work_places.items)
  pub timer_room : HasRoom room (map (λ v. v.items) n.snapshot.timer_places.items)
