-- For which snapshot of a schedule a kept one stands (this project's own).
use Rattle.std.specs.Prelude.{map}
use Rattle.pm_model.specs.Views.{Views}
use Rattle.pm_model.specs.World.{World}
use Rattle.pm_explore.specs.schedule.Snapshots.{Snapshot as Where}
use Rattle.pm_explore.specs.declared.state.snapshot.Snapshot.{Snapshot}

abbrev pub views_of : Snapshot → Views
views_of s = record { devices = s.devices.items; pending = s.pending.items; timers = s.timers.items; on = s.on.items; held = s.held.items; present = s.present.items }

abbrev pub world_of : Snapshot → World
world_of s = record {
  views = views_of s;
  caller_places = map (λ v. v.items) s.caller_places.items;
  work_places = map (λ v. v.items) s.work_places.items;
  timer_places = map (λ v. v.items) s.timer_places.items;
  called = s.called.items;
}

abbrev pub snapshot_of : Snapshot → Where
snapshot_of s = record { world = world_of s; time = s.time; last = s.last; code = s.code }
