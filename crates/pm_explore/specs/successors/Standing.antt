-- Where a run stands, as a snapshot (this project's own).
use Rattle.pm_model.specs.World.{World}
use Rattle.pm_explore.specs.schedule.Snapshots.{Snapshot}
use Rattle.pm_explore.specs.declared.successors.moves.Last.{Last}

-- the snapshot of a run that stands so, with this last line
abbrev pub snapshot_at : World → Last → Snapshot
snapshot_at w last = record { world = w; time = last.time; last = last.actor; code = last.code }
