-- What is pending for each device, as a list with one entry per device (runtime_pm.rst, section 3).
use Rattle.std.specs.Prelude.{ℕ, false, List, slice_index_or}
use Rattle.pm_base.specs.declared.DevId.{DevId}
use Rattle.pm_base.specs.declared.Pending.{Pending}
use Rattle.pm_base.specs.declared.Req.TheVariants.{Nothing}

-- a device for which nothing is pending
abbrev pub nothing_pending : Pending
nothing_pending = record { request = Nothing; queued = false; deferred = false }

abbrev pub pending_at : List Pending → DevId → Pending
pending_at list d = slice_index_or list d.0 nothing_pending
