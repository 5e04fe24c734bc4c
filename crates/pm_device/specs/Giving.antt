-- What it makes of the views that one held link is given back (device_link.rst).
use Rattle.std.specs.Prelude.{◌-◌, ℕ, false, slice_set}
use Rattle.pm_model.specs.declared.plan.Plan.{Plan}
use Rattle.pm_model.specs.Events.{set_usage}
use Rattle.pm_model.specs.Views.{Views, device}
use Rattle.pm_link.specs.Links.{row_at}

-- a held link is free, and its supplier has its count back
abbrev pub gives_link : Plan → ℕ → Views → Views
gives_link plan l v =
    record (set_usage ((device v (row_at plan.links l).supplier).usage - 1) (row_at plan.links l).supplier v) { held = slice_set v.held l false }
