-- How many hands are started (this project's own).
use Rattle.std.specs.Prelude.{ℕ, ◌+◌, Bool, false, ◌||◌, List, [], ◌∷◌, min, nat_lt, if◌then◌else◌}
use Rattle.pm_model.specs.declared.plan.Plan.{Plan}
use Rattle.pm_model.specs.declared.rows.DeviceRow.{DeviceRow}

-- whether a callback of one of the devices takes time
abbrev pub any_takes_time : List DeviceRow → Bool
any_takes_time [] = false
any_takes_time (row ∷ rows) = nat_lt 0 row.idle_ms || nat_lt 0 row.suspend_ms || nat_lt 0 row.resume_ms || any_takes_time rows

-- of so many hands, for so many islands: all where a callback of the plan takes time, else one for each island and one more
abbrev pub started : Plan → ℕ → ℕ → ℕ
started plan islands hands = if any_takes_time plan.devices then hands else min hands (islands + 1)
