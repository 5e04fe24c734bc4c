-- When the device was last marked busy, and the expiry that comes of it (runtime_pm.rst, section 9).
use Rattle.std.specs.Prelude.{◌+◌, ◌&&◌, ℕ, Bool, ℤ, Option, Some, None, int_le, nat_abs, pos, if◌then◌else◌}
use Rattle.pm_base.specs.declared.DevId.{DevId}
use Rattle.pm_model.specs.declared.plan.Plan.{Plan}
use Rattle.pm_model.specs.PlanRows.{marks_busy}
use Rattle.pm_model.specs.Views.{Views, device}

-- when the device was last marked busy, once a callback of it has ended at t
abbrev pub last_mark : Plan → Views → DevId → ℕ → ℕ
last_mark plan v d t = if marks_busy plan d then t else (device v d).last_busy

-- the expiry by a setting of autosuspend and the last mark
abbrev pub expiry_of : Bool → ℤ → ℕ → Option ℕ
expiry_of use_auto delay last_busy = if use_auto && int_le (pos 0) delay then Some (last_busy + nat_abs delay) else None
