-- The timers of all devices, as a list with one entry per device (runtime_pm.rst, section 3, suspend_timer).
use Rattle.std.specs.Prelude.{◌≡◌, ◌<◌, ◌≤◌, ◌⊎◌, ◌^◌, ℕ, List, Option, None, length, option_map, slice_index_or}
use Rattle.pm_base.specs.declared.Armed.{Armed}
use Rattle.pm_base.specs.declared.DevId.{DevId}
use Rattle.pm_index.specs.Moments.{moment_of}

-- the timer of a device, if it is armed
abbrev pub timer_of : List (Option Armed) → DevId → Option Armed
timer_of timers d = slice_index_or timers d.0 None

-- when the timer of a device fires
abbrev pub deadline_of : List (Option Armed) → DevId → Option ℕ
deadline_of timers d = option_map (λ armed. armed.deadline) (timer_of timers d)

-- a timer, by its deadline and its device, fires before the other, or is it: the earlier deadline first, and at equal
-- ones the lesser device
abbrev pub IsNoLater : ℕ × DevId → ℕ × DevId → Type 0
IsNoLater a b = (a.0 < b.0) ⊎ ((a.0 ≡ b.0) × (a.1.0 ≤ b.1.0))

-- these are the deadlines of the timers, of fewer devices than 2^32
pub record AreDeadlinesOf (timers : List (Option Armed)) (deadlines : List (Option ℕ)) : Type 0 where
  pub few : length timers < 2 ^ 32
  pub len : length deadlines ≡ length timers
  pub each : (d : ℕ) → d < length timers → moment_of deadlines d ≡ option_map (λ armed. armed.deadline) (slice_index_or timers d None)
