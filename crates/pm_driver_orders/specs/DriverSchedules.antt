-- The schedules of a driver (this project's own). The newest turn comes first.
use Rattle.std.specs.Prelude.{ℕ, [], ◌∷◌, List, map}
use Rattle.pm_model.specs.History.{History}
use Rattle.pm_explore.specs.schedule.Schedules.{one_more_if}
use Rattle.pm_explore.specs.declared.schedule.Pace.{Pace}
use Rattle.pm_driver_orders.specs.Drivers.{Driver}
use Rattle.pm_driver_orders.specs.DriverSnapshots.{DriverSnapshot, MayCome, Turn, after_turn, start_driver, turn_preempts}

abbrev pub lines_of : List Turn → History
lines_of turns = map (λ x. x.line) turns

-- where a list of turns stands
abbrev pub driver_snapshot : Driver → List Turn → DriverSnapshot
driver_snapshot D [] = start_driver D
driver_snapshot D (x ∷ turns) = after_turn D (driver_snapshot D turns) x

-- a schedule: each turn may come after those before it
abbrev pub IsDriverSchedule : Pace → Driver → ℕ → List Turn → Type 0
IsDriverSchedule pace D most [] = Unit {0}
IsDriverSchedule pace D most (x ∷ turns) = MayCome pace D most (driver_snapshot D turns) x × IsDriverSchedule pace D most turns

-- how many of the turns preempt
abbrev pub driver_preemptions : Driver → List Turn → ℕ
driver_preemptions D [] = 0
driver_preemptions D (x ∷ turns) = one_more_if (turn_preempts D (driver_snapshot D turns) x) (driver_preemptions D turns)
