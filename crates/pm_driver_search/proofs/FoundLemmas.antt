-- What a search finds, told of a driver's schedules.
use Rattle.std.proofs.Common.{ℕ, ◌≡◌, List, arith}
use Rattle.pm_explore.specs.declared.schedule.Pace.{Pace}
use Rattle.pm_explore.specs.search.Exact.{IsExact, IsWhole}
use Rattle.pm_explore.specs.search.Reached.{Reached}
use Rattle.pm_driver_orders.specs.Drivers.{Driver}
use Rattle.pm_driver_orders.specs.DriverSchedules.{IsDriverSchedule, driver_preemptions, driver_snapshot}
use Rattle.pm_driver_orders.specs.DriverSnapshots.{DriverFollows, DriverSnapshot, Turn, start_driver}
use Rattle.pm_driver_search.specs.Found.{AreOfAllDriverSchedules, AreOfDriverSchedules}

-- the schedules stand at what is reached
abbrev pub OrdersReach : Pace → Driver → ℕ → Type 0
OrdersReach pace D most = (turns : List Turn) → IsDriverSchedule pace D most turns → Reached (DriverFollows pace D most) (start_driver D) (driver_preemptions D turns) (driver_snapshot D turns)

abbrev pub OrdersStand : Pace → Driver → ℕ → Type 0
OrdersStand pace D most = (k : ℕ) (s : DriverSnapshot) → Reached (DriverFollows pace D most) (start_driver D) k s → (turns : List Turn) × IsDriverSchedule pace D most turns × (driver_preemptions D turns ≡ k) × (driver_snapshot D turns ≡ s)

pub of_schedules : (pace : Pace) (D : Driver) (most k : ℕ) (snapshots : List DriverSnapshot) (bound : ℕ) → OrdersReach pace D most → OrdersStand pace D most → IsExact (DriverFollows pace D most) (start_driver D) k snapshots bound → AreOfDriverSchedules pace D most k snapshots bound
of_schedules pace D most k snapshots bound reach stand is = record {
  within = is.within;
  sound = λ i s lt there.
      let r = is.sound i s lt there in
      let o = stand r.spent s r.reached in
      let few = r.few in
      let same = o.2 in
      (o.0, o.1, omega (arith, few, same), o.3);
  complete = λ turns order few. is.complete (driver_snapshot D turns) (record { spent = driver_preemptions D turns; few = few; reached = reach turns order });
}

pub of_all_schedules : (pace : Pace) (D : Driver) (most : ℕ) (snapshots : List DriverSnapshot) → OrdersReach pace D most → OrdersStand pace D most → IsWhole (DriverFollows pace D most) (start_driver D) snapshots → AreOfAllDriverSchedules pace D most snapshots
of_all_schedules pace D most snapshots reach stand is = record {
  sound = λ i s there. let r = is.sound i s there in let o = stand r.0 s r.1 in (o.0, o.1, o.3);
  complete = λ turns order. is.complete (driver_snapshot D turns) (driver_preemptions D turns, reach turns order);
}
