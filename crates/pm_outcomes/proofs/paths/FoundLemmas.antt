-- What a search finds, told of schedules.
use Rattle.std.proofs.Common.{ℕ, ◌≡◌, List, arith}
use Rattle.pm_model.specs.declared.plan.Plan.{Plan}
use Rattle.pm_model.specs.History.{History}
use Rattle.pm_explore.specs.declared.schedule.Pace.{Pace}
use Rattle.pm_explore.specs.schedule.Schedules.{IsSchedule, preemptions, snapshot}
use Rattle.pm_explore.specs.schedule.Snapshots.{Follows, Snapshot, start_snapshot}
use Rattle.pm_explore.specs.search.Exact.{IsExact, IsWhole}
use Rattle.pm_explore.specs.search.Reached.{Reached}
use Rattle.pm_outcomes.specs.paths.Found.{AreOfAllSchedules, AreOfSchedules}

-- the schedules stand at what is reached
abbrev pub OrdersReach : Pace → Plan → Type 0
OrdersReach pace plan = (h : History) → IsSchedule pace plan h → Reached (Follows pace plan) (start_snapshot plan) (preemptions plan h) (snapshot plan h)

abbrev pub OrdersStand : Pace → Plan → Type 0
OrdersStand pace plan = (k : ℕ) (s : Snapshot) → Reached (Follows pace plan) (start_snapshot plan) k s → (h : History) × IsSchedule pace plan h × (preemptions plan h ≡ k) × (snapshot plan h ≡ s)

pub of_schedules : (pace : Pace) (plan : Plan) (k : ℕ) (snapshots : List Snapshot) (bound : ℕ) → OrdersReach pace plan → OrdersStand pace plan → IsExact (Follows pace plan) (start_snapshot plan) k snapshots bound → AreOfSchedules pace plan k snapshots bound
of_schedules pace plan k snapshots bound reach stand is = record {
  within = is.within;
  sound = λ i s lt there.
      let r = is.sound i s lt there in
      let o = stand r.spent s r.reached in
      let few = r.few in
      let same = o.2 in
      (o.0, o.1, omega (arith, few, same), o.3);
  complete = λ h order few. is.complete (snapshot plan h) (record { spent = preemptions plan h; few = few; reached = reach h order });
}

pub of_all_schedules : (pace : Pace) (plan : Plan) (snapshots : List Snapshot) → OrdersReach pace plan → OrdersStand pace plan → IsWhole (Follows pace plan) (start_snapshot plan) snapshots → AreOfAllSchedules pace plan snapshots
of_all_schedules pace plan snapshots reach stand is = record {
  sound = λ i s there. let r = is.sound i s there in let o = stand r.0 s r.1 in (o.0, o.1, o.3);
  complete = λ h order. is.complete (snapshot plan h) (preemptions plan h, reach h order);
}
