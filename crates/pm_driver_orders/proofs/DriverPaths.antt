-- Schedules of a driver are ways in the graph of its snapshots.
use Rattle.std.proofs.Common.{ℕ, ◌≡◌, Bool, true, false, List, [], ◌∷◌, refl, sym, subst, ap, ◌∙◌}
use Rattle.pm_explore.specs.search.Reached.{Reached}
use Rattle.pm_explore.specs.search.Reached.Reached.{begins, goes_on, spends}
use Rattle.pm_explore.specs.schedule.Schedules.{one_more_if}
use Rattle.pm_explore.specs.declared.schedule.Pace.{Pace}
use Rattle.pm_driver_orders.specs.Drivers.{Driver}
use Rattle.pm_driver_orders.specs.DriverSchedules.{IsDriverSchedule, driver_preemptions, driver_snapshot}
use Rattle.pm_driver_orders.specs.DriverSnapshots.{DriverFollows, DriverSnapshot, Turn, start_driver, turn_preempts}

pub way : (pace : Pace) (D : Driver) (most : ℕ) (turns : List Turn) → IsDriverSchedule pace D most turns → Reached (DriverFollows pace D most) (start_driver D) (driver_preemptions D turns) (driver_snapshot D turns)
way pace D most [] o = begins
way pace D most (x ∷ turns) o = go (turn_preempts D (driver_snapshot D turns) x) refl (way pace D most turns o.1)
  where
    go : (b : Bool) → turn_preempts D (driver_snapshot D turns) x ≡ b → Reached (DriverFollows pace D most) (start_driver D) (driver_preemptions D turns) (driver_snapshot D turns)
        → Reached (DriverFollows pace D most) (start_driver D) (one_more_if b (driver_preemptions D turns)) (driver_snapshot D (x ∷ turns))
    go true is r = spends (driver_snapshot D turns) (driver_snapshot D (x ∷ turns)) r (record { turn = x; may = o.0; preempts_is = is; leads = refl })
    go false is r = goes_on (driver_snapshot D turns) (driver_snapshot D (x ∷ turns)) r (record { turn = x; may = o.0; preempts_is = is; leads = refl })

abbrev pub DriverScheduleTo : Pace → Driver → ℕ → ℕ → DriverSnapshot → Type 0
DriverScheduleTo pace D most k s = (turns : List Turn) × IsDriverSchedule pace D most turns × (driver_preemptions D turns ≡ k) × (driver_snapshot D turns ≡ s)

one_more : (pace : Pace) (D : Driver) (most : ℕ) (b : Bool) (k : ℕ) (from to : DriverSnapshot) → DriverScheduleTo pace D most k from → DriverFollows pace D most b from to → DriverScheduleTo pace D most (one_more_if b k) to
one_more pace D most b k from to (turns, o, is, stands) follows =
    let f = subst (λ x. DriverFollows pace D most b x to) (sym stands) follows in (
      f.turn ∷ turns,
      (f.may, o),
      ap (λ c. one_more_if c (driver_preemptions D turns)) f.preempts_is ∙ ap (one_more_if b) is,
      sym f.leads,
    )

pub order : (pace : Pace) (D : Driver) (most : ℕ) {k : ℕ} {s : DriverSnapshot} → Reached (DriverFollows pace D most) (start_driver D) k s → DriverScheduleTo pace D most k s
order pace D most begins = ([], tt, refl, refl)
order pace D most (goes_on {k = k} p q r f) = one_more pace D most false k p q (order pace D most r) f
order pace D most (spends {k = k} p q r f) = one_more pace D most true k p q (order pace D most r) f
