-- What shows where a schedule of a driver stands (this project's own).
use Rattle.std.specs.Prelude.{ℕ, ℤ, ◌≡◌, ◌<◌, Bool, true, false, not, ◌&&◌, ◌||◌, Some, length, is_none, nat_eq, nat_le, slice_get}
use Rattle.std.specs.List.{enumerate_from, list_all}
use Rattle.pm_base.specs.declared.ActorId.TheVariants.{Caller}
use Rattle.pm_base.specs.declared.DevId.{DevId}
use Rattle.pm_base.specs.declared.Status.{Status}
use Rattle.pm_model.specs.Lawful.{is_empty_place}
use Rattle.pm_model.specs.Views.{device}
use Rattle.pm_model.specs.World.{World}
use Rattle.pm_explore.specs.declared.schedule.Pace.{Pace}
use Rattle.pm_driver_orders.specs.declared.Position.{Position}
use Rattle.pm_driver_orders.specs.declared.Position.TheVariants.{At, In}
use Rattle.pm_driver_orders.specs.Drivers.{Driver, behind}
use Rattle.pm_driver_orders.specs.DriverSnapshots.{DriverSnapshot, MayCome, Turn}

-- no actor has anything to do but what a program calls
abbrev pub is_quiet : World → Bool
is_quiet w =
    list_all is_empty_place w.caller_places && list_all is_empty_place w.work_places && list_all is_empty_place w.timer_places
    && list_all (λ pending. not pending.queued) w.views.pending && list_all is_none w.views.timers

-- a caller hasn't begun, or stands behind its program's last command
abbrev pub is_out : Driver → ℕ → Position → Bool
is_out D c (At k) = nat_eq k 0 || nat_le (behind D c) k
is_out D c (In k) = false

-- no caller stands within its program, and nothing is left to do
abbrev pub is_at_rest : Driver → DriverSnapshot → Bool
is_at_rest D s = list_all (λ p. is_out D p.0 p.1) (enumerate_from 0 s.positions) && is_quiet s.snapshot.world

-- nothing may come next
abbrev pub IsLast : Pace → Driver → ℕ → DriverSnapshot → Type 0
IsLast pace D most s = (x : Turn) → MayCome pace D most s x → ⊥

-- the order has come to its end; or it is stuck: a caller waits within its program for ever
pub record IsDone (pace : Pace) (D : Driver) (most : ℕ) (s : DriverSnapshot) : Type 0 where
  pub last : IsLast pace D most s
  pub rests : is_at_rest D s ≡ true

pub record IsStuck (pace : Pace) (D : Driver) (most : ℕ) (s : DriverSnapshot) : Type 0 where
  pub last : IsLast pace D most s
  pub waits : is_at_rest D s ≡ false

-- the call of a caller's step returns a code; or the order is done and leaves a device so; or it is stuck, and a caller stands there
pub data DriverObservation : Type 0 where
  StepReturns : (caller step : ℕ) (code : ℤ) → DriverObservation
  Leaves : (d : DevId) (status : Status) (usage : ℕ) (error : ℤ) → DriverObservation
  Sticks : (caller : ℕ) (position : Position) → DriverObservation

abbrev pub HasDriverObservation : Pace → Driver → ℕ → DriverSnapshot → DriverObservation → Type 0
HasDriverObservation pace D most s (StepReturns caller step code) = (s.snapshot.last ≡ Some (Caller caller)) × (s.snapshot.code ≡ Some code) × (s.returned ≡ Some step)
HasDriverObservation pace D most s (Leaves d status usage error) =
    IsDone pace D most s × (d.0 < length D.plan.devices)
    × ((device s.snapshot.world.views d).status ≡ status) × ((device s.snapshot.world.views d).usage ≡ usage) × ((device s.snapshot.world.views d).error ≡ error)
HasDriverObservation pace D most s (Sticks caller position) = IsStuck pace D most s × (slice_get s.positions caller ≡ Some position) × (is_out D caller position ≡ false)
