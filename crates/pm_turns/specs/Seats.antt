-- The seats of all actors in a row: callers, then work items, then timers, each in plan order (this project's own).
use Rattle.std.specs.Prelude.{◌≡◌, ◌≢◌, ◌+◌, ◌*◌, ◌-◌, ◌<◌, ◌≤◌, ◌^◌, ◌⊎◌, ℕ, zero, suc, true, List, [], ◌∷◌, ◌++◌, Option}
use Rattle.pm_base.specs.declared.ActorId.{ActorId}
use Rattle.pm_base.specs.declared.ActorId.TheVariants.{Caller, Work, Timer}
use Rattle.pm_index.specs.Moments.{NoneWithin, is_within, moment_of}
use Rattle.pm_model.specs.declared.plan.Plan.{Plan}
use Rattle.pm_state.specs.Seats.{actor_at, actor_in, seat_of}

-- how many callers and devices there are, the moment of each seat, the seat at which the search begins, and the time of
-- the last line
pub record Seating : Type 0 where
  pub callers : ℕ
  pub devices : ℕ
  pub moments : List (Option ℕ)
  pub seat : ℕ
  pub time : ℕ

-- a seat for each actor, and the search begins among callers and work items
pub record AreKept (callers devices moments seat time : ℕ) : Type 0 where
  pub few : callers + 2 * devices < 2 ^ 32
  pub each : moments ≡ callers + 2 * devices
  pub begins : seat ≤ callers + devices
  pub in_time : time < 2 ^ 63

abbrev pub IsSeated : Seating → ActorId → Type 0
IsSeated s (Caller c) = c < s.callers
IsSeated s (Work d) = d < s.devices
IsSeated s (Timer d) = d < s.devices

-- the seat of an actor
abbrev pub place_of : Seating → ActorId → ℕ
place_of s actor = seat_of s.callers s.devices actor

-- where the search begins after a line of this actor: at the next caller or work item, and after a timer's line at the
-- first caller
abbrev pub seat_after : Seating → ActorId → ℕ
seat_after s (Caller c) = c + 1
seat_after s (Work d) = s.callers + d + 1
seat_after s (Timer d) = 0

-- who writes, and when, by the seat
abbrev pub writer_at : Seating → ℕ × ℕ → ActorId × ℕ
writer_at s turn = (actor_at s.callers s.devices turn.0, turn.1)

abbrev pub writer_in : Plan → ℕ × ℕ → ActorId × ℕ
writer_in plan turn = (actor_in plan turn.0, turn.1)

-- the moment of an actor's seat
abbrev pub moment_by : Seating → ActorId → Option ℕ
moment_by s actor = moment_of s.moments (place_of s actor)

-- so many seats from this one on
abbrev pub span : (ℕ → ActorId) → ℕ → ℕ → List ActorId
span f i zero = []
span f i (suc n) = f i ∷ span f (i + 1) n

-- callers and work items once round from the seat, and then the timers
abbrev pub round_of : Seating → List ActorId
round_of s =
    let at = actor_at s.callers s.devices in
    span at s.seat (s.callers + s.devices - s.seat) ++ (span at 0 s.seat ++ span at (s.callers + s.devices) s.devices)

-- the moment of each seat is that of its actor
abbrev pub AreMoments : (ActorId → Option ℕ) → Seating → Type 0
AreMoments wake s = (i : ℕ) → i < s.callers + 2 * s.devices → moment_of s.moments i ≡ wake (actor_at s.callers s.devices i)

-- the first within t: from the seat among callers and work items; else the first of all
pub record IsFirst (s : Seating) (t i : ℕ) : Type 0 where
  pub within : is_within t (moment_of s.moments i) ≡ true
  pub below : i < s.callers + 2 * s.devices
  pub first : ((s.seat ≤ i) × (i < s.callers + s.devices) × NoneWithin s.moments t s.seat i) ⊎ (NoneWithin s.moments t s.seat (s.callers + s.devices) × NoneWithin s.moments t 0 i)

-- one actor has another moment
pub record Sets (s s' : Seating) (actor : ActorId) (moment : Option ℕ) : Type 0 where
  pub callers : s'.callers ≡ s.callers
  pub devices : s'.devices ≡ s.devices
  pub seat : s'.seat ≡ s.seat
  pub time : s'.time ≡ s.time
  pub set : moment_by s' actor ≡ moment
  pub others : (a : ActorId) → IsSeated s a → a ≢ actor → moment_by s' a ≡ moment_by s a

-- some actors are asked anew for their moments
pub record Asks (wake : ActorId → Option ℕ) (s s' : Seating) : Type 0 where
  pub callers : s'.callers ≡ s.callers
  pub devices : s'.devices ≡ s.devices
  pub seat : s'.seat ≡ s.seat
  pub time : s'.time ≡ s.time
  pub each : (a : ActorId) → IsSeated s a → (moment_by s' a ≡ wake a) ⊎ (moment_by s' a ≡ moment_by s a)
