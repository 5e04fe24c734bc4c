-- What the index of turns is after a list of lines (this project's own).
use Rattle.std.specs.Prelude.{◌≡◌, ◌+◌, ◌*◌, ◌<◌, ℕ, Bool, true, false, ◌||◌, List, [], ◌∷◌, Option, Some, length, slice_index_or}
use Rattle.pm_base.specs.declared.ActorId.{ActorId}
use Rattle.pm_base.specs.declared.ActorId.TheVariants.{Work, Timer}
use Rattle.pm_base.specs.declared.DevId.{DevId}
use Rattle.pm_index.specs.Marks.{is_marked}
use Rattle.pm_model.specs.declared.event.Line.{Line}
use Rattle.pm_model.specs.declared.plan.Plan.{Plan}
use Rattle.pm_model.specs.declared.stage.Change.{Change}
use Rattle.pm_model.specs.History.{History}
use Rattle.pm_model.specs.Lawful.{IsLawful, last_time}
use Rattle.pm_model.specs.Serial.{seat}
use Rattle.pm_model.specs.World.{World, place, world}
use Rattle.pm_laws.specs.turns.Looks.{device_at}
use Rattle.pm_laws.specs.turns.Told.{is_actor, told_wait, top_looks, wait_in}
use Rattle.pm_laws.specs.turns.Wakes.{wakes}
use Rattle.pm_turns.specs.Seats.{Asks, IsSeated, Seating, moment_by, place_of, seat_after}

-- the seats, and for each device a mark at each seat: whether who sits there is listed as waiting for the device
pub record Index : Type 0 where
  pub rows : Seating
  pub queues : List (List Bool)

-- the marks of one device
abbrev pub queue : Index → DevId → List Bool
queue x d = slice_index_or x.queues d.0 []

abbrev pub is_listed : Index → DevId → ActorId → Bool
is_listed x d actor = is_marked (queue x d) (place_of x.rows actor)

-- the actor is the work item or the timer of this device, or is listed for it
abbrev pub is_near : Index → DevId → ActorId → Bool
is_near x d actor = is_actor actor (Work d.0) || is_actor actor (Timer d.0) || is_listed x d actor

-- a line of this device may move the actor's moment: where it stirs none, only that of one who is listed for the device
abbrev pub is_reached : Bool → Index → DevId → ActorId → Bool
is_reached true x d actor = is_near x d actor
is_reached false x d actor = is_listed x d actor

-- each device has a mark for each seat
pub record AreQueues (rows : Seating) (queues : List (List Bool)) : Type 0 where
  pub each : length queues ≡ rows.devices
  pub marks : (d : ℕ) → d < rows.devices → length (slice_index_or queues d []) ≡ rows.callers + 2 * rows.devices

-- the seats are those of this plan, whatever its scripts
pub record AreOf (plan : Plan) (s : Seating) : Type 0 where
  pub callers : s.callers ≡ length plan.callers
  pub devices : s.devices ≡ length plan.devices

-- some actors are asked anew, and all who are listed for a device at seats below this one are
pub record Looked (wake : ActorId → Option ℕ) (x x' : Index) (d : DevId) (below : ℕ) : Type 0 where
  pub asks : Asks wake x.rows x'.rows
  pub queues : x'.queues ≡ x.queues
  pub right : (a : ActorId) → IsSeated x.rows a → place_of x.rows a < below → is_listed x d a ≡ true → moment_by x'.rows a ≡ wake a

-- where a run stands so, some actors are asked anew and nobody is listed no longer; all at seats below this one are asked,
-- and are listed for the device that they look at
pub record Seen (plan : Plan) (w : World) (x x' : Index) (below : ℕ) : Type 0 where
  pub asks : Asks (wakes plan w) x.rows x'.rows
  pub right : (a : ActorId) → IsSeated x.rows a → place_of x.rows a < below → moment_by x'.rows a ≡ wakes plan w a
  pub listed : (a : ActorId) (d : DevId) → IsSeated x.rows a → place_of x.rows a < below → d.0 < x.rows.devices → top_looks (place w a) ≡ Some d → is_listed x' d a ≡ true

-- all whom a line of this device may reach are asked anew, but for this one
pub record Touched (wake : ActorId → Option ℕ) (stirred : Bool) (x x' : Index) (d : DevId) (but : ActorId) : Type 0 where
  pub asks : Asks wake x.rows x'.rows
  pub queues : x'.queues ≡ x.queues
  pub right : (a : ActorId) → IsSeated x.rows a → is_actor a but ≡ false → is_reached stirred x d a ≡ true → moment_by x'.rows a ≡ wake a

-- all whom a line of this device may reach, if it is one, are asked anew, but for this one
pub record TouchedAny (wake : ActorId → Option ℕ) (stirred : Bool) (x x' : Index) (dev : Option DevId) (but : ActorId) : Type 0 where
  pub asks : Asks wake x.rows x'.rows
  pub queues : x'.queues ≡ x.queues
  pub right : (d : DevId) → dev ≡ Some d → (a : ActorId) → IsSeated x.rows a → is_actor a but ≡ false → is_reached stirred x d a ≡ true → moment_by x'.rows a ≡ wake a

-- a line is noted: its writer and its time, and who waits for which device
pub record Noted (x x' : Index) (line : Line) : Type 0 where
  pub rows : x'.rows ≡ record x.rows { seat = seat_after x.rows line.actor; time = line.time }
  pub others : (a : ActorId) (d : DevId) → IsSeated x.rows a → is_actor a line.actor ≡ false → is_listed x d a ≡ true → is_listed x' d a ≡ true
  pub joined : (d : DevId) → wait_in line.event ≡ Some d → d.0 < x.rows.devices → is_listed x' d line.actor ≡ true

-- the line was written at a stage of this device, if it has one, by a row that names this change, and led to this world
pub record Leads (plan : Plan) (h : History) (line : Line) (at : Option DevId) (c : Change) (w : World) : Type 0 where
  pub lawful : IsLawful plan (line ∷ h)
  pub at_is : device_at lawful.0.stage ≡ at
  pub change_is : lawful.0.change ≡ c
  pub world_is : w ≡ world plan (line ∷ h)

-- the search begins after the last writer, each seat has the moment of its actor, and whoever waits for a device is
-- among those who are listed for it
pub record IsIndex (plan : Plan) (h : History) (x : Index) : Type 0 where
  pub of_plan : AreOf plan x.rows
  pub seat : x.rows.seat ≡ seat plan h
  pub time : x.rows.time ≡ last_time h
  pub moments : (a : ActorId) → IsSeated x.rows a → moment_by x.rows a ≡ wakes plan (world plan h) a
  pub waiting : (a : ActorId) (d : DevId) → IsSeated x.rows a → d.0 < x.rows.devices → told_wait a h ≡ Some d → is_listed x d a ≡ true
