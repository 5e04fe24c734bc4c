-- What `orders --seen` may come to (this project's own).
use Rattle.std.specs.Prelude.{◌≡◌, ⊤, ℕ, Bool, ◌||◌, List, ◌++◌, Option, Some, None, codes, is_some, IsSome, length, reverse, slice_get}
use Rattle.pm_cmd_ends.specs.Reading.{Holds, IsRead, IsTooLong}
use Rattle.pm_cmd_lab.specs.orders.Orders.{IslandsFound, outcomes_in, reach_in, snapshots_in}
use Rattle.pm_cmd_lab.specs.orders.OrdersOutcome.{outcome_of_schedules}
use Rattle.pm_cmd_lab.specs.ends.Coming.{ending_of}
use Rattle.pm_cmd_lab.specs.ends.Ending.{Ending, Refused}
use Rattle.pm_cmd_lab.specs.declared.ends.ending.Fault.{Fault}
use Rattle.pm_cmd_lab.specs.declared.ends.ending.Fault.TheVariants as fault
use Rattle.pm_lab_words.specs.declared.request.Bounds.{Bounds}
use Rattle.pm_outcomes.specs.declared.list.observations.Outcome.{Outcome}
use Rattle.pm_model.specs.declared.plan.Plan.{Plan}
use Rattle.pm_outcomes.specs.text.Seen.{seen_line}
use Rattle.pm_outcomes.specs.text.Texts.{differs, told}
use Rattle.pm_outcomes.specs.kernel_log.Placing.{AreListed, IsFirstUnlisted, IsWhole}
use Rattle.pm_outcomes.specs.kernel_log.Runs.{outcome_of}
use Rattle.pm_outcomes.specs.declared.kernel_log.tells.Tell.{Tell}

abbrev pub log_too_long : List ℕ
log_too_long = codes "log: too_long\n"

abbrev pub no_outcome : List ℕ
no_outcome = codes "log: no_outcome\n"

-- why the bytes of a log aren't read whole: they are too many, a read failed, or memory ran out
abbrev pub IsLogUnheld : Bool → Option (List ℕ) → Type 0 → Fault → Type 0
IsLogUnheld all known Unread (fault.Refused text) = IsTooLong all known 67108864 × (text.items ≡ log_too_long)
IsLogUnheld all known Unread fault.ReadFailed = Unread
IsLogUnheld all known Unread fault.WriteFailed = ⊥
IsLogUnheld all known Unread fault.NoMemory = ⊤

-- of what is told, in order, the first that no observation shows, if there is one
abbrev pub IsPlaced : List Outcome → List Tell → Option Tell → Type 0
IsPlaced observations tells None = AreListed observations tells (length tells)
IsPlaced observations tells (Some t) = (place : ℕ) × IsFirstUnlisted observations tells place × (slice_get tells place ≡ Some t)

-- over what a log tells: the text of `orders`, and behind it a line for the first that no observation shows
pub record SeenEnds (bounds : Bounds) (differ : Bool) (tells : List Tell) (plan : Plan) (ending : Ending) : Type 0 where
  pub found : IslandsFound bounds plan
  pub unlisted : Option Tell
  pub placed : IsPlaced (outcomes_in found.islands) tells unlisted
  pub is : ending ≡ ending_of (outcome_of_schedules (reach_in found.islands) (differs (outcomes_in found.islands) || is_some unlisted))
      (told plan differ (reach_in found.islands) (snapshots_in found.islands) (outcomes_in found.islands) ++ seen_line plan (reach_in found.islands) unlisted)

-- over the file of a log: it has too many bytes; the last run that it tells of has no whole outcome; or it has, in this schedule
pub data OfSeen (all : Bool) (known : Option (List ℕ)) (bounds : Bounds) (differ : Bool) (plan : Plan) : Ending → Type 0 where
  too_many : IsTooLong all known 67108864 → OfSeen all known bounds differ plan (Refused log_too_long)
  lacks : (bytes : List ℕ) → Holds all known 67108864 bytes → ((tells : List Tell) → outcome_of plan bytes ≡ Some (reverse tells) → ¬ IsWhole plan tells)
      → OfSeen all known bounds differ plan (Refused no_outcome)
  tells_of : (bytes : List ℕ) → Holds all known 67108864 bytes → (tells : List Tell) → outcome_of plan bytes ≡ Some (reverse tells) → IsWhole plan tells
      → (ending : Ending) → SeenEnds bounds differ tells plan ending → OfSeen all known bounds differ plan ending

-- which file's read failed, of a plan and a log: the plan's, and no other file was asked for where all is told of it; or the log's,
-- and the plan was read
pub data SeenUnread (all : Bool) (known : Option (List ℕ)) (plan log : List ℕ) (Alone Failed : Type 0) : List ℕ → Type 0 where
  of_plan : (IsSome known → Alone) → Failed → SeenUnread all known plan log Alone Failed plan
  of_log : (read : Plan) → IsRead all known read → Failed → SeenUnread all known plan log Alone Failed log
