-- What is kept of a device: the moment at which its status was last said, and its times until then.
use Rattle.std.specs.Prelude.{ℕ, ◌≡◌, ◌+◌, ◌-◌, ◌<◌, ◌≤◌, List, Option, length, slice_index_or}
use Rattle.std.specs.Option.{option_and_then, option_map_or}
use Rattle.pm_base.specs.declared.DevId.{DevId}
use Rattle.pm_base.specs.declared.Status.{Status}
use Rattle.pm_base.specs.declared.Status.TheVariants.{Active, Suspended, Suspending, Resuming}
use Rattle.pm_model.specs.declared.event.Line.{Line}
use Rattle.pm_model.specs.Counted.{is_same, only_if, says_status, status_of}
use Rattle.pm_model.specs.History.{History}
use Rattle.pm_model.specs.Lawful.{last_time}
use Rattle.pm_account.specs.declared.Times.{Times}
use Rattle.pm_account.specs.declared.stay.Stay.{Stay}
use Rattle.pm_account.specs.Times.{times_of}

-- so many milliseconds more in this status
abbrev pub longer : Status → ℕ → Times → Times
longer Active ms x = record x { active = x.active + ms }
longer Suspended ms x = record x { suspended = x.suspended + ms }
longer Suspending ms x = record x { moving = x.moving + ms }
longer Resuming ms x = record x { moving = x.moving + ms }

abbrev pub total : Times → ℕ
total x = x.active + x.suspended + x.moving

-- the times of a device until a moment, if its status is said no more
abbrev pub until : Stay → ℕ → Times
until stay moment = longer stay.status (moment - stay.since) stay.before

-- its status is said at a moment
abbrev pub turned : Stay → Status → ℕ → Stay
turned stay status moment = record { status = status; since = moment; before = until stay moment }

-- its status was last said by this moment, and its times until then add up
pub record IsReady (moment : ℕ) (stay : Stay) : Type 0 where
  pub past : stay.since ≤ moment
  pub whole : total stay.before ≡ stay.since

abbrev pub unsaid : Stay
unsaid = record { status = Suspended; since = 0; before = record { active = 0; suspended = 0; moving = 0 } }

abbrev pub stay_at : List Stay → DevId → Stay
stay_at stays d = slice_index_or stays d.0 unsaid

-- what the device and the status that are told say of d
abbrev pub told_of : DevId → Option (DevId × Status) → Option Status
told_of d told = option_and_then (λ said. only_if (is_same d said.0) said.1) told

-- what a line makes of what is kept of d
abbrev pub behind : Line → DevId → Stay → Stay
behind line d stay = option_map_or (λ status. turned stay status line.time) (says_status d line.event) stay

-- what is kept of d is that of these lines
pub record IsKept (h : History) (d : DevId) (stay : Stay) : Type 0 where
  pub status : stay.status ≡ status_of h d
  pub ready : IsReady (last_time h) stay
  pub times : until stay (last_time h) ≡ times_of h d

-- what is kept of all devices is that of these lines
pub record AreKept (devices : ℕ) (h : History) (stays : List Stay) : Type 0 where
  pub entries : length stays ≡ devices
  pub each : (d : DevId) → d.0 < devices → IsKept h d (stay_at stays d)
