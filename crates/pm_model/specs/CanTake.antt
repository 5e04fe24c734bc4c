-- When the counters can take a line: no count falls below zero or passes 2^32 - 1, and devices are the plan's (this
-- project's own).
use Rattle.std.specs.Prelude.{◌+◌, ◌^◌, ℕ, Bool, true, ◌&&◌, int_le, length, nat_le, nat_lt, neg_ℤ, pos}
use Rattle.std.specs.List.{enumerate_from, list_all}
use Rattle.pm_base.specs.declared.DevId.{DevId}
use Rattle.pm_base.specs.declared.Why.{Why}
use Rattle.pm_base.specs.declared.Why.TheVariants as why
use Rattle.pm_model.specs.declared.event.Event.{Event}
use Rattle.pm_model.specs.declared.event.Event.TheVariants as event
use Rattle.pm_model.specs.declared.event.Word.{Word}
use Rattle.pm_model.specs.declared.event.Word.TheVariants as word
use Rattle.pm_model.specs.declared.plan.Plan.{Plan}
use Rattle.pm_model.specs.declared.stage.Change.{Change}
use Rattle.pm_model.specs.declared.stage.Change.TheVariants as change
use Rattle.pm_model.specs.Derived.{begun}
use Rattle.pm_model.specs.Events.{held_from}
use Rattle.pm_model.specs.Views.{Views, device}
use Rattle.pm_model.specs.WellFormed.{is_in}

-- one more can be counted
abbrev pub has_room : ℕ → Bool
has_room n = nat_lt (n + 1) (2 ^ 32)

-- a setting of autosuspend is within its range
abbrev pub can_change : ℕ → Views → Change → Bool
can_change n v change.Same = true
can_change n v (change.Link consumer supplier present) = true
can_change n v (change.Disable d) = is_in n d && has_room (device v d).depth
can_change n v (change.DisableBusy d) = is_in n d && has_room (device v d).depth
can_change n v (change.DisableAtOnce d) = is_in n d && has_room (device v d).depth
can_change n v (change.Set d use_auto delay) = is_in n d && int_le (neg_ℤ (pos 1000000)) delay && int_le delay (pos 1000000)
can_change n v (change.CancelRequest d) = is_in n d
can_change n v (change.Disarm d) = is_in n d
can_change n v (change.Cancel d) = is_in n d
can_change n v (change.CancelAll d) = is_in n d
can_change n v (change.ResumeCancel d) = is_in n d
can_change n v (change.CallbackMarks d) = is_in n d
can_change n v (change.SuspendEnded d c) = is_in n d
can_change n v (change.MarkBusy d) = is_in n d
can_change n v (change.Enable d) = is_in n d
can_change n v (change.KeepStatus d) = is_in n d
can_change n v (change.Ignore d ignores) = is_in n d

-- one more count, and for a caller one more in the share
abbrev pub can_get : Views → DevId → Why → Bool
can_get v d why.Caller = has_room (device v d).usage && has_room (device v d).share
can_get v d _ = has_room (device v d).usage

-- one count less, and for a caller one less in the share
abbrev pub can_put : Views → DevId → Why → Bool
can_put v d why.Caller = nat_lt 0 (device v d).usage && nat_lt 0 (device v d).share
can_put v d _ = nat_lt 0 (device v d).usage

-- each supplier has the counts that its held links to d took
abbrev pub can_free : Plan → Views → DevId → Bool
can_free plan v d = list_all (λ p. nat_le (held_from plan v.held d p.0) p.1.usage) (enumerate_from 0 v.devices)

abbrev pub can_say : Plan → Views → DevId → Word → Bool
can_say plan v d word.ForcedSuspended = can_free plan v d
can_say plan v d _ = true

abbrev pub can_happen : Plan → Views → Event → Bool
can_happen plan v (event.Get d w) = is_in (length plan.devices) d && can_get v d w
can_happen plan v (event.Put d w) = is_in (length plan.devices) d && can_put v d w
can_happen plan v (event.State d w) = is_in (length plan.devices) d && can_say plan v d w
can_happen plan v (event.Begin d k) = is_in (length plan.devices) d && has_room (begun v k d)
can_happen plan v (event.End d k c) = is_in (length plan.devices) d
can_happen plan v (event.Domain d is_up count) = is_in (length plan.devices) d
can_happen plan v (event.Work d act) = is_in (length plan.devices) d
can_happen plan v (event.Timer d act) = is_in (length plan.devices) d
can_happen plan v _ = true

-- the counters can take a row's change and then its event
abbrev pub can_take : Plan → Views → Change → Event → Bool
can_take plan v c e = can_change (length plan.devices) v c && can_happen plan v e
