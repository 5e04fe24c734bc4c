-- What the views are, in words that name no stage (runtime_pm.rst, sections 3 to 5; device_link.rst): counts over all
-- lines, and what the last line said.
use Rattle.std.specs.Prelude.{ℕ, ◌+◌, ◌-◌, Bool, true, false, ◌&&◌, [], ◌∷◌, Option, Some, None, ℤ, pos, nat_eq, count_by, if◌then◌else◌}
use Rattle.std.specs.List.{list_any}
use Rattle.std.specs.Ordering.{int_eq}
use Rattle.pm_base.specs.declared.Cb.{Cb}
use Rattle.pm_base.specs.declared.Cb.TheVariants as cb
use Rattle.pm_base.specs.declared.DevId.{DevId}
use Rattle.pm_base.specs.declared.Status.{Status}
use Rattle.pm_base.specs.declared.Status.TheVariants as status
use Rattle.pm_base.specs.declared.Why.{Why}
use Rattle.pm_base.specs.declared.Why.TheVariants as why
use Rattle.pm_model.specs.declared.event.Event.{Event}
use Rattle.pm_model.specs.declared.event.Event.TheVariants as event
use Rattle.pm_model.specs.declared.event.Word.{Word}
use Rattle.pm_model.specs.declared.event.Word.TheVariants as word
use Rattle.pm_model.specs.declared.plan.Plan.{Plan}
use Rattle.pm_model.specs.History.{History, last_said, of_event}
use Rattle.pm_model.specs.PlanRows.{is_kept_on}
use Rattle.pm_model.specs.Views.{Views}
use Rattle.pm_model.specs.Derived.{up, down}
use Rattle.pm_model.specs.Events.{held_from, is_try_again}
use Rattle.pm_model.specs.World.{world}

abbrev pub is_same : DevId → DevId → Bool
is_same d e = nat_eq e.0 d.0

abbrev pub is_callers : Why → Bool
is_callers why.Caller = true
is_callers _ = false

-- whether an event takes a count on d, and whether it gives one back; for a caller, or for any reason
abbrev pub takes : (Why → Bool) → DevId → Event → Bool
takes reason d (event.Get e w) = is_same d e && reason w
takes reason d _ = false

abbrev pub gives_back : (Why → Bool) → DevId → Event → Bool
gives_back reason d (event.Put e w) = is_same d e && reason w
gives_back reason d _ = false

abbrev pub gets : (Why → Bool) → History → DevId → ℕ
gets reason h d = count_by (λ line. takes reason d line.event) h

abbrev pub puts : (Why → Bool) → History → DevId → ℕ
puts reason h d = count_by (λ line. gives_back reason d line.event) h

-- the counts on d that a forced_suspended line gives back: one for each held link from its device
abbrev pub frees : Plan → Views → DevId → Event → ℕ
frees plan v d (event.State consumer word.ForcedSuspended) = held_from plan v.held consumer d.0
frees plan v d _ = 0

abbrev pub freed : Plan → History → DevId → ℕ
freed plan [] d = 0
freed plan (line ∷ h) d = frees plan (world plan h).views d line.event + freed plan h d

-- the gets of d less its puts, less what forced_suspended lines gave back
abbrev pub usage : Plan → History → DevId → ℕ
usage plan h d = gets (λ w. true) h d - (puts (λ w. true) h d + freed plan h d)

-- the gets of callers less their puts
abbrev pub share : History → DevId → ℕ
share h d = gets is_callers h d - puts is_callers h d

abbrev pub word_status : Word → Status
word_status word.Active = status.Active
word_status word.Resuming = status.Resuming
word_status word.Suspended = status.Suspended
word_status word.Deferred = status.Suspended
word_status word.ForcedActive = status.Active
word_status word.ForcedSuspended = status.Suspended

abbrev pub only_if : {A : Type 0} → Bool → A → Option A
only_if b x = if b then Some x else None

-- a status line by its word; a suspend callback's begin, and its end with a code other than 0
abbrev pub says_status : DevId → Event → Option Status
says_status d (event.State e w) = only_if (is_same d e) (word_status w)
says_status d (event.Begin e cb.Suspend) = only_if (is_same d e) status.Suspending
says_status d (event.End e cb.Suspend c) = if int_eq c (pos 0) then None else only_if (is_same d e) status.Active
says_status d _ = None

abbrev pub status_of : History → DevId → Status
status_of h d = last_said (of_event (says_status d)) status.Suspended h

abbrev pub is_forced : Word → Bool
is_forced word.ForcedActive = true
is_forced word.ForcedSuspended = true
is_forced _ = false

-- the end of a resume with a code other than 0, that of a suspend unless it asks to try again, and a forced status
abbrev pub says_error : DevId → Event → Option ℤ
says_error d (event.End e cb.Resume c) = if int_eq c (pos 0) then None else only_if (is_same d e) c
says_error d (event.End e cb.Suspend c) = if int_eq c (pos 0) then None else if is_try_again c then None else only_if (is_same d e) c
says_error d (event.State e w) = if is_forced w then only_if (is_same d e) (pos 0) else None
says_error d _ = None

abbrev pub error_of : History → DevId → ℤ
error_of h d = last_said (of_event (says_error d)) (pos 0) h

-- the last get or put of d for forbid
abbrev pub says_auto : DevId → Event → Option Bool
says_auto d (event.Get e why.Forbid) = only_if (is_same d e) false
says_auto d (event.Put e why.Forbid) = only_if (is_same d e) true
says_auto d _ = None

abbrev pub is_allowed : History → DevId → Bool
is_allowed h d = last_said (of_event (says_auto d)) true h

abbrev pub is_cb : Cb → Cb → Bool
is_cb cb.Idle cb.Idle = true
is_cb cb.Suspend cb.Suspend = true
is_cb cb.Resume cb.Resume = true
is_cb _ _ = false

-- a callback's begin and end
abbrev pub says_runs : Cb → DevId → Event → Option Bool
says_runs k d (event.Begin e j) = only_if (is_cb k j && is_same d e) true
says_runs k d (event.End e j c) = only_if (is_cb k j && is_same d e) false
says_runs k d _ = None

-- the callback of d has begun and not ended
abbrev pub runs : Cb → DevId → History → Bool
runs k d h = last_said (of_event (says_runs k d)) false h

-- the get and the put of supplier s for consumer c, and a forced_suspended of c
abbrev pub says_held : DevId → DevId → Event → Option Bool
says_held c s (event.Get e (why.Link x)) = only_if (is_same s e && is_same c x) true
says_held c s (event.Put e (why.Link x)) = only_if (is_same s e && is_same c x) false
says_held c s (event.State e word.ForcedSuspended) = only_if (is_same c e) false
says_held c s _ = None

abbrev pub is_held_pair : History → DevId → DevId → Bool
is_held_pair h c s = last_said (of_event (says_held c s)) false h

-- whether an event on these views switches domain o, and how
abbrev pub says_on : Plan → Views → ℕ → Event → Option Bool
says_on plan v o (event.Domain d is_up n) =
    if is_up then only_if (list_any (nat_eq o) (up plan v d)) true else only_if (list_any (nat_eq o) (down plan v d)) false
says_on plan v o _ = None

-- the last pm_domain line that switches domain o
abbrev pub is_switched_on : Plan → History → ℕ → Bool
is_switched_on plan h o = last_said (λ g line. says_on plan (world plan g).views o line.event) (is_kept_on plan.domains o) h
