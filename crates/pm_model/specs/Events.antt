-- What a line's event makes of the views of itself, whoever writes it and at whatever stage (runtime_pm.rst,
-- section 3): counts, statuses, errors, callbacks, links, domains, requests and timers.
use Rattle.std.specs.Prelude.{ℕ, ◌+◌, ◌-◌, Bool, true, false, ◌&&◌, ◌||◌, List, Some, ℤ, pos, map, nat_eq, count_by, fold, slice_set, if◌then◌else◌}
use Rattle.std.specs.List.{enumerate_from, zip}
use Rattle.std.specs.Ordering.{int_eq}
use Rattle.pm_base.specs.declared.Cb.{Cb}
use Rattle.pm_base.specs.declared.Cb.TheVariants as cb
use Rattle.pm_base.specs.declared.DevId.{DevId}
use Rattle.pm_base.specs.declared.Req.TheVariants.{Nothing}
use Rattle.pm_base.specs.declared.Status.{Status}
use Rattle.pm_base.specs.declared.Status.TheVariants as status
use Rattle.pm_base.specs.declared.Why.{Why}
use Rattle.pm_base.specs.declared.Why.TheVariants as why
use Rattle.pm_base.specs.declared.codes.TheConstants.{EAGAIN, EBUSY}
use Rattle.pm_model.specs.declared.event.Event.{Event}
use Rattle.pm_model.specs.declared.event.Event.TheVariants as event
use Rattle.pm_model.specs.declared.event.TimerAct.{TimerAct}
use Rattle.pm_model.specs.declared.event.TimerAct.TheVariants.{Arm, Fire}
use Rattle.pm_model.specs.declared.event.Word.{Word}
use Rattle.pm_model.specs.declared.event.Word.TheVariants as word
use Rattle.pm_model.specs.declared.event.WorkAct.{WorkAct}
use Rattle.pm_model.specs.declared.event.WorkAct.TheVariants.{Queue, Defer, Run}
use Rattle.pm_model.specs.declared.plan.Plan.{Plan}
use Rattle.pm_model.specs.Views.{Views, device, with_device, with_timer}
use Rattle.pm_model.specs.Changes.{set_request, set_queued, set_deferred, set_last_busy, set_held, disarm}
use Rattle.pm_model.specs.Derived.{up, down}

abbrev pub set_status : Status → DevId → Views → Views
set_status s d v = with_device v d (record (device v d) { status = s })

abbrev pub set_error : ℤ → DevId → Views → Views
set_error c d v = with_device v d (record (device v d) { error = c })

abbrev pub set_usage : ℕ → DevId → Views → Views
set_usage n d v = with_device v d (record (device v d) { usage = n })

abbrev pub set_share : ℕ → DevId → Views → Views
set_share n d v = with_device v d (record (device v d) { share = n })

abbrev pub set_auto : Bool → DevId → Views → Views
set_auto b d v = with_device v d (record (device v d) { auto_on = b })

-- what a get changes beside the usage
abbrev pub got : Plan → DevId → Why → Views → Views
got plan d why.Caller v = set_share ((device v d).share + 1) d v
got plan d why.Forbid v = set_auto false d v
got plan d (why.Link consumer) v = set_held plan consumer d true v
got plan d _ v = v

-- what a put changes beside the usage
abbrev pub gave : Plan → DevId → Why → Views → Views
gave plan d why.Caller v = set_share ((device v d).share - 1) d v
gave plan d why.Forbid v = set_auto true d v
gave plan d (why.Link consumer) v = set_held plan consumer d false v
gave plan d _ v = v

-- the held links of consumer d to supplier s
abbrev pub held_from : Plan → List Bool → DevId → ℕ → ℕ
held_from plan held d s = count_by (λ p. nat_eq p.0.consumer.0 d.0 && nat_eq p.0.supplier.0 s && p.1) (zip plan.links held)

-- every held link of d is free, and its supplier has its count back
unfoldable pub frees_links : Plan → DevId → Views → Views
frees_links plan d v = record v {
  devices = map (λ p. record p.1 { usage = p.1.usage - held_from plan v.held d p.0 }) (enumerate_from 0 v.devices);
  held = map (λ p. if nat_eq p.0.consumer.0 d.0 then false else p.1) (zip plan.links v.held);
}

abbrev pub by_word : Plan → ℕ → DevId → Word → Views → Views
by_word plan t d word.Active v = set_last_busy t d (set_status status.Active d v)
by_word plan t d word.Resuming v = set_status status.Resuming d v
by_word plan t d word.Suspended v = disarm d (set_status status.Suspended d v)
by_word plan t d word.Deferred v = set_deferred false d (disarm d (set_status status.Suspended d v))
by_word plan t d word.ForcedActive v = set_error (pos 0) d (set_status status.Active d v)
by_word plan t d word.ForcedSuspended v = frees_links plan d (disarm d (set_error (pos 0) d (set_status status.Suspended d v)))

abbrev pub by_begin : DevId → Cb → Views → Views
by_begin d cb.Idle v = with_device v d (record (device v d) { idle_running = true; begun_idle = (device v d).begun_idle + 1 })
by_begin d cb.Suspend v = with_device v d (record (device v d) { status = status.Suspending; begun_suspend = (device v d).begun_suspend + 1 })
by_begin d cb.Resume v = with_device v d (record (device v d) { begun_resume = (device v d).begun_resume + 1 })

-- -EAGAIN and -EBUSY of a suspend callback leave the device active without an error (runtime_pm.rst, section 2)
abbrev pub is_try_again : ℤ → Bool
is_try_again c = int_eq c EAGAIN || int_eq c EBUSY

-- a failed suspend leaves the device active
abbrev pub suspend_failed : DevId → ℤ → Views → Views
suspend_failed d c v = if is_try_again c then set_status status.Active d v else set_error c d (set_status status.Active d v)

abbrev pub by_end : DevId → Cb → ℤ → Views → Views
by_end d cb.Idle c v = with_device v d (record (device v d) { idle_running = false })
by_end d cb.Suspend c v = if int_eq c (pos 0) then v else suspend_failed d c v
by_end d cb.Resume c v = if int_eq c (pos 0) then v else set_error c d v

-- these domains are switched
abbrev pub switches : Bool → List ℕ → Views → Views
switches b domains v = record v { on = fold (λ on o. slice_set on o b) v.on domains }

abbrev pub by_work : DevId → WorkAct → Views → Views
by_work d (Queue r) v = set_queued true d (set_request r d v)
by_work d Defer v = set_deferred true d v
by_work d (Run r) v = set_queued false d (set_request Nothing d v)

abbrev pub by_timer : DevId → TimerAct → Views → Views
by_timer d (Arm at autosuspends) v = with_timer v d (Some (record { deadline = at; autosuspends = autosuspends }))
by_timer d (Fire autosuspends) v = disarm d v

-- the views after an event of a line at t
unfoldable pub by_event : Plan → ℕ → Event → Views → Views
by_event plan t (event.Get d w) v = got plan d w (set_usage ((device v d).usage + 1) d v)
by_event plan t (event.Put d w) v = gave plan d w (set_usage ((device v d).usage - 1) d v)
by_event plan t (event.State d w) v = by_word plan t d w v
by_event plan t (event.Begin d k) v = by_begin d k v
by_event plan t (event.End d k c) v = by_end d k c v
by_event plan t (event.Domain d is_up n) v = if is_up then switches true (up plan v d) v else switches false (down plan v d) v
by_event plan t (event.Work d act) v = by_work d act v
by_event plan t (event.Timer d act) v = by_timer d act v
by_event plan t _ v = v
