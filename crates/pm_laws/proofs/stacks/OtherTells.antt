-- The rows of the helpers and of the control functions tell what is the plan's.
use Rattle.std.proofs.Common.{ℕ, ◌≡◌, Bool, true, false, Option, Some, None, ℤ, nat_abs, length, nat_eq, nat_lt, if◌then◌else◌, refl}
use Rattle.std.specs.Option.{option_map_or}
use Rattle.pm_base.specs.declared.DevId.{DevId}
use Rattle.pm_base.specs.declared.Req.{Req}
use Rattle.pm_base.specs.declared.Req.TheVariants as req
use Rattle.pm_model.specs.declared.event.Command.{Command}
use Rattle.pm_model.specs.declared.event.Event.TheVariants as event
use Rattle.pm_model.specs.declared.event.Helper.{Helper}
use Rattle.pm_model.specs.declared.event.Helper.TheVariants as helper
use Rattle.pm_model.specs.declared.event.WorkAct.TheVariants.{Run}
use Rattle.pm_model.specs.declared.plan.Plan.{Plan}
use Rattle.pm_model.specs.declared.stage.Change.TheVariants as change
use Rattle.pm_model.specs.declared.stage.ControlStage.{ControlStage}
use Rattle.pm_model.specs.declared.stage.ControlStage.TheVariants as control
use Rattle.pm_model.specs.declared.stage.HelperStage.{HelperStage}
use Rattle.pm_model.specs.declared.stage.HelperStage.TheVariants as at
use Rattle.pm_model.specs.declared.stage.Stage.TheVariants as stage
use Rattle.pm_model.specs.declared.stage.Then.{Then}
use Rattle.pm_model.specs.Changes.{has_auto_timer}
use Rattle.pm_model.specs.ControlTable.{enabling, disabling, disable_starts, disable_ends, barrier_idles, barrier_resumes, barrier_ends, active_starts, active_gives, active_unwinds, active_takes, active_links, suspended_starts, tells_supplier, suppliers_idle, forbidding, allowing, sets, schedules, link_adds, link_dels, control_starts, control_row}
use Rattle.pm_model.specs.Derived.{first_held, first_free, next_supplier}
use Rattle.pm_model.specs.HelperTable.{begins, helper_starts, put_suspends, carries_out, timer_fires, helper_row}
use Rattle.pm_model.specs.IsPlan.{is_command, is_operand}
use Rattle.pm_model.specs.LineOf.{is_device_of}
use Rattle.pm_model.specs.Row.{Row, writes}
use Rattle.pm_model.specs.Spelling.{operand_of, takes_device}
use Rattle.pm_model.specs.Views.{Views, device, pending_of}
use Rattle.pm_model.specs.WellFormed.{called_for, control_device, is_in}
use Rattle.pm_laws.specs.stacks.Fit.{HasDelays, IsTold, control_code, is_delay, is_result}
use Rattle.pm_laws.specs.stacks.Shape.{Fits, is_put_suspend}
use Rattle.pm_laws.proofs.stacks.Found.{held_is, free_is, next_is}
use Rattle.pm_laws.proofs.stacks.Obeying.{Obeys, ok, waiting, either, both}
use Rattle.pm_laws.proofs.stacks.PlanLaw.{parent_in, supplier_in}
use Rattle.pm_laws.proofs.stacks.SuspendNests.{tells_has}
use Rattle.pm_laws.proofs.stacks.Telling.{IsSound, LeavesFit, Telling, flags_told, no_time, refusal_result, this_time}
use Rattle.pm_laws.proofs.stacks.Tests.{front, rear}

abbrev Tells : Plan → Views → ℕ → Row → Type 0
Tells plan v t row = Obeys (Telling plan v t) row

-- a command of this helper
abbrev IsOf : Plan → Command → Helper → Type 0
IsOf plan c h = is_command (length plan.devices) (record c { helper = h }) ≡ true

command_in : (plan : Plan) (c : Command) (h : Helper) → takes_device h ≡ true → IsOf plan c h → is_in (length plan.devices) c.dev ≡ true
command_in plan c h takes is =
    let n = length plan.devices in
    let k : (if takes_device h then nat_lt c.dev.0 n else nat_eq c.dev.0 0) ≡ true = front _ (is_operand n h (operand_of h) c.number) is in rw takes at k

begins_tell : (plan : Plan) (v : Views) (c : Command) (t : ℕ) → is_command (length plan.devices) c ≡ true
    → (let next : Then = begins c t in LeavesFit plan v t (event.Call c) next.back next.push)
begins_tell plan v c t is = go c.helper is
  where
    go : (h : Helper) → IsOf plan c h → (let next : Then = begins (record c { helper = h }) t in LeavesFit plan v t (event.Call (record c { helper = h })) next.back next.push)
    go helper.Delay is = ((refl, refl, refl, this_time t, rear _ _ is), tt)
    go h is = let inside = command_in plan c h refl is in search no_time

helper_starts_tell : (plan : Plan) (v : Views) (c : Command) (t : ℕ) → is_command (length plan.devices) c ≡ true → Tells plan v t (helper_starts v c)
unfolding helper_starts
helper_starts_tell plan v c t is = go c.helper is
  where
    go : (h : Helper) → IsOf plan c h → Tells plan v t (helper_starts v (record c { helper = h }))
    go helper.Delay is = ok ((front _ _ is, refl), tt, refl)
    go h is = let inside = command_in plan c h refl is in search (both, ok, no_time) depth 12

put_suspends_tell : (plan : Plan) (v : Views) (c : Command) (t : ℕ) → is_command (length plan.devices) c ≡ true → is_put_suspend c.helper ≡ true
    → Tells plan v t (put_suspends plan v c)
unfolding put_suspends
put_suspends_tell plan v c t is put = go c.helper is put
  where
    go : (h : Helper) → IsOf plan c h → is_put_suspend h ≡ true → Tells plan v t (put_suspends plan v (record c { helper = h }))
    go helper.Delay is put = cc
    go h is put = let inside = command_in plan c h refl is in first_of (cc, search (both, ok, flags_told, no_time) depth 12)

timer_tells : (plan : Plan) (v : Views) (t : ℕ) (d : DevId) → is_in (length plan.devices) d ≡ true → Tells plan v t (timer_fires v d)
unfolding timer_fires
timer_tells plan v t d inside = ok (inside, tt, ((inside, go (has_auto_timer v d), refl, no_time t, tt), tt))
  where
    go : (b : Bool) → nat_lt (if b then 9 else 1) 16 ≡ true
    go true = refl
    go false = refl

-- what a work item carries out
carries_tell : (plan : Plan) (v : Views) (t : ℕ) (d : DevId) → is_in (length plan.devices) d ≡ true → Tells plan v t (helper_row plan v (at.Work d) t)
carries_tell plan v t d inside = go (pending_of v d).request
  where
    go : (r : Req) → Tells plan v t (writes (event.Work d (Run r)) change.Same (carries_out d r))
    go req.Nothing = ok ((inside, refl), tt, refl)
    go req.Idle = search (ok, no_time) depth 12
    go req.Suspend = search (ok, no_time) depth 12
    go req.Autosuspend = search (ok, no_time) depth 12
    go req.Resume = search (ok, no_time) depth 12

pub helper_tells : (plan : Plan) (v : Views) (t : ℕ) (s : HelperStage) → IsSound plan v t (stage.Helper s) → Fits plan (stage.Helper s)
    → Obeys (Telling plan v t) (helper_row plan v s t)
helper_tells plan v t (at.Call c) (device, small, good, since, told) fits = ok (told, tt, begins_tell plan v c t told)
helper_tells plan v t (at.Work d) (device, small, good, since, told) fits = carries_tell plan v t d device
helper_tells plan v t (at.Timer d) (device, small, good, since, told) fits = timer_tells plan v t d device
helper_tells plan v t (at.Start c) (device, small, good, since, told) fits = helper_starts_tell plan v c t told
helper_tells plan v t (at.PutSuspends c) (device, small, good, since, told) fits = put_suspends_tell plan v c t told fits
helper_tells plan v t (at.Delay ms since_then) (device, small, good, since, told) fits = ok ((refl, refl), tt, refl)
helper_tells plan v t (at.Ret h d c) (device, small, good, since, told) fits = ok ((told, good), tt, good)

disabling_tells : (plan : Plan) (v : Views) (t : ℕ) (d : DevId) → is_in (length plan.devices) d ≡ true → Tells plan v t (disabling v d)
unfolding disabling
disabling_tells plan v t d inside = search (both, ok, no_time) depth 12

disable_ends_tell : (plan : Plan) (v : Views) (t : ℕ) (d : DevId) → is_in (length plan.devices) d ≡ true → Tells plan v t (disable_ends v d)
unfolding disable_ends
disable_ends_tell plan v t d inside = search (both, ok, waiting, no_time) depth 12

barrier_idles_tell : (plan : Plan) (v : Views) (t : ℕ) (d : DevId) (c : ℤ) → is_in (length plan.devices) d ≡ true → is_result c ≡ true
    → Tells plan v t (barrier_idles v d c)
unfolding barrier_idles
barrier_idles_tell plan v t d c inside good = search (both, ok, no_time) depth 12

barrier_resumes_tell : (plan : Plan) (v : Views) (t : ℕ) (d : DevId) → is_in (length plan.devices) d ≡ true → Tells plan v t (barrier_resumes plan v d)
unfolding barrier_resumes
barrier_resumes_tell plan v t d inside = search (both, ok, barrier_idles_tell, flags_told, no_time) depth 12

barrier_ends_tell : (plan : Plan) (v : Views) (t : ℕ) (d : DevId) (c : ℤ) → is_in (length plan.devices) d ≡ true → is_result c ≡ true
    → Tells plan v t (barrier_ends v d c)
unfolding barrier_ends
barrier_ends_tell plan v t d c inside good = search (both, ok, waiting, no_time) depth 12

active_gives_tell : (plan : Plan) (v : Views) (t : ℕ) (d : DevId) (c : ℤ) (x : Option (ℕ × DevId)) → is_in (length plan.devices) d ≡ true → is_result c ≡ true
    → first_held plan v d ≡ x → Tells plan v t (active_gives d c x)
active_gives_tell plan v t d c (Some link) inside good e =
    let lent = supplier_in plan link.0 d link.1 (held_is plan v d link e) in search (ok, no_time) depth 20
active_gives_tell plan v t d c None inside good e = search (ok, no_time) depth 12

active_unwinds_tell : (plan : Plan) (v : Views) (t : ℕ) (d : DevId) (c : ℤ) → is_in (length plan.devices) d ≡ true → is_result c ≡ true
    → Tells plan v t (active_unwinds plan v d c)
unfolding active_unwinds
active_unwinds_tell plan v t d c inside good = active_gives_tell plan v t d c (first_held plan v d) inside good refl

active_takes_tell : (plan : Plan) (v : Views) (t : ℕ) (d : DevId) (x : Option (ℕ × DevId)) → is_in (length plan.devices) d ≡ true → first_free plan v d ≡ x
    → Tells plan v t (active_takes plan v d x)
active_takes_tell plan v t d (Some link) inside e =
    let free = free_is plan v d link e in let lent = supplier_in plan link.0 d link.1 free in
    ok ((lent, (link.0, free)), tt, ((lent, refl, refl, no_time t, tt), ((inside, refl, refl, no_time t, tt), tt)))
active_takes_tell plan v t d None inside e = search (both, ok, active_unwinds_tell, no_time) depth 12

active_links_tell : (plan : Plan) (v : Views) (t : ℕ) (d : DevId) → is_in (length plan.devices) d ≡ true → Tells plan v t (active_links plan v d)
unfolding active_links
active_links_tell plan v t d inside = active_takes_tell plan v t d (first_free plan v d) inside refl

supplier_tells : (plan : Plan) (v : Views) (t : ℕ) (d : DevId) (last : Option DevId) (x : Option (ℕ × DevId)) → is_in (length plan.devices) d ≡ true
    → next_supplier plan v d last ≡ x → Tells plan v t (tells_supplier plan v d x)
supplier_tells plan v t d last (Some link) inside e =
    let lent = supplier_in plan link.0 d link.1 (next_is plan v d last link e) in search (ok, flags_told, no_time) depth 20
supplier_tells plan v t d last None inside e = search (either, ok, tells_has, parent_in, flags_told, no_time) depth 20

suppliers_tell : (plan : Plan) (v : Views) (t : ℕ) (d : DevId) (last : Option DevId) → is_in (length plan.devices) d ≡ true
    → Tells plan v t (suppliers_idle plan v d last)
unfolding suppliers_idle
suppliers_tell plan v t d last inside = supplier_tells plan v t d last (next_supplier plan v d last) inside refl

sets_tell : (plan : Plan) (v : Views) (t : ℕ) (h : Helper) (d : DevId) (use_auto : Bool) (delay : ℤ) → is_in (length plan.devices) d ≡ true
    → is_device_of (length plan.devices) h d ≡ true → (option_map_or (is_in (length plan.devices)) (called_for h d) true ≡ true) → is_delay delay ≡ true
    → Tells plan v t (sets plan v h d use_auto delay)
unfolding sets
sets_tell plan v t h d use_auto delay inside device called within = search (both, ok, flags_told, no_time) depth 20

dels_tell : (plan : Plan) (v : Views) (t : ℕ) (c s : DevId) → is_in (length plan.devices) c ≡ true → is_in (length plan.devices) s ≡ true
    → Tells plan v t (link_dels plan v c s)
unfolding link_dels
dels_tell plan v t c s inside lent = search (both, ok, no_time) depth 20

control_starts_tell : (plan : Plan) (v : Views) (c : Command) (t : ℕ) → HasDelays v → is_command (length plan.devices) c ≡ true
    → Tells plan v t (control_starts plan v c t)
unfolding control_starts schedules enabling disable_starts disabling active_starts suspended_starts allowing forbidding link_adds
control_starts_tell plan v c t has is = go c.helper is
  where
    go : (h : Helper) → IsOf plan c h → Tells plan v t (control_starts plan v (record c { helper = h }) t)
    go helper.Delay is = ok ((front _ _ is, refl), tt, refl)
    go helper.SetAutosuspendDelay is = let inside = command_in plan c helper.SetAutosuspendDelay refl is in sets_tell plan v t _ c.dev _ _ inside inside inside (rear _ _ is)
    go helper.LinkDel is = dels_tell plan v t c.dev (record { 0 = nat_abs c.number }) (front _ _ is) (rear _ _ (rear _ _ is))
    go h is =
        let inside = command_in plan c h refl is in
        search (both, ok, sets_tell, has, flags_told, refusal_result, no_time) depth 20

pub control_tells : (plan : Plan) (v : Views) (t : ℕ) (s : ControlStage) → HasDelays v → is_in (length plan.devices) (control_device s) ≡ true
    → is_result (control_code s) ≡ true → IsTold plan v (stage.Control s) → Obeys (Telling plan v t) (control_row plan v s t)
control_tells plan v t (control.Start c) has inside good told = control_starts_tell plan v c t has told
control_tells plan v t (control.DisablePut d) has inside good told = search (ok, no_time) depth 12
control_tells plan v t (control.Disable d) has inside good told = disabling_tells plan v t d inside
control_tells plan v t (control.Disabled d) has inside good told = disable_ends_tell plan v t d inside
control_tells plan v t (control.BarrierResume d) has inside good told = barrier_resumes_tell plan v t d inside
control_tells plan v t (control.BarrierIdle d c) has inside good told = barrier_idles_tell plan v t d c inside good
control_tells plan v t (control.BarrierWait d c) has inside good told = barrier_ends_tell plan v t d c inside good
control_tells plan v t (control.ActiveLinks d) has inside good told = active_links_tell plan v t d inside
control_tells plan v t (control.ActiveUnwind d c) has inside good told = active_unwinds_tell plan v t d c inside good
control_tells plan v t (control.SuppliersIdle d last) has inside good told = suppliers_tell plan v t d last inside
