-- The rows of idle, of the helpers and of the control functions keep the shape of stacks.
use Rattle.std.proofs.Common.{ℕ, ◌≡◌, Bool, true, false, bit_or, Option, Some, None, ℤ, refl, ap, inl, inr}
use Rattle.std.proofs.lemmas.Nat.{and_or_apart}
use Rattle.pm_base.specs.declared.DevId.{DevId}
use Rattle.pm_base.specs.declared.Req.{Req}
use Rattle.pm_base.specs.declared.Req.TheVariants as req
use Rattle.pm_base.specs.declared.codes.TheConstants.{ASYNC, NOWAIT, AUTO}
use Rattle.pm_model.specs.declared.event.Command.{Command}
use Rattle.pm_model.specs.declared.event.Helper.{Helper}
use Rattle.pm_model.specs.declared.event.Helper.TheVariants as helper
use Rattle.pm_model.specs.declared.plan.Plan.{Plan}
use Rattle.pm_model.specs.declared.stage.Purpose.TheVariants.{Plain}
use Rattle.pm_model.specs.declared.stage.ControlStage.{ControlStage}
use Rattle.pm_model.specs.declared.stage.ControlStage.TheVariants as control
use Rattle.pm_model.specs.declared.stage.HelperStage.{HelperStage}
use Rattle.pm_model.specs.declared.stage.HelperStage.TheVariants as at
use Rattle.pm_model.specs.declared.stage.IdleStage.{IdleStage}
use Rattle.pm_model.specs.declared.stage.IdleStage.TheVariants as idle
use Rattle.pm_model.specs.declared.stage.Stage.TheVariants as stage
use Rattle.pm_model.specs.ControlTable.{enabling, disabling, disable_starts, disable_ends, barrier_idles, barrier_resumes, barrier_ends, active_starts, active_gives, active_unwinds, active_takes, active_links, suspended_starts, tells_supplier, suppliers_idle, forbidding, allowing, sets, schedules, link_adds, link_dels, is_pair_in, control_starts, control_row}
use Rattle.pm_model.specs.Derived.{has, first_held, first_free, next_supplier}
use Rattle.pm_model.specs.HelperTable.{begins, helper_starts, put_suspends, carries_out, timer_fires, helper_row}
use Rattle.pm_model.specs.IdleTable.{idle_verdict, idle_ends, after_put, idle_row}
use Rattle.pm_model.specs.ResumeTable.{is_supplied}
use Rattle.pm_model.specs.Row.{Row}
use Rattle.pm_model.specs.Views.{Views, pending_of}
use Rattle.pm_model.specs.WellFormed.{called_for, control_device}
use Rattle.pm_laws.specs.stacks.Shape.{Fits, none, own, lowers, raises, MayZero, call_of, idle_call, is_odd, lowering, returns_resume, is_put_suspend}
use Rattle.pm_laws.proofs.stacks.Found.{HeldAreRuntime, held_is, free_is, next_is, pair_is}
use Rattle.pm_laws.proofs.stacks.Nesting.{Gives, Nesting, odd_one, odd_five}
use Rattle.pm_laws.proofs.stacks.Obeying.{Obeys, ok, waiting, either, both, both_next}
use Rattle.pm_laws.proofs.stacks.SuspendNests.{tells_has}

-- the flag of autosuspend changes neither of the other two
odd_auto : (f : ℕ) → is_odd (bit_or f AUTO) ≡ is_odd f
unfolding has
odd_auto f = rw (and_or_apart ASYNC f AUTO refl, and_or_apart NOWAIT f AUTO refl) refl

auto_call : (d : DevId) (f : ℕ) → lowering d (bit_or f AUTO) ≡ lowering d f
auto_call d f = ap (lowers d) (odd_auto f)

idle_verdict_nests : (plan : Plan) (v : Views) (t : ℕ) (d : DevId) (f : ℕ) → Obeys (Nesting plan (lowering d f)) (idle_verdict plan v d f t)
unfolding idle_verdict
idle_verdict_nests plan v t d f = search (both, ok, auto_call) depth 20

after_put_nests : (plan : Plan) (v : Views) (d : DevId) (f : ℕ) → Obeys (Nesting plan (lowering d f)) (after_put plan v d f)
unfolding after_put
after_put_nests plan v d f = search (both, ok) depth 12

pub idle_nests : (plan : Plan) (v : Views) (t : ℕ) (s : IdleStage) → Obeys (Nesting plan (idle_call s)) (idle_row plan v s t)
unfolding idle_ends
idle_nests plan v t (idle.Enter d f) = search ok depth 12
idle_nests plan v t (idle.Verdict d f) = idle_verdict_nests plan v t d f
idle_nests plan v t (idle.Running d f since) = search ok depth 12
idle_nests plan v t (idle.Done d f c) = search (both_next, ok, auto_call) depth 12
idle_nests plan v t (idle.Queued d f) = search ok depth 12
idle_nests plan v t (idle.AfterPut d f) = after_put_nests plan v d f

abbrev Nests : Plan → Option DevId → Row → Type 0
Nests plan d row = Obeys (Nesting plan (own d)) row

begins_nest : (plan : Plan) (c : Command) (t : ℕ) → Gives plan (own (called_for c.helper c.dev)) (begins c t)
begins_nest plan c t = go c.helper
  where
    go : (h : Helper) → Gives plan (own (called_for h c.dev)) (begins (record c { helper = h }) t)
    go helper.Resume = search
    go _ = search

helper_starts_nest : (plan : Plan) (v : Views) (c : Command) → Nests plan (Some c.dev) (helper_starts v c)
unfolding helper_starts
helper_starts_nest plan v c = go c.helper
  where
    go : (h : Helper) → Nests plan (Some c.dev) (helper_starts v (record c { helper = h }))
    go helper.GetSync = search ok depth 12
    go _ = search (both, ok) depth 12

put_suspends_nest : (plan : Plan) (v : Views) (c : Command) → is_put_suspend c.helper ≡ true → Nests plan (Some c.dev) (put_suspends plan v c)
unfolding put_suspends
put_suspends_nest plan v c is = go c.helper is
  where
    go : (h : Helper) → is_put_suspend h ≡ true → Nests plan (Some c.dev) (put_suspends plan v (record c { helper = h }))
    go helper.GetSync is = cc
    go _ is = first_of (cc, search (both, ok) depth 12)

timer_nests : (plan : Plan) (v : Views) (d : DevId) → Obeys (Nesting plan none) (timer_fires v d)
unfolding timer_fires
timer_nests plan v d = ok (tt, tt, tt)

pub helper_nests : (plan : Plan) (v : Views) (t : ℕ) (s : HelperStage) → Fits plan (stage.Helper s) → Obeys (Nesting plan (call_of (stage.Helper s))) (helper_row plan v s t)
helper_nests plan v t (at.Call c) fits = ok (begins_nest plan c t)
helper_nests plan v t (at.Work d) fits = ok (go (pending_of v d).request)
  where
    go : (r : Req) → Gives plan none (carries_out d r)
    go req.Nothing = tt
    go req.Resume = (tt, tt, refl)
    go _ = (tt, tt, tt)
helper_nests plan v t (at.Timer d) fits = timer_nests plan v d
helper_nests plan v t (at.Start c) fits = helper_starts_nest plan v c
helper_nests plan v t (at.PutSuspends c) fits = put_suspends_nest plan v c fits
helper_nests plan v t (at.Delay ms since) fits = ok tt
helper_nests plan v t (at.Ret h d c) fits = ok tt

disabling_nests : (plan : Plan) (v : Views) (d : DevId) → Nests plan (Some d) (disabling v d)
unfolding disabling
disabling_nests plan v d = search (both, ok) depth 12

disable_ends_nest : (plan : Plan) (v : Views) (d : DevId) → Nests plan (Some d) (disable_ends v d)
unfolding disable_ends
disable_ends_nest plan v d = search (both, ok, waiting) depth 12

barrier_idles_nest : (plan : Plan) (v : Views) (d : DevId) (c : ℤ) → Nests plan (Some d) (barrier_idles v d c)
unfolding barrier_idles
barrier_idles_nest plan v d c = search (both, ok) depth 12

barrier_resumes_nest : (plan : Plan) (v : Views) (d : DevId) → Nests plan (Some d) (barrier_resumes plan v d)
unfolding barrier_resumes
barrier_resumes_nest plan v d = search (both, ok, barrier_idles_nest) depth 12

barrier_ends_nest : (plan : Plan) (v : Views) (d : DevId) (c : ℤ) → Nests plan (Some d) (barrier_ends v d c)
unfolding barrier_ends
barrier_ends_nest plan v d c = search (both, ok, waiting) depth 12

active_gives_nest : (plan : Plan) (v : Views) (d : DevId) (c : ℤ) (x : Option (ℕ × DevId)) → is_supplied c ≡ false → first_held plan v d ≡ x
    → Nests plan (Some d) (active_gives d c x)
active_gives_nest plan v d c (Some link) bad e = ok (tt, (tt, (link.0, link.1, held_is plan v d link e, odd_five link.1), (bad, refl)))
active_gives_nest plan v d c None bad e = search ok depth 12

active_unwinds_nest : (plan : Plan) (v : Views) (d : DevId) (c : ℤ) → is_supplied c ≡ false → Nests plan (Some d) (active_unwinds plan v d c)
unfolding active_unwinds
active_unwinds_nest plan v d c bad = active_gives_nest plan v d c (first_held plan v d) bad refl

active_takes_nest : (plan : Plan) (v : Views) (d : DevId) (x : Option (ℕ × DevId)) → first_free plan v d ≡ x → Nests plan (Some d) (active_takes plan v d x)
active_takes_nest plan v d (Some link) e = ok (tt, (tt, (link.1, free_is plan v d link e, refl), (tt, refl)))
active_takes_nest plan v d None e = search (both, ok, active_unwinds_nest) depth 12

active_links_nest : (plan : Plan) (v : Views) (d : DevId) → Nests plan (Some d) (active_links plan v d)
unfolding active_links
active_links_nest plan v d = active_takes_nest plan v d (first_free plan v d) refl

tells_nest : (plan : Plan) (v : Views) (d : DevId) (last : Option DevId) (x : Option (ℕ × DevId)) → next_supplier plan v d last ≡ x
    → Nests plan (Some d) (tells_supplier plan v d x)
tells_nest plan v d last (Some link) e = ok (tt, (tt, (link.0, next_is plan v d last link e, odd_one link.1), (tt, refl)))
tells_nest plan v d last None e = search (either, ok, tells_has, odd_one) depth 12

suppliers_nest : (plan : Plan) (v : Views) (d : DevId) (last : Option DevId) → Nests plan (Some d) (suppliers_idle plan v d last)
unfolding suppliers_idle
suppliers_nest plan v d last = tells_nest plan v d last (next_supplier plan v d last) refl

-- each of the helpers that set the autosuspend
abbrev IsSetting : Plan → Helper → DevId → Type 0
IsSetting plan h d = (returns_resume h ≡ false) × (called_for h d ≡ Some d) × MayZero plan h d (raises d 0 Plain) × MayZero plan h d (lowering d 8)

even_eight : (d : DevId) → lowering d 8 ≡ lowers d false
unfolding has
even_eight d = refl

sets_nest : (plan : Plan) (v : Views) (h : Helper) (d : DevId) (use_auto : Bool) (delay : ℤ) → IsSetting plan h d → Nests plan (Some d) (sets plan v h d use_auto delay)
unfolding sets
sets_nest plan v h d use_auto delay is = rw (← is.1) (search (both, ok, is.0, is.2, is.3) depth 12)

dels_nest : (plan : Plan) (v : Views) (c s : DevId) → HeldAreRuntime plan v → Nests plan (Some c) (link_dels plan v c s)
unfolding link_dels
dels_nest plan v c s runtime = search (either, ok, told) depth 12
  where
    told : is_pair_in plan c s v.held ≡ true → MayZero plan helper.LinkDel c (lowering s 5)
    told is = let it = pair_is plan v c s runtime is in (it.link, s, it.is, odd_five s)

odd_nine : (d : DevId) → lowering d 9 ≡ lowers d true
unfolding has
odd_nine d = refl

control_starts_nest : (plan : Plan) (v : Views) (c : Command) (t : ℕ) → HeldAreRuntime plan v → Nests plan (Some c.dev) (control_starts plan v c t)
unfolding control_starts schedules enabling disable_starts disabling active_starts suspended_starts allowing forbidding link_adds
control_starts_nest plan v c t runtime = go c.helper
  where
    go : (h : Helper) → Nests plan (Some c.dev) (control_starts plan v (record c { helper = h }) t)
    go helper.Enable = search (both, ok) depth 12
    go _ = search (both, ok, sets_nest, dels_nest, odd_nine, even_eight, inl, inr) depth 20

pub control_nests : (plan : Plan) (v : Views) (t : ℕ) (s : ControlStage) → HeldAreRuntime plan v → Fits plan (stage.Control s)
    → Nests plan (Some (control_device s)) (control_row plan v s t)
control_nests plan v t (control.Start c) runtime h = control_starts_nest plan v c t runtime
control_nests plan v t (control.DisablePut d) runtime h = search ok depth 12
control_nests plan v t (control.Disable d) runtime h = disabling_nests plan v d
control_nests plan v t (control.Disabled d) runtime h = disable_ends_nest plan v d
control_nests plan v t (control.BarrierResume d) runtime h = barrier_resumes_nest plan v d
control_nests plan v t (control.BarrierIdle d c) runtime h = barrier_idles_nest plan v d c
control_nests plan v t (control.BarrierWait d c) runtime h = barrier_ends_nest plan v d c
control_nests plan v t (control.ActiveLinks d) runtime h = active_links_nest plan v d
control_nests plan v t (control.ActiveUnwind d c) runtime h = active_unwinds_nest plan v d c h
control_nests plan v t (control.SuppliersIdle d last) runtime h = suppliers_nest plan v d last
