-- The rows of the control functions say what they may.
use Rattle.std.proofs.Common.{ℕ, ◌≡◌, ◌+◌, ◌≤◌, true, ◌&&◌, Option, Some, None, ℤ, pos, int_le, nat_abs, length, arith}
use Rattle.std.proofs.lemmas.Grind.{common_steps}
use Rattle.pm_base.specs.declared.DevId.{DevId}
use Rattle.pm_base.specs.declared.limits.TheConstants.{MAX_MS}
use Rattle.pm_model.specs.declared.event.Command.{Command}
use Rattle.pm_model.specs.declared.event.Helper.{Helper}
use Rattle.pm_model.specs.declared.event.Helper.TheVariants as helper
use Rattle.pm_model.specs.declared.plan.Plan.{Plan}
use Rattle.pm_model.specs.declared.stage.ControlStage.{ControlStage}
use Rattle.pm_model.specs.declared.stage.ControlStage.TheVariants as control
use Rattle.pm_model.specs.declared.stage.Stage.{Stage}
use Rattle.pm_model.specs.declared.stage.Stage.TheVariants as stage
use Rattle.pm_model.specs.ControlTable.{active_gives, active_links, active_starts, active_takes, active_unwinds, allowing, barrier_ends, barrier_idles, barrier_resumes, control_row, control_starts, disable_ends, disable_starts, disabling, enabling, forbidding, link_adds, link_dels, schedules, sets, suppliers_idle, suspended_starts, tells_supplier}
use Rattle.pm_model.specs.Derived.{first_free, first_held, next_supplier}
use Rattle.pm_model.specs.IsPlan.{is_command}
use Rattle.pm_model.specs.Row.{Row}
use Rattle.pm_model.specs.Views.{Views}
use Rattle.pm_laws.specs.stacks.Fit.{IsTold}
use Rattle.pm_laws.proofs.stacks.Obeying.{Obeys, both, ok, waiting}
use Rattle.pm_laws.proofs.stacks.Tests.{rear}
use Rattle.pm_laws.proofs.bounds.Saying.{Saying, payload, zero_ret}

abbrev Says : Plan → Views → ℕ → Stage → Row → Type 0
Says plan v t s row = Obeys (Saying plan v t s) row

disabling_says : (plan : Plan) (v : Views) (t : ℕ) (s : Stage) (d : DevId) → Says plan v t s (disabling v d)
unfolding disabling
disabling_says plan v t s d = search (both, ok) depth 12

disable_ends_say : (plan : Plan) (v : Views) (t : ℕ) (s : Stage) (d : DevId) → Says plan v t s (disable_ends v d)
unfolding disable_ends
disable_ends_say plan v t s d = search (both, ok, waiting) depth 12

barrier_idles_say : (plan : Plan) (v : Views) (t : ℕ) (s : Stage) (d : DevId) (c : ℤ) → Says plan v t s (barrier_idles v d c)
unfolding barrier_idles
barrier_idles_say plan v t s d c = search (both, ok) depth 12

barrier_resumes_say : (plan : Plan) (v : Views) (t : ℕ) (s : Stage) (d : DevId) → Says plan v t s (barrier_resumes plan v d)
unfolding barrier_resumes
barrier_resumes_say plan v t s d = search (both, ok, barrier_idles_say, payload) depth 12

barrier_ends_say : (plan : Plan) (v : Views) (t : ℕ) (s : Stage) (d : DevId) (c : ℤ) → Says plan v t s (barrier_ends v d c)
unfolding barrier_ends
barrier_ends_say plan v t s d c = search (both, ok, waiting) depth 12

active_gives_say : (plan : Plan) (v : Views) (t : ℕ) (s : Stage) (d : DevId) (c : ℤ) (x : Option (ℕ × DevId)) → Says plan v t s (active_gives d c x)
active_gives_say plan v t s d c (Some link) = search ok depth 20
active_gives_say plan v t s d c None = search ok depth 12

active_unwinds_say : (plan : Plan) (v : Views) (t : ℕ) (s : Stage) (d : DevId) (c : ℤ) → Says plan v t s (active_unwinds plan v d c)
unfolding active_unwinds
active_unwinds_say plan v t s d c = active_gives_say plan v t s d c (first_held plan v d)

active_takes_say : (plan : Plan) (v : Views) (t : ℕ) (s : Stage) (d : DevId) (x : Option (ℕ × DevId)) → Says plan v t s (active_takes plan v d x)
active_takes_say plan v t s d (Some link) = search ok depth 20
active_takes_say plan v t s d None = search (both, ok, active_unwinds_say) depth 12

active_links_say : (plan : Plan) (v : Views) (t : ℕ) (s : Stage) (d : DevId) → Says plan v t s (active_links plan v d)
unfolding active_links
active_links_say plan v t s d = active_takes_say plan v t s d (first_free plan v d)

supplier_says : (plan : Plan) (v : Views) (t : ℕ) (s : Stage) (d : DevId) (x : Option (ℕ × DevId)) → Says plan v t s (tells_supplier plan v d x)
supplier_says plan v t s d (Some link) = search (ok, payload) depth 20
supplier_says plan v t s d None = search (both, ok, payload) depth 20

suppliers_say : (plan : Plan) (v : Views) (t : ℕ) (s : Stage) (d : DevId) (last : Option DevId) → Says plan v t s (suppliers_idle plan v d last)
unfolding suppliers_idle
suppliers_say plan v t s d last = supplier_says plan v t s d (next_supplier plan v d last)

schedules_say : (plan : Plan) (v : Views) (t : ℕ) (s : Stage) (d : DevId) (ms : ℕ) → ms ≤ 1000000 → Says plan v t s (schedules plan v d ms t)
unfolding schedules
schedules_say plan v t s d ms few = let soon : t + ms ≤ t + 1000000 = omega (arith, few) in search (both, ok, payload) depth 20

-- a number of milliseconds
pub few_ms : (n : ℤ) → int_le (pos 0) n && int_le n (pos MAX_MS) ≡ true → nat_abs n ≤ 1000000
few_ms n within = grind (arith, common_steps)

control_starts_say : (plan : Plan) (v : Views) (t : ℕ) (s : Stage) (c : Command) → is_command (length plan.devices) c ≡ true → Says plan v t s (control_starts plan v c t)
unfolding control_starts enabling disable_starts disabling active_starts suspended_starts allowing forbidding sets link_adds link_dels
control_starts_say plan v t s c is = go c.helper is
  where
    go : (h : Helper) → is_command (length plan.devices) (record c { helper = h }) ≡ true → Says plan v t s (control_starts plan v (record c { helper = h }) t)
    go helper.ScheduleSuspend is = schedules_say plan v t s c.dev (nat_abs c.number) (few_ms c.number (rear _ _ is))
    go _ is = search (both, ok, payload, zero_ret) depth 20

pub control_says : (plan : Plan) (v : Views) (t : ℕ) (whole : Stage) (s : ControlStage) → IsTold plan v (stage.Control s)
    → Obeys (Saying plan v t whole) (control_row plan v s t)
control_says plan v t whole (control.Start c) told = control_starts_say plan v t whole c told
control_says plan v t whole (control.DisablePut d) told = search ok depth 12
control_says plan v t whole (control.Disable d) told = disabling_says plan v t whole d
control_says plan v t whole (control.Disabled d) told = disable_ends_say plan v t whole d
control_says plan v t whole (control.BarrierResume d) told = barrier_resumes_say plan v t whole d
control_says plan v t whole (control.BarrierIdle d c) told = barrier_idles_say plan v t whole d c
control_says plan v t whole (control.BarrierWait d c) told = barrier_ends_say plan v t whole d c
control_says plan v t whole (control.ActiveLinks d) told = active_links_say plan v t whole d
control_says plan v t whole (control.ActiveUnwind d c) told = active_unwinds_say plan v t whole d c
control_says plan v t whole (control.SuppliersIdle d last) told = suppliers_say plan v t whole d last
