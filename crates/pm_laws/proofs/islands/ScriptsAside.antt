-- The rows of the call table, and the change of events, don't read the scripts of a plan.
use Rattle.std.proofs.Common.{ℕ, ◌≡◌, true, List, refl}
use Rattle.pm_model.specs.declared.event.Event.{Event}
use Rattle.pm_model.specs.declared.plan.Plan.{Plan}
use Rattle.pm_model.specs.declared.rows.CallerRow.{CallerRow}
use Rattle.pm_model.specs.declared.stage.Change.{Change}
use Rattle.pm_model.specs.declared.stage.Stage.{Stage}
use Rattle.pm_model.specs.IsPlan.{is_plan}
use Rattle.pm_model.specs.Views.{Views}
use Rattle.pm_model.specs.World.{row}
use Rattle.pm_model.specs.Changes.{has_auto_timer, rcancel, callback_marks, enables, set_held, set_present}
use Rattle.pm_model.specs.ControlTable.{enabling, disabling, disable_starts, disable_ends, barrier_idles, barrier_resumes, barrier_ends, active_starts, active_unwinds, active_links, suspended_starts, suppliers_idle, forbidding, allowing, sets, schedules, link_adds, link_dels, control_starts}
use Rattle.pm_model.specs.Derived.{has, children, refusal, busy, expiry, minds_parent, callback_code, fields, up, down, first_held, first_free, next_supplier, has_link}
use Rattle.pm_model.specs.Events.{by_event, frees_links}
use Rattle.pm_model.specs.HelperTable.{helper_starts, put_suspends, timer_fires}
use Rattle.pm_model.specs.IdleTable.{idle_verdict, idle_ends, after_put}
use Rattle.pm_model.specs.PlanRows.{no_callbacks, has_idle, marks_busy, parent, domain, has_parent, parent_of, has_domain, codes_of, ms_of, domains_of}
use Rattle.pm_model.specs.ResumeTable.{leaves, resume_verdict, resume_links, resume_unwinds, resume_ends, resume_domain}
use Rattle.pm_model.specs.ChangeViews.{change_views, suspend_ended}
use Rattle.pm_model.specs.SuspendTable.{autosuspend_at, suspend_verdict, suspend_ends, suspend_links, suspend_domain, suspend_parent}

-- the plan with other callers
abbrev pub with_callers : (plan : Plan) (callers : List CallerRow) → is_plan plan.lines plan.trace plan.domains plan.devices plan.links callers ≡ true → Plan
with_callers plan callers law = record plan { callers = callers; law = law }

pub same_event : (plan : Plan) (callers : List CallerRow) (law : is_plan plan.lines plan.trace plan.domains plan.devices plan.links callers ≡ true) (t : ℕ) (e : Event) (v : Views) → by_event (with_callers plan callers law) t e v ≡ by_event plan t e v
unfolding has_auto_timer rcancel callback_marks enables set_held up down frees_links by_event domain domains_of parent
same_event plan callers law t e v = refl

pub same_change : (plan : Plan) (callers : List CallerRow) (law : is_plan plan.lines plan.trace plan.domains plan.devices plan.links callers ≡ true) (t : ℕ) (c : Change) (v : Views) → change_views (with_callers plan callers law) t c v ≡ change_views plan t c v
unfolding marks_busy has_auto_timer rcancel callback_marks enables set_present suspend_ended
same_change plan callers law t c v = refl

pub same_row : (plan : Plan) (callers : List CallerRow) (law : is_plan plan.lines plan.trace plan.domains plan.devices plan.links callers ≡ true) (v : Views) (s : Stage) (t : ℕ) → row (with_callers plan callers law) v s t ≡ row plan v s t
unfolding no_callbacks has_idle marks_busy parent domain has_parent parent_of has_domain codes_of ms_of domains_of has_auto_timer rcancel callback_marks enables set_held set_present has children refusal busy expiry minds_parent callback_code fields up down first_held first_free next_supplier has_link frees_links by_event idle_verdict idle_ends after_put autosuspend_at suspend_verdict suspend_ended suspend_ends suspend_links suspend_domain suspend_parent leaves resume_verdict resume_links resume_unwinds resume_ends resume_domain helper_starts put_suspends timer_fires enabling disabling disable_starts disable_ends barrier_idles barrier_resumes barrier_ends active_starts active_unwinds active_links suspended_starts suppliers_idle forbidding allowing sets schedules link_adds link_dels control_starts
same_row plan callers law v s t = refl
