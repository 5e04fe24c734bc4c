-- The definitions that are opened where a run is computed.
use Rattle.std.specs.Fmt.{digits}
use Rattle.pm_model.specs.PlanRows.{no_callbacks, has_idle, marks_busy, parent, domain, has_parent, parent_of, has_domain, codes_of, ms_of, domains_of}
use Rattle.pm_model.specs.Changes.{has_auto_timer, rcancel, callback_marks, enables, set_held, set_present}
use Rattle.pm_model.specs.ChangeViews.{suspend_ended}
use Rattle.pm_model.specs.Derived.{has, children, refusal, busy, expiry, minds_parent, callback_code, fields, up, down, first_held, first_free, next_supplier, has_link}
use Rattle.pm_model.specs.Events.{frees_links, by_event}
use Rattle.pm_model.specs.IdleTable.{idle_verdict, idle_ends, after_put}
use Rattle.pm_model.specs.SuspendTable.{autosuspend_at, suspend_verdict, suspend_ends, suspend_links, suspend_domain, suspend_parent}
use Rattle.pm_model.specs.ResumeTable.{leaves, resume_verdict, resume_links, resume_unwinds, resume_ends, resume_domain}
use Rattle.pm_model.specs.HelperTable.{helper_starts, put_suspends, timer_fires}
use Rattle.pm_model.specs.ControlTable.{enabling, disabling, disable_starts, disable_ends, barrier_idles, barrier_resumes, barrier_ends, active_starts, active_unwinds, active_links, suspended_starts, suppliers_idle, forbidding, allowing, sets, schedules, link_adds, link_dels, control_starts}
use Rattle.pm_model.specs.Handing.{take_code}

-- `unfolding call_table` opens all of them
unfoldable pub call_table : Unit {0}
unfolding digits no_callbacks has_idle marks_busy parent domain has_parent parent_of has_domain codes_of ms_of domains_of has_auto_timer rcancel callback_marks enables set_held set_present has children refusal busy expiry minds_parent callback_code fields up down first_held first_free next_supplier has_link frees_links by_event idle_verdict idle_ends after_put autosuspend_at suspend_verdict suspend_ended suspend_ends suspend_links suspend_domain suspend_parent leaves resume_verdict resume_links resume_unwinds resume_ends resume_domain helper_starts put_suspends timer_fires enabling disabling disable_starts disable_ends barrier_idles barrier_resumes barrier_ends active_starts active_unwinds active_links suspended_starts suppliers_idle forbidding allowing sets schedules link_adds link_dels control_starts take_code
call_table = tt
