-- What the bonds of a device ask: its links held, its domain on, its parent Active (runtime_pm.rst, sections 2 and 4;
-- device_link.rst for links; the rule for domains is this project's own).
use Rattle.std.specs.Prelude.{ℕ, ◌≡◌, ◌⊎◌, Bool, true, not, ◌&&◌, ◌||◌}
use Rattle.std.specs.List.{list_all}
use Rattle.pm_base.specs.declared.DevId.{DevId}
use Rattle.pm_model.specs.declared.plan.Plan.{Plan}
use Rattle.pm_model.specs.declared.rows.LinkRow.{LinkRow}
use Rattle.pm_model.specs.declared.stage.Await.TheVariants as await
use Rattle.pm_model.specs.declared.stage.ResumeCall.{ResumeCall}
use Rattle.pm_model.specs.declared.stage.ResumeStage.TheVariants as resume
use Rattle.pm_model.specs.declared.stage.Stage.{Stage}
use Rattle.pm_model.specs.declared.stage.Stage.TheVariants as stage
use Rattle.pm_model.specs.Derived.{is_active}
use Rattle.pm_model.specs.Excuse.{is_excused_from_domain, is_excused_from_parent}
use Rattle.pm_model.specs.History.{History}
use Rattle.pm_model.specs.PlanRows.{has_parent, domains_of}
use Rattle.pm_model.specs.Views.{Views, is_on, is_present}
use Rattle.pm_model.specs.World.{world}
use Rattle.pm_laws.specs.safe.Needs.{needs_domain, needs_parent, Needs}

-- link l is one that a device takes: it has pm_runtime and is present
abbrev pub is_taken : Views → ℕ → LinkRow → Bool
is_taken v l row = is_present v l && row.pm_runtime

-- d's domain and all above it are on, where d needs them, unless it is excused
abbrev pub DomainStays : Plan → History → DevId → Type 0
DomainStays plan h d =
    Needs (world plan h) needs_domain d → (list_all (is_on (world plan h).views) (domains_of plan d) ≡ true) ⊎ (is_excused_from_domain plan h d ≡ true)

-- d's parent p is Active, where d needs it, unless it is excused
abbrev pub ParentStays : Plan → History → DevId → DevId → Type 0
ParentStays plan h d p = Needs (world plan h) needs_parent d → (is_active (world plan h).views p ≡ true) ⊎ (is_excused_from_parent plan h d p ≡ true)

-- the mark held is set where there is a parent
abbrev pub has_count : Plan → ResumeCall → Bool
has_count plan r = not (has_parent plan r.dev) || r.held

-- R2, R3, R4, R4b and R4c hold the count on the parent
abbrev pub is_marked : Plan → Stage → Bool
is_marked plan (stage.Resume (resume.Links r)) = has_count plan r
is_marked plan (stage.Resume (resume.Supplied r c)) = has_count plan r
is_marked plan (stage.Resume (resume.Callback r)) = has_count plan r
is_marked plan (stage.Resume (resume.Running r since)) = has_count plan r
is_marked plan (stage.Resume (resume.Resumed r)) = has_count plan r
is_marked plan (stage.Await (await.ResumeSupplier r link)) = has_count plan r
is_marked plan s = true
