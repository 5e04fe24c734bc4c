-- For which link a resume was called, and whether its supplier is still on its way (device_link.rst).
use Rattle.std.specs.Prelude.{ℕ, Bool, true, false, not, ◌&&◌, ◌||◌, List, Option, Some, None, ℤ, pos, nat_eq, slice_get}
use Rattle.std.specs.Option.{option_map, option_map_or}
use Rattle.std.specs.Ordering.{int_eq}
use Rattle.pm_base.specs.declared.DevId.{DevId}
use Rattle.pm_model.specs.declared.plan.Plan.{Plan}
use Rattle.pm_model.specs.declared.stage.Await.{Await}
use Rattle.pm_model.specs.declared.stage.Await.TheVariants as await
use Rattle.pm_model.specs.declared.stage.Purpose.{Purpose}
use Rattle.pm_model.specs.declared.stage.Purpose.TheVariants as purpose
use Rattle.pm_model.specs.declared.stage.ResumeStage.TheVariants as resume
use Rattle.pm_model.specs.declared.stage.Stage.{Stage}
use Rattle.pm_model.specs.declared.stage.Stage.TheVariants as stage
use Rattle.pm_model.specs.Excuse.{awaits_supplier}
use Rattle.pm_model.specs.Handing.{arrival}
use Rattle.pm_model.specs.World.{top}
use Rattle.pm_laws.specs.counts.Sums.{one}
use Rattle.pm_laws.specs.stacks.Shape.{Call, raises, call_of}
use Rattle.pm_laws.specs.safe.Needs.{gives_way}
use Rattle.pm_laws.specs.safe.Parts.{at_part}

abbrev pub link_of : Purpose → Option ℕ
link_of (purpose.Link l) = Some l
link_of _ = None

abbrev pub asked_by : Call → Option ℕ
asked_by (raises d f p) = link_of p
asked_by _ = None

-- the link for which the resume of a stage was called
abbrev pub asks : Stage → Option ℕ
asks s = asked_by (call_of s)

-- the link whose supplier's resume a stage awaits
abbrev pub awaits : Await → Option ℕ
awaits (await.ResumeSupplier r link) = Some link
awaits (await.ActiveSupplier d link) = Some link
awaits _ = None

abbrev pub is_up : ℤ → Bool
is_up c = int_eq c (pos 0) || int_eq c (pos 1)

-- the resume has made its device Active, or found it so
abbrev pub is_done : Stage → Bool
is_done (stage.Resume (resume.Idle r)) = true
is_done (stage.Resume (resume.Done r c)) = is_up c
is_done (stage.Resume (resume.Parent r c)) = is_up c
is_done (stage.Await (await.ResumeIdle r)) = true
is_done (stage.Await (await.ResumePut r c)) = is_up c
is_done _ = false

abbrev pub is_for : ℕ → Option ℕ → Bool
is_for l None = false
is_for l (Some k) = nat_eq l k

-- 1 at a stage of the resume that was called for link l and isn't done
abbrev pub pends : ℕ → Stage → ℕ
pends l s = one (not (is_done s) && is_for l (asks s))

-- 1 at a stage that gives back what d took, so that d needs no supplier any longer
abbrev pub falls_back : DevId → Stage → ℕ
falls_back d s = at_part gives_way d s

-- the code that is handed down this stack comes to the resume of link l's supplier, and doesn't say that it is up
abbrev pub is_bad_answer : ℕ → List Stage → ℤ → Bool
is_bad_answer l stack c = let come = arrival stack c in not (is_up come.1) && option_map_or (awaits_supplier l) (top None come.0) false

-- the device whose link this is
abbrev pub consumer : Plan → ℕ → Option DevId
consumer plan l = option_map (λ row. row.consumer) (slice_get plan.links l)
