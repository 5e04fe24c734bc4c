-- The rows of suspend keep the shape of stacks.
use Rattle.std.proofs.Common.{ℕ, ◌≡◌, true, false, Option, Some, None, refl, inl, inr}
use Rattle.pm_base.specs.declared.DevId.{DevId}
use Rattle.pm_model.specs.declared.plan.Plan.{Plan}
use Rattle.pm_model.specs.declared.stage.Stage.TheVariants as stage
use Rattle.pm_model.specs.declared.stage.SuspendStage.{SuspendStage}
use Rattle.pm_model.specs.declared.stage.SuspendStage.TheVariants as suspend
use Rattle.pm_model.specs.Derived.{first_held, has}
use Rattle.pm_model.specs.PlanRows.{no_callbacks, has_parent}
use Rattle.pm_model.specs.Row.{Row}
use Rattle.pm_model.specs.SuspendTable.{suspend_row, suspend_verdict, suspend_ends, suspend_gives, suspend_links, suspend_domain, suspend_parent, tells_parent}
use Rattle.pm_model.specs.Views.{Views}
use Rattle.pm_laws.specs.stacks.Shape.{Fits, IsSyncOrQuiet, suspend_call, lowering}
use Rattle.pm_base.specs.declared.codes.TheConstants.{ASYNC}
use Rattle.pm_laws.proofs.stacks.Found.{held_is}
use Rattle.pm_laws.proofs.stacks.Tests.{front, second}
use Rattle.pm_laws.proofs.stacks.Nesting.{Nesting, odd_one, odd_five}
use Rattle.pm_laws.proofs.stacks.Obeying.{Obeys, ok, waiting, either, both, both_next}

abbrev Nests : Plan → DevId → ℕ → Row → Type 0
Nests plan d f row = Obeys (Nesting plan (lowering d f)) row

sync : (plan : Plan) (d : DevId) (f : ℕ) → has f ASYNC ≡ false → IsSyncOrQuiet plan d f
sync plan d f e = inl e

quiet : (plan : Plan) (d : DevId) (f : ℕ) → no_callbacks plan d ≡ true → IsSyncOrQuiet plan d f
quiet plan d f e = inr e

verdict_nests : (plan : Plan) (v : Views) (t : ℕ) (d : DevId) (f : ℕ) → Nests plan d f (suspend_verdict plan v d f t)
unfolding suspend_verdict
verdict_nests plan v t d f = search (either, ok, second, sync, quiet) depth 20

gives_nests : (plan : Plan) (v : Views) (d : DevId) (f : ℕ) (x : Option (ℕ × DevId)) → has f ASYNC ≡ false → first_held plan v d ≡ x
    → Nests plan d f (suspend_gives v d f x)
gives_nests plan v d f (Some link) sync e = ok (tt, (tt, (link.0, link.1, held_is plan v d link e, odd_five link.1), (sync, refl)))
gives_nests plan v d f None synced e = search (both, ok, sync) depth 12

links_nest : (plan : Plan) (v : Views) (d : DevId) (f : ℕ) → has f ASYNC ≡ false → Nests plan d f (suspend_links plan v d f)
unfolding suspend_links
links_nest plan v d f sync = gives_nests plan v d f (first_held plan v d) sync refl

domain_nests : (plan : Plan) (v : Views) (d : DevId) (f : ℕ) → has f ASYNC ≡ false → Nests plan d f (suspend_domain plan v d f)
unfolding suspend_domain
domain_nests plan v d f sync = search (both, ok, links_nest) depth 12

pub tells_has : (plan : Plan) (v : Views) (d : DevId) → tells_parent plan v d ≡ true → has_parent plan d ≡ true
tells_has plan v d tells = front _ _ tells

parent_nests : (plan : Plan) (v : Views) (d : DevId) (f : ℕ) → IsSyncOrQuiet plan d f → Nests plan d f (suspend_parent plan v d f)
unfolding suspend_parent
parent_nests plan v d f fits = search (either, ok, tells_has, odd_one) depth 12

ends_nest : (plan : Plan) (v : Views) (t : ℕ) (d : DevId) (f : ℕ) → has f ASYNC ≡ false → Nests plan d f (suspend_ends plan v d f t)
unfolding suspend_ends
ends_nest plan v t d f sync = search (both_next, ok) depth 12

pub suspend_nests : (plan : Plan) (v : Views) (t : ℕ) (s : SuspendStage) → Fits plan (stage.Suspend s)
    → Obeys (Nesting plan (suspend_call s)) (suspend_row plan v s t)
suspend_nests plan v t (suspend.Enter d f) h = search ok depth 12
suspend_nests plan v t (suspend.Verdict d f) h = verdict_nests plan v t d f
suspend_nests plan v t (suspend.Waiting d f) h = search (both, waiting, verdict_nests) depth 12
suspend_nests plan v t (suspend.Running d f since) h = ends_nest plan v t d f h
suspend_nests plan v t (suspend.Domain d f) h = domain_nests plan v d f h
suspend_nests plan v t (suspend.Links d f) h = links_nest plan v d f h
suspend_nests plan v t (suspend.Deferred d f) h = search ok depth 12
suspend_nests plan v t (suspend.Parent d f) h = parent_nests plan v d f h
suspend_nests plan v t (suspend.Done d f c) h = search ok depth 12
