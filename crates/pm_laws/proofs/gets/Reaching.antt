-- In a get_sync's call only what is reached from its device is resumed.
use Rattle.std.proofs.Common.{ℕ, ◌≡◌, Bool, true, false, not, ◌&&◌, List, [], ◌∷◌, Option, Some, None, nat_eq, is_some, slice_get, refl, sym, subst}
use Rattle.std.specs.Option.{unwrap_or}
use Rattle.pm_base.specs.declared.DevId.{DevId}
use Rattle.pm_base.specs.declared.codes.TheConstants.{ASYNC}
use Rattle.pm_model.specs.declared.event.Helper.{Helper}
use Rattle.pm_model.specs.declared.event.Helper.TheVariants as helper
use Rattle.pm_model.specs.declared.plan.Plan.{Plan}
use Rattle.pm_model.specs.declared.rows.LinkRow.{LinkRow}
use Rattle.pm_model.specs.declared.stage.Await.{Await}
use Rattle.pm_model.specs.declared.stage.Await.TheVariants as await
use Rattle.pm_model.specs.declared.stage.Stage.{Stage}
use Rattle.pm_model.specs.declared.stage.Stage.TheVariants as stage
use Rattle.pm_model.specs.Counted.{is_same}
use Rattle.pm_model.specs.Derived.{has}
use Rattle.pm_model.specs.PlanRows.{has_parent, parent, parent_of}
use Rattle.pm_model.specs.Views.{Views, is_held, is_present}
use Rattle.pm_laws.proofs.counts.Links.{neither}
use Rattle.pm_laws.specs.stacks.Shape.{Call, none, own, lowers, raises, is_odd, call_of, helper_call, IsLink, May, Fits, Nested}
use Rattle.pm_laws.proofs.stacks.Tests.{front, same_device, same_self}
use Rattle.pm_laws.proofs.safe.Steps.{differ}
use Rattle.pm_laws.specs.safe.Bonds.{is_taken}
use Rattle.pm_laws.specs.gets.Answered.{is_get_sync, some_of}
use Rattle.pm_laws.specs.gets.Alone.{Reached, itself, by_parent, by_link}
use Rattle.pm_laws.proofs.gets.Watching.{lacks, is_get_of, stands_on}

-- what may stand in a get_sync of d above its own stage: a resume of what is reached, and an idle, a suspend or what
-- follows a put, with ASYNC
abbrev pub IsPart : Plan → Views → DevId → Call → Type 0
IsPart plan v d none = ⊥
IsPart plan v d (own o) = ⊥
IsPart plan v d (lowers e odd) = odd ≡ true
IsPart plan v d (raises e f p) = Reached plan v d e

-- the links that are held have pm_runtime and are present
abbrev pub HeldAreTaken : Plan → Views → Type 0
HeldAreTaken plan v = (l : ℕ) (row : LinkRow) → slice_get plan.links l ≡ Some row → is_held v l ≡ true → is_taken v l row ≡ true

has_its_parent : (plan : Plan) (e : DevId) → has_parent plan e ≡ true → parent plan e ≡ Some (parent_of plan e)
unfolding has_parent parent_of
has_its_parent plan e has = go (parent plan e) has
  where
    go : (o : Option DevId) → is_some o ≡ true → o ≡ Some (unwrap_or o e)
    go (Some p) is = refl
    go None is = cc

parent_reached : (plan : Plan) (v : Views) (d e : DevId) → Reached plan v d e → has_parent plan e ≡ true → Reached plan v d (parent_of plan e)
parent_reached plan v d e it has = by_parent e (parent_of plan e) it (has_its_parent plan e has)

link_is : (e c : DevId) (pm present : Bool) → c ≡ e → pm ≡ true → present && pm ≡ true → nat_eq c.0 e.0 && pm && present ≡ true
link_is e c pm true same is taken = rw (same, same_self e.0, is) refl
link_is e c pm false same is taken = cc

link_reached : (plan : Plan) (v : Views) (d e s : DevId) (l : ℕ) → HeldAreTaken plan v → Reached plan v d e → IsLink plan l e s → is_held v l ≡ true → Reached plan v d s
link_reached plan v d e s l taken it link held =
    subst (Reached plan v d) link.supplier (by_link e l link.row it link.is (link_is e link.row.consumer link.row.pm_runtime (is_present v l) link.consumer link.runtime (taken l link.row link.is held)))

no_async : {A : Type 0} (f : ℕ) → is_odd f ≡ true → has f ASYNC ≡ false → A
no_async f odd sync = differ (front _ _ odd) sync

is_held_now : (b : Bool) → not b ≡ false → b ≡ true
is_held_now true e = refl
is_held_now false e = cc

-- a get_sync's own call
get_calls : (plan : Plan) (v : Views) (d e : DevId) (h : Helper) (k : Call) → is_get_sync h && is_same d e ≡ true → k ≡ helper_call h e → IsPart plan v d k
get_calls plan v d e helper.GetSync k is same =
    let it : e ≡ d = same_device e d is in
    subst (IsPart plan v d) (sym same) (subst (Reached plan v d) (sym it) itself)
get_calls plan v d e _ k is same = cc

-- what may stand above a part is a part
above : (plan : Plan) (v : Views) (d : DevId) (a : Await) (k : Call) → HeldAreTaken plan v → Fits plan (stage.Await a) → May plan a k → lacks (is_held v) (stage.Await a) ≡ false
    → IsPart plan v d (call_of (stage.Await a)) → IsPart plan v d k
above plan v d (await.SuspendLinks e f) k taken fits may held piece = no_async f piece fits
above plan v d (await.SuspendDeferred e f) k taken fits may held piece = no_async f piece fits
above plan v d (await.SuspendParent e f) k taken fits may held piece = subst (IsPart plan v d) (sym may.1) refl
above plan v d (await.ResumeParent r) k taken fits may held piece = subst (IsPart plan v d) (sym may.1) (parent_reached plan v d r.dev piece may.0)
above plan v d (await.ResumeSupplier r l) k taken fits (s, link, is) held piece =
    subst (IsPart plan v d) (sym is) (link_reached plan v d r.dev s l taken piece link (is_held_now (is_held v l) held))
above plan v d (await.ResumeIdle r) k taken fits may held piece = subst (IsPart plan v d) (sym may) refl
above plan v d (await.ResumeUnwind r c) k taken fits (l, s, link, is) held piece = subst (IsPart plan v d) (sym is) refl
above plan v d (await.ResumePut r c) k taken fits may held piece = subst (IsPart plan v d) (sym may.1) refl
above plan v d _ k taken fits may held piece = elim piece [ ]

-- at the bottom stands the get_sync that awaits its resume
at_bottom : (plan : Plan) (v : Views) (d : DevId) (a : Await) (k : Call) → May plan a k → is_get_of d (stage.Await a) ≡ true → IsPart plan v d k
at_bottom plan v d (await.Return h e) k may is = get_calls plan v d e h k is may
at_bottom plan v d _ k may is = cc

pub parts : (plan : Plan) (v : Views) (d : DevId) (k : Call) (rest : List Stage) → HeldAreTaken plan v → Nested plan k rest → stands_on d rest ≡ true
    → some_of (lacks (is_held v)) rest ≡ false → IsPart plan v d k
parts plan v d k [] taken n based held = cc
parts plan v d k (stage.Await a ∷ []) taken n based held = at_bottom plan v d a k n.0 based
parts plan v d k (stage.Await a ∷ t ∷ rest) taken n based held =
    let both = neither (lacks (is_held v) (stage.Await a)) (some_of (lacks (is_held v)) (t ∷ rest)) held in
    above plan v d a k taken n.1 n.0 both.0 (parts plan v d (call_of (stage.Await a)) (t ∷ rest) taken n.2 based both.1)
parts plan v d k (s ∷ rest) taken n based held = elim n.0 [ ]
