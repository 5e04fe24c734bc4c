-- What the shape of a stack says of links: a resume for a link stands above the stage that awaits it.
use Rattle.std.proofs.Common.{ℕ, ◌≡◌, List, [], ◌∷◌, Some, None, ap, refl, ◌∙◌}
use Rattle.std.specs.Option.{option_map}
use Rattle.pm_base.specs.declared.DevId.{DevId}
use Rattle.pm_model.specs.declared.plan.Plan.{Plan}
use Rattle.pm_model.specs.declared.rows.LinkRow.{LinkRow}
use Rattle.pm_model.specs.declared.stage.Await.{Await}
use Rattle.pm_model.specs.declared.stage.Await.TheVariants as await
use Rattle.pm_model.specs.declared.stage.Purpose.TheVariants as purpose
use Rattle.pm_model.specs.declared.stage.Stage.{Stage}
use Rattle.pm_model.specs.declared.stage.Stage.TheVariants as stage
use Rattle.pm_laws.specs.safe.Pends.{asked_by, link_of, awaits, consumer}
use Rattle.pm_laws.specs.stacks.Shape.{Call, none, own, lowers, raises, call_of, May, IsLink, IsBottom, Nested}
use Rattle.pm_laws.proofs.stacks.Zeros.{raised, lowered, helper_calls, zero_raised, zero_lowered, parents, suppliers, zero_calls}
use Rattle.pm_laws.proofs.safe.Pending.{Asked, Each, IsOfConsumer}

bottom_asks : (k : Call) → IsBottom k → asked_by k ≡ None
bottom_asks (raises d f p) is = ap link_of is
bottom_asks none is = refl
bottom_asks (own d) is = refl
bottom_asks (lowers d odd) is = refl

may_asks : (plan : Plan) (a : Await) (k : Call) → May plan a k → awaits a ≡ asked_by k
may_asks plan (await.SuspendLinks d f) k (l, s, is, e) = rw e refl
may_asks plan (await.SuspendParent d f) k (is, e) = rw e refl
may_asks plan (await.ResumeParent r) k (is, e) = rw e refl
may_asks plan (await.ResumeSupplier r l) k (s, is, e) = rw e refl
may_asks plan (await.ResumeUnwind r c) k (l, s, is, e) = rw e refl
may_asks plan (await.ResumePut r c) k (is, e) = rw e refl
may_asks plan (await.Return h d) k e = elim (helper_calls h d k e) [ raised e ↦ rw e refl | lowered is e ↦ rw e refl ]
may_asks plan (await.ReturnZero h d) k m = elim (zero_calls plan h d k m) [
  | zero_raised e ↦ rw e refl
  | zero_lowered odd e ↦ rw e refl
  | parents p ↦ rw p.1 refl
  | suppliers p ↦ rw p.3 refl
]
may_asks plan (await.ActiveSupplier d l) k (s, is, e) = rw e refl
may_asks plan (await.ActiveUnwind d c) k (l, s, is, e) = rw e refl
may_asks plan (await.SuppliersIdle d s) k (l, is, e) = rw e refl
may_asks plan _ k e = rw e refl

pub nested_asked : (plan : Plan) (k : Call) (rest : List Stage) → Nested plan k rest → Asked (asked_by k) rest
nested_asked plan k [] h = bottom_asks k h
nested_asked plan k (stage.Await a ∷ rest) h = (may_asks plan a k h.0, nested_asked plan (call_of (stage.Await a)) rest h.2)
nested_asked plan k (s ∷ rest) h = elim h.0 [ ]

pub link_consumer : (plan : Plan) (l : ℕ) (d s : DevId) → IsLink plan l d s → consumer plan l ≡ Some d
link_consumer plan l d s link = ap (option_map (λ (x : LinkRow). x.consumer)) link.is ∙ ap Some link.consumer

may_consumes : (plan : Plan) (a : Await) (k : Call) → May plan a k → IsOfConsumer plan (stage.Await a)
may_consumes plan (await.ResumeSupplier r l) k (s, is, e) = link_consumer plan l r.dev s is
may_consumes plan (await.ActiveSupplier d l) k (s, is, e) = link_consumer plan l d s is
may_consumes plan _ k e = tt

pub nested_consumers : (plan : Plan) (k : Call) (rest : List Stage) → Nested plan k rest → Each (IsOfConsumer plan) rest
nested_consumers plan k [] h = tt
nested_consumers plan k (stage.Await a ∷ rest) h = (may_consumes plan a k h.0, nested_consumers plan (call_of (stage.Await a)) rest h.2)
nested_consumers plan k (s ∷ rest) h = elim h.0 [ ]

-- a resume for link l is one of its supplier, with flags 4
pub record ForLink (plan : Plan) (l : ℕ) (d : DevId) (f : ℕ) : Type 0 where
  pub flags : f ≡ 4
  pub consumer : DevId
  pub is : IsLink plan l consumer d

raised_for : (plan : Plan) (l k : ℕ) (d s e : DevId) (f : ℕ) → IsLink plan k e s → raises d f (purpose.Link l) ≡ raises s 4 (purpose.Link k) → ForLink plan l d f
raised_for plan l k d s e f is same =
    let flags : f ≡ 4 = cc in let link : l ≡ k = cc in let supplier : d ≡ s = cc in record { flags = flags; consumer = e; is = rw (link, supplier) is }

may_raise : (plan : Plan) (a : Await) (d : DevId) (f l : ℕ) → May plan a (raises d f (purpose.Link l)) → ForLink plan l d f
may_raise plan (await.SuspendLinks x g) d f l (k, s, is, e) = cc
may_raise plan (await.SuspendParent x g) d f l (is, e) = cc
may_raise plan (await.ResumeParent r) d f l (is, e) = cc
may_raise plan (await.ResumeSupplier r k) d f l (s, is, e) = raised_for plan l k d s r.dev f is e
may_raise plan (await.ResumeUnwind r c) d f l (k, s, is, e) = cc
may_raise plan (await.ResumePut r c) d f l (is, e) = cc
may_raise plan (await.Return h x) d f l e = elim (helper_calls h x _ e) [ raised e ↦ cc | lowered is e ↦ cc ]
may_raise plan (await.ReturnZero h x) d f l m = elim (zero_calls plan h x _ m) [
  | zero_raised e ↦ cc
  | zero_lowered odd e ↦ cc
  | parents p ↦ let e = p.1 in cc
  | suppliers p ↦ let e = p.3 in cc
]
may_raise plan (await.ActiveSupplier x k) d f l (s, is, e) = raised_for plan l k d s x f is e
may_raise plan (await.ActiveUnwind x c) d f l (k, s, is, e) = cc
may_raise plan (await.SuppliersIdle x s) d f l (k, is, e) = cc
may_raise plan _ d f l e = cc

pub nested_link : (plan : Plan) (d : DevId) (f l : ℕ) (rest : List Stage) → Nested plan (raises d f (purpose.Link l)) rest → ForLink plan l d f
nested_link plan d f l [] h = cc
nested_link plan d f l (stage.Await a ∷ rest) h = may_raise plan a d f l h.0
nested_link plan d f l (s ∷ rest) h = elim h.0 [ ]
