-- The rows of resume keep the shape of stacks.
use Rattle.std.proofs.Common.{ℕ, ◌≡◌, Bool, true, false, not, ◌&&◌, ◌||◌, Option, Some, None, ℤ, pos, refl, if◌then◌else◌}
use Rattle.std.specs.Ordering.{int_eq}
use Rattle.pm_base.specs.declared.Cb.{Cb}
use Rattle.pm_base.specs.declared.Cb.TheVariants as cb
use Rattle.pm_model.specs.declared.stage.Change.{Change}
use Rattle.pm_model.specs.declared.event.Event.TheVariants as event
use Rattle.pm_base.specs.declared.DevId.{DevId}
use Rattle.pm_base.specs.declared.codes.TheConstants.{NOWAIT, EINPROGRESS}
use Rattle.pm_model.specs.declared.plan.Plan.{Plan}
use Rattle.pm_model.specs.declared.stage.ResumeCall.{ResumeCall}
use Rattle.pm_model.specs.declared.stage.ResumeStage.{ResumeStage}
use Rattle.pm_model.specs.declared.stage.ResumeStage.TheVariants as resume
use Rattle.pm_model.specs.declared.stage.Stage.TheVariants as stage
use Rattle.pm_model.specs.Derived.{has, minds_parent, callback_code, first_held, first_free}
use Rattle.pm_model.specs.PlanRows.{has_parent}
use Rattle.pm_model.specs.ResumeTable.{leaves, resume_returns, resume_verdict, resume_takes, resume_links, resume_gives, resume_unwinds, is_supplied, resume_ends, resume_domain, resume_row}
use Rattle.pm_model.specs.Row.{Row, writes, goes, back}
use Rattle.pm_model.specs.SuspendTable.{may_not_wait}
use Rattle.pm_model.specs.Views.{Views}
use Rattle.pm_laws.specs.stacks.Shape.{Fits, HoldsParent, IsMarked, IsEndCode, resume_call, raising}
use Rattle.pm_laws.proofs.stacks.Codes.{callback_ends}
use Rattle.pm_laws.proofs.stacks.Found.{held_is, free_is}
use Rattle.pm_laws.proofs.stacks.Tests.{front, rear, none_of}
use Rattle.pm_laws.proofs.stacks.Nesting.{Nesting, odd_one, odd_five}
use Rattle.pm_laws.proofs.stacks.Obeying.{Obeys, ok, waiting, either, both}

abbrev Nests : Plan → ResumeCall → Row → Type 0
Nests plan r row = Obeys (Nesting plan (raising r)) row

returns_nest : (plan : Plan) (r : ResumeCall) (c : ℤ) (change : Change) → Nests plan r (resume_returns plan r c change)
unfolding leaves
returns_nest plan r c change = leaves_nest (r.held && has_parent plan r.dev) refl
  where
    leaves_nest : (b : Bool) → r.held && has_parent plan r.dev ≡ b
        → Nests plan r (writes (event.Return cb.Resume r.dev c) change (if b then goes (stage.Resume (resume.Parent r c)) else back c))
    leaves_nest true has = ok (tt, (has, refl))
    leaves_nest false has = ok tt

pub minds_has : (plan : Plan) (v : Views) (d : DevId) (tried : Bool) → minds_parent plan v d && not tried ≡ true → has_parent plan d ≡ true
unfolding minds_parent
minds_has plan v d tried e = front _ _ (front _ _ (front _ _ e))

-- and the mark held is set by then
minds_held : (plan : Plan) (v : Views) (r : ResumeCall) (tried : Bool) → has_parent plan r.dev && not r.held ≡ false → minds_parent plan v r.dev && not tried ≡ true
    → HoldsParent plan r
minds_held plan v r tried taken minds = go (has_parent plan r.dev) r.held (minds_has plan v r.dev tried minds) taken
  where
    go : (has held : Bool) → has ≡ true → has && not held ≡ false → held && has ≡ true
    go true true is taken = refl
    go true false is taken = cc
    go false held is taken = cc

no_wait : (a b : Bool) (f : ℕ) → a && may_not_wait f ≡ false → b && may_not_wait f ≡ false → a || b ≡ true → may_not_wait f ≡ false
no_wait true b f x y e = x
no_wait false true f x y e = y
no_wait false false f x y e = cc

-- a resume that answers at once
end_codes : (f : ℕ) → IsEndCode (if has f NOWAIT then EINPROGRESS else pos 0)
end_codes f = go (has f NOWAIT)
  where
    go : (b : Bool) → IsEndCode (if b then EINPROGRESS else pos 0)
    go true = (refl, refl)
    go false = (refl, refl)

verdict_nests : (plan : Plan) (v : Views) (r : ResumeCall) (tried : Bool) → Nests plan r (resume_verdict plan v r tried)
unfolding resume_verdict
verdict_nests plan v r tried = search (either, ok, returns_nest, minds_has, minds_held, no_wait, end_codes) depth 40

takes_nest : (plan : Plan) (v : Views) (r : ResumeCall) (t : ℕ) (x : Option (ℕ × DevId)) → IsMarked plan r → first_free plan v r.dev ≡ x
    → Nests plan r (resume_takes plan v r t x)
takes_nest plan v r t (Some link) m e = ok (tt, (tt, (link.1, free_is plan v r.dev link e, refl), (m, refl)))
takes_nest plan v r t None m e = search (both, ok) depth 12

links_nest : (plan : Plan) (v : Views) (r : ResumeCall) (t : ℕ) → IsMarked plan r → Nests plan r (resume_links plan v r t)
unfolding resume_links
links_nest plan v r t m = takes_nest plan v r t (first_free plan v r.dev) m refl

-- a code that isn't good is none of 0, 1 and -13
bad_ends : (c : ℤ) → is_supplied c ≡ false → IsEndCode c
bad_ends c e = let none = none_of _ _ _ e in (none.1, none.2)

pub holds_has : (plan : Plan) (r : ResumeCall) → HoldsParent plan r → has_parent plan r.dev ≡ true
holds_has plan r holds = rear _ _ holds

gives_nest : (plan : Plan) (v : Views) (r : ResumeCall) (c : ℤ) (x : Option (ℕ × DevId)) → is_supplied c ≡ false → first_held plan v r.dev ≡ x
    → Nests plan r (resume_gives v r c x)
gives_nest plan v r c (Some link) bad e = ok (tt, (tt, (link.0, link.1, held_is plan v r.dev link e, odd_five link.1), (bad, refl)))
gives_nest plan v r c None bad e = ok (tt, (bad_ends c bad, refl))

unwinds_nest : (plan : Plan) (v : Views) (r : ResumeCall) (c : ℤ) → is_supplied c ≡ false → Nests plan r (resume_unwinds plan v r c)
unfolding resume_unwinds
unwinds_nest plan v r c bad = gives_nest plan v r c (first_held plan v r.dev) bad refl

bad_code : (plan : Plan) (v : Views) (k : Cb) (d : DevId) → int_eq (callback_code plan v k d) (pos 0) ≡ false → is_supplied (callback_code plan v k d) ≡ false
bad_code plan v k d e = let ends = callback_ends plan v k d in rw (e, ends.0, ends.1) refl

ends_nest : (plan : Plan) (v : Views) (r : ResumeCall) → IsMarked plan r → Nests plan r (resume_ends plan v r)
unfolding resume_ends
ends_nest plan v r m = search (either, ok, bad_code) depth 12

domain_nests : (plan : Plan) (v : Views) (r : ResumeCall) (c : ℤ) → is_supplied c ≡ false → Nests plan r (resume_domain plan v r c)
unfolding resume_domain
domain_nests plan v r c bad = search (both, ok, unwinds_nest) depth 12

pub resume_nests : (plan : Plan) (v : Views) (t : ℕ) (s : ResumeStage) → Fits plan (stage.Resume s)
    → Obeys (Nesting plan (raising (resume_call s))) (resume_row plan v s t)
resume_nests plan v t (resume.Enter r) h = search ok depth 12
resume_nests plan v t (resume.Verdict r tried) h = verdict_nests plan v r tried
resume_nests plan v t (resume.Waiting r tried) h = search (both, waiting, verdict_nests) depth 12
resume_nests plan v t (resume.Links r) h = links_nest plan v r t h
resume_nests plan v t (resume.Supplied r c) h = search (either, links_nest, unwinds_nest) depth 12
resume_nests plan v t (resume.Callback r) h = search ok depth 12
resume_nests plan v t (resume.Running r since) h = ends_nest plan v r h
resume_nests plan v t (resume.Resumed r) h = search ok depth 12
resume_nests plan v t (resume.Idle r) h = search (ok, odd_one) depth 12
resume_nests plan v t (resume.Done r c) h = returns_nest plan r c _
resume_nests plan v t (resume.Parent r c) h = search (ok, odd_five, holds_has) depth 12
resume_nests plan v t (resume.Domain r c) h = domain_nests plan v r c h
resume_nests plan v t (resume.Unwind r c) h = unwinds_nest plan v r c h
