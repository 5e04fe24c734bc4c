-- The rows of idle, of suspend, of resume and of the helpers say what they may.
use Rattle.std.proofs.Common.{ℕ, ◌≡◌, ◌+◌, ◌≤◌, Bool, true, false, ◌&&◌, Option, Some, None, ℤ, if◌then◌else◌, refl}
use Rattle.pm_base.specs.declared.Cb.TheVariants as cb
use Rattle.pm_base.specs.declared.DevId.{DevId}
use Rattle.pm_base.specs.declared.Req.{Req}
use Rattle.pm_base.specs.declared.Req.TheVariants as req
use Rattle.pm_model.specs.declared.event.Command.{Command}
use Rattle.pm_model.specs.declared.event.Event.TheVariants as event
use Rattle.pm_model.specs.declared.event.Helper.{Helper}
use Rattle.pm_model.specs.declared.event.Helper.TheVariants as helper
use Rattle.pm_model.specs.declared.event.WorkAct.TheVariants.{Run}
use Rattle.pm_model.specs.declared.plan.Plan.{Plan}
use Rattle.pm_model.specs.declared.stage.Change.{Change}
use Rattle.pm_model.specs.declared.stage.Change.TheVariants as change
use Rattle.pm_model.specs.declared.stage.HelperStage.{HelperStage}
use Rattle.pm_model.specs.declared.stage.HelperStage.TheVariants as at
use Rattle.pm_model.specs.declared.stage.IdleStage.{IdleStage}
use Rattle.pm_model.specs.declared.stage.IdleStage.TheVariants as idle
use Rattle.pm_model.specs.declared.stage.ResumeCall.{ResumeCall}
use Rattle.pm_model.specs.declared.stage.ResumeStage.{ResumeStage}
use Rattle.pm_model.specs.declared.stage.ResumeStage.TheVariants as resume
use Rattle.pm_model.specs.declared.stage.Stage.{Stage}
use Rattle.pm_model.specs.declared.stage.Stage.TheVariants as stage
use Rattle.pm_model.specs.declared.stage.SuspendStage.{SuspendStage}
use Rattle.pm_model.specs.declared.stage.SuspendStage.TheVariants as suspend
use Rattle.pm_model.specs.declared.stage.Then.{Then}
use Rattle.pm_model.specs.Derived.{first_free, first_held}
use Rattle.pm_model.specs.HelperTable.{begins, carries_out, helper_row, helper_starts, put_suspends, timer_fires}
use Rattle.pm_model.specs.IdleTable.{after_put, idle_ends, idle_row, idle_verdict}
use Rattle.pm_model.specs.PlanRows.{has_parent}
use Rattle.pm_model.specs.ResumeTable.{leaves, resume_domain, resume_ends, resume_gives, resume_links, resume_returns, resume_row, resume_takes, resume_unwinds, resume_verdict}
use Rattle.pm_model.specs.Row.{Row, back, goes, writes}
use Rattle.pm_model.specs.SuspendTable.{autosuspend_at, suspend_domain, suspend_ends, suspend_gives, suspend_links, suspend_parent, suspend_row, suspend_verdict}
use Rattle.pm_model.specs.Views.{Views, pending_of}
use Rattle.pm_model.specs.WellFormed.{suspend_device}
use Rattle.pm_laws.specs.stacks.Shape.{Fits, is_put_suspend}
use Rattle.pm_laws.proofs.stacks.Obeying.{Obeys, both, both_next, ok, waiting}
use Rattle.pm_laws.proofs.bounds.Places.{IsRet}
use Rattle.pm_laws.proofs.bounds.Saying.{AreLater, Saying, downs, payload, ups}

abbrev Says : Plan → Views → ℕ → Stage → Row → Type 0
Says plan v t s row = Obeys (Saying plan v t s) row

-- suspend
verdict_says : (plan : Plan) (v : Views) (t : ℕ) (s : Stage) (d : DevId) (f : ℕ) → autosuspend_at v d ≤ t + 1000000 → Says plan v t s (suspend_verdict plan v d f t)
unfolding suspend_verdict
verdict_says plan v t s d f soon = search (both, ok) depth 40

ends_say : (plan : Plan) (v : Views) (t : ℕ) (s : Stage) (d : DevId) (f : ℕ) → Says plan v t s (suspend_ends plan v d f t)
unfolding suspend_ends
ends_say plan v t s d f = search (both_next, ok) depth 20

gives_say : (plan : Plan) (v : Views) (t : ℕ) (s : Stage) (d : DevId) (f : ℕ) (x : Option (ℕ × DevId)) → Says plan v t s (suspend_gives v d f x)
gives_say plan v t s d f (Some link) = search ok depth 20
gives_say plan v t s d f None = search (both, ok) depth 20

links_say : (plan : Plan) (v : Views) (t : ℕ) (s : Stage) (d : DevId) (f : ℕ) → Says plan v t s (suspend_links plan v d f)
unfolding suspend_links
links_say plan v t s d f = gives_say plan v t s d f (first_held plan v d)

domain_says : (plan : Plan) (v : Views) (t : ℕ) (s : Stage) (d : DevId) (f : ℕ) → Says plan v t s (suspend_domain plan v d f)
unfolding suspend_domain
domain_says plan v t s d f = search (both, ok, links_say, downs) depth 20

parent_says : (plan : Plan) (v : Views) (t : ℕ) (s : Stage) (d : DevId) (f : ℕ) → Says plan v t s (suspend_parent plan v d f)
unfolding suspend_parent
parent_says plan v t s d f = search (both, ok, payload) depth 20

pub suspend_says : (plan : Plan) (v : Views) (t : ℕ) (whole : Stage) (s : SuspendStage) → autosuspend_at v (suspend_device s) ≤ t + 1000000
    → Obeys (Saying plan v t whole) (suspend_row plan v s t)
suspend_says plan v t whole (suspend.Enter d f) soon = search (ok, payload) depth 12
suspend_says plan v t whole (suspend.Verdict d f) soon = verdict_says plan v t whole d f soon
suspend_says plan v t whole (suspend.Waiting d f) soon = both _ waiting (verdict_says plan v t whole d f soon)
suspend_says plan v t whole (suspend.Running d f since) soon = ends_say plan v t whole d f
suspend_says plan v t whole (suspend.Domain d f) soon = domain_says plan v t whole d f
suspend_says plan v t whole (suspend.Links d f) soon = links_say plan v t whole d f
suspend_says plan v t whole (suspend.Deferred d f) soon = search (ok, payload) depth 12
suspend_says plan v t whole (suspend.Parent d f) soon = parent_says plan v t whole d f
suspend_says plan v t whole (suspend.Done d f c) soon = search ok depth 12

-- idle
idle_verdict_says : (plan : Plan) (v : Views) (t : ℕ) (s : Stage) (d : DevId) (f : ℕ) → Says plan v t s (idle_verdict plan v d f t)
unfolding idle_verdict
idle_verdict_says plan v t s d f = search (both, ok) depth 40

after_put_says : (plan : Plan) (v : Views) (t : ℕ) (s : Stage) (d : DevId) (f : ℕ) → Says plan v t s (after_put plan v d f)
unfolding after_put
after_put_says plan v t s d f = search (both, ok, payload) depth 12

pub idle_says : (plan : Plan) (v : Views) (t : ℕ) (whole : Stage) (s : IdleStage) → Obeys (Saying plan v t whole) (idle_row plan v s t)
unfolding idle_ends
idle_says plan v t whole (idle.Enter d f) = search (ok, payload) depth 12
idle_says plan v t whole (idle.Verdict d f) = idle_verdict_says plan v t whole d f
idle_says plan v t whole (idle.Running d f since) = search ok depth 12
idle_says plan v t whole (idle.Done d f c) = search (both_next, ok) depth 12
idle_says plan v t whole (idle.Queued d f) = search ok depth 12
idle_says plan v t whole (idle.AfterPut d f) = after_put_says plan v t whole d f

-- resume
returns_say : (plan : Plan) (v : Views) (t : ℕ) (s : Stage) (r : ResumeCall) (c : ℤ) (change : Change) → Says plan v t s (resume_returns plan r c change)
unfolding leaves
returns_say plan v t s r c change = go (r.held && has_parent plan r.dev)
  where
    go : (b : Bool) → Says plan v t s (writes (event.Return cb.Resume r.dev c) change (if b then goes (stage.Resume (resume.Parent r c)) else back c))
    go true = search ok depth 12
    go false = search ok depth 12

resume_verdict_says : (plan : Plan) (v : Views) (t : ℕ) (s : Stage) (r : ResumeCall) (tried : Bool) → Says plan v t s (resume_verdict plan v r tried)
unfolding resume_verdict
resume_verdict_says plan v t s r tried = search (both, ok, returns_say, payload) depth 40

takes_say : (plan : Plan) (v : Views) (t : ℕ) (s : Stage) (r : ResumeCall) (x : Option (ℕ × DevId)) → Says plan v t s (resume_takes plan v r t x)
takes_say plan v t s r (Some link) = search ok depth 20
takes_say plan v t s r None = search (both, ok, ups) depth 12

resume_links_say : (plan : Plan) (v : Views) (t : ℕ) (s : Stage) (r : ResumeCall) → Says plan v t s (resume_links plan v r t)
unfolding resume_links
resume_links_say plan v t s r = takes_say plan v t s r (first_free plan v r.dev)

resume_gives_say : (plan : Plan) (v : Views) (t : ℕ) (s : Stage) (r : ResumeCall) (c : ℤ) (x : Option (ℕ × DevId)) → Says plan v t s (resume_gives v r c x)
resume_gives_say plan v t s r c (Some link) = search ok depth 20
resume_gives_say plan v t s r c None = search ok depth 12

unwinds_say : (plan : Plan) (v : Views) (t : ℕ) (s : Stage) (r : ResumeCall) (c : ℤ) → Says plan v t s (resume_unwinds plan v r c)
unfolding resume_unwinds
unwinds_say plan v t s r c = resume_gives_say plan v t s r c (first_held plan v r.dev)

resume_ends_say : (plan : Plan) (v : Views) (t : ℕ) (s : Stage) (r : ResumeCall) → Says plan v t s (resume_ends plan v r)
unfolding resume_ends
resume_ends_say plan v t s r = search (both, ok) depth 12

resume_domain_says : (plan : Plan) (v : Views) (t : ℕ) (s : Stage) (r : ResumeCall) (c : ℤ) → Says plan v t s (resume_domain plan v r c)
unfolding resume_domain
resume_domain_says plan v t s r c = search (both, ok, unwinds_say, downs) depth 12

pub resume_says : (plan : Plan) (v : Views) (t : ℕ) (whole : Stage) (s : ResumeStage) → Obeys (Saying plan v t whole) (resume_row plan v s t)
resume_says plan v t whole (resume.Enter r) = search (ok, payload) depth 12
resume_says plan v t whole (resume.Verdict r tried) = resume_verdict_says plan v t whole r tried
resume_says plan v t whole (resume.Waiting r tried) = both _ waiting (resume_verdict_says plan v t whole r tried)
resume_says plan v t whole (resume.Links r) = resume_links_say plan v t whole r
resume_says plan v t whole (resume.Supplied r c) = both _ (resume_links_say plan v t whole r) (unwinds_say plan v t whole r c)
resume_says plan v t whole (resume.Callback r) = search ok depth 12
resume_says plan v t whole (resume.Running r since) = resume_ends_say plan v t whole r
resume_says plan v t whole (resume.Resumed r) = search ok depth 12
resume_says plan v t whole (resume.Idle r) = search (ok, payload) depth 12
resume_says plan v t whole (resume.Done r c) = returns_say plan v t whole r c change.Same
resume_says plan v t whole (resume.Parent r c) = search ok depth 12
resume_says plan v t whole (resume.Domain r c) = resume_domain_says plan v t whole r c
resume_says plan v t whole (resume.Unwind r c) = unwinds_say plan v t whole r c

-- helpers
begins_later : (c : Command) (t : ℕ) → (let next : Then = begins c t in AreLater next.push)
begins_later c t = go c.helper
  where
    go : (h : Helper) → (let next : Then = begins (record c { helper = h }) t in AreLater next.push)
    go helper.Resume = search
    go _ = search

helper_starts_say : (plan : Plan) (v : Views) (t : ℕ) (s : Stage) (c : Command) → Says plan v t s (helper_starts v c)
unfolding helper_starts
helper_starts_say plan v t s c = go c.helper
  where
    go : (h : Helper) → Says plan v t s (helper_starts v (record c { helper = h }))
    go helper.GetSync = search ok depth 12
    go _ = search (both, ok) depth 12

put_suspends_say : (plan : Plan) (v : Views) (t : ℕ) (s : Stage) (c : Command) → is_put_suspend c.helper ≡ true → Says plan v t s (put_suspends plan v c)
unfolding put_suspends
put_suspends_say plan v t s c put = go c.helper put
  where
    go : (h : Helper) → is_put_suspend h ≡ true → Says plan v t s (put_suspends plan v (record c { helper = h }))
    go helper.GetSync put = cc
    go _ put = first_of (cc, search (both, ok, payload) depth 12)

timer_says : (plan : Plan) (v : Views) (t : ℕ) (s : Stage) (d : DevId) → Says plan v t s (timer_fires v d)
unfolding timer_fires
timer_says plan v t s d = ok (tt, (tt, tt))

carries_say : (plan : Plan) (v : Views) (t : ℕ) (s : Stage) (d : DevId) → Says plan v t s (helper_row plan v (at.Work d) t)
carries_say plan v t s d = go (pending_of v d).request
  where
    go : (r : Req) → Says plan v t s (writes (event.Work d (Run r)) change.Same (carries_out d r))
    go req.Nothing = ok (tt, tt)
    go req.Idle = ok (tt, (tt, tt))
    go req.Suspend = ok (tt, (tt, tt))
    go req.Autosuspend = ok (tt, (tt, tt))
    go req.Resume = ok (tt, (tt, tt))

pub helper_says : (plan : Plan) (v : Views) (t : ℕ) (s : HelperStage) → Fits plan (stage.Helper s) → IsRet (stage.Helper s)
    → Obeys (Saying plan v t (stage.Helper s)) (helper_row plan v s t)
helper_says plan v t (at.Call c) fits ret = ok (refl, begins_later c t)
helper_says plan v t (at.Work d) fits ret = carries_say plan v t (stage.Helper (at.Work d)) d
helper_says plan v t (at.Timer d) fits ret = timer_says plan v t (stage.Helper (at.Timer d)) d
helper_says plan v t (at.Start c) fits ret = helper_starts_say plan v t (stage.Helper (at.Start c)) c
helper_says plan v t (at.PutSuspends c) fits ret = put_suspends_say plan v t (stage.Helper (at.PutSuspends c)) c fits
helper_says plan v t (at.Delay ms since) fits ret = ok (refl, tt)
helper_says plan v t (at.Ret h d c) fits ret = ok (ret, tt)
