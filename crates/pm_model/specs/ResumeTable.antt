-- The rows of resume, R(d, f) (runtime_pm.rst, sections 2 and 4; device_link.rst for the suppliers).
use Rattle.std.specs.Prelude.{ℕ, Bool, true, false, not, ◌&&◌, ◌||◌, [], ◌∷◌, Option, Some, None, ℤ, pos, length, if◌then◌else◌}
use Rattle.std.specs.Ordering.{int_eq}
use Rattle.pm_base.specs.declared.Cb.TheVariants as cb
use Rattle.pm_base.specs.declared.DevId.{DevId}
use Rattle.pm_base.specs.declared.Req.TheVariants as req
use Rattle.pm_base.specs.declared.Why.TheVariants as why
use Rattle.pm_base.specs.declared.codes.TheConstants.{ASYNC, NOWAIT, EACCES, EBUSY, EINVAL, EINPROGRESS}
use Rattle.pm_model.specs.declared.event.Event.TheVariants as event
use Rattle.pm_model.specs.declared.event.Word.TheVariants as word
use Rattle.pm_model.specs.declared.event.WorkAct.TheVariants.{Queue, Defer}
use Rattle.pm_model.specs.declared.plan.Plan.{Plan}
use Rattle.pm_model.specs.declared.stage.Await.TheVariants as await
use Rattle.pm_model.specs.declared.stage.Change.{Change}
use Rattle.pm_model.specs.declared.stage.Change.TheVariants as change
use Rattle.pm_model.specs.declared.stage.IdleStage.TheVariants as idle
use Rattle.pm_model.specs.declared.stage.Purpose.TheVariants as purpose
use Rattle.pm_model.specs.declared.stage.ResumeCall.{ResumeCall}
use Rattle.pm_model.specs.declared.stage.ResumeStage.{ResumeStage}
use Rattle.pm_model.specs.declared.stage.ResumeStage.TheVariants as resume
use Rattle.pm_model.specs.declared.stage.Stage.{Stage}
use Rattle.pm_model.specs.declared.stage.Stage.TheVariants as stage
use Rattle.pm_model.specs.declared.stage.Then.{Then}
use Rattle.pm_model.specs.PlanRows.{no_callbacks, has_parent, parent_of, has_domain}
use Rattle.pm_model.specs.Views.{Views, device}
use Rattle.pm_model.specs.Derived.{has, has_error, is_disabled, is_active, is_suspending, is_resuming, is_moving, minds_parent, awaits_parent, callback_code, up, down, first_held, first_free, first_of}
use Rattle.pm_model.specs.Row.{Row, writes, waits, idles, resumes, goes, calls, back}
use Rattle.pm_model.specs.SuspendTable.{may_not_wait}

abbrev pub resume_goes : ResumeStage → Then
resume_goes s = goes (stage.Resume s)

-- a resume of supplier s for a link, called over the stage that awaits it
abbrev pub resumes_supplier : ℕ × DevId → Stage
resumes_supplier link = stage.Resume (resume.Enter (record { dev = link.1; flags = 4; held = false; purpose = purpose.Link link.0 }))

-- after the return line: R7 where the count on the parent is held, else the call ends
unfoldable pub leaves : Plan → ResumeCall → ℤ → Then
leaves plan r c = if r.held && has_parent plan r.dev then resume_goes (resume.Parent r c) else back c

abbrev pub resume_returns : Plan → ResumeCall → ℤ → Change → Row
resume_returns plan r c change = writes (event.Return cb.Resume r.dev c) change (leaves plan r c)

-- R1
unfoldable pub resume_verdict : Plan → Views → ResumeCall → Bool → Row
resume_verdict plan v r tried =
    let d = r.dev in
    let f = r.flags in
    let p = parent_of plan d in
    first_of (
    (has_error v d, resume_returns plan r EINVAL change.Same)
    ∷ (is_disabled v d && is_active v d && (device v d).last_active, resume_returns plan r (pos 1) change.Same)
    ∷ (is_disabled v d, resume_returns plan r EACCES change.Same)
    ∷ (is_active v d, resume_returns plan r (pos 1) (change.ResumeCancel d))
    ∷ (
      is_suspending v d && may_not_wait f,
      writes (event.Work d Defer) (change.ResumeCancel d) (resume_goes (resume.Done r (if has f NOWAIT then EINPROGRESS else pos 0))),
    )
    ∷ (is_resuming v d && may_not_wait f, resume_returns plan r EINPROGRESS (change.ResumeCancel d))
    ∷ (is_moving v d, writes (event.Wait d) (change.ResumeCancel d) (resume_goes (resume.Waiting r tried)))
    ∷ (has f ASYNC, writes (event.Work d (Queue req.Resume)) (change.ResumeCancel d) (resume_goes (resume.Done r (pos 0))))
    ∷ (has_parent plan d && not r.held, writes (event.Get p (why.Child d)) (change.ResumeCancel d) (resume_goes (resume.Verdict (record r { held = true }) tried)))
    ∷ (minds_parent plan v d && not tried, resumes plan v p 0 purpose.Child (stage.Await (await.ResumeParent r) ∷ []))
    ∷ (awaits_parent plan v d, resume_returns plan r EBUSY (change.ResumeCancel d))
    ∷ (no_callbacks plan d, writes (event.State d word.Active) (change.ResumeCancel d) (resume_goes (resume.Idle r)))
    ∷ []) (writes (event.State d word.Resuming) (change.ResumeCancel d) (resume_goes (resume.Links r)))

-- R4
abbrev pub resume_begins : ResumeCall → ℕ → Row
resume_begins r t = writes (event.Begin r.dev cb.Resume) change.Same (resume_goes (resume.Running r t))

-- R2: the free link with the least supplier is taken, until none is free; then the domains go on
abbrev pub resume_takes : Plan → Views → ResumeCall → ℕ → Option (ℕ × DevId) → Row
resume_takes plan v r t (Some link) =
    writes (event.Get link.1 (why.Link r.dev)) change.Same (calls (resumes_supplier link) (await.ResumeSupplier r link.0))
resume_takes plan v r t None =
    first_of ((has_domain plan r.dev, writes (event.Domain r.dev true (length (up plan v r.dev))) change.Same (resume_goes (resume.Callback r))) ∷ []) (resume_begins r t)

unfoldable pub resume_links : Plan → Views → ResumeCall → ℕ → Row
resume_links plan v r t = resume_takes plan v r t (first_free plan v r.dev)

-- R9: the held link with the least supplier is given back, until none is held
abbrev pub resume_gives : Views → ResumeCall → ℤ → Option (ℕ × DevId) → Row
resume_gives v r c (Some link) = writes (event.Put link.1 (why.Link r.dev)) change.Same (calls (stage.Idle (idle.AfterPut link.1 5)) (await.ResumeUnwind r c))
resume_gives v r c None = writes (event.State r.dev word.Suspended) change.Same (resume_goes (resume.Done r c))

unfoldable pub resume_unwinds : Plan → Views → ResumeCall → ℤ → Row
resume_unwinds plan v r c = resume_gives v r c (first_held plan v r.dev)

-- the supplier is up, or disabled
abbrev pub is_supplied : ℤ → Bool
is_supplied c = int_eq c (pos 0) || int_eq c (pos 1) || int_eq c EACCES

-- R4b
unfoldable pub resume_ends : Plan → Views → ResumeCall → Row
resume_ends plan v r =
    let d = r.dev in
    let c = callback_code plan v cb.Resume d in
    if int_eq c (pos 0) then writes (event.End d cb.Resume c) change.Same (resume_goes (resume.Resumed r))
    else writes (event.End d cb.Resume c) (change.Cancel d) (resume_goes (resume.Domain r c))

-- R8
unfoldable pub resume_domain : Plan → Views → ResumeCall → ℤ → Row
resume_domain plan v r c =
    first_of ((has_domain plan r.dev, writes (event.Domain r.dev false (length (down plan v r.dev))) change.Same (resume_goes (resume.Unwind r c))) ∷ []) (resume_unwinds plan v r c)

abbrev pub resume_row : Plan → Views → ResumeStage → ℕ → Row
resume_row plan v (resume.Enter r) t = resumes plan v r.dev r.flags r.purpose []
resume_row plan v (resume.Verdict r tried) t = resume_verdict plan v r tried
resume_row plan v (resume.Waiting r tried) t = first_of ((is_moving v r.dev, waits r.dev) ∷ []) (resume_verdict plan v r tried)
resume_row plan v (resume.Links r) t = resume_links plan v r t
resume_row plan v (resume.Supplied r c) t = if is_supplied c then resume_links plan v r t else resume_unwinds plan v r c
resume_row plan v (resume.Callback r) t = resume_begins r t
resume_row plan v (resume.Running r since) t = resume_ends plan v r
resume_row plan v (resume.Resumed r) t = writes (event.State r.dev word.Active) change.Same (resume_goes (resume.Idle r))
resume_row plan v (resume.Idle r) t = idles plan v r.dev 1 change.Same (stage.Await (await.ResumeIdle r) ∷ [])
resume_row plan v (resume.Done r c) t = resume_returns plan r c change.Same
resume_row plan v (resume.Parent r c) t =
    writes (event.Put (parent_of plan r.dev) (why.Child r.dev)) change.Same (calls (stage.Idle (idle.AfterPut (parent_of plan r.dev) 5)) (await.ResumePut r c))
resume_row plan v (resume.Domain r c) t = resume_domain plan v r c
resume_row plan v (resume.Unwind r c) t = resume_unwinds plan v r c
