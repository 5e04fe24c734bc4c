-- The rows of helpers, of work items and of timers: alike on views that agree, and in the region.
use Rattle.std.proofs.Common.{ℕ, ◌≡◌, true, refl}
use Rattle.pm_base.specs.declared.DevId.{DevId}
use Rattle.pm_base.specs.declared.Req.{Req}
use Rattle.pm_base.specs.declared.Req.TheVariants as req
use Rattle.pm_model.specs.declared.event.Command.{Command}
use Rattle.pm_model.specs.declared.event.Helper.{Helper}
use Rattle.pm_model.specs.declared.event.Helper.TheVariants as helper
use Rattle.pm_model.specs.declared.plan.Plan.{Plan}
use Rattle.pm_model.specs.declared.stage.HelperStage.{HelperStage}
use Rattle.pm_model.specs.declared.stage.HelperStage.TheVariants as at
use Rattle.pm_model.specs.Changes.{has_auto_timer}
use Rattle.pm_model.specs.HelperTable.{helper_row, helper_starts, put_suspends, timer_fires, begins, carries_out}
use Rattle.pm_model.specs.Views.{Views, device, pending_of}
use Rattle.pm_model.specs.WellFormed.{called_for, helper_device}
use Rattle.pm_laws.proofs.islands.Region.{Region, Agree, DeviceIn, StagesIn, StaysIn}
use Rattle.pm_laws.proofs.islands.ViewsAlike.{device_agrees, pending_agrees, timer_agrees, fields_agree}
use Rattle.pm_laws.proofs.islands.Staying.{ok, both, called_in}

starts_alike : {plan : Plan} {k : Region plan} {v w : Views} (c : Command) → Agree plan k v w → k.inside c.dev.0 ≡ true → helper_starts v c ≡ helper_starts w c
unfolding helper_starts
starts_alike {plan} {k} {v} {w} c a i = go c.helper
  where
    same : device v c.dev ≡ device w c.dev
    same = device_agrees c.dev a i

    go : (h : Helper) → helper_starts v (record c { helper = h }) ≡ helper_starts w (record c { helper = h })
    go helper.GetSync = refl
    go _ = first_of (search same, cc same, grind same)

put_suspends_alike : {plan : Plan} {k : Region plan} {v w : Views} (c : Command) → Agree plan k v w → k.inside c.dev.0 ≡ true → put_suspends plan v c ≡ put_suspends plan w c
unfolding put_suspends
put_suspends_alike c a i = rw (device_agrees c.dev a i, fields_agree c.dev _ a i) refl

fires_alike : {plan : Plan} {k : Region plan} {v w : Views} (d : DevId) → Agree plan k v w → k.inside d.0 ≡ true → timer_fires v d ≡ timer_fires w d
unfolding timer_fires has_auto_timer
fires_alike d a i = rw (timer_agrees d a i) refl

pub helper_alike : {plan : Plan} {k : Region plan} {v w : Views} (t : ℕ) (s : HelperStage) → Agree plan k v w → DeviceIn k (helper_device s) → helper_row plan v s t ≡ helper_row plan w s t
helper_alike t (at.Call c) a i = refl
helper_alike t (at.Work d) a i = rw (pending_agrees d a i) refl
helper_alike t (at.Timer d) a i = fires_alike d a i
helper_alike t (at.Start c) a i = starts_alike c a i
helper_alike t (at.PutSuspends c) a i = put_suspends_alike c a i
helper_alike t (at.Delay ms since) a i = refl
helper_alike t (at.Ret h d c) a i = refl

-- and in the region
begins_stay : (plan : Plan) (k : Region plan) (c : Command) (t : ℕ) → DeviceIn k (called_for c.helper c.dev) → StagesIn k (begins c t).push
begins_stay plan k c t = go c.helper
  where
    go : (h : Helper) → DeviceIn k (called_for h c.dev) → StagesIn k (begins (record c { helper = h }) t).push
    go helper.Delay i = (tt, tt)
    go _ i = search

starts_stay : (plan : Plan) (k : Region plan) (v : Views) (c : Command) → k.inside c.dev.0 ≡ true → StaysIn plan k (helper_starts v c)
unfolding helper_starts
starts_stay plan k v c i = go c.helper
  where
    go : (h : Helper) → StaysIn plan k (helper_starts v (record c { helper = h }))
    go helper.GetSync = search ok depth 20
    go _ = search (both, ok) depth 20

put_suspends_stay : (plan : Plan) (k : Region plan) (v : Views) (c : Command) → k.inside c.dev.0 ≡ true → StaysIn plan k (put_suspends plan v c)
unfolding put_suspends
put_suspends_stay plan k v c i = let its = called_in k c.helper c.dev i in search (both, ok, its) depth 20

fires_stay : (plan : Plan) (k : Region plan) (v : Views) (d : DevId) → k.inside d.0 ≡ true → StaysIn plan k (timer_fires v d)
unfolding timer_fires
fires_stay plan k v d i = search ok depth 20

carries_stay : (plan : Plan) (k : Region plan) (d : DevId) (r : Req) → k.inside d.0 ≡ true → StagesIn k (carries_out d r).push
carries_stay plan k d req.Nothing i = tt
carries_stay plan k d req.Idle i = (i, tt)
carries_stay plan k d req.Suspend i = (i, tt)
carries_stay plan k d req.Autosuspend i = (i, tt)
carries_stay plan k d req.Resume i = (i, tt)

pub helper_stays : (plan : Plan) (k : Region plan) (v : Views) (t : ℕ) (s : HelperStage) → DeviceIn k (helper_device s) → StaysIn plan k (helper_row plan v s t)
helper_stays plan k v t (at.Call c) i = ok tt tt (begins_stay plan k c t i)
helper_stays plan k v t (at.Work d) i = ok i tt (carries_stay plan k d (pending_of v d).request i)
helper_stays plan k v t (at.Timer d) i = fires_stay plan k v d i
helper_stays plan k v t (at.Start c) i = starts_stay plan k v c i
helper_stays plan k v t (at.PutSuspends c) i = put_suspends_stay plan k v c i
helper_stays plan k v t (at.Delay ms since) i = ok tt tt tt
helper_stays plan k v t (at.Ret h d c) i = ok tt tt tt
