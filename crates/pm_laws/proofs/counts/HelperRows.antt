-- The rows of the helpers that no control function is, of work items and of timers.
use Rattle.std.proofs.Common.{ℕ, Bool, ◌&&◌, ℤ, nat_eq}
use Rattle.pm_base.specs.declared.DevId.{DevId}
use Rattle.pm_base.specs.declared.Req.{Req}
use Rattle.pm_base.specs.declared.Req.TheVariants as req
use Rattle.pm_model.specs.declared.event.Command.{Command}
use Rattle.pm_model.specs.declared.event.Event.TheVariants as event
use Rattle.pm_model.specs.declared.event.Helper.{Helper}
use Rattle.pm_model.specs.declared.event.Helper.TheVariants as helper
use Rattle.pm_model.specs.declared.event.WorkAct.TheVariants.{Run}
use Rattle.pm_model.specs.declared.plan.Plan.{Plan}
use Rattle.pm_model.specs.declared.stage.Change.TheVariants as change
use Rattle.pm_model.specs.declared.stage.HelperStage.{HelperStage}
use Rattle.pm_model.specs.declared.stage.HelperStage.TheVariants as at
use Rattle.pm_model.specs.declared.stage.Stage.TheVariants as stage
use Rattle.pm_model.specs.declared.stage.Then.{Then}
use Rattle.pm_model.specs.Derived.{is_active, is_disabled, is_in_use}
use Rattle.pm_model.specs.HelperTable.{begins, gets_if, callers_put, helper_starts, put_suspends, carries_out, timer_fires, helper_row}
use Rattle.pm_model.specs.Row.{writes}
use Rattle.pm_model.specs.Views.{Views, device, pending_of}
use Rattle.pm_laws.specs.counts.Counts.{holds}
use Rattle.pm_laws.proofs.counts.Accounts.{quiet}
use Rattle.pm_laws.proofs.counts.Givings.{took_share, gave_share}
use Rattle.pm_laws.proofs.counts.Rows.{Known, Owes, SameOwners, SameHolds, either}

-- a command of a helper
abbrev pub command : Helper → DevId → ℤ → Command
command h d n = record { helper = h; dev = d; number = n }

calls_keep : (plan : Plan) (v : Views) (t : ℕ) (h : Helper) (d : DevId) (n : ℤ) → Known plan v
    → Owes plan v t (stage.Helper (at.Call (command h d n))) (writes (event.Call (command h d n)) change.Same (begins (command h d n) t))
calls_keep plan v t helper.Resume d n k = search quiet
calls_keep plan v t _ d n k = search quiet

works_keep : (plan : Plan) (v : Views) (t : ℕ) (d : DevId) (r : Req) → Known plan v
    → Owes plan v t (stage.Helper (at.Work d)) (writes (event.Work d (Run r)) change.Same (carries_out d r))
works_keep plan v t d req.Nothing k = search quiet
works_keep plan v t d _ k = search quiet

fires_keep : (plan : Plan) (v : Views) (t : ℕ) (d : DevId) → Known plan v → Owes plan v t (stage.Helper (at.Timer d)) (timer_fires v d)
unfolding timer_fires
fires_keep plan v t d k = search quiet

gets_if_keep : (plan : Plan) (v : Views) (t : ℕ) (c : Command) (holds : Bool) → Known plan v
    → Owes plan v t (stage.Helper (at.Start c)) (gets_if v c holds)
gets_if_keep plan v t c holds k =
    either (is_disabled v c.dev) (λ _. search quiet) (λ _.
    either (is_active v c.dev && holds) (λ _. search took_share) (λ _. search quiet))

puts_keep : (plan : Plan) (v : Views) (t : ℕ) (c : Command) (next : Then) → Known plan v → SameOwners (stage.Helper (at.Start c)) next
    → SameHolds plan (stage.Helper (at.Start c)) next → Owes plan v t (stage.Helper (at.Start c)) (callers_put v c next)
puts_keep plan v t c next k o h = either (nat_eq (device v c.dev).share 0) (λ _. search quiet) (λ some. gave_share c.dev k some o h)

starts_keep : (plan : Plan) (v : Views) (t : ℕ) (h : Helper) (d : DevId) (n : ℤ) → Known plan v
    → Owes plan v t (stage.Helper (at.Start (command h d n))) (helper_starts v (command h d n))
unfolding helper_starts
starts_keep plan v t helper.GetSync d n k = search took_share
starts_keep plan v t _ d n k = search (took_share, gets_if_keep, puts_keep, quiet)

put_suspends_keep : (plan : Plan) (v : Views) (t : ℕ) (c : Command) → Known plan v → Owes plan v t (stage.Helper (at.PutSuspends c)) (put_suspends plan v c)
unfolding put_suspends
put_suspends_keep plan v t c k = either (is_in_use v c.dev) (λ _. search quiet) (λ _. search quiet)

pub helper_keeps : (plan : Plan) (v : Views) (t : ℕ) (s : HelperStage) → Known plan v → Owes plan v t (stage.Helper s) (helper_row plan v s t)
helper_keeps plan v t (at.Call c) k = calls_keep plan v t c.helper c.dev c.number k
helper_keeps plan v t (at.Work d) k = works_keep plan v t d (pending_of v d).request k
helper_keeps plan v t (at.Timer d) k = fires_keep plan v t d k
helper_keeps plan v t (at.Start c) k = starts_keep plan v t c.helper c.dev c.number k
helper_keeps plan v t (at.PutSuspends c) k = put_suspends_keep plan v t c k
helper_keeps plan v t (at.Delay ms since) k = search quiet
helper_keeps plan v t (at.Ret h d c) k = search quiet
