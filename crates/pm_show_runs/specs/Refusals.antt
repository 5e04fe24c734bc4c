-- Lines that may not come: each after the first lines of a run, with one thing changed.
use Rattle.std.specs.Prelude.{◌≡◌, ℕ, Bool, true, false, [], ◌∷◌, pos, codes}
use Prim.Native.String.{String}
use Rattle.pm_base.specs.declared.ActorId.{ActorId}
use Rattle.pm_base.specs.declared.ActorId.TheVariants.{Caller, Timer, Work}
use Rattle.pm_base.specs.declared.Cb.TheVariants as cb
use Rattle.pm_base.specs.declared.Req.TheVariants as req
use Rattle.pm_base.specs.declared.Why.TheVariants as why
use Rattle.pm_model.specs.declared.event.Event.{Event}
use Rattle.pm_model.specs.declared.event.Event.TheVariants as event
use Rattle.pm_model.specs.declared.event.Fields.{Fields}
use Rattle.pm_model.specs.declared.event.Helper.TheVariants.{Enable, Forbid, GetSync, Resume}
use Rattle.pm_model.specs.declared.event.Line.{Line}
use Rattle.pm_model.specs.declared.event.TimerAct.TheVariants as timer
use Rattle.pm_model.specs.declared.event.Word.TheVariants as word
use Rattle.pm_model.specs.declared.event.WorkAct.TheVariants as work
use Rattle.pm_model.specs.declared.plan.Plan.{Plan}
use Rattle.pm_model.specs.Lawful.{IsLawful}
use Rattle.pm_model.specs.Serial.{goes_on}
use Rattle.pm_model.specs.Spelling.{line_text}
use Rattle.pm_model.specs.Text.{names_of}
use Rattle.pm_show_runs.specs.Words.{call, dev, minus}

-- after the first n lines that one thread writes, this line, so spelled, may not come
pub record IsRefused (plan : Plan) (n : ℕ) (line : Line) (spelled : String) : Type 0 where
  pub spelling : line_text (names_of plan) line ≡ codes spelled
  pub unlawful : ¬ IsLawful plan (line ∷ goes_on plan n [])

abbrev pub line : ℕ → ActorId → Event → Line
line t actor e = record { time = t; actor = actor; event = e }

-- a payload while nothing is queued, and the device is neither disabled nor forbidden
abbrev pub payload : ℕ → ℕ → ℕ → Fields
payload flags cnt child = record { flags = flags; cnt = cnt; dep = 0; auto_on = true; pending = false; child = child }

-- wrong fields: a count, a number of children, a code, a number of domains, a moment

abbrev pub wrong_count : Line
wrong_count = line 0 (Caller 0) (event.Resume (dev 0) (payload 4 2 0))

abbrev pub wrong_children : Line
wrong_children = line 0 (Caller 0) (event.Idle (dev 0) (payload 5 0 0))

abbrev pub wrong_code : Line
wrong_code = line 0 (Caller 0) (event.Ret GetSync (dev 0) (pos 1))

abbrev pub wrong_domains : Line
wrong_domains = line 0 (Caller 0) (event.Domain (dev 0) true 1)

abbrev pub wrong_moment : Line
wrong_moment = line 10 (Timer 0) (event.Timer (dev 0) (timer.Arm 18 true))

-- wrong order: two lines swapped, a line left out, a count on the parent given back before the child is active, a
-- resume callback begun before the supplier's has ended

abbrev pub swapped : Line
swapped = line 0 (Caller 0) (event.Begin (dev 1) cb.Resume)

abbrev pub left_out : Line
left_out = line 0 (Caller 0) (event.Resume (dev 2) (payload 4 1 0))

abbrev pub given_back_early : Line
given_back_early = line 0 (Caller 0) (event.Put (dev 1) (why.Child (dev 2)))

abbrev pub begun_early : Line
begun_early = line 0 (Caller 0) (event.Begin (dev 2) cb.Resume)

-- wrong times: a callback's end and a timer before they are due, a line earlier than the one before it

abbrev pub ended_early : Line
ended_early = line 9 (Caller 0) (event.End (dev 0) cb.Suspend (pos 0))

abbrev pub fired_early : Line
fired_early = line 9 (Timer 0) (event.Timer (dev 0) (timer.Fire true))

abbrev pub falling_time : Line
falling_time = line 9 (Caller 0) (event.State (dev 0) word.Deferred)

-- wrong actors: another caller's callback, a work item's request, a caller that waits

abbrev pub other_caller : Line
other_caller = line 10 (Caller 1) (event.End (dev 0) cb.Suspend (pos 0))

abbrev pub not_a_work_item : Line
not_a_work_item = line 0 (Caller 0) (event.Work (dev 0) (work.Run req.Autosuspend))

abbrev pub waiting : Line
waiting = line 0 (Caller 0) (event.Return cb.Resume (dev 0) (pos 1))

-- wrong steps: a suspend callback begins while a caller holds a count, or while there is an error; a put takes the
-- count
-- that forbid holds; -16 counts as an error; a child resumes though its parent failed to

abbrev pub suspend_begun : Line
suspend_begun = line 0 (Caller 0) (event.Begin (dev 0) cb.Suspend)

abbrev pub forbidden_count : Line
forbidden_count = line 0 (Caller 0) (event.Put (dev 0) why.Caller)

abbrev pub busy_as_error : Line
busy_as_error = line 0 (Caller 0) (event.Return cb.Suspend (dev 0) (minus 22))

abbrev pub without_parent : Line
without_parent = line 0 (Caller 0) (event.State (dev 1) word.Resuming)

-- nothing comes after the end: of a run that is finished, or at the plan's limit

abbrev pub after_end : Line
after_end = line 0 (Caller 0) (event.Call (call Enable (dev 0)))

abbrev pub past_limit : Line
past_limit = line 0 (Caller 0) (event.Resume (dev 1) (payload 0 1 0))

-- a timer fires that was cancelled, or that isn't due
abbrev pub fired_of : ℕ → ℕ → Bool → Line
fired_of d t auto = line t (Timer d) (event.Timer (dev d) (timer.Fire auto))

abbrev pub fired : ℕ → Bool → Line
fired = fired_of 0

-- what a rare guard rules out: an idle callback of a device that has none; a code that isn't answered, since the
-- callback marked the device busy; a request that a suspend, a barrier or a resume took away; the last status as a
-- nested disable found it, and not as the first one did; a supplier whose link is absent; a parent that is disabled; a
-- second count on the parent; a return before the count on the parent is given back; suppliers given back in the order
-- of links; the code of a call that doesn't matter

abbrev pub idle_begun : Line
idle_begun = line 2 (Caller 1) (event.Begin (dev 0) cb.Idle)

abbrev pub not_awaited : Line
not_awaited = line 18 (Caller 0) (event.Return cb.Suspend (dev 0) (minus 11))

abbrev pub taken_away : Line
taken_away = line 3 (Work 0) (event.Work (dev 0) (work.Run req.Suspend))

abbrev pub taken_by_barrier : Line
taken_by_barrier = line 10 (Work 0) (event.Work (dev 0) (work.Run req.Autosuspend))

abbrev pub taken_by_resume : Line
taken_by_resume = line 0 (Work 1) (event.Work (dev 1) (work.Run req.Resume))

abbrev pub found_active : Line
found_active = line 0 (Caller 0) (event.Return cb.Resume (dev 0) (pos 1))

abbrev pub found_suspended : Line
found_suspended = line 0 (Caller 0) (event.Return cb.Resume (dev 0) (minus 13))

abbrev pub absent_told : Line
absent_told = line 0 (Caller 0) (event.Idle (dev 1) (payload 1 0 0))

abbrev pub disabled_called : Line
disabled_called = line 0 (Caller 0) (event.Resume (dev 0) (record (payload 0 1 0) { dep = 1 }))

abbrev pub counted_twice : Line
counted_twice = line 20 (Caller 0) (event.Get (dev 0) (why.Child (dev 2)))

abbrev pub put_left_out : Line
put_left_out = line 20 (Caller 2) (event.Ret Resume (dev 1) (pos 1))

abbrev pub given_in_link_order : Line
given_in_link_order = line 0 (Caller 0) (event.Put (dev 2) (why.Link (dev 3)))

abbrev pub code_of_call : Line
code_of_call = line 0 (Caller 0) (event.Ret Forbid (dev 0) (minus 13))
