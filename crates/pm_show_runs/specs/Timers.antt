-- Runs of timers, and of what cancels them: the plans, and what one thread writes.
use Rattle.std.specs.Prelude.{ℕ, pos, List, [], ◌∷◌, Some, refl}
use Rattle.pm_model.specs.declared.event.Helper.TheVariants.{Autosuspend, Barrier, Disable, Enable, GetIfActive, GetNoresume, Idle, MarkLastBusy, RequestAutosuspend, RequestResume, Resume, ScheduleSuspend, SetActive, SetAutosuspendDelay, SetSuspended, Suspend, UseAutosuspend}
use Rattle.pm_model.specs.declared.plan.Plan.{Plan}
use Rattle.pm_show_runs.specs.Words.{empty_plan, dev, device, link, caller, call, call_with, delay, minus, text}

-- Whoever asks a device that suspends cancels a scheduled suspend, and so does a callback that fails; one that
-- answers -16 keeps it.
abbrev pub cancelled_in_suspend_plan : Plan
cancelled_in_suspend_plan =
    let a = dev 0 in
    record empty_plan {
      devices =
          record (device "a") { suspend = (minus 16) ∷ (minus 5) ∷ []; suspend_ms = 10; resume_ms = 10 }
          ∷ [];
      callers =
          caller "c" (
          call SetActive a
          ∷ call Enable a
          ∷ call_with ScheduleSuspend a (pos 1)
          ∷ call_with ScheduleSuspend a (pos 2)
          ∷ call Suspend a
          ∷ delay 7
          ∷ call_with ScheduleSuspend a (pos 1)
          ∷ call Resume a
          ∷ delay 2
          ∷ call SetActive a
          ∷ call Suspend a
          ∷ [])
          ∷ caller "e" (
          delay 3
          ∷ call_with ScheduleSuspend a (pos 1)
          ∷ call RequestAutosuspend a
          ∷ call Idle a
          ∷ call GetIfActive a
          ∷ delay 2
          ∷ call_with ScheduleSuspend a (pos 8)
          ∷ delay 9
          ∷ call_with ScheduleSuspend a (pos 2)
          ∷ call Suspend a
          ∷ [])
          ∷ caller "f" (
          delay 19
          ∷ call_with ScheduleSuspend a (pos 5)
          ∷ delay 7
          ∷ call_with ScheduleSuspend a (pos 2)
          ∷ call RequestResume a
          ∷ call_with ScheduleSuspend a (pos 1)
          ∷ delay 10
          ∷ call_with ScheduleSuspend a (pos 0)
          ∷ call Idle a
          ∷ call_with ScheduleSuspend a (pos 15)
          ∷ call GetNoresume a
          ∷ [])
          ∷ [];
      law = refl;
    }

abbrev pub cancelled_in_suspend_text : List ℕ
cancelled_in_suspend_text =
    text (
    "0 c pm_call: set_active a"
    ∷ "0 e pm_call: delay 3"
    ∷ "0 f pm_call: delay 19"
    ∷ "0 c pm_status: a forced_active"
    ∷ "0 c pm_ret: set_active a 0"
    ∷ "0 c pm_call: enable a"
    ∷ "0 c pm_ret: enable a 0"
    ∷ "0 c pm_call: schedule_suspend a 1"
    ∷ "0 c pm_timer: a arm 1 plain"
    ∷ "0 c pm_ret: schedule_suspend a 0"
    ∷ "0 c pm_call: schedule_suspend a 2"
    ∷ "0 c pm_timer: a arm 2 plain"
    ∷ "0 c pm_ret: schedule_suspend a 0"
    ∷ "0 c pm_call: suspend a"
    ∷ "0 c rpm_suspend: a flags-0 cnt-0  dep-0  auto-1 p-0 irq-0 child-0"
    ∷ "0 c pm_callback: a suspend begin"
    ∷ "3 e pm_ret: delay 0"
    ∷ "3 e pm_call: schedule_suspend a 1"
    ∷ "3 e pm_timer: a arm 4 plain"
    ∷ "3 e pm_ret: schedule_suspend a 0"
    ∷ "3 e pm_call: request_autosuspend a"
    ∷ "3 e rpm_suspend: a flags-9 cnt-0  dep-0  auto-1 p-0 irq-0 child-0"
    ∷ "3 e rpm_return_int: rpm_suspend:a ret=-115"
    ∷ "3 e pm_ret: request_autosuspend a -115"
    ∷ "3 e pm_call: idle a"
    ∷ "3 e rpm_idle: a flags-0 cnt-0  dep-0  auto-1 p-0 irq-0 child-0"
    ∷ "3 e rpm_return_int: rpm_idle:a ret=-11"
    ∷ "3 e pm_ret: idle a -11"
    ∷ "3 e pm_call: get_if_active a"
    ∷ "3 e pm_ret: get_if_active a 0"
    ∷ "3 e pm_call: delay 2"
    ∷ "5 e pm_ret: delay 0"
    ∷ "5 e pm_call: schedule_suspend a 8"
    ∷ "5 e pm_timer: a arm 13 plain"
    ∷ "5 e pm_ret: schedule_suspend a 0"
    ∷ "5 e pm_call: delay 9"
    ∷ "10 c pm_callback: a suspend end -16"
    ∷ "10 c rpm_return_int: rpm_suspend:a ret=-16"
    ∷ "10 c pm_ret: suspend a -16"
    ∷ "10 c pm_call: delay 7"
    ∷ "13 timer.a pm_timer: a fire plain"
    ∷ "13 timer.a rpm_suspend: a flags-1 cnt-0  dep-0  auto-1 p-0 irq-0 child-0"
    ∷ "13 timer.a pm_work: a queue suspend"
    ∷ "13 work.a pm_work: a run suspend"
    ∷ "13 work.a rpm_suspend: a flags-2 cnt-0  dep-0  auto-1 p-0 irq-0 child-0"
    ∷ "13 work.a pm_callback: a suspend begin"
    ∷ "13 timer.a rpm_return_int: rpm_suspend:a ret=0"
    ∷ "14 e pm_ret: delay 0"
    ∷ "14 e pm_call: schedule_suspend a 2"
    ∷ "14 e pm_timer: a arm 16 plain"
    ∷ "14 e pm_ret: schedule_suspend a 0"
    ∷ "14 e pm_call: suspend a"
    ∷ "14 e rpm_suspend: a flags-0 cnt-0  dep-0  auto-1 p-0 irq-0 child-0"
    ∷ "14 e pm_wait: a"
    ∷ "17 c pm_ret: delay 0"
    ∷ "17 c pm_call: schedule_suspend a 1"
    ∷ "17 c pm_timer: a arm 18 plain"
    ∷ "17 c pm_ret: schedule_suspend a 0"
    ∷ "17 c pm_call: resume a"
    ∷ "17 c rpm_resume: a flags-0 cnt-0  dep-0  auto-1 p-0 irq-0 child-0"
    ∷ "17 c pm_wait: a"
    ∷ "19 f pm_ret: delay 0"
    ∷ "19 f pm_call: schedule_suspend a 5"
    ∷ "19 f pm_timer: a arm 24 plain"
    ∷ "19 f pm_ret: schedule_suspend a 0"
    ∷ "19 f pm_call: delay 7"
    ∷ "23 work.a pm_callback: a suspend end -5"
    ∷ "23 c rpm_return_int: rpm_resume:a ret=-22"
    ∷ "23 e rpm_return_int: rpm_suspend:a ret=-22"
    ∷ "23 work.a rpm_return_int: rpm_suspend:a ret=-5"
    ∷ "23 c pm_ret: resume a -22"
    ∷ "23 e pm_ret: suspend a -22"
    ∷ "23 c pm_call: delay 2"
    ∷ "25 c pm_ret: delay 0"
    ∷ "25 c pm_call: set_active a"
    ∷ "25 c pm_status: a forced_active"
    ∷ "25 c pm_ret: set_active a 0"
    ∷ "25 c pm_call: suspend a"
    ∷ "25 c rpm_suspend: a flags-0 cnt-0  dep-0  auto-1 p-0 irq-0 child-0"
    ∷ "25 c pm_callback: a suspend begin"
    ∷ "26 f pm_ret: delay 0"
    ∷ "26 f pm_call: schedule_suspend a 2"
    ∷ "26 f pm_timer: a arm 28 plain"
    ∷ "26 f pm_ret: schedule_suspend a 0"
    ∷ "26 f pm_call: request_resume a"
    ∷ "26 f rpm_resume: a flags-1 cnt-0  dep-0  auto-1 p-0 irq-0 child-0"
    ∷ "26 f pm_work: a defer"
    ∷ "26 f rpm_return_int: rpm_resume:a ret=0"
    ∷ "26 f pm_ret: request_resume a 0"
    ∷ "26 f pm_call: schedule_suspend a 1"
    ∷ "26 f pm_ret: schedule_suspend a -11"
    ∷ "26 f pm_call: delay 10"
    ∷ "35 c pm_callback: a suspend end 0"
    ∷ "35 c pm_status: a deferred"
    ∷ "35 c rpm_resume: a flags-0 cnt-0  dep-0  auto-1 p-0 irq-0 child-0"
    ∷ "35 c pm_status: a resuming"
    ∷ "35 c pm_callback: a resume begin"
    ∷ "36 f pm_ret: delay 0"
    ∷ "36 f pm_call: schedule_suspend a 0"
    ∷ "36 f rpm_suspend: a flags-1 cnt-0  dep-0  auto-1 p-0 irq-0 child-0"
    ∷ "36 f pm_work: a queue suspend"
    ∷ "36 work.a pm_work: a run suspend"
    ∷ "36 f rpm_return_int: rpm_suspend:a ret=0"
    ∷ "36 work.a rpm_suspend: a flags-2 cnt-0  dep-0  auto-1 p-0 irq-0 child-0"
    ∷ "36 f pm_ret: schedule_suspend a 0"
    ∷ "36 work.a rpm_return_int: rpm_suspend:a ret=-11"
    ∷ "36 f pm_call: idle a"
    ∷ "36 f rpm_idle: a flags-0 cnt-0  dep-0  auto-1 p-0 irq-0 child-0"
    ∷ "36 f rpm_return_int: rpm_idle:a ret=-11"
    ∷ "36 f pm_ret: idle a -11"
    ∷ "36 f pm_call: schedule_suspend a 15"
    ∷ "36 f pm_timer: a arm 51 plain"
    ∷ "36 f pm_ret: schedule_suspend a 0"
    ∷ "36 f pm_call: get_noresume a"
    ∷ "36 f pm_get: a caller"
    ∷ "36 f pm_ret: get_noresume a 0"
    ∷ "45 c pm_callback: a resume end 0"
    ∷ "45 c pm_status: a active"
    ∷ "45 c rpm_idle: a flags-1 cnt-1  dep-0  auto-1 p-0 irq-0 child-0"
    ∷ "45 c rpm_return_int: rpm_idle:a ret=-11"
    ∷ "45 c rpm_return_int: rpm_resume:a ret=0"
    ∷ "45 c rpm_return_int: rpm_suspend:a ret=-11"
    ∷ "45 c pm_ret: suspend a -11"
    ∷ "51 timer.a pm_timer: a fire plain"
    ∷ "51 timer.a rpm_suspend: a flags-1 cnt-1  dep-0  auto-1 p-0 irq-0 child-0"
    ∷ "51 timer.a rpm_return_int: rpm_suspend:a ret=-11"
    ∷ [])

-- Whoever asks a device that resumes cancels a scheduled suspend and no autosuspend; a queued suspend takes the
-- place of either.
abbrev pub cancelled_in_resume_plan : Plan
cancelled_in_resume_plan =
    let a = dev 0 in
    record empty_plan {
      devices =
          record (device "a") { resume = (pos 0) ∷ (minus 5) ∷ (minus 5) ∷ []; resume_ms = 10 }
          ∷ [];
      callers =
          caller "c" (
          call Enable a
          ∷ call UseAutosuspend a
          ∷ call_with SetAutosuspendDelay a (pos 3)
          ∷ call RequestResume a
          ∷ delay 20
          ∷ call RequestResume a
          ∷ delay 4
          ∷ call Resume a
          ∷ call SetSuspended a
          ∷ call RequestResume a
          ∷ [])
          ∷ caller "e" (
          delay 1
          ∷ call_with ScheduleSuspend a (pos 1)
          ∷ call RequestResume a
          ∷ call RequestAutosuspend a
          ∷ call RequestResume a
          ∷ delay 3
          ∷ call RequestResume a
          ∷ delay 19
          ∷ call MarkLastBusy a
          ∷ call RequestAutosuspend a
          ∷ delay 8
          ∷ call_with ScheduleSuspend a (pos 1)
          ∷ call_with ScheduleSuspend a (pos 0)
          ∷ delay 4
          ∷ call MarkLastBusy a
          ∷ call RequestAutosuspend a
          ∷ call_with ScheduleSuspend a (pos 0)
          ∷ [])
          ∷ caller "f" (delay 21 ∷ call_with ScheduleSuspend a (pos 1) ∷ call Resume a ∷ [])
          ∷ [];
      law = refl;
    }

abbrev pub cancelled_in_resume_text : List ℕ
cancelled_in_resume_text =
    text (
    "0 c pm_call: enable a"
    ∷ "0 e pm_call: delay 1"
    ∷ "0 f pm_call: delay 21"
    ∷ "0 c pm_ret: enable a 0"
    ∷ "0 c pm_call: use_autosuspend a"
    ∷ "0 c rpm_idle: a flags-8 cnt-0  dep-0  auto-1 p-0 irq-0 child-0"
    ∷ "0 c rpm_return_int: rpm_idle:a ret=-11"
    ∷ "0 c pm_ret: use_autosuspend a 0"
    ∷ "0 c pm_call: set_autosuspend_delay a 3"
    ∷ "0 c rpm_idle: a flags-8 cnt-0  dep-0  auto-1 p-0 irq-0 child-0"
    ∷ "0 c rpm_return_int: rpm_idle:a ret=-11"
    ∷ "0 c pm_ret: set_autosuspend_delay a 0"
    ∷ "0 c pm_call: request_resume a"
    ∷ "0 c rpm_resume: a flags-1 cnt-0  dep-0  auto-1 p-0 irq-0 child-0"
    ∷ "0 c pm_work: a queue resume"
    ∷ "0 work.a pm_work: a run resume"
    ∷ "0 c rpm_return_int: rpm_resume:a ret=0"
    ∷ "0 work.a rpm_resume: a flags-2 cnt-0  dep-0  auto-1 p-0 irq-0 child-0"
    ∷ "0 c pm_ret: request_resume a 0"
    ∷ "0 work.a pm_status: a resuming"
    ∷ "0 c pm_call: delay 20"
    ∷ "0 work.a pm_callback: a resume begin"
    ∷ "1 e pm_ret: delay 0"
    ∷ "1 e pm_call: schedule_suspend a 1"
    ∷ "1 e pm_timer: a arm 2 plain"
    ∷ "1 e pm_ret: schedule_suspend a 0"
    ∷ "1 e pm_call: request_resume a"
    ∷ "1 e rpm_resume: a flags-1 cnt-0  dep-0  auto-1 p-0 irq-0 child-0"
    ∷ "1 e rpm_return_int: rpm_resume:a ret=-115"
    ∷ "1 e pm_ret: request_resume a -115"
    ∷ "1 e pm_call: request_autosuspend a"
    ∷ "1 e rpm_suspend: a flags-9 cnt-0  dep-0  auto-1 p-0 irq-0 child-0"
    ∷ "1 e pm_timer: a arm 3 auto"
    ∷ "1 e rpm_return_int: rpm_suspend:a ret=0"
    ∷ "1 e pm_ret: request_autosuspend a 0"
    ∷ "1 e pm_call: request_resume a"
    ∷ "1 e rpm_resume: a flags-1 cnt-0  dep-0  auto-1 p-0 irq-0 child-0"
    ∷ "1 e rpm_return_int: rpm_resume:a ret=-115"
    ∷ "1 e pm_ret: request_resume a -115"
    ∷ "1 e pm_call: delay 3"
    ∷ "3 timer.a pm_timer: a fire auto"
    ∷ "3 timer.a rpm_suspend: a flags-9 cnt-0  dep-0  auto-1 p-0 irq-0 child-0"
    ∷ "3 timer.a pm_work: a queue autosuspend"
    ∷ "3 timer.a rpm_return_int: rpm_suspend:a ret=0"
    ∷ "4 e pm_ret: delay 0"
    ∷ "4 e pm_call: request_resume a"
    ∷ "4 e rpm_resume: a flags-1 cnt-0  dep-0  auto-1 p-1 irq-0 child-0"
    ∷ "4 e rpm_return_int: rpm_resume:a ret=-115"
    ∷ "4 e pm_ret: request_resume a -115"
    ∷ "4 e pm_call: delay 19"
    ∷ "10 work.a pm_callback: a resume end 0"
    ∷ "10 work.a pm_status: a active"
    ∷ "10 work.a rpm_idle: a flags-1 cnt-0  dep-0  auto-1 p-1 irq-0 child-0"
    ∷ "10 work.a rpm_return_int: rpm_idle:a ret=0"
    ∷ "10 work.a rpm_suspend: a flags-9 cnt-0  dep-0  auto-1 p-1 irq-0 child-0"
    ∷ "10 work.a pm_timer: a arm 13 auto"
    ∷ "10 work.a rpm_return_int: rpm_suspend:a ret=0"
    ∷ "10 work.a rpm_return_int: rpm_resume:a ret=0"
    ∷ "10 work.a pm_work: a run none"
    ∷ "13 timer.a pm_timer: a fire auto"
    ∷ "13 timer.a rpm_suspend: a flags-9 cnt-0  dep-0  auto-1 p-0 irq-0 child-0"
    ∷ "13 timer.a pm_work: a queue autosuspend"
    ∷ "13 work.a pm_work: a run autosuspend"
    ∷ "13 work.a rpm_suspend: a flags-a cnt-0  dep-0  auto-1 p-0 irq-0 child-0"
    ∷ "13 work.a pm_callback: a suspend begin"
    ∷ "13 work.a pm_callback: a suspend end 0"
    ∷ "13 work.a pm_status: a suspended"
    ∷ "13 work.a rpm_return_int: rpm_suspend:a ret=0"
    ∷ "13 timer.a rpm_return_int: rpm_suspend:a ret=0"
    ∷ "20 c pm_ret: delay 0"
    ∷ "20 c pm_call: request_resume a"
    ∷ "20 c rpm_resume: a flags-1 cnt-0  dep-0  auto-1 p-0 irq-0 child-0"
    ∷ "20 c pm_work: a queue resume"
    ∷ "20 work.a pm_work: a run resume"
    ∷ "20 c rpm_return_int: rpm_resume:a ret=0"
    ∷ "20 work.a rpm_resume: a flags-2 cnt-0  dep-0  auto-1 p-0 irq-0 child-0"
    ∷ "20 c pm_ret: request_resume a 0"
    ∷ "20 work.a pm_status: a resuming"
    ∷ "20 c pm_call: delay 4"
    ∷ "20 work.a pm_callback: a resume begin"
    ∷ "21 f pm_ret: delay 0"
    ∷ "21 f pm_call: schedule_suspend a 1"
    ∷ "21 f pm_timer: a arm 22 plain"
    ∷ "21 f pm_ret: schedule_suspend a 0"
    ∷ "21 f pm_call: resume a"
    ∷ "21 f rpm_resume: a flags-0 cnt-0  dep-0  auto-1 p-0 irq-0 child-0"
    ∷ "21 f pm_wait: a"
    ∷ "23 e pm_ret: delay 0"
    ∷ "23 e pm_call: mark_last_busy a"
    ∷ "23 e pm_ret: mark_last_busy a 0"
    ∷ "23 e pm_call: request_autosuspend a"
    ∷ "23 e rpm_suspend: a flags-9 cnt-0  dep-0  auto-1 p-0 irq-0 child-0"
    ∷ "23 e pm_timer: a arm 26 auto"
    ∷ "23 e rpm_return_int: rpm_suspend:a ret=0"
    ∷ "23 e pm_ret: request_autosuspend a 0"
    ∷ "23 e pm_call: delay 8"
    ∷ "24 c pm_ret: delay 0"
    ∷ "24 c pm_call: resume a"
    ∷ "24 c rpm_resume: a flags-0 cnt-0  dep-0  auto-1 p-0 irq-0 child-0"
    ∷ "24 c pm_wait: a"
    ∷ "26 timer.a pm_timer: a fire auto"
    ∷ "26 timer.a rpm_suspend: a flags-9 cnt-0  dep-0  auto-1 p-0 irq-0 child-0"
    ∷ "26 timer.a pm_work: a queue autosuspend"
    ∷ "26 timer.a rpm_return_int: rpm_suspend:a ret=0"
    ∷ "30 work.a pm_callback: a resume end -5"
    ∷ "30 work.a pm_status: a suspended"
    ∷ "30 c rpm_return_int: rpm_resume:a ret=-22"
    ∷ "30 f rpm_return_int: rpm_resume:a ret=-22"
    ∷ "30 work.a rpm_return_int: rpm_resume:a ret=-5"
    ∷ "30 c pm_ret: resume a -22"
    ∷ "30 f pm_ret: resume a -22"
    ∷ "30 work.a pm_work: a run none"
    ∷ "30 c pm_call: set_suspended a"
    ∷ "30 c pm_status: a forced_suspended"
    ∷ "30 c pm_ret: set_suspended a 0"
    ∷ "30 c pm_call: request_resume a"
    ∷ "30 c rpm_resume: a flags-1 cnt-0  dep-0  auto-1 p-0 irq-0 child-0"
    ∷ "30 c pm_work: a queue resume"
    ∷ "30 work.a pm_work: a run resume"
    ∷ "30 c rpm_return_int: rpm_resume:a ret=0"
    ∷ "30 work.a rpm_resume: a flags-2 cnt-0  dep-0  auto-1 p-0 irq-0 child-0"
    ∷ "30 c pm_ret: request_resume a 0"
    ∷ "30 work.a pm_status: a resuming"
    ∷ "30 work.a pm_callback: a resume begin"
    ∷ "31 e pm_ret: delay 0"
    ∷ "31 e pm_call: schedule_suspend a 1"
    ∷ "31 e pm_timer: a arm 32 plain"
    ∷ "31 e pm_ret: schedule_suspend a 0"
    ∷ "31 e pm_call: schedule_suspend a 0"
    ∷ "31 e rpm_suspend: a flags-1 cnt-0  dep-0  auto-1 p-0 irq-0 child-0"
    ∷ "31 e pm_work: a queue suspend"
    ∷ "31 e rpm_return_int: rpm_suspend:a ret=0"
    ∷ "31 e pm_ret: schedule_suspend a 0"
    ∷ "31 e pm_call: delay 4"
    ∷ "35 e pm_ret: delay 0"
    ∷ "35 e pm_call: mark_last_busy a"
    ∷ "35 e pm_ret: mark_last_busy a 0"
    ∷ "35 e pm_call: request_autosuspend a"
    ∷ "35 e rpm_suspend: a flags-9 cnt-0  dep-0  auto-1 p-1 irq-0 child-0"
    ∷ "35 e pm_timer: a arm 38 auto"
    ∷ "35 e rpm_return_int: rpm_suspend:a ret=0"
    ∷ "35 e pm_ret: request_autosuspend a 0"
    ∷ "35 e pm_call: schedule_suspend a 0"
    ∷ "35 e rpm_suspend: a flags-1 cnt-0  dep-0  auto-1 p-1 irq-0 child-0"
    ∷ "35 e pm_work: a queue suspend"
    ∷ "35 e rpm_return_int: rpm_suspend:a ret=0"
    ∷ "35 e pm_ret: schedule_suspend a 0"
    ∷ "40 work.a pm_callback: a resume end -5"
    ∷ "40 work.a pm_status: a suspended"
    ∷ "40 work.a rpm_return_int: rpm_resume:a ret=-5"
    ∷ "40 work.a pm_work: a run none"
    ∷ [])

-- A resume callback that fails cancels an autosuspend.
abbrev pub failed_resume_plan : Plan
failed_resume_plan =
    let a = dev 0 in
    record empty_plan {
      devices = record (device "a") { resume = minus 5 ∷ []; resume_ms = 10 } ∷ [];
      callers =
          caller "c" (
          call Enable a
          ∷ call_with SetAutosuspendDelay a (pos 10)
          ∷ call UseAutosuspend a
          ∷ call Resume a
          ∷ [])
          ∷ caller "e" (delay 1 ∷ call RequestAutosuspend a ∷ [])
          ∷ [];
      law = refl;
    }

abbrev pub failed_resume_text : List ℕ
failed_resume_text =
    text (
    "0 c pm_call: enable a"
    ∷ "0 e pm_call: delay 1"
    ∷ "0 c pm_ret: enable a 0"
    ∷ "0 c pm_call: set_autosuspend_delay a 10"
    ∷ "0 c rpm_idle: a flags-8 cnt-0  dep-0  auto-1 p-0 irq-0 child-0"
    ∷ "0 c rpm_return_int: rpm_idle:a ret=-11"
    ∷ "0 c pm_ret: set_autosuspend_delay a 0"
    ∷ "0 c pm_call: use_autosuspend a"
    ∷ "0 c rpm_idle: a flags-8 cnt-0  dep-0  auto-1 p-0 irq-0 child-0"
    ∷ "0 c rpm_return_int: rpm_idle:a ret=-11"
    ∷ "0 c pm_ret: use_autosuspend a 0"
    ∷ "0 c pm_call: resume a"
    ∷ "0 c rpm_resume: a flags-0 cnt-0  dep-0  auto-1 p-0 irq-0 child-0"
    ∷ "0 c pm_status: a resuming"
    ∷ "0 c pm_callback: a resume begin"
    ∷ "1 e pm_ret: delay 0"
    ∷ "1 e pm_call: request_autosuspend a"
    ∷ "1 e rpm_suspend: a flags-9 cnt-0  dep-0  auto-1 p-0 irq-0 child-0"
    ∷ "1 e pm_timer: a arm 10 auto"
    ∷ "1 e rpm_return_int: rpm_suspend:a ret=0"
    ∷ "1 e pm_ret: request_autosuspend a 0"
    ∷ "10 c pm_callback: a resume end -5"
    ∷ "10 c pm_status: a suspended"
    ∷ "10 c rpm_return_int: rpm_resume:a ret=-5"
    ∷ "10 c pm_ret: resume a -5"
    ∷ [])

-- barrier and disable, waiting or not, and a suspend that begins cancel an autosuspend.
abbrev pub cancelled_by_control_plan : Plan
cancelled_by_control_plan =
    let a = dev 0 in
    record empty_plan {
      devices =
          record (device "a") { idle = Some ((minus 16) ∷ (minus 16) ∷ []); idle_ms = 10; suspend_ms = 10 }
          ∷ [];
      callers =
          caller "c" (
          delay 3
          ∷ call SetActive a
          ∷ call UseAutosuspend a
          ∷ call_with SetAutosuspendDelay a (pos 5)
          ∷ call Enable a
          ∷ call Autosuspend a
          ∷ call MarkLastBusy a
          ∷ call Autosuspend a
          ∷ call Barrier a
          ∷ delay 3
          ∷ call MarkLastBusy a
          ∷ call Autosuspend a
          ∷ call Disable a
          ∷ delay 6
          ∷ call Enable a
          ∷ call Idle a
          ∷ call Idle a
          ∷ call Enable a
          ∷ call MarkLastBusy a
          ∷ call Autosuspend a
          ∷ call Suspend a
          ∷ [])
          ∷ caller "e" (
          delay 13
          ∷ call MarkLastBusy a
          ∷ call Autosuspend a
          ∷ call Barrier a
          ∷ delay 1
          ∷ call MarkLastBusy a
          ∷ call Autosuspend a
          ∷ call Disable a
          ∷ delay 6
          ∷ call MarkLastBusy a
          ∷ call RequestAutosuspend a
          ∷ call Disable a
          ∷ call SetActive a
          ∷ call Resume a
          ∷ [])
          ∷ [];
      law = refl;
    }

abbrev pub cancelled_by_control_text : List ℕ
cancelled_by_control_text =
    text (
    "0 c pm_call: delay 3"
    ∷ "0 e pm_call: delay 13"
    ∷ "3 c pm_ret: delay 0"
    ∷ "3 c pm_call: set_active a"
    ∷ "3 c pm_status: a forced_active"
    ∷ "3 c pm_ret: set_active a 0"
    ∷ "3 c pm_call: use_autosuspend a"
    ∷ "3 c rpm_idle: a flags-8 cnt-0  dep-1  auto-1 p-0 irq-0 child-0"
    ∷ "3 c rpm_return_int: rpm_idle:a ret=-13"
    ∷ "3 c pm_ret: use_autosuspend a 0"
    ∷ "3 c pm_call: set_autosuspend_delay a 5"
    ∷ "3 c rpm_idle: a flags-8 cnt-0  dep-1  auto-1 p-0 irq-0 child-0"
    ∷ "3 c rpm_return_int: rpm_idle:a ret=-13"
    ∷ "3 c pm_ret: set_autosuspend_delay a 0"
    ∷ "3 c pm_call: enable a"
    ∷ "3 c pm_ret: enable a 0"
    ∷ "3 c pm_call: autosuspend a"
    ∷ "3 c rpm_suspend: a flags-8 cnt-0  dep-0  auto-1 p-0 irq-0 child-0"
    ∷ "3 c pm_timer: a arm 5 auto"
    ∷ "3 c rpm_return_int: rpm_suspend:a ret=0"
    ∷ "3 c pm_ret: autosuspend a 0"
    ∷ "3 c pm_call: mark_last_busy a"
    ∷ "3 c pm_ret: mark_last_busy a 0"
    ∷ "3 c pm_call: autosuspend a"
    ∷ "3 c rpm_suspend: a flags-8 cnt-0  dep-0  auto-1 p-0 irq-0 child-0"
    ∷ "3 c pm_timer: a arm 5 auto"
    ∷ "3 c rpm_return_int: rpm_suspend:a ret=0"
    ∷ "3 c pm_ret: autosuspend a 0"
    ∷ "3 c pm_call: barrier a"
    ∷ "3 c pm_get: a control"
    ∷ "3 c pm_put: a control"
    ∷ "3 c pm_ret: barrier a 0"
    ∷ "3 c pm_call: delay 3"
    ∷ "6 c pm_ret: delay 0"
    ∷ "6 c pm_call: mark_last_busy a"
    ∷ "6 c pm_ret: mark_last_busy a 0"
    ∷ "6 c pm_call: autosuspend a"
    ∷ "6 c rpm_suspend: a flags-8 cnt-0  dep-0  auto-1 p-0 irq-0 child-0"
    ∷ "6 c pm_timer: a arm 11 auto"
    ∷ "6 c rpm_return_int: rpm_suspend:a ret=0"
    ∷ "6 c pm_ret: autosuspend a 0"
    ∷ "6 c pm_call: disable a"
    ∷ "6 c pm_ret: disable a 0"
    ∷ "6 c pm_call: delay 6"
    ∷ "12 c pm_ret: delay 0"
    ∷ "12 c pm_call: enable a"
    ∷ "12 c pm_ret: enable a 0"
    ∷ "12 c pm_call: idle a"
    ∷ "12 c rpm_idle: a flags-0 cnt-0  dep-0  auto-1 p-0 irq-0 child-0"
    ∷ "12 c pm_callback: a idle begin"
    ∷ "13 e pm_ret: delay 0"
    ∷ "13 e pm_call: mark_last_busy a"
    ∷ "13 e pm_ret: mark_last_busy a 0"
    ∷ "13 e pm_call: autosuspend a"
    ∷ "13 e rpm_suspend: a flags-8 cnt-0  dep-0  auto-1 p-0 irq-0 child-0"
    ∷ "13 e pm_timer: a arm 18 auto"
    ∷ "13 e rpm_return_int: rpm_suspend:a ret=0"
    ∷ "13 e pm_ret: autosuspend a 0"
    ∷ "13 e pm_call: barrier a"
    ∷ "13 e pm_get: a control"
    ∷ "13 e pm_wait: a"
    ∷ "22 c pm_callback: a idle end -16"
    ∷ "22 e pm_put: a control"
    ∷ "22 c rpm_return_int: rpm_idle:a ret=-16"
    ∷ "22 e pm_ret: barrier a 0"
    ∷ "22 c pm_ret: idle a -16"
    ∷ "22 e pm_call: delay 1"
    ∷ "22 c pm_call: idle a"
    ∷ "22 c rpm_idle: a flags-0 cnt-0  dep-0  auto-1 p-0 irq-0 child-0"
    ∷ "22 c pm_callback: a idle begin"
    ∷ "23 e pm_ret: delay 0"
    ∷ "23 e pm_call: mark_last_busy a"
    ∷ "23 e pm_ret: mark_last_busy a 0"
    ∷ "23 e pm_call: autosuspend a"
    ∷ "23 e rpm_suspend: a flags-8 cnt-0  dep-0  auto-1 p-0 irq-0 child-0"
    ∷ "23 e pm_timer: a arm 28 auto"
    ∷ "23 e rpm_return_int: rpm_suspend:a ret=0"
    ∷ "23 e pm_ret: autosuspend a 0"
    ∷ "23 e pm_call: disable a"
    ∷ "23 e pm_wait: a"
    ∷ "32 c pm_callback: a idle end -16"
    ∷ "32 e pm_ret: disable a 0"
    ∷ "32 c rpm_return_int: rpm_idle:a ret=-16"
    ∷ "32 e pm_call: delay 6"
    ∷ "32 c pm_ret: idle a -16"
    ∷ "32 c pm_call: enable a"
    ∷ "32 c pm_ret: enable a 0"
    ∷ "32 c pm_call: mark_last_busy a"
    ∷ "32 c pm_ret: mark_last_busy a 0"
    ∷ "32 c pm_call: autosuspend a"
    ∷ "32 c rpm_suspend: a flags-8 cnt-0  dep-0  auto-1 p-0 irq-0 child-0"
    ∷ "32 c pm_timer: a arm 37 auto"
    ∷ "32 c rpm_return_int: rpm_suspend:a ret=0"
    ∷ "32 c pm_ret: autosuspend a 0"
    ∷ "32 c pm_call: suspend a"
    ∷ "32 c rpm_suspend: a flags-0 cnt-0  dep-0  auto-1 p-0 irq-0 child-0"
    ∷ "32 c pm_callback: a suspend begin"
    ∷ "38 e pm_ret: delay 0"
    ∷ "38 e pm_call: mark_last_busy a"
    ∷ "38 e pm_ret: mark_last_busy a 0"
    ∷ "38 e pm_call: request_autosuspend a"
    ∷ "38 e rpm_suspend: a flags-9 cnt-0  dep-0  auto-1 p-0 irq-0 child-0"
    ∷ "38 e rpm_return_int: rpm_suspend:a ret=-115"
    ∷ "38 e pm_ret: request_autosuspend a -115"
    ∷ "38 e pm_call: disable a"
    ∷ "38 e pm_wait: a"
    ∷ "42 c pm_callback: a suspend end 0"
    ∷ "42 c pm_status: a suspended"
    ∷ "42 e pm_ret: disable a 0"
    ∷ "42 c rpm_return_int: rpm_suspend:a ret=0"
    ∷ "42 e pm_call: set_active a"
    ∷ "42 c pm_ret: suspend a 0"
    ∷ "42 e pm_status: a forced_active"
    ∷ "42 e pm_ret: set_active a 0"
    ∷ "42 e pm_call: resume a"
    ∷ "42 e rpm_resume: a flags-0 cnt-0  dep-1  auto-1 p-0 irq-0 child-0"
    ∷ "42 e rpm_return_int: rpm_resume:a ret=-13"
    ∷ "42 e pm_ret: resume a -13"
    ∷ [])

-- A timer that is armed while set_active resumes the suppliers stays.
abbrev pub enabled_meanwhile_plan : Plan
enabled_meanwhile_plan =
    let s = dev 0 in
    let k = dev 1 in
    record empty_plan {
      devices = record (device "s") { resume_ms = 10 } ∷ device "k" ∷ [];
      links = link k s ∷ [];
      callers =
          caller "c" (call Enable s ∷ call SetActive k ∷ call GetNoresume s ∷ [])
          ∷ caller "e" (delay 1 ∷ call Enable k ∷ call_with ScheduleSuspend k (pos 14) ∷ [])
          ∷ [];
      law = refl;
    }

abbrev pub enabled_meanwhile_text : List ℕ
enabled_meanwhile_text =
    text (
    "0 c pm_call: enable s"
    ∷ "0 e pm_call: delay 1"
    ∷ "0 c pm_ret: enable s 0"
    ∷ "0 c pm_call: set_active k"
    ∷ "0 c pm_status: k resuming"
    ∷ "0 c pm_get: s link k"
    ∷ "0 c rpm_resume: s flags-4 cnt-1  dep-0  auto-1 p-0 irq-0 child-0"
    ∷ "0 c pm_status: s resuming"
    ∷ "0 c pm_callback: s resume begin"
    ∷ "1 e pm_ret: delay 0"
    ∷ "1 e pm_call: enable k"
    ∷ "1 e pm_ret: enable k 0"
    ∷ "1 e pm_call: schedule_suspend k 14"
    ∷ "1 e pm_timer: k arm 15 plain"
    ∷ "1 e pm_ret: schedule_suspend k 0"
    ∷ "10 c pm_callback: s resume end 0"
    ∷ "10 c pm_status: s active"
    ∷ "10 c rpm_idle: s flags-1 cnt-1  dep-0  auto-1 p-0 irq-0 child-0"
    ∷ "10 c rpm_return_int: rpm_idle:s ret=-11"
    ∷ "10 c rpm_return_int: rpm_resume:s ret=0"
    ∷ "10 c pm_status: k forced_active"
    ∷ "10 c pm_ret: set_active k 0"
    ∷ "10 c pm_call: get_noresume s"
    ∷ "10 c pm_get: s caller"
    ∷ "10 c pm_ret: get_noresume s 0"
    ∷ "15 timer.k pm_timer: k fire plain"
    ∷ "15 timer.k rpm_suspend: k flags-1 cnt-0  dep-0  auto-1 p-0 irq-0 child-0"
    ∷ "15 timer.k pm_work: k queue suspend"
    ∷ "15 work.k pm_work: k run suspend"
    ∷ "15 work.k rpm_suspend: k flags-2 cnt-0  dep-0  auto-1 p-0 irq-0 child-0"
    ∷ "15 work.k pm_callback: k suspend begin"
    ∷ "15 work.k pm_callback: k suspend end 0"
    ∷ "15 work.k pm_put: s link k"
    ∷ "15 work.k rpm_usage: s flags-5 cnt-1  dep-0  auto-1 p-0 irq-0 child-0"
    ∷ "15 work.k pm_status: k suspended"
    ∷ "15 work.k rpm_return_int: rpm_suspend:k ret=0"
    ∷ "15 timer.k rpm_return_int: rpm_suspend:k ret=0"
    ∷ [])
