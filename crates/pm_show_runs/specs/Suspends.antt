-- Runs of suspends, by calls, by autosuspend and by timers: the plans, and what one thread writes.
use Rattle.std.specs.Prelude.{ℕ, pos, true, List, [], ◌∷◌, Some, refl}
use Rattle.pm_model.specs.declared.event.Helper.TheVariants.{Autosuspend, Barrier, Disable, DontUseAutosuspend, Enable, GetSync, Idle, MarkLastBusy, PutNoidle, PutSync, PutSyncAutosuspend, RequestResume, Resume, ScheduleSuspend, SetActive, SetAutosuspendDelay, SetSuspended, Suspend, UseAutosuspend}
use Rattle.pm_model.specs.declared.plan.Plan.{Plan}
use Rattle.pm_show_runs.specs.Words.{empty_plan, dev, device, caller, call, call_with, delay, minus, text}

-- A suspend callback that answers -16 leaves the device active without an error; the next one suspends it.
abbrev pub busy_suspend_plan : Plan
busy_suspend_plan =
    let a = dev 0 in
    record empty_plan {
      devices = record (device "a") { idle = Some []; suspend = minus 16 ∷ [] } ∷ [];
      callers =
          caller "c" (call Enable a ∷ call GetSync a ∷ call PutSync a ∷ call Suspend a ∷ [])
          ∷ [];
      law = refl;
    }

abbrev pub busy_suspend_text : List ℕ
busy_suspend_text =
    text (
    "0 c pm_call: enable a"
    ∷ "0 c pm_ret: enable a 0"
    ∷ "0 c pm_call: get_sync a"
    ∷ "0 c pm_get: a caller"
    ∷ "0 c rpm_resume: a flags-4 cnt-1  dep-0  auto-1 p-0 irq-0 child-0"
    ∷ "0 c pm_status: a resuming"
    ∷ "0 c pm_callback: a resume begin"
    ∷ "0 c pm_callback: a resume end 0"
    ∷ "0 c pm_status: a active"
    ∷ "0 c rpm_idle: a flags-1 cnt-1  dep-0  auto-1 p-0 irq-0 child-0"
    ∷ "0 c rpm_return_int: rpm_idle:a ret=-11"
    ∷ "0 c rpm_return_int: rpm_resume:a ret=0"
    ∷ "0 c pm_ret: get_sync a 0"
    ∷ "0 c pm_call: put_sync a"
    ∷ "0 c pm_put: a caller"
    ∷ "0 c rpm_idle: a flags-4 cnt-0  dep-0  auto-1 p-0 irq-0 child-0"
    ∷ "0 c pm_callback: a idle begin"
    ∷ "0 c pm_callback: a idle end 0"
    ∷ "0 c rpm_return_int: rpm_idle:a ret=0"
    ∷ "0 c rpm_suspend: a flags-c cnt-0  dep-0  auto-1 p-0 irq-0 child-0"
    ∷ "0 c pm_callback: a suspend begin"
    ∷ "0 c pm_callback: a suspend end -16"
    ∷ "0 c rpm_return_int: rpm_suspend:a ret=-16"
    ∷ "0 c pm_ret: put_sync a -16"
    ∷ "0 c pm_call: suspend a"
    ∷ "0 c rpm_suspend: a flags-0 cnt-0  dep-0  auto-1 p-0 irq-0 child-0"
    ∷ "0 c pm_callback: a suspend begin"
    ∷ "0 c pm_callback: a suspend end 0"
    ∷ "0 c pm_status: a suspended"
    ∷ "0 c rpm_return_int: rpm_suspend:a ret=0"
    ∷ "0 c pm_ret: suspend a 0"
    ∷ [])

-- A suspend callback that answers -5 leaves an error, which refuses all but a forced status.
abbrev pub failed_suspend_plan : Plan
failed_suspend_plan =
    let a = dev 0 in
    record empty_plan {
      devices = record (device "a") { suspend = minus 5 ∷ [] } ∷ [];
      callers =
          caller "c" (
          call Enable a
          ∷ call GetSync a
          ∷ call PutNoidle a
          ∷ call Suspend a
          ∷ call Suspend a
          ∷ call Resume a
          ∷ call SetSuspended a
          ∷ call Suspend a
          ∷ [])
          ∷ [];
      law = refl;
    }

abbrev pub failed_suspend_text : List ℕ
failed_suspend_text =
    text (
    "0 c pm_call: enable a"
    ∷ "0 c pm_ret: enable a 0"
    ∷ "0 c pm_call: get_sync a"
    ∷ "0 c pm_get: a caller"
    ∷ "0 c rpm_resume: a flags-4 cnt-1  dep-0  auto-1 p-0 irq-0 child-0"
    ∷ "0 c pm_status: a resuming"
    ∷ "0 c pm_callback: a resume begin"
    ∷ "0 c pm_callback: a resume end 0"
    ∷ "0 c pm_status: a active"
    ∷ "0 c rpm_idle: a flags-1 cnt-1  dep-0  auto-1 p-0 irq-0 child-0"
    ∷ "0 c rpm_return_int: rpm_idle:a ret=-11"
    ∷ "0 c rpm_return_int: rpm_resume:a ret=0"
    ∷ "0 c pm_ret: get_sync a 0"
    ∷ "0 c pm_call: put_noidle a"
    ∷ "0 c pm_put: a caller"
    ∷ "0 c pm_ret: put_noidle a 0"
    ∷ "0 c pm_call: suspend a"
    ∷ "0 c rpm_suspend: a flags-0 cnt-0  dep-0  auto-1 p-0 irq-0 child-0"
    ∷ "0 c pm_callback: a suspend begin"
    ∷ "0 c pm_callback: a suspend end -5"
    ∷ "0 c rpm_return_int: rpm_suspend:a ret=-5"
    ∷ "0 c pm_ret: suspend a -5"
    ∷ "0 c pm_call: suspend a"
    ∷ "0 c rpm_suspend: a flags-0 cnt-0  dep-0  auto-1 p-0 irq-0 child-0"
    ∷ "0 c rpm_return_int: rpm_suspend:a ret=-22"
    ∷ "0 c pm_ret: suspend a -22"
    ∷ "0 c pm_call: resume a"
    ∷ "0 c rpm_resume: a flags-0 cnt-0  dep-0  auto-1 p-0 irq-0 child-0"
    ∷ "0 c rpm_return_int: rpm_resume:a ret=-22"
    ∷ "0 c pm_ret: resume a -22"
    ∷ "0 c pm_call: set_suspended a"
    ∷ "0 c pm_status: a forced_suspended"
    ∷ "0 c pm_ret: set_suspended a 0"
    ∷ "0 c pm_call: suspend a"
    ∷ "0 c rpm_suspend: a flags-0 cnt-0  dep-0  auto-1 p-0 irq-0 child-0"
    ∷ "0 c rpm_return_int: rpm_suspend:a ret=1"
    ∷ "0 c pm_ret: suspend a 1"
    ∷ [])

-- A device without callbacks changes its status at once.
abbrev pub no_callbacks_plan : Plan
no_callbacks_plan =
    let a = dev 0 in
    record empty_plan {
      devices = record (device "a") { no_callbacks = true } ∷ [];
      callers = caller "c" (call Enable a ∷ call GetSync a ∷ call PutSync a ∷ []) ∷ [];
      law = refl;
    }

abbrev pub no_callbacks_text : List ℕ
no_callbacks_text =
    text (
    "0 c pm_call: enable a"
    ∷ "0 c pm_ret: enable a 0"
    ∷ "0 c pm_call: get_sync a"
    ∷ "0 c pm_get: a caller"
    ∷ "0 c rpm_resume: a flags-4 cnt-1  dep-0  auto-1 p-0 irq-0 child-0"
    ∷ "0 c pm_status: a active"
    ∷ "0 c rpm_idle: a flags-1 cnt-1  dep-0  auto-1 p-0 irq-0 child-0"
    ∷ "0 c rpm_return_int: rpm_idle:a ret=-11"
    ∷ "0 c rpm_return_int: rpm_resume:a ret=0"
    ∷ "0 c pm_ret: get_sync a 0"
    ∷ "0 c pm_call: put_sync a"
    ∷ "0 c pm_put: a caller"
    ∷ "0 c rpm_idle: a flags-4 cnt-0  dep-0  auto-1 p-0 irq-0 child-0"
    ∷ "0 c rpm_return_int: rpm_idle:a ret=0"
    ∷ "0 c rpm_suspend: a flags-c cnt-0  dep-0  auto-1 p-0 irq-0 child-0"
    ∷ "0 c pm_status: a suspended"
    ∷ "0 c rpm_return_int: rpm_suspend:a ret=0"
    ∷ "0 c pm_ret: put_sync a 0"
    ∷ [])

-- An autosuspend waits by a timer for its delay since the device was last busy.
abbrev pub autosuspend_plan : Plan
autosuspend_plan =
    let a = dev 0 in
    record empty_plan {
      devices = device "a" ∷ [];
      callers =
          caller "c" (
          call Enable a
          ∷ call_with SetAutosuspendDelay a (pos 10)
          ∷ call UseAutosuspend a
          ∷ call GetSync a
          ∷ call PutSyncAutosuspend a
          ∷ delay 9
          ∷ call Autosuspend a
          ∷ call MarkLastBusy a
          ∷ [])
          ∷ [];
      law = refl;
    }

abbrev pub autosuspend_text : List ℕ
autosuspend_text =
    text (
    "0 c pm_call: enable a"
    ∷ "0 c pm_ret: enable a 0"
    ∷ "0 c pm_call: set_autosuspend_delay a 10"
    ∷ "0 c rpm_idle: a flags-8 cnt-0  dep-0  auto-1 p-0 irq-0 child-0"
    ∷ "0 c rpm_return_int: rpm_idle:a ret=-11"
    ∷ "0 c pm_ret: set_autosuspend_delay a 0"
    ∷ "0 c pm_call: use_autosuspend a"
    ∷ "0 c rpm_idle: a flags-8 cnt-0  dep-0  auto-1 p-0 irq-0 child-0"
    ∷ "0 c rpm_return_int: rpm_idle:a ret=-11"
    ∷ "0 c pm_ret: use_autosuspend a 0"
    ∷ "0 c pm_call: get_sync a"
    ∷ "0 c pm_get: a caller"
    ∷ "0 c rpm_resume: a flags-4 cnt-1  dep-0  auto-1 p-0 irq-0 child-0"
    ∷ "0 c pm_status: a resuming"
    ∷ "0 c pm_callback: a resume begin"
    ∷ "0 c pm_callback: a resume end 0"
    ∷ "0 c pm_status: a active"
    ∷ "0 c rpm_idle: a flags-1 cnt-1  dep-0  auto-1 p-0 irq-0 child-0"
    ∷ "0 c rpm_return_int: rpm_idle:a ret=-11"
    ∷ "0 c rpm_return_int: rpm_resume:a ret=0"
    ∷ "0 c pm_ret: get_sync a 0"
    ∷ "0 c pm_call: put_sync_autosuspend a"
    ∷ "0 c pm_put: a caller"
    ∷ "0 c rpm_suspend: a flags-c cnt-0  dep-0  auto-1 p-0 irq-0 child-0"
    ∷ "0 c pm_timer: a arm 10 auto"
    ∷ "0 c rpm_return_int: rpm_suspend:a ret=0"
    ∷ "0 c pm_ret: put_sync_autosuspend a 0"
    ∷ "0 c pm_call: delay 9"
    ∷ "9 c pm_ret: delay 0"
    ∷ "9 c pm_call: autosuspend a"
    ∷ "9 c rpm_suspend: a flags-8 cnt-0  dep-0  auto-1 p-0 irq-0 child-0"
    ∷ "9 c pm_timer: a arm 10 auto"
    ∷ "9 c rpm_return_int: rpm_suspend:a ret=0"
    ∷ "9 c pm_ret: autosuspend a 0"
    ∷ "9 c pm_call: mark_last_busy a"
    ∷ "9 c pm_ret: mark_last_busy a 0"
    ∷ "10 timer.a pm_timer: a fire auto"
    ∷ "10 timer.a rpm_suspend: a flags-9 cnt-0  dep-0  auto-1 p-0 irq-0 child-0"
    ∷ "10 timer.a pm_timer: a arm 19 auto"
    ∷ "10 timer.a rpm_return_int: rpm_suspend:a ret=0"
    ∷ "19 timer.a pm_timer: a fire auto"
    ∷ "19 timer.a rpm_suspend: a flags-9 cnt-0  dep-0  auto-1 p-0 irq-0 child-0"
    ∷ "19 timer.a pm_work: a queue autosuspend"
    ∷ "19 work.a pm_work: a run autosuspend"
    ∷ "19 work.a rpm_suspend: a flags-a cnt-0  dep-0  auto-1 p-0 irq-0 child-0"
    ∷ "19 work.a pm_callback: a suspend begin"
    ∷ "19 work.a pm_callback: a suspend end 0"
    ∷ "19 work.a pm_status: a suspended"
    ∷ "19 work.a rpm_return_int: rpm_suspend:a ret=0"
    ∷ "19 timer.a rpm_return_int: rpm_suspend:a ret=0"
    ∷ [])

-- A suspend callback that marks its device busy and answers -16 has the autosuspend wait anew.
abbrev pub marked_busy_plan : Plan
marked_busy_plan =
    let a = dev 0 in
    record empty_plan {
      devices = record (device "a") { busy = true; suspend = minus 16 ∷ [] } ∷ [];
      callers =
          caller "c" (
          call Enable a
          ∷ call_with SetAutosuspendDelay a (pos 10)
          ∷ call UseAutosuspend a
          ∷ call GetSync a
          ∷ call PutNoidle a
          ∷ delay 10
          ∷ call Autosuspend a
          ∷ [])
          ∷ [];
      law = refl;
    }

abbrev pub marked_busy_text : List ℕ
marked_busy_text =
    text (
    "0 c pm_call: enable a"
    ∷ "0 c pm_ret: enable a 0"
    ∷ "0 c pm_call: set_autosuspend_delay a 10"
    ∷ "0 c rpm_idle: a flags-8 cnt-0  dep-0  auto-1 p-0 irq-0 child-0"
    ∷ "0 c rpm_return_int: rpm_idle:a ret=-11"
    ∷ "0 c pm_ret: set_autosuspend_delay a 0"
    ∷ "0 c pm_call: use_autosuspend a"
    ∷ "0 c rpm_idle: a flags-8 cnt-0  dep-0  auto-1 p-0 irq-0 child-0"
    ∷ "0 c rpm_return_int: rpm_idle:a ret=-11"
    ∷ "0 c pm_ret: use_autosuspend a 0"
    ∷ "0 c pm_call: get_sync a"
    ∷ "0 c pm_get: a caller"
    ∷ "0 c rpm_resume: a flags-4 cnt-1  dep-0  auto-1 p-0 irq-0 child-0"
    ∷ "0 c pm_status: a resuming"
    ∷ "0 c pm_callback: a resume begin"
    ∷ "0 c pm_callback: a resume end 0"
    ∷ "0 c pm_status: a active"
    ∷ "0 c rpm_idle: a flags-1 cnt-1  dep-0  auto-1 p-0 irq-0 child-0"
    ∷ "0 c rpm_return_int: rpm_idle:a ret=-11"
    ∷ "0 c rpm_return_int: rpm_resume:a ret=0"
    ∷ "0 c pm_ret: get_sync a 0"
    ∷ "0 c pm_call: put_noidle a"
    ∷ "0 c pm_put: a caller"
    ∷ "0 c pm_ret: put_noidle a 0"
    ∷ "0 c pm_call: delay 10"
    ∷ "10 c pm_ret: delay 0"
    ∷ "10 c pm_call: autosuspend a"
    ∷ "10 c rpm_suspend: a flags-8 cnt-0  dep-0  auto-1 p-0 irq-0 child-0"
    ∷ "10 c pm_callback: a suspend begin"
    ∷ "10 c pm_callback: a suspend end -16"
    ∷ "10 c pm_timer: a arm 20 auto"
    ∷ "10 c rpm_return_int: rpm_suspend:a ret=0"
    ∷ "10 c pm_ret: autosuspend a 0"
    ∷ "20 timer.a pm_timer: a fire auto"
    ∷ "20 timer.a rpm_suspend: a flags-9 cnt-0  dep-0  auto-1 p-0 irq-0 child-0"
    ∷ "20 timer.a pm_work: a queue autosuspend"
    ∷ "20 work.a pm_work: a run autosuspend"
    ∷ "20 work.a rpm_suspend: a flags-a cnt-0  dep-0  auto-1 p-0 irq-0 child-0"
    ∷ "20 work.a pm_callback: a suspend begin"
    ∷ "20 work.a pm_callback: a suspend end 0"
    ∷ "20 work.a pm_status: a suspended"
    ∷ "20 work.a rpm_return_int: rpm_suspend:a ret=0"
    ∷ "20 timer.a rpm_return_int: rpm_suspend:a ret=0"
    ∷ [])

-- A suspend callback that answers -16 ends a suspend that is no autosuspend, or whose delay has passed.
abbrev pub not_tried_again_plan : Plan
not_tried_again_plan =
    let a = dev 0 in
    record empty_plan {
      devices = record (device "a") { suspend = (minus 16) ∷ (minus 16) ∷ [] } ∷ [];
      callers =
          caller "c" (
          call SetActive a
          ∷ call_with SetAutosuspendDelay a (pos 10)
          ∷ call UseAutosuspend a
          ∷ call Enable a
          ∷ call Suspend a
          ∷ delay 10
          ∷ call Autosuspend a
          ∷ call Autosuspend a
          ∷ [])
          ∷ [];
      law = refl;
    }

abbrev pub not_tried_again_text : List ℕ
not_tried_again_text =
    text (
    "0 c pm_call: set_active a"
    ∷ "0 c pm_status: a forced_active"
    ∷ "0 c pm_ret: set_active a 0"
    ∷ "0 c pm_call: set_autosuspend_delay a 10"
    ∷ "0 c rpm_idle: a flags-8 cnt-0  dep-1  auto-1 p-0 irq-0 child-0"
    ∷ "0 c rpm_return_int: rpm_idle:a ret=-13"
    ∷ "0 c pm_ret: set_autosuspend_delay a 0"
    ∷ "0 c pm_call: use_autosuspend a"
    ∷ "0 c rpm_idle: a flags-8 cnt-0  dep-1  auto-1 p-0 irq-0 child-0"
    ∷ "0 c rpm_return_int: rpm_idle:a ret=-13"
    ∷ "0 c pm_ret: use_autosuspend a 0"
    ∷ "0 c pm_call: enable a"
    ∷ "0 c pm_ret: enable a 0"
    ∷ "0 c pm_call: suspend a"
    ∷ "0 c rpm_suspend: a flags-0 cnt-0  dep-0  auto-1 p-0 irq-0 child-0"
    ∷ "0 c pm_callback: a suspend begin"
    ∷ "0 c pm_callback: a suspend end -16"
    ∷ "0 c rpm_return_int: rpm_suspend:a ret=-16"
    ∷ "0 c pm_ret: suspend a -16"
    ∷ "0 c pm_call: delay 10"
    ∷ "10 c pm_ret: delay 0"
    ∷ "10 c pm_call: autosuspend a"
    ∷ "10 c rpm_suspend: a flags-8 cnt-0  dep-0  auto-1 p-0 irq-0 child-0"
    ∷ "10 c pm_callback: a suspend begin"
    ∷ "10 c pm_callback: a suspend end -16"
    ∷ "10 c rpm_return_int: rpm_suspend:a ret=-16"
    ∷ "10 c pm_ret: autosuspend a -16"
    ∷ "10 c pm_call: autosuspend a"
    ∷ "10 c rpm_suspend: a flags-8 cnt-0  dep-0  auto-1 p-0 irq-0 child-0"
    ∷ "10 c pm_callback: a suspend begin"
    ∷ "10 c pm_callback: a suspend end 0"
    ∷ "10 c pm_status: a suspended"
    ∷ "10 c rpm_return_int: rpm_suspend:a ret=0"
    ∷ "10 c pm_ret: autosuspend a 0"
    ∷ [])

-- A device that was forced to active is suspended by a timer and then its work item.
abbrev pub scheduled_suspend_plan : Plan
scheduled_suspend_plan =
    let a = dev 0 in
    record empty_plan {
      devices = device "a" ∷ [];
      callers =
          caller "c" (
          call SetActive a
          ∷ call Enable a
          ∷ call GetSync a
          ∷ call PutNoidle a
          ∷ call_with ScheduleSuspend a (pos 7)
          ∷ [])
          ∷ [];
      law = refl;
    }

abbrev pub scheduled_suspend_text : List ℕ
scheduled_suspend_text =
    text (
    "0 c pm_call: set_active a"
    ∷ "0 c pm_status: a forced_active"
    ∷ "0 c pm_ret: set_active a 0"
    ∷ "0 c pm_call: enable a"
    ∷ "0 c pm_ret: enable a 0"
    ∷ "0 c pm_call: get_sync a"
    ∷ "0 c pm_get: a caller"
    ∷ "0 c rpm_resume: a flags-4 cnt-1  dep-0  auto-1 p-0 irq-0 child-0"
    ∷ "0 c rpm_return_int: rpm_resume:a ret=1"
    ∷ "0 c pm_ret: get_sync a 1"
    ∷ "0 c pm_call: put_noidle a"
    ∷ "0 c pm_put: a caller"
    ∷ "0 c pm_ret: put_noidle a 0"
    ∷ "0 c pm_call: schedule_suspend a 7"
    ∷ "0 c pm_timer: a arm 7 plain"
    ∷ "0 c pm_ret: schedule_suspend a 0"
    ∷ "7 timer.a pm_timer: a fire plain"
    ∷ "7 timer.a rpm_suspend: a flags-1 cnt-0  dep-0  auto-1 p-0 irq-0 child-0"
    ∷ "7 timer.a pm_work: a queue suspend"
    ∷ "7 work.a pm_work: a run suspend"
    ∷ "7 work.a rpm_suspend: a flags-2 cnt-0  dep-0  auto-1 p-0 irq-0 child-0"
    ∷ "7 work.a pm_callback: a suspend begin"
    ∷ "7 work.a pm_callback: a suspend end 0"
    ∷ "7 work.a pm_status: a suspended"
    ∷ "7 work.a rpm_return_int: rpm_suspend:a ret=0"
    ∷ "7 timer.a rpm_return_int: rpm_suspend:a ret=0"
    ∷ [])

-- An autosuspend keeps an earlier moment of its timer; a resume cancels a scheduled suspend and no autosuspend.
abbrev pub rearmed_timer_plan : Plan
rearmed_timer_plan =
    let a = dev 0 in
    record empty_plan {
      devices = record (device "a") { busy = true; idle = Some []; idle_ms = 5 } ∷ [];
      callers =
          caller "c" (
          call Enable a
          ∷ call_with SetAutosuspendDelay a (pos 10)
          ∷ call UseAutosuspend a
          ∷ call GetSync a
          ∷ call PutSync a
          ∷ call_with ScheduleSuspend a (pos 3)
          ∷ call Resume a
          ∷ call Autosuspend a
          ∷ call_with ScheduleSuspend a (pos 3)
          ∷ call Autosuspend a
          ∷ call Resume a
          ∷ delay 20
          ∷ call_with ScheduleSuspend a (pos 3)
          ∷ call GetSync a
          ∷ call PutNoidle a
          ∷ call_with ScheduleSuspend a (pos 30)
          ∷ call Autosuspend a
          ∷ call_with ScheduleSuspend a (pos 0)
          ∷ [])
          ∷ [];
      law = refl;
    }

abbrev pub rearmed_timer_text : List ℕ
rearmed_timer_text =
    text (
    "0 c pm_call: enable a"
    ∷ "0 c pm_ret: enable a 0"
    ∷ "0 c pm_call: set_autosuspend_delay a 10"
    ∷ "0 c rpm_idle: a flags-8 cnt-0  dep-0  auto-1 p-0 irq-0 child-0"
    ∷ "0 c rpm_return_int: rpm_idle:a ret=-11"
    ∷ "0 c pm_ret: set_autosuspend_delay a 0"
    ∷ "0 c pm_call: use_autosuspend a"
    ∷ "0 c rpm_idle: a flags-8 cnt-0  dep-0  auto-1 p-0 irq-0 child-0"
    ∷ "0 c rpm_return_int: rpm_idle:a ret=-11"
    ∷ "0 c pm_ret: use_autosuspend a 0"
    ∷ "0 c pm_call: get_sync a"
    ∷ "0 c pm_get: a caller"
    ∷ "0 c rpm_resume: a flags-4 cnt-1  dep-0  auto-1 p-0 irq-0 child-0"
    ∷ "0 c pm_status: a resuming"
    ∷ "0 c pm_callback: a resume begin"
    ∷ "0 c pm_callback: a resume end 0"
    ∷ "0 c pm_status: a active"
    ∷ "0 c rpm_idle: a flags-1 cnt-1  dep-0  auto-1 p-0 irq-0 child-0"
    ∷ "0 c rpm_return_int: rpm_idle:a ret=-11"
    ∷ "0 c rpm_return_int: rpm_resume:a ret=0"
    ∷ "0 c pm_ret: get_sync a 0"
    ∷ "0 c pm_call: put_sync a"
    ∷ "0 c pm_put: a caller"
    ∷ "0 c rpm_idle: a flags-4 cnt-0  dep-0  auto-1 p-0 irq-0 child-0"
    ∷ "0 c pm_callback: a idle begin"
    ∷ "5 c pm_callback: a idle end 0"
    ∷ "5 c rpm_return_int: rpm_idle:a ret=0"
    ∷ "5 c rpm_suspend: a flags-c cnt-0  dep-0  auto-1 p-0 irq-0 child-0"
    ∷ "5 c pm_timer: a arm 15 auto"
    ∷ "5 c rpm_return_int: rpm_suspend:a ret=0"
    ∷ "5 c pm_ret: put_sync a 0"
    ∷ "5 c pm_call: schedule_suspend a 3"
    ∷ "5 c pm_timer: a arm 8 plain"
    ∷ "5 c pm_ret: schedule_suspend a 0"
    ∷ "5 c pm_call: resume a"
    ∷ "5 c rpm_resume: a flags-0 cnt-0  dep-0  auto-1 p-0 irq-0 child-0"
    ∷ "5 c rpm_return_int: rpm_resume:a ret=1"
    ∷ "5 c pm_ret: resume a 1"
    ∷ "5 c pm_call: autosuspend a"
    ∷ "5 c rpm_suspend: a flags-8 cnt-0  dep-0  auto-1 p-0 irq-0 child-0"
    ∷ "5 c pm_timer: a arm 15 auto"
    ∷ "5 c rpm_return_int: rpm_suspend:a ret=0"
    ∷ "5 c pm_ret: autosuspend a 0"
    ∷ "5 c pm_call: schedule_suspend a 3"
    ∷ "5 c pm_timer: a arm 8 plain"
    ∷ "5 c pm_ret: schedule_suspend a 0"
    ∷ "5 c pm_call: autosuspend a"
    ∷ "5 c rpm_suspend: a flags-8 cnt-0  dep-0  auto-1 p-0 irq-0 child-0"
    ∷ "5 c pm_timer: a arm 8 auto"
    ∷ "5 c rpm_return_int: rpm_suspend:a ret=0"
    ∷ "5 c pm_ret: autosuspend a 0"
    ∷ "5 c pm_call: resume a"
    ∷ "5 c rpm_resume: a flags-0 cnt-0  dep-0  auto-1 p-0 irq-0 child-0"
    ∷ "5 c rpm_return_int: rpm_resume:a ret=1"
    ∷ "5 c pm_ret: resume a 1"
    ∷ "5 c pm_call: delay 20"
    ∷ "8 timer.a pm_timer: a fire auto"
    ∷ "8 timer.a rpm_suspend: a flags-9 cnt-0  dep-0  auto-1 p-0 irq-0 child-0"
    ∷ "8 timer.a pm_timer: a arm 15 auto"
    ∷ "8 timer.a rpm_return_int: rpm_suspend:a ret=0"
    ∷ "15 timer.a pm_timer: a fire auto"
    ∷ "15 timer.a rpm_suspend: a flags-9 cnt-0  dep-0  auto-1 p-0 irq-0 child-0"
    ∷ "15 timer.a pm_work: a queue autosuspend"
    ∷ "15 work.a pm_work: a run autosuspend"
    ∷ "15 work.a rpm_suspend: a flags-a cnt-0  dep-0  auto-1 p-0 irq-0 child-0"
    ∷ "15 work.a pm_callback: a suspend begin"
    ∷ "15 work.a pm_callback: a suspend end 0"
    ∷ "15 work.a pm_status: a suspended"
    ∷ "15 work.a rpm_return_int: rpm_suspend:a ret=0"
    ∷ "15 timer.a rpm_return_int: rpm_suspend:a ret=0"
    ∷ "25 c pm_ret: delay 0"
    ∷ "25 c pm_call: schedule_suspend a 3"
    ∷ "25 c pm_ret: schedule_suspend a 1"
    ∷ "25 c pm_call: get_sync a"
    ∷ "25 c pm_get: a caller"
    ∷ "25 c rpm_resume: a flags-4 cnt-1  dep-0  auto-1 p-0 irq-0 child-0"
    ∷ "25 c pm_status: a resuming"
    ∷ "25 c pm_callback: a resume begin"
    ∷ "25 c pm_callback: a resume end 0"
    ∷ "25 c pm_status: a active"
    ∷ "25 c rpm_idle: a flags-1 cnt-1  dep-0  auto-1 p-0 irq-0 child-0"
    ∷ "25 c rpm_return_int: rpm_idle:a ret=-11"
    ∷ "25 c rpm_return_int: rpm_resume:a ret=0"
    ∷ "25 c pm_ret: get_sync a 0"
    ∷ "25 c pm_call: put_noidle a"
    ∷ "25 c pm_put: a caller"
    ∷ "25 c pm_ret: put_noidle a 0"
    ∷ "25 c pm_call: schedule_suspend a 30"
    ∷ "25 c pm_timer: a arm 55 plain"
    ∷ "25 c pm_ret: schedule_suspend a 0"
    ∷ "25 c pm_call: autosuspend a"
    ∷ "25 c rpm_suspend: a flags-8 cnt-0  dep-0  auto-1 p-0 irq-0 child-0"
    ∷ "25 c pm_timer: a arm 35 auto"
    ∷ "25 c rpm_return_int: rpm_suspend:a ret=0"
    ∷ "25 c pm_ret: autosuspend a 0"
    ∷ "25 c pm_call: schedule_suspend a 0"
    ∷ "25 c rpm_suspend: a flags-1 cnt-0  dep-0  auto-1 p-0 irq-0 child-0"
    ∷ "25 c pm_work: a queue suspend"
    ∷ "25 work.a pm_work: a run suspend"
    ∷ "25 c rpm_return_int: rpm_suspend:a ret=0"
    ∷ "25 work.a rpm_suspend: a flags-2 cnt-0  dep-0  auto-1 p-0 irq-0 child-0"
    ∷ "25 c pm_ret: schedule_suspend a 0"
    ∷ "25 work.a pm_callback: a suspend begin"
    ∷ "25 work.a pm_callback: a suspend end 0"
    ∷ "25 work.a pm_status: a suspended"
    ∷ "25 work.a rpm_return_int: rpm_suspend:a ret=0"
    ∷ [])

-- A device without callbacks uses none of its codes, and none marks it busy.
abbrev pub callbacks_unused_plan : Plan
callbacks_unused_plan =
    let a = dev 0 in
    record empty_plan {
      devices =
          record (device "a") {
            no_callbacks = true;
            busy = true;
            idle = Some (minus 5 ∷ []);
            suspend = minus 16 ∷ [];
            resume = minus 5 ∷ [];
            idle_ms = 9;
            suspend_ms = 9;
            resume_ms = 9;
          }
          ∷ [];
      callers =
          caller "e" (delay 2 ∷ call RequestResume a ∷ [])
          ∷ caller "c" (
          call Enable a
          ∷ call_with SetAutosuspendDelay a (pos 5)
          ∷ call UseAutosuspend a
          ∷ delay 2
          ∷ call Resume a
          ∷ delay 2
          ∷ call Suspend a
          ∷ call Disable a
          ∷ call SetActive a
          ∷ call Enable a
          ∷ call Autosuspend a
          ∷ [])
          ∷ [];
      law = refl;
    }

abbrev pub callbacks_unused_text : List ℕ
callbacks_unused_text =
    text (
    "0 e pm_call: delay 2"
    ∷ "0 c pm_call: enable a"
    ∷ "0 c pm_ret: enable a 0"
    ∷ "0 c pm_call: set_autosuspend_delay a 5"
    ∷ "0 c rpm_idle: a flags-8 cnt-0  dep-0  auto-1 p-0 irq-0 child-0"
    ∷ "0 c rpm_return_int: rpm_idle:a ret=-11"
    ∷ "0 c pm_ret: set_autosuspend_delay a 0"
    ∷ "0 c pm_call: use_autosuspend a"
    ∷ "0 c rpm_idle: a flags-8 cnt-0  dep-0  auto-1 p-0 irq-0 child-0"
    ∷ "0 c rpm_return_int: rpm_idle:a ret=-11"
    ∷ "0 c pm_ret: use_autosuspend a 0"
    ∷ "0 c pm_call: delay 2"
    ∷ "2 e pm_ret: delay 0"
    ∷ "2 c pm_ret: delay 0"
    ∷ "2 e pm_call: request_resume a"
    ∷ "2 c pm_call: resume a"
    ∷ "2 e rpm_resume: a flags-1 cnt-0  dep-0  auto-1 p-0 irq-0 child-0"
    ∷ "2 c rpm_resume: a flags-0 cnt-0  dep-0  auto-1 p-0 irq-0 child-0"
    ∷ "2 e pm_work: a queue resume"
    ∷ "2 c pm_status: a active"
    ∷ "2 work.a pm_work: a run none"
    ∷ "2 e rpm_return_int: rpm_resume:a ret=0"
    ∷ "2 c rpm_idle: a flags-1 cnt-0  dep-0  auto-1 p-0 irq-0 child-0"
    ∷ "2 e pm_ret: request_resume a 0"
    ∷ "2 c rpm_return_int: rpm_idle:a ret=0"
    ∷ "2 c rpm_suspend: a flags-9 cnt-0  dep-0  auto-1 p-0 irq-0 child-0"
    ∷ "2 c pm_timer: a arm 7 auto"
    ∷ "2 c rpm_return_int: rpm_suspend:a ret=0"
    ∷ "2 c rpm_return_int: rpm_resume:a ret=0"
    ∷ "2 c pm_ret: resume a 0"
    ∷ "2 c pm_call: delay 2"
    ∷ "4 c pm_ret: delay 0"
    ∷ "4 c pm_call: suspend a"
    ∷ "4 c rpm_suspend: a flags-0 cnt-0  dep-0  auto-1 p-0 irq-0 child-0"
    ∷ "4 c pm_status: a suspended"
    ∷ "4 c rpm_return_int: rpm_suspend:a ret=0"
    ∷ "4 c pm_ret: suspend a 0"
    ∷ "4 c pm_call: disable a"
    ∷ "4 c pm_ret: disable a 0"
    ∷ "4 c pm_call: set_active a"
    ∷ "4 c pm_status: a forced_active"
    ∷ "4 c pm_ret: set_active a 0"
    ∷ "4 c pm_call: enable a"
    ∷ "4 c pm_ret: enable a 0"
    ∷ "4 c pm_call: autosuspend a"
    ∷ "4 c rpm_suspend: a flags-8 cnt-0  dep-0  auto-1 p-0 irq-0 child-0"
    ∷ "4 c pm_timer: a arm 7 auto"
    ∷ "4 c rpm_return_int: rpm_suspend:a ret=0"
    ∷ "4 c pm_ret: autosuspend a 0"
    ∷ "7 timer.a pm_timer: a fire auto"
    ∷ "7 timer.a rpm_suspend: a flags-9 cnt-0  dep-0  auto-1 p-0 irq-0 child-0"
    ∷ "7 timer.a pm_status: a suspended"
    ∷ "7 timer.a rpm_return_int: rpm_suspend:a ret=0"
    ∷ [])

-- A suspend callback that answers -11 has the autosuspend wait anew; one that answers -5 ends it, and the resume
-- deferred meanwhile is forgotten; without autosuspend -16 ends it too. Each end marks the device busy.
abbrev pub tried_again_plan : Plan
tried_again_plan =
    let a = dev 0 in
    record empty_plan {
      devices =
          record (device "a") {
            busy = true;
            idle = Some (minus 16 ∷ []);
            suspend = (minus 11) ∷ (minus 5) ∷ (minus 16) ∷ [];
            idle_ms = 3;
            suspend_ms = 10;
          }
          ∷ [];
      callers =
          caller "c" (
          call SetActive a
          ∷ call_with SetAutosuspendDelay a (pos 5)
          ∷ call UseAutosuspend a
          ∷ call Enable a
          ∷ call Idle a
          ∷ call Autosuspend a
          ∷ delay 5
          ∷ call Autosuspend a
          ∷ delay 6
          ∷ call RequestResume a
          ∷ delay 10
          ∷ call SetActive a
          ∷ call DontUseAutosuspend a
          ∷ call Suspend a
          ∷ call UseAutosuspend a
          ∷ call Disable a
          ∷ call SetActive a
          ∷ call Enable a
          ∷ call Autosuspend a
          ∷ call Barrier a
          ∷ [])
          ∷ caller "e" (delay 40 ∷ call_with ScheduleSuspend a (pos 20) ∷ [])
          ∷ [];
      law = refl;
    }

abbrev pub tried_again_text : List ℕ
tried_again_text =
    text (
    "0 c pm_call: set_active a"
    ∷ "0 e pm_call: delay 40"
    ∷ "0 c pm_status: a forced_active"
    ∷ "0 c pm_ret: set_active a 0"
    ∷ "0 c pm_call: set_autosuspend_delay a 5"
    ∷ "0 c rpm_idle: a flags-8 cnt-0  dep-1  auto-1 p-0 irq-0 child-0"
    ∷ "0 c rpm_return_int: rpm_idle:a ret=-13"
    ∷ "0 c pm_ret: set_autosuspend_delay a 0"
    ∷ "0 c pm_call: use_autosuspend a"
    ∷ "0 c rpm_idle: a flags-8 cnt-0  dep-1  auto-1 p-0 irq-0 child-0"
    ∷ "0 c rpm_return_int: rpm_idle:a ret=-13"
    ∷ "0 c pm_ret: use_autosuspend a 0"
    ∷ "0 c pm_call: enable a"
    ∷ "0 c pm_ret: enable a 0"
    ∷ "0 c pm_call: idle a"
    ∷ "0 c rpm_idle: a flags-0 cnt-0  dep-0  auto-1 p-0 irq-0 child-0"
    ∷ "0 c pm_callback: a idle begin"
    ∷ "3 c pm_callback: a idle end -16"
    ∷ "3 c rpm_return_int: rpm_idle:a ret=-16"
    ∷ "3 c pm_ret: idle a -16"
    ∷ "3 c pm_call: autosuspend a"
    ∷ "3 c rpm_suspend: a flags-8 cnt-0  dep-0  auto-1 p-0 irq-0 child-0"
    ∷ "3 c pm_timer: a arm 8 auto"
    ∷ "3 c rpm_return_int: rpm_suspend:a ret=0"
    ∷ "3 c pm_ret: autosuspend a 0"
    ∷ "3 c pm_call: delay 5"
    ∷ "8 c pm_ret: delay 0"
    ∷ "8 c pm_call: autosuspend a"
    ∷ "8 c rpm_suspend: a flags-8 cnt-0  dep-0  auto-1 p-0 irq-0 child-0"
    ∷ "8 c pm_callback: a suspend begin"
    ∷ "18 c pm_callback: a suspend end -11"
    ∷ "18 c pm_timer: a arm 23 auto"
    ∷ "18 c rpm_return_int: rpm_suspend:a ret=0"
    ∷ "18 c pm_ret: autosuspend a 0"
    ∷ "18 c pm_call: delay 6"
    ∷ "23 timer.a pm_timer: a fire auto"
    ∷ "23 timer.a rpm_suspend: a flags-9 cnt-0  dep-0  auto-1 p-0 irq-0 child-0"
    ∷ "23 timer.a pm_work: a queue autosuspend"
    ∷ "23 work.a pm_work: a run autosuspend"
    ∷ "23 work.a rpm_suspend: a flags-a cnt-0  dep-0  auto-1 p-0 irq-0 child-0"
    ∷ "23 work.a pm_callback: a suspend begin"
    ∷ "23 timer.a rpm_return_int: rpm_suspend:a ret=0"
    ∷ "24 c pm_ret: delay 0"
    ∷ "24 c pm_call: request_resume a"
    ∷ "24 c rpm_resume: a flags-1 cnt-0  dep-0  auto-1 p-0 irq-0 child-0"
    ∷ "24 c pm_work: a defer"
    ∷ "24 c rpm_return_int: rpm_resume:a ret=0"
    ∷ "24 c pm_ret: request_resume a 0"
    ∷ "24 c pm_call: delay 10"
    ∷ "33 work.a pm_callback: a suspend end -5"
    ∷ "33 work.a rpm_return_int: rpm_suspend:a ret=-5"
    ∷ "34 c pm_ret: delay 0"
    ∷ "34 c pm_call: set_active a"
    ∷ "34 c pm_status: a forced_active"
    ∷ "34 c pm_ret: set_active a 0"
    ∷ "34 c pm_call: dont_use_autosuspend a"
    ∷ "34 c rpm_idle: a flags-8 cnt-0  dep-0  auto-1 p-0 irq-0 child-0"
    ∷ "34 c pm_callback: a idle begin"
    ∷ "37 c pm_callback: a idle end 0"
    ∷ "37 c rpm_return_int: rpm_idle:a ret=0"
    ∷ "37 c rpm_suspend: a flags-8 cnt-0  dep-0  auto-1 p-0 irq-0 child-0"
    ∷ "37 c pm_callback: a suspend begin"
    ∷ "40 e pm_ret: delay 0"
    ∷ "40 e pm_call: schedule_suspend a 20"
    ∷ "40 e pm_timer: a arm 60 plain"
    ∷ "40 e pm_ret: schedule_suspend a 0"
    ∷ "47 c pm_callback: a suspend end -16"
    ∷ "47 c rpm_return_int: rpm_suspend:a ret=-16"
    ∷ "47 c pm_ret: dont_use_autosuspend a 0"
    ∷ "47 c pm_call: suspend a"
    ∷ "47 c rpm_suspend: a flags-0 cnt-0  dep-0  auto-1 p-0 irq-0 child-0"
    ∷ "47 c pm_callback: a suspend begin"
    ∷ "57 c pm_callback: a suspend end 0"
    ∷ "57 c pm_status: a suspended"
    ∷ "57 c rpm_return_int: rpm_suspend:a ret=0"
    ∷ "57 c pm_ret: suspend a 0"
    ∷ "57 c pm_call: use_autosuspend a"
    ∷ "57 c rpm_idle: a flags-8 cnt-0  dep-0  auto-1 p-0 irq-0 child-0"
    ∷ "57 c rpm_return_int: rpm_idle:a ret=-11"
    ∷ "57 c pm_ret: use_autosuspend a 0"
    ∷ "57 c pm_call: disable a"
    ∷ "57 c pm_ret: disable a 0"
    ∷ "57 c pm_call: set_active a"
    ∷ "57 c pm_status: a forced_active"
    ∷ "57 c pm_ret: set_active a 0"
    ∷ "57 c pm_call: enable a"
    ∷ "57 c pm_ret: enable a 0"
    ∷ "57 c pm_call: autosuspend a"
    ∷ "57 c rpm_suspend: a flags-8 cnt-0  dep-0  auto-1 p-0 irq-0 child-0"
    ∷ "57 c pm_timer: a arm 62 auto"
    ∷ "57 c rpm_return_int: rpm_suspend:a ret=0"
    ∷ "57 c pm_ret: autosuspend a 0"
    ∷ "57 c pm_call: barrier a"
    ∷ "57 c pm_get: a control"
    ∷ "57 c pm_put: a control"
    ∷ "57 c pm_ret: barrier a 0"
    ∷ [])
