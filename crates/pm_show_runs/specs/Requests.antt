-- Runs of requests that meet on one device: the plans, and what one thread writes.
use Rattle.std.specs.Prelude.{ℕ, pos, List, [], ◌∷◌, Some, refl}
use Rattle.pm_model.specs.declared.event.Helper.TheVariants.{Autosuspend, Barrier, Disable, Enable, Get, GetNoresume, GetSync, Idle, IgnoreChildren, MarkLastBusy, PutNoidle, PutSyncSuspend, RequestAutosuspend, RequestIdle, RequestResume, Resume, ScheduleSuspend, SetActive, SetAutosuspendDelay, SetSuspended, Suspend, UseAutosuspend}
use Rattle.pm_model.specs.declared.plan.Plan.{Plan}
use Rattle.pm_show_runs.specs.Words.{empty_plan, dev, device, caller, call, call_with, delay, minus, text}

-- A second resume waits for the first.
abbrev pub waiting_resume_plan : Plan
waiting_resume_plan =
    let a = dev 0 in
    record empty_plan {
      devices = record (device "a") { resume_ms = 10 } ∷ [];
      callers =
          caller "c" (call Enable a ∷ call GetSync a ∷ [])
          ∷ caller "e" (call GetSync a ∷ [])
          ∷ [];
      law = refl;
    }

abbrev pub waiting_resume_text : List ℕ
waiting_resume_text =
    text (
    "0 c pm_call: enable a"
    ∷ "0 e pm_call: get_sync a"
    ∷ "0 c pm_ret: enable a 0"
    ∷ "0 e pm_get: a caller"
    ∷ "0 c pm_call: get_sync a"
    ∷ "0 e rpm_resume: a flags-4 cnt-1  dep-0  auto-1 p-0 irq-0 child-0"
    ∷ "0 c pm_get: a caller"
    ∷ "0 e pm_status: a resuming"
    ∷ "0 c rpm_resume: a flags-4 cnt-2  dep-0  auto-1 p-0 irq-0 child-0"
    ∷ "0 e pm_callback: a resume begin"
    ∷ "0 c pm_wait: a"
    ∷ "10 e pm_callback: a resume end 0"
    ∷ "10 e pm_status: a active"
    ∷ "10 c rpm_return_int: rpm_resume:a ret=1"
    ∷ "10 e rpm_idle: a flags-1 cnt-2  dep-0  auto-1 p-0 irq-0 child-0"
    ∷ "10 c pm_ret: get_sync a 1"
    ∷ "10 e rpm_return_int: rpm_idle:a ret=-11"
    ∷ "10 e rpm_return_int: rpm_resume:a ret=0"
    ∷ "10 e pm_ret: get_sync a 0"
    ∷ [])

-- A resume asked for while the device suspends is deferred, and follows at once.
abbrev pub deferred_resume_plan : Plan
deferred_resume_plan =
    let a = dev 0 in
    record empty_plan {
      devices = record (device "a") { idle = Some (minus 16 ∷ []); suspend_ms = 10 } ∷ [];
      callers =
          caller "c" (call Enable a ∷ call GetSync a ∷ call PutSyncSuspend a ∷ [])
          ∷ caller "e" (delay 5 ∷ call RequestResume a ∷ [])
          ∷ [];
      law = refl;
    }

abbrev pub deferred_resume_text : List ℕ
deferred_resume_text =
    text (
    "0 c pm_call: enable a"
    ∷ "0 e pm_call: delay 5"
    ∷ "0 c pm_ret: enable a 0"
    ∷ "0 c pm_call: get_sync a"
    ∷ "0 c pm_get: a caller"
    ∷ "0 c rpm_resume: a flags-4 cnt-1  dep-0  auto-1 p-0 irq-0 child-0"
    ∷ "0 c pm_status: a resuming"
    ∷ "0 c pm_callback: a resume begin"
    ∷ "0 c pm_callback: a resume end 0"
    ∷ "0 c pm_status: a active"
    ∷ "0 c rpm_idle: a flags-1 cnt-1  dep-0  auto-1 p-0 irq-0 child-0"
    ∷ "0 c rpm_return_int: rpm_idle:a ret=-11"
    ∷ "0 c rpm_return_int: rpm_resume:a ret=0"
    ∷ "0 c pm_ret: get_sync a 0"
    ∷ "0 c pm_call: put_sync_suspend a"
    ∷ "0 c pm_put: a caller"
    ∷ "0 c rpm_suspend: a flags-4 cnt-0  dep-0  auto-1 p-0 irq-0 child-0"
    ∷ "0 c pm_callback: a suspend begin"
    ∷ "5 e pm_ret: delay 0"
    ∷ "5 e pm_call: request_resume a"
    ∷ "5 e rpm_resume: a flags-1 cnt-0  dep-0  auto-1 p-0 irq-0 child-0"
    ∷ "5 e pm_work: a defer"
    ∷ "5 e rpm_return_int: rpm_resume:a ret=0"
    ∷ "5 e pm_ret: request_resume a 0"
    ∷ "10 c pm_callback: a suspend end 0"
    ∷ "10 c pm_status: a deferred"
    ∷ "10 c rpm_resume: a flags-0 cnt-0  dep-0  auto-1 p-0 irq-0 child-0"
    ∷ "10 c pm_status: a resuming"
    ∷ "10 c pm_callback: a resume begin"
    ∷ "10 c pm_callback: a resume end 0"
    ∷ "10 c pm_status: a active"
    ∷ "10 c rpm_idle: a flags-1 cnt-0  dep-0  auto-1 p-0 irq-0 child-0"
    ∷ "10 c pm_work: a queue idle"
    ∷ "10 work.a pm_work: a run idle"
    ∷ "10 c rpm_return_int: rpm_idle:a ret=0"
    ∷ "10 work.a rpm_idle: a flags-2 cnt-0  dep-0  auto-1 p-0 irq-0 child-0"
    ∷ "10 c rpm_return_int: rpm_resume:a ret=0"
    ∷ "10 work.a pm_callback: a idle begin"
    ∷ "10 c rpm_return_int: rpm_suspend:a ret=-11"
    ∷ "10 work.a pm_callback: a idle end -16"
    ∷ "10 c pm_ret: put_sync_suspend a -11"
    ∷ "10 work.a rpm_return_int: rpm_idle:a ret=-16"
    ∷ [])

-- A deferred resume follows once: the next suspend ends as any other.
abbrev pub deferred_once_plan : Plan
deferred_once_plan =
    let a = dev 0 in
    record empty_plan {
      devices = record (device "a") { suspend_ms = 10 } ∷ [];
      callers =
          caller "c" (call SetActive a ∷ call Enable a ∷ call Suspend a ∷ [])
          ∷ caller "e" (delay 5 ∷ call RequestResume a ∷ [])
          ∷ [];
      law = refl;
    }

abbrev pub deferred_once_text : List ℕ
deferred_once_text =
    text (
    "0 c pm_call: set_active a"
    ∷ "0 e pm_call: delay 5"
    ∷ "0 c pm_status: a forced_active"
    ∷ "0 c pm_ret: set_active a 0"
    ∷ "0 c pm_call: enable a"
    ∷ "0 c pm_ret: enable a 0"
    ∷ "0 c pm_call: suspend a"
    ∷ "0 c rpm_suspend: a flags-0 cnt-0  dep-0  auto-1 p-0 irq-0 child-0"
    ∷ "0 c pm_callback: a suspend begin"
    ∷ "5 e pm_ret: delay 0"
    ∷ "5 e pm_call: request_resume a"
    ∷ "5 e rpm_resume: a flags-1 cnt-0  dep-0  auto-1 p-0 irq-0 child-0"
    ∷ "5 e pm_work: a defer"
    ∷ "5 e rpm_return_int: rpm_resume:a ret=0"
    ∷ "5 e pm_ret: request_resume a 0"
    ∷ "10 c pm_callback: a suspend end 0"
    ∷ "10 c pm_status: a deferred"
    ∷ "10 c rpm_resume: a flags-0 cnt-0  dep-0  auto-1 p-0 irq-0 child-0"
    ∷ "10 c pm_status: a resuming"
    ∷ "10 c pm_callback: a resume begin"
    ∷ "10 c pm_callback: a resume end 0"
    ∷ "10 c pm_status: a active"
    ∷ "10 c rpm_idle: a flags-1 cnt-0  dep-0  auto-1 p-0 irq-0 child-0"
    ∷ "10 c rpm_return_int: rpm_idle:a ret=0"
    ∷ "10 c rpm_suspend: a flags-9 cnt-0  dep-0  auto-1 p-0 irq-0 child-0"
    ∷ "10 c pm_work: a queue autosuspend"
    ∷ "10 work.a pm_work: a run autosuspend"
    ∷ "10 c rpm_return_int: rpm_suspend:a ret=0"
    ∷ "10 work.a rpm_suspend: a flags-a cnt-0  dep-0  auto-1 p-0 irq-0 child-0"
    ∷ "10 c rpm_return_int: rpm_resume:a ret=0"
    ∷ "10 work.a pm_callback: a suspend begin"
    ∷ "10 c rpm_return_int: rpm_suspend:a ret=-11"
    ∷ "10 c pm_ret: suspend a -11"
    ∷ "20 work.a pm_callback: a suspend end 0"
    ∷ "20 work.a pm_status: a suspended"
    ∷ "20 work.a rpm_return_int: rpm_suspend:a ret=0"
    ∷ [])

-- A work item defers a resume, and the suspend fails: the deferral is forgotten.
abbrev pub forgotten_deferral_plan : Plan
forgotten_deferral_plan =
    let p = dev 0 in
    let k = dev 1 in
    record empty_plan {
      devices =
          record (device "p") { resume_ms = 10 }
          ∷ record (device "k") { parent = Some p; suspend = minus 11 ∷ []; suspend_ms = 20 }
          ∷ [];
      callers =
          caller "c" (
          call Enable p
          ∷ call Enable k
          ∷ call RequestResume k
          ∷ delay 15
          ∷ call RequestAutosuspend k
          ∷ delay 15
          ∷ call_with ScheduleSuspend k (pos 30)
          ∷ [])
          ∷ caller "e" (
          call GetNoresume p
          ∷ delay 2
          ∷ call_with IgnoreChildren p (pos 1)
          ∷ call Disable k
          ∷ call SetActive k
          ∷ call Enable k
          ∷ call Suspend k
          ∷ call Suspend k
          ∷ [])
          ∷ [];
      law = refl;
    }

abbrev pub forgotten_deferral_text : List ℕ
forgotten_deferral_text =
    text (
    "0 c pm_call: enable p"
    ∷ "0 e pm_call: get_noresume p"
    ∷ "0 c pm_ret: enable p 0"
    ∷ "0 e pm_get: p caller"
    ∷ "0 c pm_call: enable k"
    ∷ "0 e pm_ret: get_noresume p 0"
    ∷ "0 c pm_ret: enable k 0"
    ∷ "0 e pm_call: delay 2"
    ∷ "0 c pm_call: request_resume k"
    ∷ "0 c rpm_resume: k flags-1 cnt-0  dep-0  auto-1 p-0 irq-0 child-0"
    ∷ "0 c pm_work: k queue resume"
    ∷ "0 work.k pm_work: k run resume"
    ∷ "0 c rpm_return_int: rpm_resume:k ret=0"
    ∷ "0 work.k rpm_resume: k flags-2 cnt-0  dep-0  auto-1 p-0 irq-0 child-0"
    ∷ "0 c pm_ret: request_resume k 0"
    ∷ "0 work.k pm_get: p child k"
    ∷ "0 c pm_call: delay 15"
    ∷ "0 work.k rpm_resume: p flags-0 cnt-2  dep-0  auto-1 p-0 irq-0 child-0"
    ∷ "0 work.k pm_status: p resuming"
    ∷ "0 work.k pm_callback: p resume begin"
    ∷ "2 e pm_ret: delay 0"
    ∷ "2 e pm_call: ignore_children p on"
    ∷ "2 e pm_ret: ignore_children p 0"
    ∷ "2 e pm_call: disable k"
    ∷ "2 e pm_ret: disable k 0"
    ∷ "2 e pm_call: set_active k"
    ∷ "2 e pm_status: k forced_active"
    ∷ "2 e pm_ret: set_active k 0"
    ∷ "2 e pm_call: enable k"
    ∷ "2 e pm_ret: enable k 0"
    ∷ "2 e pm_call: suspend k"
    ∷ "2 e rpm_suspend: k flags-0 cnt-0  dep-0  auto-1 p-0 irq-0 child-0"
    ∷ "2 e pm_callback: k suspend begin"
    ∷ "10 work.k pm_callback: p resume end 0"
    ∷ "10 work.k pm_status: p active"
    ∷ "10 work.k rpm_idle: p flags-1 cnt-2  dep-0  auto-1 p-0 irq-0 child-1"
    ∷ "10 work.k rpm_return_int: rpm_idle:p ret=-11"
    ∷ "10 work.k rpm_return_int: rpm_resume:p ret=0"
    ∷ "10 work.k pm_work: k defer"
    ∷ "10 work.k rpm_return_int: rpm_resume:k ret=-115"
    ∷ "10 work.k pm_put: p child k"
    ∷ "10 work.k rpm_usage: p flags-5 cnt-1  dep-0  auto-1 p-0 irq-0 child-1"
    ∷ "15 c pm_ret: delay 0"
    ∷ "15 c pm_call: request_autosuspend k"
    ∷ "15 c rpm_suspend: k flags-9 cnt-0  dep-0  auto-1 p-0 irq-0 child-0"
    ∷ "15 c rpm_return_int: rpm_suspend:k ret=-11"
    ∷ "15 c pm_ret: request_autosuspend k -11"
    ∷ "15 c pm_call: delay 15"
    ∷ "22 e pm_callback: k suspend end -11"
    ∷ "22 e rpm_return_int: rpm_suspend:k ret=-11"
    ∷ "22 e pm_ret: suspend k -11"
    ∷ "22 e pm_call: suspend k"
    ∷ "22 e rpm_suspend: k flags-0 cnt-0  dep-0  auto-1 p-0 irq-0 child-0"
    ∷ "22 e pm_callback: k suspend begin"
    ∷ "30 c pm_ret: delay 0"
    ∷ "30 c pm_call: schedule_suspend k 30"
    ∷ "30 c pm_timer: k arm 60 plain"
    ∷ "30 c pm_ret: schedule_suspend k 0"
    ∷ "42 e pm_callback: k suspend end 0"
    ∷ "42 e pm_status: k suspended"
    ∷ "42 e rpm_return_int: rpm_suspend:k ret=0"
    ∷ "42 e pm_ret: suspend k 0"
    ∷ [])

-- What a device that resumes or suspends answers, and who waits for its end.
abbrev pub asked_under_way_plan : Plan
asked_under_way_plan =
    let a = dev 0 in
    record empty_plan {
      devices = record (device "a") { suspend_ms = 10; resume_ms = 10 } ∷ [];
      callers =
          caller "c" (call Enable a ∷ call Resume a ∷ delay 8 ∷ call Barrier a ∷ [])
          ∷ caller "e" (
          delay 5
          ∷ call Suspend a
          ∷ call RequestResume a
          ∷ delay 10
          ∷ call RequestAutosuspend a
          ∷ call Suspend a
          ∷ [])
          ∷ caller "f" (delay 16 ∷ call GetSync a ∷ [])
          ∷ [];
      law = refl;
    }

abbrev pub asked_under_way_text : List ℕ
asked_under_way_text =
    text (
    "0 c pm_call: enable a"
    ∷ "0 e pm_call: delay 5"
    ∷ "0 f pm_call: delay 16"
    ∷ "0 c pm_ret: enable a 0"
    ∷ "0 c pm_call: resume a"
    ∷ "0 c rpm_resume: a flags-0 cnt-0  dep-0  auto-1 p-0 irq-0 child-0"
    ∷ "0 c pm_status: a resuming"
    ∷ "0 c pm_callback: a resume begin"
    ∷ "5 e pm_ret: delay 0"
    ∷ "5 e pm_call: suspend a"
    ∷ "5 e rpm_suspend: a flags-0 cnt-0  dep-0  auto-1 p-0 irq-0 child-0"
    ∷ "5 e rpm_return_int: rpm_suspend:a ret=-11"
    ∷ "5 e pm_ret: suspend a -11"
    ∷ "5 e pm_call: request_resume a"
    ∷ "5 e rpm_resume: a flags-1 cnt-0  dep-0  auto-1 p-0 irq-0 child-0"
    ∷ "5 e rpm_return_int: rpm_resume:a ret=-115"
    ∷ "5 e pm_ret: request_resume a -115"
    ∷ "5 e pm_call: delay 10"
    ∷ "10 c pm_callback: a resume end 0"
    ∷ "10 c pm_status: a active"
    ∷ "10 c rpm_idle: a flags-1 cnt-0  dep-0  auto-1 p-0 irq-0 child-0"
    ∷ "10 c rpm_return_int: rpm_idle:a ret=0"
    ∷ "10 c rpm_suspend: a flags-9 cnt-0  dep-0  auto-1 p-0 irq-0 child-0"
    ∷ "10 c pm_work: a queue autosuspend"
    ∷ "10 work.a pm_work: a run autosuspend"
    ∷ "10 c rpm_return_int: rpm_suspend:a ret=0"
    ∷ "10 work.a rpm_suspend: a flags-a cnt-0  dep-0  auto-1 p-0 irq-0 child-0"
    ∷ "10 c rpm_return_int: rpm_resume:a ret=0"
    ∷ "10 work.a pm_callback: a suspend begin"
    ∷ "10 c pm_ret: resume a 0"
    ∷ "10 c pm_call: delay 8"
    ∷ "15 e pm_ret: delay 0"
    ∷ "15 e pm_call: request_autosuspend a"
    ∷ "15 e rpm_suspend: a flags-9 cnt-0  dep-0  auto-1 p-0 irq-0 child-0"
    ∷ "15 e rpm_return_int: rpm_suspend:a ret=-115"
    ∷ "15 e pm_ret: request_autosuspend a -115"
    ∷ "15 e pm_call: suspend a"
    ∷ "15 e rpm_suspend: a flags-0 cnt-0  dep-0  auto-1 p-0 irq-0 child-0"
    ∷ "15 e pm_wait: a"
    ∷ "16 f pm_ret: delay 0"
    ∷ "16 f pm_call: get_sync a"
    ∷ "16 f pm_get: a caller"
    ∷ "16 f rpm_resume: a flags-4 cnt-1  dep-0  auto-1 p-0 irq-0 child-0"
    ∷ "16 f pm_wait: a"
    ∷ "18 c pm_ret: delay 0"
    ∷ "18 c pm_call: barrier a"
    ∷ "18 c pm_get: a control"
    ∷ "18 c pm_wait: a"
    ∷ "20 work.a pm_callback: a suspend end 0"
    ∷ "20 work.a pm_status: a suspended"
    ∷ "20 c pm_put: a control"
    ∷ "20 e rpm_return_int: rpm_suspend:a ret=-11"
    ∷ "20 f pm_status: a resuming"
    ∷ "20 work.a rpm_return_int: rpm_suspend:a ret=0"
    ∷ "20 c pm_ret: barrier a 0"
    ∷ "20 e pm_ret: suspend a -11"
    ∷ "20 f pm_callback: a resume begin"
    ∷ "30 f pm_callback: a resume end 0"
    ∷ "30 f pm_status: a active"
    ∷ "30 f rpm_idle: a flags-1 cnt-1  dep-0  auto-1 p-0 irq-0 child-0"
    ∷ "30 f rpm_return_int: rpm_idle:a ret=-11"
    ∷ "30 f rpm_return_int: rpm_resume:a ret=0"
    ∷ "30 f pm_ret: get_sync a 0"
    ∷ [])

-- A pending resume refuses a suspend; another resume leaves its work item nothing to do.
abbrev pub overtaken_request_plan : Plan
overtaken_request_plan =
    let a = dev 0 in
    record empty_plan {
      devices = device "a" ∷ [];
      callers =
          caller "c" (call Enable a ∷ call RequestResume a ∷ [])
          ∷ caller "e" (call MarkLastBusy a ∷ call Suspend a ∷ [])
          ∷ caller "f" (call MarkLastBusy a ∷ call Resume a ∷ [])
          ∷ [];
      law = refl;
    }

abbrev pub overtaken_request_text : List ℕ
overtaken_request_text =
    text (
    "0 c pm_call: enable a"
    ∷ "0 e pm_call: mark_last_busy a"
    ∷ "0 f pm_call: mark_last_busy a"
    ∷ "0 c pm_ret: enable a 0"
    ∷ "0 e pm_ret: mark_last_busy a 0"
    ∷ "0 f pm_ret: mark_last_busy a 0"
    ∷ "0 c pm_call: request_resume a"
    ∷ "0 e pm_call: suspend a"
    ∷ "0 f pm_call: resume a"
    ∷ "0 c rpm_resume: a flags-1 cnt-0  dep-0  auto-1 p-0 irq-0 child-0"
    ∷ "0 e rpm_suspend: a flags-0 cnt-0  dep-0  auto-1 p-0 irq-0 child-0"
    ∷ "0 f rpm_resume: a flags-0 cnt-0  dep-0  auto-1 p-0 irq-0 child-0"
    ∷ "0 c pm_work: a queue resume"
    ∷ "0 e rpm_return_int: rpm_suspend:a ret=-11"
    ∷ "0 f pm_status: a resuming"
    ∷ "0 work.a pm_work: a run none"
    ∷ "0 c rpm_return_int: rpm_resume:a ret=0"
    ∷ "0 e pm_ret: suspend a -11"
    ∷ "0 f pm_callback: a resume begin"
    ∷ "0 c pm_ret: request_resume a 0"
    ∷ "0 f pm_callback: a resume end 0"
    ∷ "0 f pm_status: a active"
    ∷ "0 f rpm_idle: a flags-1 cnt-0  dep-0  auto-1 p-0 irq-0 child-0"
    ∷ "0 f rpm_return_int: rpm_idle:a ret=0"
    ∷ "0 f rpm_suspend: a flags-9 cnt-0  dep-0  auto-1 p-0 irq-0 child-0"
    ∷ "0 f pm_work: a queue autosuspend"
    ∷ "0 work.a pm_work: a run autosuspend"
    ∷ "0 f rpm_return_int: rpm_suspend:a ret=0"
    ∷ "0 work.a rpm_suspend: a flags-a cnt-0  dep-0  auto-1 p-0 irq-0 child-0"
    ∷ "0 f rpm_return_int: rpm_resume:a ret=0"
    ∷ "0 work.a pm_callback: a suspend begin"
    ∷ "0 f pm_ret: resume a 0"
    ∷ "0 work.a pm_callback: a suspend end 0"
    ∷ "0 work.a pm_status: a suspended"
    ∷ "0 work.a rpm_return_int: rpm_suspend:a ret=0"
    ∷ [])

-- barrier carries out a pending resume first; with none it only waits.
abbrev pub barrier_resumes_plan : Plan
barrier_resumes_plan =
    let a = dev 0 in
    record empty_plan {
      devices = device "a" ∷ [];
      callers =
          caller "c" (call Enable a ∷ call RequestResume a ∷ [])
          ∷ caller "e" (call MarkLastBusy a ∷ call Barrier a ∷ call Barrier a ∷ [])
          ∷ [];
      law = refl;
    }

abbrev pub barrier_resumes_text : List ℕ
barrier_resumes_text =
    text (
    "0 c pm_call: enable a"
    ∷ "0 e pm_call: mark_last_busy a"
    ∷ "0 c pm_ret: enable a 0"
    ∷ "0 e pm_ret: mark_last_busy a 0"
    ∷ "0 c pm_call: request_resume a"
    ∷ "0 e pm_call: barrier a"
    ∷ "0 c rpm_resume: a flags-1 cnt-0  dep-0  auto-1 p-0 irq-0 child-0"
    ∷ "0 e pm_get: a control"
    ∷ "0 c pm_work: a queue resume"
    ∷ "0 e rpm_resume: a flags-0 cnt-1  dep-0  auto-1 p-1 irq-0 child-0"
    ∷ "0 work.a pm_work: a run resume"
    ∷ "0 c rpm_return_int: rpm_resume:a ret=0"
    ∷ "0 e pm_status: a resuming"
    ∷ "0 work.a rpm_resume: a flags-2 cnt-1  dep-0  auto-1 p-0 irq-0 child-0"
    ∷ "0 c pm_ret: request_resume a 0"
    ∷ "0 e pm_callback: a resume begin"
    ∷ "0 work.a rpm_return_int: rpm_resume:a ret=-115"
    ∷ "0 e pm_callback: a resume end 0"
    ∷ "0 e pm_status: a active"
    ∷ "0 e rpm_idle: a flags-1 cnt-1  dep-0  auto-1 p-0 irq-0 child-0"
    ∷ "0 e rpm_return_int: rpm_idle:a ret=-11"
    ∷ "0 e rpm_return_int: rpm_resume:a ret=0"
    ∷ "0 e pm_put: a control"
    ∷ "0 e pm_ret: barrier a 1"
    ∷ "0 e pm_call: barrier a"
    ∷ "0 e pm_get: a control"
    ∷ "0 e pm_put: a control"
    ∷ "0 e pm_ret: barrier a 0"
    ∷ [])

-- disable carries out a pending resume first.
abbrev pub disable_resumes_plan : Plan
disable_resumes_plan =
    let a = dev 0 in
    record empty_plan {
      devices = device "a" ∷ [];
      callers =
          caller "c" (call Enable a ∷ call Get a ∷ [])
          ∷ caller "e" (
          call MarkLastBusy a
          ∷ call MarkLastBusy a
          ∷ call Disable a
          ∷ call Resume a
          ∷ [])
          ∷ [];
      law = refl;
    }

abbrev pub disable_resumes_text : List ℕ
disable_resumes_text =
    text (
    "0 c pm_call: enable a"
    ∷ "0 e pm_call: mark_last_busy a"
    ∷ "0 c pm_ret: enable a 0"
    ∷ "0 e pm_ret: mark_last_busy a 0"
    ∷ "0 c pm_call: get a"
    ∷ "0 e pm_call: mark_last_busy a"
    ∷ "0 c pm_get: a caller"
    ∷ "0 e pm_ret: mark_last_busy a 0"
    ∷ "0 c rpm_resume: a flags-5 cnt-1  dep-0  auto-1 p-0 irq-0 child-0"
    ∷ "0 e pm_call: disable a"
    ∷ "0 c pm_work: a queue resume"
    ∷ "0 e pm_get: a control"
    ∷ "0 work.a pm_work: a run resume"
    ∷ "0 c rpm_return_int: rpm_resume:a ret=0"
    ∷ "0 e rpm_resume: a flags-0 cnt-2  dep-0  auto-1 p-0 irq-0 child-0"
    ∷ "0 work.a rpm_resume: a flags-2 cnt-2  dep-0  auto-1 p-0 irq-0 child-0"
    ∷ "0 c pm_ret: get a 0"
    ∷ "0 e pm_status: a resuming"
    ∷ "0 work.a rpm_return_int: rpm_resume:a ret=-115"
    ∷ "0 e pm_callback: a resume begin"
    ∷ "0 e pm_callback: a resume end 0"
    ∷ "0 e pm_status: a active"
    ∷ "0 e rpm_idle: a flags-1 cnt-2  dep-0  auto-1 p-0 irq-0 child-0"
    ∷ "0 e rpm_return_int: rpm_idle:a ret=-11"
    ∷ "0 e rpm_return_int: rpm_resume:a ret=0"
    ∷ "0 e pm_put: a control"
    ∷ "0 e pm_ret: disable a 0"
    ∷ "0 e pm_call: resume a"
    ∷ "0 e rpm_resume: a flags-0 cnt-1  dep-1  auto-1 p-0 irq-0 child-0"
    ∷ "0 e rpm_return_int: rpm_resume:a ret=1"
    ∷ "0 e pm_ret: resume a 1"
    ∷ [])

-- disable waits for a resume that is under way, and remembers that the device was active.
abbrev pub disable_waits_plan : Plan
disable_waits_plan =
    let a = dev 0 in
    record empty_plan {
      devices = record (device "a") { resume_ms = 10 } ∷ [];
      callers =
          caller "c" (call Enable a ∷ call GetSync a ∷ [])
          ∷ caller "e" (delay 5 ∷ call Disable a ∷ call Resume a ∷ [])
          ∷ [];
      law = refl;
    }

abbrev pub disable_waits_text : List ℕ
disable_waits_text =
    text (
    "0 c pm_call: enable a"
    ∷ "0 e pm_call: delay 5"
    ∷ "0 c pm_ret: enable a 0"
    ∷ "0 c pm_call: get_sync a"
    ∷ "0 c pm_get: a caller"
    ∷ "0 c rpm_resume: a flags-4 cnt-1  dep-0  auto-1 p-0 irq-0 child-0"
    ∷ "0 c pm_status: a resuming"
    ∷ "0 c pm_callback: a resume begin"
    ∷ "5 e pm_ret: delay 0"
    ∷ "5 e pm_call: disable a"
    ∷ "5 e pm_wait: a"
    ∷ "10 c pm_callback: a resume end 0"
    ∷ "10 c pm_status: a active"
    ∷ "10 e pm_ret: disable a 0"
    ∷ "10 c rpm_idle: a flags-1 cnt-1  dep-1  auto-1 p-0 irq-0 child-0"
    ∷ "10 e pm_call: resume a"
    ∷ "10 c rpm_return_int: rpm_idle:a ret=-13"
    ∷ "10 e rpm_resume: a flags-0 cnt-1  dep-1  auto-1 p-0 irq-0 child-0"
    ∷ "10 c rpm_return_int: rpm_resume:a ret=0"
    ∷ "10 e rpm_return_int: rpm_resume:a ret=1"
    ∷ "10 c pm_ret: get_sync a 0"
    ∷ "10 e pm_ret: resume a 1"
    ∷ [])

-- What an idle callback that runs refuses, and the barrier that waits for it.
abbrev pub running_idle_plan : Plan
running_idle_plan =
    let a = dev 0 in
    record empty_plan {
      devices = record (device "a") { idle = Some (minus 16 ∷ []); idle_ms = 10 } ∷ [];
      callers =
          caller "c" (
          call SetActive a
          ∷ call Enable a
          ∷ call RequestIdle a
          ∷ delay 1
          ∷ call Idle a
          ∷ call RequestAutosuspend a
          ∷ call Idle a
          ∷ call Barrier a
          ∷ [])
          ∷ [];
      law = refl;
    }

abbrev pub running_idle_text : List ℕ
running_idle_text =
    text (
    "0 c pm_call: set_active a"
    ∷ "0 c pm_status: a forced_active"
    ∷ "0 c pm_ret: set_active a 0"
    ∷ "0 c pm_call: enable a"
    ∷ "0 c pm_ret: enable a 0"
    ∷ "0 c pm_call: request_idle a"
    ∷ "0 c rpm_idle: a flags-1 cnt-0  dep-0  auto-1 p-0 irq-0 child-0"
    ∷ "0 c pm_work: a queue idle"
    ∷ "0 work.a pm_work: a run idle"
    ∷ "0 c rpm_return_int: rpm_idle:a ret=0"
    ∷ "0 work.a rpm_idle: a flags-2 cnt-0  dep-0  auto-1 p-0 irq-0 child-0"
    ∷ "0 c pm_ret: request_idle a 0"
    ∷ "0 work.a pm_callback: a idle begin"
    ∷ "0 c pm_call: delay 1"
    ∷ "1 c pm_ret: delay 0"
    ∷ "1 c pm_call: idle a"
    ∷ "1 c rpm_idle: a flags-0 cnt-0  dep-0  auto-1 p-0 irq-0 child-0"
    ∷ "1 c rpm_return_int: rpm_idle:a ret=-115"
    ∷ "1 c pm_ret: idle a -115"
    ∷ "1 c pm_call: request_autosuspend a"
    ∷ "1 c rpm_suspend: a flags-9 cnt-0  dep-0  auto-1 p-0 irq-0 child-0"
    ∷ "1 c pm_work: a queue autosuspend"
    ∷ "1 c rpm_return_int: rpm_suspend:a ret=0"
    ∷ "1 c pm_ret: request_autosuspend a 0"
    ∷ "1 c pm_call: idle a"
    ∷ "1 c rpm_idle: a flags-0 cnt-0  dep-0  auto-1 p-1 irq-0 child-0"
    ∷ "1 c rpm_return_int: rpm_idle:a ret=-11"
    ∷ "1 c pm_ret: idle a -11"
    ∷ "1 c pm_call: barrier a"
    ∷ "1 c pm_get: a control"
    ∷ "1 c pm_wait: a"
    ∷ "10 work.a pm_callback: a idle end -16"
    ∷ "10 c pm_put: a control"
    ∷ "10 work.a rpm_return_int: rpm_idle:a ret=-16"
    ∷ "10 c pm_ret: barrier a 0"
    ∷ [])

-- disable waits for an idle callback, also where it is enabled meanwhile, and nests.
abbrev pub disabled_twice_plan : Plan
disabled_twice_plan =
    let a = dev 0 in
    record empty_plan {
      devices =
          record (device "a") { idle = Some ((minus 16) ∷ (minus 16) ∷ []); idle_ms = 10 }
          ∷ [];
      callers =
          caller "c" (
          call SetActive a
          ∷ call Enable a
          ∷ call Disable a
          ∷ call Enable a
          ∷ call RequestIdle a
          ∷ delay 1
          ∷ call RequestAutosuspend a
          ∷ call Disable a
          ∷ call RequestIdle a
          ∷ delay 1
          ∷ call Disable a
          ∷ call Disable a
          ∷ call Enable a
          ∷ call Resume a
          ∷ [])
          ∷ caller "e" (
          delay 5
          ∷ call SetActive a
          ∷ call SetSuspended a
          ∷ call Enable a
          ∷ delay 10
          ∷ call Resume a
          ∷ [])
          ∷ [];
      law = refl;
    }

abbrev pub disabled_twice_text : List ℕ
disabled_twice_text =
    text (
    "0 c pm_call: set_active a"
    ∷ "0 e pm_call: delay 5"
    ∷ "0 c pm_status: a forced_active"
    ∷ "0 c pm_ret: set_active a 0"
    ∷ "0 c pm_call: enable a"
    ∷ "0 c pm_ret: enable a 0"
    ∷ "0 c pm_call: disable a"
    ∷ "0 c pm_ret: disable a 0"
    ∷ "0 c pm_call: enable a"
    ∷ "0 c pm_ret: enable a 0"
    ∷ "0 c pm_call: request_idle a"
    ∷ "0 c rpm_idle: a flags-1 cnt-0  dep-0  auto-1 p-0 irq-0 child-0"
    ∷ "0 c pm_work: a queue idle"
    ∷ "0 work.a pm_work: a run idle"
    ∷ "0 c rpm_return_int: rpm_idle:a ret=0"
    ∷ "0 work.a rpm_idle: a flags-2 cnt-0  dep-0  auto-1 p-0 irq-0 child-0"
    ∷ "0 c pm_ret: request_idle a 0"
    ∷ "0 work.a pm_callback: a idle begin"
    ∷ "0 c pm_call: delay 1"
    ∷ "1 c pm_ret: delay 0"
    ∷ "1 c pm_call: request_autosuspend a"
    ∷ "1 c rpm_suspend: a flags-9 cnt-0  dep-0  auto-1 p-0 irq-0 child-0"
    ∷ "1 c pm_work: a queue autosuspend"
    ∷ "1 c rpm_return_int: rpm_suspend:a ret=0"
    ∷ "1 c pm_ret: request_autosuspend a 0"
    ∷ "1 c pm_call: disable a"
    ∷ "1 c pm_wait: a"
    ∷ "5 e pm_ret: delay 0"
    ∷ "5 e pm_call: set_active a"
    ∷ "5 e pm_ret: set_active a -11"
    ∷ "5 e pm_call: set_suspended a"
    ∷ "5 e pm_ret: set_suspended a -11"
    ∷ "5 e pm_call: enable a"
    ∷ "5 e pm_ret: enable a 0"
    ∷ "5 e pm_call: delay 10"
    ∷ "10 work.a pm_callback: a idle end -16"
    ∷ "10 c pm_ret: disable a 0"
    ∷ "10 work.a rpm_return_int: rpm_idle:a ret=-16"
    ∷ "10 c pm_call: request_idle a"
    ∷ "10 c rpm_idle: a flags-1 cnt-0  dep-0  auto-1 p-0 irq-0 child-0"
    ∷ "10 c pm_work: a queue idle"
    ∷ "10 work.a pm_work: a run idle"
    ∷ "10 c rpm_return_int: rpm_idle:a ret=0"
    ∷ "10 work.a rpm_idle: a flags-2 cnt-0  dep-0  auto-1 p-0 irq-0 child-0"
    ∷ "10 c pm_ret: request_idle a 0"
    ∷ "10 work.a pm_callback: a idle begin"
    ∷ "10 c pm_call: delay 1"
    ∷ "11 c pm_ret: delay 0"
    ∷ "11 c pm_call: disable a"
    ∷ "11 c pm_wait: a"
    ∷ "15 e pm_ret: delay 0"
    ∷ "15 e pm_call: resume a"
    ∷ "15 e rpm_resume: a flags-0 cnt-0  dep-1  auto-1 p-0 irq-0 child-0"
    ∷ "15 e rpm_return_int: rpm_resume:a ret=-13"
    ∷ "15 e pm_ret: resume a -13"
    ∷ "20 work.a pm_callback: a idle end -16"
    ∷ "20 c pm_ret: disable a 0"
    ∷ "20 work.a rpm_return_int: rpm_idle:a ret=-16"
    ∷ "20 c pm_call: disable a"
    ∷ "20 c pm_ret: disable a 0"
    ∷ "20 c pm_call: enable a"
    ∷ "20 c pm_ret: enable a 0"
    ∷ "20 c pm_call: resume a"
    ∷ "20 c rpm_resume: a flags-0 cnt-0  dep-1  auto-1 p-0 irq-0 child-0"
    ∷ "20 c rpm_return_int: rpm_resume:a ret=1"
    ∷ "20 c pm_ret: resume a 1"
    ∷ [])

-- Two callers side by side: what the call of one leaves of the request of the other for the work item.
abbrev pub side_by_side_plan : Plan
side_by_side_plan =
    let a = dev 0 in
    record empty_plan {
      devices =
          record (device "a") {
            idle = Some ((minus 16) ∷ (minus 16) ∷ (minus 16) ∷ []);
            suspend = (minus 16) ∷ (minus 16) ∷ (minus 16) ∷ [];
            suspend_ms = 1;
          }
          ∷ [];
      callers =
          caller "c" (
          call SetActive a
          ∷ delay 1
          ∷ call_with ScheduleSuspend a (pos 0)
          ∷ delay 2
          ∷ call_with ScheduleSuspend a (pos 0)
          ∷ delay 2
          ∷ call MarkLastBusy a
          ∷ call_with ScheduleSuspend a (pos 0)
          ∷ delay 2
          ∷ call_with ScheduleSuspend a (pos 0)
          ∷ delay 2
          ∷ call RequestIdle a
          ∷ delay 2
          ∷ call_with ScheduleSuspend a (pos 0)
          ∷ delay 2
          ∷ call MarkLastBusy a
          ∷ call_with ScheduleSuspend a (pos 0)
          ∷ call_with SetAutosuspendDelay a (pos 5)
          ∷ call UseAutosuspend a
          ∷ delay 2
          ∷ call_with ScheduleSuspend a (pos 0)
          ∷ delay 1
          ∷ call MarkLastBusy a
          ∷ call_with ScheduleSuspend a (pos 0)
          ∷ [])
          ∷ caller "e" (
          call MarkLastBusy a
          ∷ call Enable a
          ∷ delay 1
          ∷ call Idle a
          ∷ delay 2
          ∷ call Suspend a
          ∷ delay 1
          ∷ call_with ScheduleSuspend a (pos 5)
          ∷ call Suspend a
          ∷ delay 1
          ∷ call MarkLastBusy a
          ∷ call GetNoresume a
          ∷ call PutNoidle a
          ∷ call Idle a
          ∷ delay 2
          ∷ call Idle a
          ∷ delay 2
          ∷ call Resume a
          ∷ call MarkLastBusy a
          ∷ delay 2
          ∷ call_with ScheduleSuspend a (pos 5)
          ∷ call Disable a
          ∷ delay 1
          ∷ call Enable a
          ∷ call Idle a
          ∷ delay 1
          ∷ call Autosuspend a
          ∷ call MarkLastBusy a
          ∷ delay 1
          ∷ call_with ScheduleSuspend a (pos 5)
          ∷ call_with ScheduleSuspend a (pos 5)
          ∷ call Barrier a
          ∷ [])
          ∷ [];
      law = refl;
    }

abbrev pub side_by_side_text : List ℕ
side_by_side_text =
    text (
    "0 c pm_call: set_active a"
    ∷ "0 e pm_call: mark_last_busy a"
    ∷ "0 c pm_status: a forced_active"
    ∷ "0 e pm_ret: mark_last_busy a 0"
    ∷ "0 c pm_ret: set_active a 0"
    ∷ "0 e pm_call: enable a"
    ∷ "0 c pm_call: delay 1"
    ∷ "0 e pm_ret: enable a 0"
    ∷ "0 e pm_call: delay 1"
    ∷ "1 c pm_ret: delay 0"
    ∷ "1 e pm_ret: delay 0"
    ∷ "1 c pm_call: schedule_suspend a 0"
    ∷ "1 e pm_call: idle a"
    ∷ "1 c rpm_suspend: a flags-1 cnt-0  dep-0  auto-1 p-0 irq-0 child-0"
    ∷ "1 e rpm_idle: a flags-0 cnt-0  dep-0  auto-1 p-0 irq-0 child-0"
    ∷ "1 c pm_work: a queue suspend"
    ∷ "1 e rpm_return_int: rpm_idle:a ret=-11"
    ∷ "1 work.a pm_work: a run suspend"
    ∷ "1 c rpm_return_int: rpm_suspend:a ret=0"
    ∷ "1 e pm_ret: idle a -11"
    ∷ "1 work.a rpm_suspend: a flags-2 cnt-0  dep-0  auto-1 p-0 irq-0 child-0"
    ∷ "1 c pm_ret: schedule_suspend a 0"
    ∷ "1 e pm_call: delay 2"
    ∷ "1 work.a pm_callback: a suspend begin"
    ∷ "1 c pm_call: delay 2"
    ∷ "2 work.a pm_callback: a suspend end -16"
    ∷ "2 work.a rpm_return_int: rpm_suspend:a ret=-16"
    ∷ "3 c pm_ret: delay 0"
    ∷ "3 e pm_ret: delay 0"
    ∷ "3 c pm_call: schedule_suspend a 0"
    ∷ "3 e pm_call: suspend a"
    ∷ "3 c rpm_suspend: a flags-1 cnt-0  dep-0  auto-1 p-0 irq-0 child-0"
    ∷ "3 e rpm_suspend: a flags-0 cnt-0  dep-0  auto-1 p-0 irq-0 child-0"
    ∷ "3 c pm_work: a queue suspend"
    ∷ "3 e pm_callback: a suspend begin"
    ∷ "3 work.a pm_work: a run none"
    ∷ "3 c rpm_return_int: rpm_suspend:a ret=0"
    ∷ "3 c pm_ret: schedule_suspend a 0"
    ∷ "3 c pm_call: delay 2"
    ∷ "4 e pm_callback: a suspend end -16"
    ∷ "4 e rpm_return_int: rpm_suspend:a ret=-16"
    ∷ "4 e pm_ret: suspend a -16"
    ∷ "4 e pm_call: delay 1"
    ∷ "5 c pm_ret: delay 0"
    ∷ "5 e pm_ret: delay 0"
    ∷ "5 c pm_call: mark_last_busy a"
    ∷ "5 e pm_call: schedule_suspend a 5"
    ∷ "5 c pm_ret: mark_last_busy a 0"
    ∷ "5 e pm_timer: a arm 10 plain"
    ∷ "5 c pm_call: schedule_suspend a 0"
    ∷ "5 e pm_ret: schedule_suspend a 0"
    ∷ "5 c rpm_suspend: a flags-1 cnt-0  dep-0  auto-1 p-0 irq-0 child-0"
    ∷ "5 e pm_call: suspend a"
    ∷ "5 c pm_work: a queue suspend"
    ∷ "5 e rpm_suspend: a flags-0 cnt-0  dep-0  auto-1 p-1 irq-0 child-0"
    ∷ "5 work.a pm_work: a run suspend"
    ∷ "5 c rpm_return_int: rpm_suspend:a ret=0"
    ∷ "5 e pm_callback: a suspend begin"
    ∷ "5 work.a rpm_suspend: a flags-2 cnt-0  dep-0  auto-1 p-0 irq-0 child-0"
    ∷ "5 c pm_ret: schedule_suspend a 0"
    ∷ "5 work.a rpm_return_int: rpm_suspend:a ret=-115"
    ∷ "5 c pm_call: delay 2"
    ∷ "6 e pm_callback: a suspend end -16"
    ∷ "6 e rpm_return_int: rpm_suspend:a ret=-16"
    ∷ "6 e pm_ret: suspend a -16"
    ∷ "6 e pm_call: delay 1"
    ∷ "7 c pm_ret: delay 0"
    ∷ "7 e pm_ret: delay 0"
    ∷ "7 c pm_call: schedule_suspend a 0"
    ∷ "7 e pm_call: mark_last_busy a"
    ∷ "7 c rpm_suspend: a flags-1 cnt-0  dep-0  auto-1 p-0 irq-0 child-0"
    ∷ "7 e pm_ret: mark_last_busy a 0"
    ∷ "7 c pm_work: a queue suspend"
    ∷ "7 e pm_call: get_noresume a"
    ∷ "7 work.a pm_work: a run suspend"
    ∷ "7 c rpm_return_int: rpm_suspend:a ret=0"
    ∷ "7 e pm_get: a caller"
    ∷ "7 work.a rpm_suspend: a flags-2 cnt-1  dep-0  auto-1 p-0 irq-0 child-0"
    ∷ "7 c pm_ret: schedule_suspend a 0"
    ∷ "7 e pm_ret: get_noresume a 0"
    ∷ "7 work.a rpm_return_int: rpm_suspend:a ret=-11"
    ∷ "7 c pm_call: delay 2"
    ∷ "7 e pm_call: put_noidle a"
    ∷ "7 e pm_put: a caller"
    ∷ "7 e pm_ret: put_noidle a 0"
    ∷ "7 e pm_call: idle a"
    ∷ "7 e rpm_idle: a flags-0 cnt-0  dep-0  auto-1 p-0 irq-0 child-0"
    ∷ "7 e pm_callback: a idle begin"
    ∷ "7 e pm_callback: a idle end -16"
    ∷ "7 e rpm_return_int: rpm_idle:a ret=-16"
    ∷ "7 e pm_ret: idle a -16"
    ∷ "7 e pm_call: delay 2"
    ∷ "9 c pm_ret: delay 0"
    ∷ "9 e pm_ret: delay 0"
    ∷ "9 c pm_call: request_idle a"
    ∷ "9 e pm_call: idle a"
    ∷ "9 c rpm_idle: a flags-1 cnt-0  dep-0  auto-1 p-0 irq-0 child-0"
    ∷ "9 e rpm_idle: a flags-0 cnt-0  dep-0  auto-1 p-0 irq-0 child-0"
    ∷ "9 c pm_work: a queue idle"
    ∷ "9 e pm_callback: a idle begin"
    ∷ "9 work.a pm_work: a run none"
    ∷ "9 c rpm_return_int: rpm_idle:a ret=0"
    ∷ "9 e pm_callback: a idle end -16"
    ∷ "9 c pm_ret: request_idle a 0"
    ∷ "9 e rpm_return_int: rpm_idle:a ret=-16"
    ∷ "9 c pm_call: delay 2"
    ∷ "9 e pm_ret: idle a -16"
    ∷ "9 e pm_call: delay 2"
    ∷ "11 c pm_ret: delay 0"
    ∷ "11 e pm_ret: delay 0"
    ∷ "11 c pm_call: schedule_suspend a 0"
    ∷ "11 e pm_call: resume a"
    ∷ "11 c rpm_suspend: a flags-1 cnt-0  dep-0  auto-1 p-0 irq-0 child-0"
    ∷ "11 e rpm_resume: a flags-0 cnt-0  dep-0  auto-1 p-0 irq-0 child-0"
    ∷ "11 c pm_work: a queue suspend"
    ∷ "11 e rpm_return_int: rpm_resume:a ret=1"
    ∷ "11 work.a pm_work: a run none"
    ∷ "11 c rpm_return_int: rpm_suspend:a ret=0"
    ∷ "11 e pm_ret: resume a 1"
    ∷ "11 c pm_ret: schedule_suspend a 0"
    ∷ "11 e pm_call: mark_last_busy a"
    ∷ "11 c pm_call: delay 2"
    ∷ "11 e pm_ret: mark_last_busy a 0"
    ∷ "11 e pm_call: delay 2"
    ∷ "13 c pm_ret: delay 0"
    ∷ "13 e pm_ret: delay 0"
    ∷ "13 c pm_call: mark_last_busy a"
    ∷ "13 e pm_call: schedule_suspend a 5"
    ∷ "13 c pm_ret: mark_last_busy a 0"
    ∷ "13 e pm_timer: a arm 18 plain"
    ∷ "13 c pm_call: schedule_suspend a 0"
    ∷ "13 e pm_ret: schedule_suspend a 0"
    ∷ "13 c rpm_suspend: a flags-1 cnt-0  dep-0  auto-1 p-0 irq-0 child-0"
    ∷ "13 e pm_call: disable a"
    ∷ "13 c pm_work: a queue suspend"
    ∷ "13 e pm_ret: disable a 0"
    ∷ "13 c rpm_return_int: rpm_suspend:a ret=0"
    ∷ "13 e pm_call: delay 1"
    ∷ "13 c pm_ret: schedule_suspend a 0"
    ∷ "13 c pm_call: set_autosuspend_delay a 5"
    ∷ "13 c rpm_idle: a flags-8 cnt-0  dep-1  auto-1 p-0 irq-0 child-0"
    ∷ "13 c rpm_return_int: rpm_idle:a ret=-13"
    ∷ "13 c pm_ret: set_autosuspend_delay a 0"
    ∷ "13 c pm_call: use_autosuspend a"
    ∷ "13 c rpm_idle: a flags-8 cnt-0  dep-1  auto-1 p-0 irq-0 child-0"
    ∷ "13 c rpm_return_int: rpm_idle:a ret=-13"
    ∷ "13 c pm_ret: use_autosuspend a 0"
    ∷ "13 c pm_call: delay 2"
    ∷ "14 e pm_ret: delay 0"
    ∷ "14 e pm_call: enable a"
    ∷ "14 e pm_ret: enable a 0"
    ∷ "14 e pm_call: idle a"
    ∷ "14 e rpm_idle: a flags-0 cnt-0  dep-0  auto-1 p-0 irq-0 child-0"
    ∷ "14 e pm_callback: a idle begin"
    ∷ "14 e pm_callback: a idle end -16"
    ∷ "14 e rpm_return_int: rpm_idle:a ret=-16"
    ∷ "14 e pm_ret: idle a -16"
    ∷ "14 e pm_call: delay 1"
    ∷ "15 c pm_ret: delay 0"
    ∷ "15 e pm_ret: delay 0"
    ∷ "15 c pm_call: schedule_suspend a 0"
    ∷ "15 e pm_call: autosuspend a"
    ∷ "15 c rpm_suspend: a flags-1 cnt-0  dep-0  auto-1 p-0 irq-0 child-0"
    ∷ "15 e rpm_suspend: a flags-8 cnt-0  dep-0  auto-1 p-0 irq-0 child-0"
    ∷ "15 c pm_work: a queue suspend"
    ∷ "15 e pm_timer: a arm 18 auto"
    ∷ "15 work.a pm_work: a run none"
    ∷ "15 c rpm_return_int: rpm_suspend:a ret=0"
    ∷ "15 e rpm_return_int: rpm_suspend:a ret=0"
    ∷ "15 c pm_ret: schedule_suspend a 0"
    ∷ "15 e pm_ret: autosuspend a 0"
    ∷ "15 c pm_call: delay 1"
    ∷ "15 e pm_call: mark_last_busy a"
    ∷ "15 e pm_ret: mark_last_busy a 0"
    ∷ "15 e pm_call: delay 1"
    ∷ "16 c pm_ret: delay 0"
    ∷ "16 e pm_ret: delay 0"
    ∷ "16 c pm_call: mark_last_busy a"
    ∷ "16 e pm_call: schedule_suspend a 5"
    ∷ "16 c pm_ret: mark_last_busy a 0"
    ∷ "16 e pm_timer: a arm 21 plain"
    ∷ "16 c pm_call: schedule_suspend a 0"
    ∷ "16 e pm_ret: schedule_suspend a 0"
    ∷ "16 c rpm_suspend: a flags-1 cnt-0  dep-0  auto-1 p-0 irq-0 child-0"
    ∷ "16 e pm_call: schedule_suspend a 5"
    ∷ "16 c pm_work: a queue suspend"
    ∷ "16 e pm_timer: a arm 21 plain"
    ∷ "16 work.a pm_work: a run none"
    ∷ "16 c rpm_return_int: rpm_suspend:a ret=0"
    ∷ "16 e pm_ret: schedule_suspend a 0"
    ∷ "16 c pm_ret: schedule_suspend a 0"
    ∷ "16 e pm_call: barrier a"
    ∷ "16 e pm_get: a control"
    ∷ "16 e pm_put: a control"
    ∷ "16 e pm_ret: barrier a 0"
    ∷ [])

-- A nested disable leaves what the first one remembered, whatever the status has become since.
abbrev pub nested_disable_plan : Plan
nested_disable_plan =
    let a = dev 0 in
    record empty_plan {
      devices = record (device "a") { resume = minus 5 ∷ [] } ∷ [];
      callers =
          caller "c" (
          call SetActive a
          ∷ call Disable a
          ∷ call Resume a
          ∷ call Enable a
          ∷ call Resume a
          ∷ call Enable a
          ∷ call Disable a
          ∷ call SetSuspended a
          ∷ call Resume a
          ∷ call Disable a
          ∷ call SetActive a
          ∷ call Enable a
          ∷ call Resume a
          ∷ call Enable a
          ∷ call Suspend a
          ∷ call Disable a
          ∷ call SetActive a
          ∷ call Disable a
          ∷ call Enable a
          ∷ call Resume a
          ∷ call SetSuspended a
          ∷ call Enable a
          ∷ call Resume a
          ∷ call Disable a
          ∷ call Resume a
          ∷ call Suspend a
          ∷ call_with ScheduleSuspend a (pos 0)
          ∷ [])
          ∷ [];
      law = refl;
    }

abbrev pub nested_disable_text : List ℕ
nested_disable_text =
    text (
    "0 c pm_call: set_active a"
    ∷ "0 c pm_status: a forced_active"
    ∷ "0 c pm_ret: set_active a 0"
    ∷ "0 c pm_call: disable a"
    ∷ "0 c pm_ret: disable a 0"
    ∷ "0 c pm_call: resume a"
    ∷ "0 c rpm_resume: a flags-0 cnt-0  dep-2  auto-1 p-0 irq-0 child-0"
    ∷ "0 c rpm_return_int: rpm_resume:a ret=-13"
    ∷ "0 c pm_ret: resume a -13"
    ∷ "0 c pm_call: enable a"
    ∷ "0 c pm_ret: enable a 0"
    ∷ "0 c pm_call: resume a"
    ∷ "0 c rpm_resume: a flags-0 cnt-0  dep-1  auto-1 p-0 irq-0 child-0"
    ∷ "0 c rpm_return_int: rpm_resume:a ret=-13"
    ∷ "0 c pm_ret: resume a -13"
    ∷ "0 c pm_call: enable a"
    ∷ "0 c pm_ret: enable a 0"
    ∷ "0 c pm_call: disable a"
    ∷ "0 c pm_ret: disable a 0"
    ∷ "0 c pm_call: set_suspended a"
    ∷ "0 c pm_status: a forced_suspended"
    ∷ "0 c pm_ret: set_suspended a 0"
    ∷ "0 c pm_call: resume a"
    ∷ "0 c rpm_resume: a flags-0 cnt-0  dep-1  auto-1 p-0 irq-0 child-0"
    ∷ "0 c rpm_return_int: rpm_resume:a ret=-13"
    ∷ "0 c pm_ret: resume a -13"
    ∷ "0 c pm_call: disable a"
    ∷ "0 c pm_ret: disable a 0"
    ∷ "0 c pm_call: set_active a"
    ∷ "0 c pm_status: a forced_active"
    ∷ "0 c pm_ret: set_active a 0"
    ∷ "0 c pm_call: enable a"
    ∷ "0 c pm_ret: enable a 0"
    ∷ "0 c pm_call: resume a"
    ∷ "0 c rpm_resume: a flags-0 cnt-0  dep-1  auto-1 p-0 irq-0 child-0"
    ∷ "0 c rpm_return_int: rpm_resume:a ret=1"
    ∷ "0 c pm_ret: resume a 1"
    ∷ "0 c pm_call: enable a"
    ∷ "0 c pm_ret: enable a 0"
    ∷ "0 c pm_call: suspend a"
    ∷ "0 c rpm_suspend: a flags-0 cnt-0  dep-0  auto-1 p-0 irq-0 child-0"
    ∷ "0 c pm_callback: a suspend begin"
    ∷ "0 c pm_callback: a suspend end 0"
    ∷ "0 c pm_status: a suspended"
    ∷ "0 c rpm_return_int: rpm_suspend:a ret=0"
    ∷ "0 c pm_ret: suspend a 0"
    ∷ "0 c pm_call: disable a"
    ∷ "0 c pm_ret: disable a 0"
    ∷ "0 c pm_call: set_active a"
    ∷ "0 c pm_status: a forced_active"
    ∷ "0 c pm_ret: set_active a 0"
    ∷ "0 c pm_call: disable a"
    ∷ "0 c pm_ret: disable a 0"
    ∷ "0 c pm_call: enable a"
    ∷ "0 c pm_ret: enable a 0"
    ∷ "0 c pm_call: resume a"
    ∷ "0 c rpm_resume: a flags-0 cnt-0  dep-1  auto-1 p-0 irq-0 child-0"
    ∷ "0 c rpm_return_int: rpm_resume:a ret=-13"
    ∷ "0 c pm_ret: resume a -13"
    ∷ "0 c pm_call: set_suspended a"
    ∷ "0 c pm_status: a forced_suspended"
    ∷ "0 c pm_ret: set_suspended a 0"
    ∷ "0 c pm_call: enable a"
    ∷ "0 c pm_ret: enable a 0"
    ∷ "0 c pm_call: resume a"
    ∷ "0 c rpm_resume: a flags-0 cnt-0  dep-0  auto-1 p-0 irq-0 child-0"
    ∷ "0 c pm_status: a resuming"
    ∷ "0 c pm_callback: a resume begin"
    ∷ "0 c pm_callback: a resume end -5"
    ∷ "0 c pm_status: a suspended"
    ∷ "0 c rpm_return_int: rpm_resume:a ret=-5"
    ∷ "0 c pm_ret: resume a -5"
    ∷ "0 c pm_call: disable a"
    ∷ "0 c pm_ret: disable a 0"
    ∷ "0 c pm_call: resume a"
    ∷ "0 c rpm_resume: a flags-0 cnt-0  dep-1  auto-1 p-0 irq-0 child-0"
    ∷ "0 c rpm_return_int: rpm_resume:a ret=-22"
    ∷ "0 c pm_ret: resume a -22"
    ∷ "0 c pm_call: suspend a"
    ∷ "0 c rpm_suspend: a flags-0 cnt-0  dep-1  auto-1 p-0 irq-0 child-0"
    ∷ "0 c rpm_return_int: rpm_suspend:a ret=-22"
    ∷ "0 c pm_ret: suspend a -22"
    ∷ "0 c pm_call: schedule_suspend a 0"
    ∷ "0 c rpm_suspend: a flags-1 cnt-0  dep-1  auto-1 p-0 irq-0 child-0"
    ∷ "0 c rpm_return_int: rpm_suspend:a ret=-22"
    ∷ "0 c pm_ret: schedule_suspend a -22"
    ∷ [])

-- barrier takes a pending suspend away, waiting or not; with no barrier it is carried out after the resume.
abbrev pub barrier_takes_plan : Plan
barrier_takes_plan =
    let a = dev 0 in
    record empty_plan {
      devices = record (device "a") { resume_ms = 10 } ∷ [];
      callers =
          caller "c" (
          call Enable a
          ∷ call RequestResume a
          ∷ delay 20
          ∷ call RequestResume a
          ∷ delay 20
          ∷ call RequestResume a
          ∷ [])
          ∷ caller "e" (
          delay 1
          ∷ call Resume a
          ∷ call MarkLastBusy a
          ∷ call Barrier a
          ∷ call Idle a
          ∷ delay 11
          ∷ call_with ScheduleSuspend a (pos 0)
          ∷ call Barrier a
          ∷ delay 11
          ∷ call_with ScheduleSuspend a (pos 0)
          ∷ [])
          ∷ [];
      law = refl;
    }

abbrev pub barrier_takes_text : List ℕ
barrier_takes_text =
    text (
    "0 c pm_call: enable a"
    ∷ "0 e pm_call: delay 1"
    ∷ "0 c pm_ret: enable a 0"
    ∷ "0 c pm_call: request_resume a"
    ∷ "0 c rpm_resume: a flags-1 cnt-0  dep-0  auto-1 p-0 irq-0 child-0"
    ∷ "0 c pm_work: a queue resume"
    ∷ "0 work.a pm_work: a run resume"
    ∷ "0 c rpm_return_int: rpm_resume:a ret=0"
    ∷ "0 work.a rpm_resume: a flags-2 cnt-0  dep-0  auto-1 p-0 irq-0 child-0"
    ∷ "0 c pm_ret: request_resume a 0"
    ∷ "0 work.a pm_status: a resuming"
    ∷ "0 c pm_call: delay 20"
    ∷ "0 work.a pm_callback: a resume begin"
    ∷ "1 e pm_ret: delay 0"
    ∷ "1 e pm_call: resume a"
    ∷ "1 e rpm_resume: a flags-0 cnt-0  dep-0  auto-1 p-0 irq-0 child-0"
    ∷ "1 e pm_wait: a"
    ∷ "10 work.a pm_callback: a resume end 0"
    ∷ "10 work.a pm_status: a active"
    ∷ "10 e rpm_return_int: rpm_resume:a ret=1"
    ∷ "10 work.a rpm_idle: a flags-1 cnt-0  dep-0  auto-1 p-0 irq-0 child-0"
    ∷ "10 e pm_ret: resume a 1"
    ∷ "10 work.a rpm_return_int: rpm_idle:a ret=0"
    ∷ "10 e pm_call: mark_last_busy a"
    ∷ "10 work.a rpm_suspend: a flags-9 cnt-0  dep-0  auto-1 p-0 irq-0 child-0"
    ∷ "10 e pm_ret: mark_last_busy a 0"
    ∷ "10 work.a pm_work: a queue autosuspend"
    ∷ "10 e pm_call: barrier a"
    ∷ "10 work.a rpm_return_int: rpm_suspend:a ret=0"
    ∷ "10 e pm_get: a control"
    ∷ "10 work.a rpm_return_int: rpm_resume:a ret=0"
    ∷ "10 e pm_put: a control"
    ∷ "10 e pm_ret: barrier a 0"
    ∷ "10 e pm_call: idle a"
    ∷ "10 e rpm_idle: a flags-0 cnt-0  dep-0  auto-1 p-0 irq-0 child-0"
    ∷ "10 e rpm_return_int: rpm_idle:a ret=0"
    ∷ "10 e rpm_suspend: a flags-8 cnt-0  dep-0  auto-1 p-0 irq-0 child-0"
    ∷ "10 e pm_callback: a suspend begin"
    ∷ "10 e pm_callback: a suspend end 0"
    ∷ "10 e pm_status: a suspended"
    ∷ "10 e rpm_return_int: rpm_suspend:a ret=0"
    ∷ "10 e pm_ret: idle a 0"
    ∷ "10 e pm_call: delay 11"
    ∷ "20 c pm_ret: delay 0"
    ∷ "20 c pm_call: request_resume a"
    ∷ "20 c rpm_resume: a flags-1 cnt-0  dep-0  auto-1 p-0 irq-0 child-0"
    ∷ "20 c pm_work: a queue resume"
    ∷ "20 work.a pm_work: a run resume"
    ∷ "20 c rpm_return_int: rpm_resume:a ret=0"
    ∷ "20 work.a rpm_resume: a flags-2 cnt-0  dep-0  auto-1 p-0 irq-0 child-0"
    ∷ "20 c pm_ret: request_resume a 0"
    ∷ "20 work.a pm_status: a resuming"
    ∷ "20 c pm_call: delay 20"
    ∷ "20 work.a pm_callback: a resume begin"
    ∷ "21 e pm_ret: delay 0"
    ∷ "21 e pm_call: schedule_suspend a 0"
    ∷ "21 e rpm_suspend: a flags-1 cnt-0  dep-0  auto-1 p-0 irq-0 child-0"
    ∷ "21 e pm_work: a queue suspend"
    ∷ "21 e rpm_return_int: rpm_suspend:a ret=0"
    ∷ "21 e pm_ret: schedule_suspend a 0"
    ∷ "21 e pm_call: barrier a"
    ∷ "21 e pm_get: a control"
    ∷ "21 e pm_wait: a"
    ∷ "30 work.a pm_callback: a resume end 0"
    ∷ "30 work.a pm_status: a active"
    ∷ "30 e pm_put: a control"
    ∷ "30 work.a rpm_idle: a flags-1 cnt-0  dep-0  auto-1 p-0 irq-0 child-0"
    ∷ "30 e pm_ret: barrier a 0"
    ∷ "30 work.a rpm_return_int: rpm_idle:a ret=0"
    ∷ "30 e pm_call: delay 11"
    ∷ "30 work.a rpm_suspend: a flags-9 cnt-0  dep-0  auto-1 p-0 irq-0 child-0"
    ∷ "30 work.a pm_work: a queue autosuspend"
    ∷ "30 work.a rpm_return_int: rpm_suspend:a ret=0"
    ∷ "30 work.a rpm_return_int: rpm_resume:a ret=0"
    ∷ "30 work.a pm_work: a run autosuspend"
    ∷ "30 work.a rpm_suspend: a flags-a cnt-0  dep-0  auto-1 p-0 irq-0 child-0"
    ∷ "30 work.a pm_callback: a suspend begin"
    ∷ "30 work.a pm_callback: a suspend end 0"
    ∷ "30 work.a pm_status: a suspended"
    ∷ "30 work.a rpm_return_int: rpm_suspend:a ret=0"
    ∷ "40 c pm_ret: delay 0"
    ∷ "40 c pm_call: request_resume a"
    ∷ "40 c rpm_resume: a flags-1 cnt-0  dep-0  auto-1 p-0 irq-0 child-0"
    ∷ "40 c pm_work: a queue resume"
    ∷ "40 work.a pm_work: a run resume"
    ∷ "40 c rpm_return_int: rpm_resume:a ret=0"
    ∷ "40 work.a rpm_resume: a flags-2 cnt-0  dep-0  auto-1 p-0 irq-0 child-0"
    ∷ "40 c pm_ret: request_resume a 0"
    ∷ "40 work.a pm_status: a resuming"
    ∷ "40 work.a pm_callback: a resume begin"
    ∷ "41 e pm_ret: delay 0"
    ∷ "41 e pm_call: schedule_suspend a 0"
    ∷ "41 e rpm_suspend: a flags-1 cnt-0  dep-0  auto-1 p-0 irq-0 child-0"
    ∷ "41 e pm_work: a queue suspend"
    ∷ "41 e rpm_return_int: rpm_suspend:a ret=0"
    ∷ "41 e pm_ret: schedule_suspend a 0"
    ∷ "50 work.a pm_callback: a resume end 0"
    ∷ "50 work.a pm_status: a active"
    ∷ "50 work.a rpm_idle: a flags-1 cnt-0  dep-0  auto-1 p-1 irq-0 child-0"
    ∷ "50 work.a rpm_return_int: rpm_idle:a ret=-11"
    ∷ "50 work.a rpm_return_int: rpm_resume:a ret=0"
    ∷ "50 work.a pm_work: a run suspend"
    ∷ "50 work.a rpm_suspend: a flags-2 cnt-0  dep-0  auto-1 p-0 irq-0 child-0"
    ∷ "50 work.a pm_callback: a suspend begin"
    ∷ "50 work.a pm_callback: a suspend end 0"
    ∷ "50 work.a pm_status: a suspended"
    ∷ "50 work.a rpm_return_int: rpm_suspend:a ret=0"
    ∷ [])
