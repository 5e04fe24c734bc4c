-- Runs of counts, which callers, forbid and a negative autosuspend delay hold: the plans, and what one thread writes.
use Rattle.std.specs.Prelude.{ℕ, pos, List, [], ◌∷◌, refl}
use Rattle.pm_model.specs.declared.event.Helper.TheVariants.{Allow, DontUseAutosuspend, Enable, Forbid, GetIfActive, GetIfInUse, GetNoresume, GetSync, Put, PutAutosuspend, PutNoidle, SetActive, SetAutosuspendDelay, Suspend, UseAutosuspend}
use Rattle.pm_model.specs.declared.plan.Plan.{Plan}
use Rattle.pm_show_runs.specs.Words.{empty_plan, dev, device, caller, call, call_with, minus, text}

-- A caller enables a device, takes a count on it, which resumes it, and gives the count back.
abbrev pub first_plan : Plan
first_plan =
    let a = dev 0 in
    record empty_plan {
      devices = device "a" ∷ [];
      callers = caller "c" (call Enable a ∷ call GetSync a ∷ call PutNoidle a ∷ []) ∷ [];
      law = refl;
    }

abbrev pub first_text : List ℕ
first_text =
    text (
    "0 c pm_call: enable a"
    ∷ "0 c pm_ret: enable a 0"
    ∷ "0 c pm_call: get_sync a"
    ∷ "0 c pm_get: a caller"
    ∷ "0 c rpm_resume: a flags-4 cnt-1  dep-0  auto-1 p-0 irq-0 child-0"
    ∷ "0 c pm_status: a resuming"
    ∷ "0 c pm_callback: a resume begin"
    ∷ "0 c pm_callback: a resume end 0"
    ∷ "0 c pm_status: a active"
    ∷ "0 c rpm_idle: a flags-1 cnt-1  dep-0  auto-1 p-0 irq-0 child-0"
    ∷ "0 c rpm_return_int: rpm_idle:a ret=-11"
    ∷ "0 c rpm_return_int: rpm_resume:a ret=0"
    ∷ "0 c pm_ret: get_sync a 0"
    ∷ "0 c pm_call: put_noidle a"
    ∷ "0 c pm_put: a caller"
    ∷ "0 c pm_ret: put_noidle a 0"
    ∷ [])

-- A get on a disabled device answers -13, and keeps its count.
abbrev pub disabled_get_plan : Plan
disabled_get_plan =
    let a = dev 0 in
    record empty_plan {
      devices = device "a" ∷ [];
      callers = caller "c" (call GetSync a ∷ []) ∷ [];
      law = refl;
    }

abbrev pub disabled_get_text : List ℕ
disabled_get_text =
    text (
    "0 c pm_call: get_sync a"
    ∷ "0 c pm_get: a caller"
    ∷ "0 c rpm_resume: a flags-4 cnt-1  dep-1  auto-1 p-0 irq-0 child-0"
    ∷ "0 c rpm_return_int: rpm_resume:a ret=-13"
    ∷ "0 c pm_ret: get_sync a -13"
    ∷ [])

-- A put without a count is refused; one that leaves a count goes no further.
abbrev pub refused_put_plan : Plan
refused_put_plan =
    let a = dev 0 in
    record empty_plan {
      devices = device "a" ∷ [];
      callers =
          caller "c" (
          call Enable a
          ∷ call Put a
          ∷ call GetNoresume a
          ∷ call GetNoresume a
          ∷ call Put a
          ∷ [])
          ∷ [];
      law = refl;
    }

abbrev pub refused_put_text : List ℕ
refused_put_text =
    text (
    "0 c pm_call: enable a"
    ∷ "0 c pm_ret: enable a 0"
    ∷ "0 c pm_call: put a"
    ∷ "0 c pm_ret: put a -22"
    ∷ "0 c pm_call: get_noresume a"
    ∷ "0 c pm_get: a caller"
    ∷ "0 c pm_ret: get_noresume a 0"
    ∷ "0 c pm_call: get_noresume a"
    ∷ "0 c pm_get: a caller"
    ∷ "0 c pm_ret: get_noresume a 0"
    ∷ "0 c pm_call: put a"
    ∷ "0 c pm_put: a caller"
    ∷ "0 c rpm_usage: a flags-5 cnt-1  dep-0  auto-1 p-0 irq-0 child-0"
    ∷ "0 c pm_ret: put a 0"
    ∷ [])

-- The gets that ask first, and calls that are refused.
abbrev pub conditional_gets_plan : Plan
conditional_gets_plan =
    let a = dev 0 in
    record empty_plan {
      devices = device "a" ∷ [];
      callers =
          caller "c" (
          call GetIfActive a
          ∷ call Enable a
          ∷ call Enable a
          ∷ call GetIfActive a
          ∷ call PutNoidle a
          ∷ call PutAutosuspend a
          ∷ call GetSync a
          ∷ call GetIfInUse a
          ∷ call PutAutosuspend a
          ∷ call PutNoidle a
          ∷ call GetIfInUse a
          ∷ call GetIfActive a
          ∷ call Suspend a
          ∷ [])
          ∷ [];
      law = refl;
    }

abbrev pub conditional_gets_text : List ℕ
conditional_gets_text =
    text (
    "0 c pm_call: get_if_active a"
    ∷ "0 c pm_ret: get_if_active a -22"
    ∷ "0 c pm_call: enable a"
    ∷ "0 c pm_ret: enable a 0"
    ∷ "0 c pm_call: enable a"
    ∷ "0 c pm_ret: enable a -22"
    ∷ "0 c pm_call: get_if_active a"
    ∷ "0 c pm_ret: get_if_active a 0"
    ∷ "0 c pm_call: put_noidle a"
    ∷ "0 c pm_ret: put_noidle a -22"
    ∷ "0 c pm_call: put_autosuspend a"
    ∷ "0 c pm_ret: put_autosuspend a -22"
    ∷ "0 c pm_call: get_sync a"
    ∷ "0 c pm_get: a caller"
    ∷ "0 c rpm_resume: a flags-4 cnt-1  dep-0  auto-1 p-0 irq-0 child-0"
    ∷ "0 c pm_status: a resuming"
    ∷ "0 c pm_callback: a resume begin"
    ∷ "0 c pm_callback: a resume end 0"
    ∷ "0 c pm_status: a active"
    ∷ "0 c rpm_idle: a flags-1 cnt-1  dep-0  auto-1 p-0 irq-0 child-0"
    ∷ "0 c rpm_return_int: rpm_idle:a ret=-11"
    ∷ "0 c rpm_return_int: rpm_resume:a ret=0"
    ∷ "0 c pm_ret: get_sync a 0"
    ∷ "0 c pm_call: get_if_in_use a"
    ∷ "0 c pm_get: a caller"
    ∷ "0 c pm_ret: get_if_in_use a 1"
    ∷ "0 c pm_call: put_autosuspend a"
    ∷ "0 c pm_put: a caller"
    ∷ "0 c rpm_usage: a flags-d cnt-1  dep-0  auto-1 p-0 irq-0 child-0"
    ∷ "0 c pm_ret: put_autosuspend a 0"
    ∷ "0 c pm_call: put_noidle a"
    ∷ "0 c pm_put: a caller"
    ∷ "0 c pm_ret: put_noidle a 0"
    ∷ "0 c pm_call: get_if_in_use a"
    ∷ "0 c pm_ret: get_if_in_use a 0"
    ∷ "0 c pm_call: get_if_active a"
    ∷ "0 c pm_get: a caller"
    ∷ "0 c pm_ret: get_if_active a 1"
    ∷ "0 c pm_call: suspend a"
    ∷ "0 c rpm_suspend: a flags-0 cnt-1  dep-0  auto-1 p-0 irq-0 child-0"
    ∷ "0 c rpm_return_int: rpm_suspend:a ret=-11"
    ∷ "0 c pm_ret: suspend a -11"
    ∷ [])

-- forbid holds a count that no put gives back; allow gives it back.
abbrev pub forbidden_plan : Plan
forbidden_plan =
    let a = dev 0 in
    record empty_plan {
      devices = device "a" ∷ [];
      callers = caller "c" (call Enable a ∷ call Forbid a ∷ call Put a ∷ call Allow a ∷ []) ∷ [];
      law = refl;
    }

abbrev pub forbidden_text : List ℕ
forbidden_text =
    text (
    "0 c pm_call: enable a"
    ∷ "0 c pm_ret: enable a 0"
    ∷ "0 c pm_call: forbid a"
    ∷ "0 c pm_get: a forbid"
    ∷ "0 c rpm_resume: a flags-0 cnt-1  dep-0  auto-0 p-0 irq-0 child-0"
    ∷ "0 c pm_status: a resuming"
    ∷ "0 c pm_callback: a resume begin"
    ∷ "0 c pm_callback: a resume end 0"
    ∷ "0 c pm_status: a active"
    ∷ "0 c rpm_idle: a flags-1 cnt-1  dep-0  auto-0 p-0 irq-0 child-0"
    ∷ "0 c rpm_return_int: rpm_idle:a ret=-11"
    ∷ "0 c rpm_return_int: rpm_resume:a ret=0"
    ∷ "0 c pm_ret: forbid a 0"
    ∷ "0 c pm_call: put a"
    ∷ "0 c pm_ret: put a -22"
    ∷ "0 c pm_call: allow a"
    ∷ "0 c pm_put: a forbid"
    ∷ "0 c rpm_idle: a flags-9 cnt-0  dep-0  auto-1 p-0 irq-0 child-0"
    ∷ "0 c rpm_return_int: rpm_idle:a ret=0"
    ∷ "0 c rpm_suspend: a flags-9 cnt-0  dep-0  auto-1 p-0 irq-0 child-0"
    ∷ "0 c pm_work: a queue autosuspend"
    ∷ "0 work.a pm_work: a run autosuspend"
    ∷ "0 c rpm_return_int: rpm_suspend:a ret=0"
    ∷ "0 work.a rpm_suspend: a flags-a cnt-0  dep-0  auto-1 p-0 irq-0 child-0"
    ∷ "0 c pm_ret: allow a 0"
    ∷ "0 work.a pm_callback: a suspend begin"
    ∷ "0 work.a pm_callback: a suspend end 0"
    ∷ "0 work.a pm_status: a suspended"
    ∷ "0 work.a rpm_return_int: rpm_suspend:a ret=0"
    ∷ [])

-- A negative autosuspend delay in use holds a count, until autosuspend is in use no more.
abbrev pub negative_delay_plan : Plan
negative_delay_plan =
    let a = dev 0 in
    record empty_plan {
      devices = device "a" ∷ [];
      callers =
          caller "c" (
          call Enable a
          ∷ call_with SetAutosuspendDelay a (minus 1)
          ∷ call UseAutosuspend a
          ∷ call Put a
          ∷ call DontUseAutosuspend a
          ∷ [])
          ∷ [];
      law = refl;
    }

abbrev pub negative_delay_text : List ℕ
negative_delay_text =
    text (
    "0 c pm_call: enable a"
    ∷ "0 c pm_ret: enable a 0"
    ∷ "0 c pm_call: set_autosuspend_delay a -1"
    ∷ "0 c rpm_idle: a flags-8 cnt-0  dep-0  auto-1 p-0 irq-0 child-0"
    ∷ "0 c rpm_return_int: rpm_idle:a ret=-11"
    ∷ "0 c pm_ret: set_autosuspend_delay a 0"
    ∷ "0 c pm_call: use_autosuspend a"
    ∷ "0 c pm_get: a delay"
    ∷ "0 c rpm_resume: a flags-0 cnt-1  dep-0  auto-1 p-0 irq-0 child-0"
    ∷ "0 c pm_status: a resuming"
    ∷ "0 c pm_callback: a resume begin"
    ∷ "0 c pm_callback: a resume end 0"
    ∷ "0 c pm_status: a active"
    ∷ "0 c rpm_idle: a flags-1 cnt-1  dep-0  auto-1 p-0 irq-0 child-0"
    ∷ "0 c rpm_return_int: rpm_idle:a ret=-11"
    ∷ "0 c rpm_return_int: rpm_resume:a ret=0"
    ∷ "0 c pm_ret: use_autosuspend a 0"
    ∷ "0 c pm_call: put a"
    ∷ "0 c pm_ret: put a -22"
    ∷ "0 c pm_call: dont_use_autosuspend a"
    ∷ "0 c pm_put: a delay"
    ∷ "0 c rpm_idle: a flags-8 cnt-0  dep-0  auto-1 p-0 irq-0 child-0"
    ∷ "0 c rpm_return_int: rpm_idle:a ret=0"
    ∷ "0 c rpm_suspend: a flags-8 cnt-0  dep-0  auto-1 p-0 irq-0 child-0"
    ∷ "0 c pm_callback: a suspend begin"
    ∷ "0 c pm_callback: a suspend end 0"
    ∷ "0 c pm_status: a suspended"
    ∷ "0 c rpm_return_int: rpm_suspend:a ret=0"
    ∷ "0 c pm_ret: dont_use_autosuspend a 0"
    ∷ [])

-- A second forbid, and one negative delay after another, hold no second count.
abbrev pub held_once_plan : Plan
held_once_plan =
    let a = dev 0 in
    record empty_plan {
      devices = device "a" ∷ [];
      callers =
          caller "c" (
          call SetActive a
          ∷ call Enable a
          ∷ call Allow a
          ∷ call Forbid a
          ∷ call Forbid a
          ∷ call GetNoresume a
          ∷ call PutNoidle a
          ∷ call PutNoidle a
          ∷ call_with SetAutosuspendDelay a (minus 1)
          ∷ call UseAutosuspend a
          ∷ call_with SetAutosuspendDelay a (minus 2)
          ∷ call Allow a
          ∷ call_with SetAutosuspendDelay a (pos 5)
          ∷ call DontUseAutosuspend a
          ∷ [])
          ∷ [];
      law = refl;
    }

abbrev pub held_once_text : List ℕ
held_once_text =
    text (
    "0 c pm_call: set_active a"
    ∷ "0 c pm_status: a forced_active"
    ∷ "0 c pm_ret: set_active a 0"
    ∷ "0 c pm_call: enable a"
    ∷ "0 c pm_ret: enable a 0"
    ∷ "0 c pm_call: allow a"
    ∷ "0 c pm_ret: allow a 0"
    ∷ "0 c pm_call: forbid a"
    ∷ "0 c pm_get: a forbid"
    ∷ "0 c rpm_resume: a flags-0 cnt-1  dep-0  auto-0 p-0 irq-0 child-0"
    ∷ "0 c rpm_return_int: rpm_resume:a ret=1"
    ∷ "0 c pm_ret: forbid a 0"
    ∷ "0 c pm_call: forbid a"
    ∷ "0 c pm_ret: forbid a 0"
    ∷ "0 c pm_call: get_noresume a"
    ∷ "0 c pm_get: a caller"
    ∷ "0 c pm_ret: get_noresume a 0"
    ∷ "0 c pm_call: put_noidle a"
    ∷ "0 c pm_put: a caller"
    ∷ "0 c pm_ret: put_noidle a 0"
    ∷ "0 c pm_call: put_noidle a"
    ∷ "0 c pm_ret: put_noidle a -22"
    ∷ "0 c pm_call: set_autosuspend_delay a -1"
    ∷ "0 c rpm_idle: a flags-8 cnt-1  dep-0  auto-0 p-0 irq-0 child-0"
    ∷ "0 c rpm_return_int: rpm_idle:a ret=-11"
    ∷ "0 c pm_ret: set_autosuspend_delay a 0"
    ∷ "0 c pm_call: use_autosuspend a"
    ∷ "0 c pm_get: a delay"
    ∷ "0 c rpm_resume: a flags-0 cnt-2  dep-0  auto-0 p-0 irq-0 child-0"
    ∷ "0 c rpm_return_int: rpm_resume:a ret=1"
    ∷ "0 c pm_ret: use_autosuspend a 0"
    ∷ "0 c pm_call: set_autosuspend_delay a -2"
    ∷ "0 c pm_ret: set_autosuspend_delay a 0"
    ∷ "0 c pm_call: allow a"
    ∷ "0 c pm_put: a forbid"
    ∷ "0 c rpm_usage: a flags-9 cnt-1  dep-0  auto-1 p-0 irq-0 child-0"
    ∷ "0 c pm_ret: allow a 0"
    ∷ "0 c pm_call: set_autosuspend_delay a 5"
    ∷ "0 c pm_put: a delay"
    ∷ "0 c rpm_idle: a flags-8 cnt-0  dep-0  auto-1 p-0 irq-0 child-0"
    ∷ "0 c rpm_return_int: rpm_idle:a ret=0"
    ∷ "0 c rpm_suspend: a flags-8 cnt-0  dep-0  auto-1 p-0 irq-0 child-0"
    ∷ "0 c pm_timer: a arm 5 auto"
    ∷ "0 c rpm_return_int: rpm_suspend:a ret=0"
    ∷ "0 c pm_ret: set_autosuspend_delay a 0"
    ∷ "0 c pm_call: dont_use_autosuspend a"
    ∷ "0 c rpm_idle: a flags-8 cnt-0  dep-0  auto-1 p-0 irq-0 child-0"
    ∷ "0 c rpm_return_int: rpm_idle:a ret=0"
    ∷ "0 c rpm_suspend: a flags-8 cnt-0  dep-0  auto-1 p-0 irq-0 child-0"
    ∷ "0 c pm_callback: a suspend begin"
    ∷ "0 c pm_callback: a suspend end 0"
    ∷ "0 c pm_status: a suspended"
    ∷ "0 c rpm_return_int: rpm_suspend:a ret=0"
    ∷ "0 c pm_ret: dont_use_autosuspend a 0"
    ∷ [])

-- forbid, allow and the autosuspend settings answer 0 whatever the calls that they make answer.
abbrev pub refused_settings_plan : Plan
refused_settings_plan =
    let a = dev 0 in
    record empty_plan {
      devices = device "a" ∷ [];
      callers =
          caller "c" (
          call Forbid a
          ∷ call Allow a
          ∷ call_with SetAutosuspendDelay a (minus 1)
          ∷ call UseAutosuspend a
          ∷ call DontUseAutosuspend a
          ∷ [])
          ∷ [];
      law = refl;
    }

abbrev pub refused_settings_text : List ℕ
refused_settings_text =
    text (
    "0 c pm_call: forbid a"
    ∷ "0 c pm_get: a forbid"
    ∷ "0 c rpm_resume: a flags-0 cnt-1  dep-1  auto-0 p-0 irq-0 child-0"
    ∷ "0 c rpm_return_int: rpm_resume:a ret=-13"
    ∷ "0 c pm_ret: forbid a 0"
    ∷ "0 c pm_call: allow a"
    ∷ "0 c pm_put: a forbid"
    ∷ "0 c rpm_idle: a flags-9 cnt-0  dep-1  auto-1 p-0 irq-0 child-0"
    ∷ "0 c rpm_return_int: rpm_idle:a ret=-13"
    ∷ "0 c pm_ret: allow a 0"
    ∷ "0 c pm_call: set_autosuspend_delay a -1"
    ∷ "0 c rpm_idle: a flags-8 cnt-0  dep-1  auto-1 p-0 irq-0 child-0"
    ∷ "0 c rpm_return_int: rpm_idle:a ret=-13"
    ∷ "0 c pm_ret: set_autosuspend_delay a 0"
    ∷ "0 c pm_call: use_autosuspend a"
    ∷ "0 c pm_get: a delay"
    ∷ "0 c rpm_resume: a flags-0 cnt-1  dep-1  auto-1 p-0 irq-0 child-0"
    ∷ "0 c rpm_return_int: rpm_resume:a ret=-13"
    ∷ "0 c pm_ret: use_autosuspend a 0"
    ∷ "0 c pm_call: dont_use_autosuspend a"
    ∷ "0 c pm_put: a delay"
    ∷ "0 c rpm_idle: a flags-8 cnt-0  dep-1  auto-1 p-0 irq-0 child-0"
    ∷ "0 c rpm_return_int: rpm_idle:a ret=-13"
    ∷ "0 c pm_ret: dont_use_autosuspend a 0"
    ∷ [])
