-- Runs of parents and their children: the plans, and what one thread writes.
use Rattle.std.specs.Prelude.{ℕ, pos, true, List, [], ◌∷◌, Some, refl}
use Rattle.pm_model.specs.declared.event.Helper.TheVariants.{Enable, GetNoresume, GetSync, Idle, IgnoreChildren, LinkAdd, PutSyncSuspend, RequestResume, Resume, Suspend}
use Rattle.pm_model.specs.declared.plan.Plan.{Plan}
use Rattle.pm_show_runs.specs.Words.{empty_plan, dev, device, link, caller, call, call_with, of_pair, delay, minus, text}

-- A resume takes a count on the parent, resumes it first, and gives the count back at its end.
abbrev pub parents_plan : Plan
parents_plan =
    let g = dev 0 in
    let p = dev 1 in
    let k = dev 2 in
    record empty_plan {
      devices =
          device "g"
          ∷ record (device "p") { parent = Some g }
          ∷ record (device "k") { parent = Some p }
          ∷ [];
      callers =
          caller "c" (call Enable g ∷ call Enable p ∷ call Enable k ∷ call GetSync k ∷ [])
          ∷ [];
      law = refl;
    }

abbrev pub parents_text : List ℕ
parents_text =
    text (
    "0 c pm_call: enable g"
    ∷ "0 c pm_ret: enable g 0"
    ∷ "0 c pm_call: enable p"
    ∷ "0 c pm_ret: enable p 0"
    ∷ "0 c pm_call: enable k"
    ∷ "0 c pm_ret: enable k 0"
    ∷ "0 c pm_call: get_sync k"
    ∷ "0 c pm_get: k caller"
    ∷ "0 c rpm_resume: k flags-4 cnt-1  dep-0  auto-1 p-0 irq-0 child-0"
    ∷ "0 c pm_get: p child k"
    ∷ "0 c rpm_resume: p flags-0 cnt-1  dep-0  auto-1 p-0 irq-0 child-0"
    ∷ "0 c pm_get: g child p"
    ∷ "0 c rpm_resume: g flags-0 cnt-1  dep-0  auto-1 p-0 irq-0 child-0"
    ∷ "0 c pm_status: g resuming"
    ∷ "0 c pm_callback: g resume begin"
    ∷ "0 c pm_callback: g resume end 0"
    ∷ "0 c pm_status: g active"
    ∷ "0 c rpm_idle: g flags-1 cnt-1  dep-0  auto-1 p-0 irq-0 child-0"
    ∷ "0 c rpm_return_int: rpm_idle:g ret=-11"
    ∷ "0 c rpm_return_int: rpm_resume:g ret=0"
    ∷ "0 c pm_status: p resuming"
    ∷ "0 c pm_callback: p resume begin"
    ∷ "0 c pm_callback: p resume end 0"
    ∷ "0 c pm_status: p active"
    ∷ "0 c rpm_idle: p flags-1 cnt-1  dep-0  auto-1 p-0 irq-0 child-0"
    ∷ "0 c rpm_return_int: rpm_idle:p ret=-11"
    ∷ "0 c rpm_return_int: rpm_resume:p ret=0"
    ∷ "0 c pm_put: g child p"
    ∷ "0 c rpm_idle: g flags-5 cnt-0  dep-0  auto-1 p-0 irq-0 child-1"
    ∷ "0 c rpm_return_int: rpm_idle:g ret=-16"
    ∷ "0 c pm_status: k resuming"
    ∷ "0 c pm_callback: k resume begin"
    ∷ "0 c pm_callback: k resume end 0"
    ∷ "0 c pm_status: k active"
    ∷ "0 c rpm_idle: k flags-1 cnt-1  dep-0  auto-1 p-0 irq-0 child-0"
    ∷ "0 c rpm_return_int: rpm_idle:k ret=-11"
    ∷ "0 c rpm_return_int: rpm_resume:k ret=0"
    ∷ "0 c pm_put: p child k"
    ∷ "0 c rpm_idle: p flags-5 cnt-0  dep-0  auto-1 p-0 irq-0 child-1"
    ∷ "0 c rpm_return_int: rpm_idle:p ret=-16"
    ∷ "0 c pm_ret: get_sync k 0"
    ∷ [])

-- The same plan with a limit of ten lines: the run ends there, unfinished.
abbrev pub limit_plan : Plan
limit_plan =
    let g = dev 0 in
    let p = dev 1 in
    let k = dev 2 in
    record empty_plan {
      lines = 10;
      devices =
          device "g"
          ∷ record (device "p") { parent = Some g }
          ∷ record (device "k") { parent = Some p }
          ∷ [];
      callers =
          caller "c" (call Enable g ∷ call Enable p ∷ call Enable k ∷ call GetSync k ∷ [])
          ∷ [];
      law = refl;
    }

abbrev pub limit_text : List ℕ
limit_text =
    text (
    "0 c pm_call: enable g"
    ∷ "0 c pm_ret: enable g 0"
    ∷ "0 c pm_call: enable p"
    ∷ "0 c pm_ret: enable p 0"
    ∷ "0 c pm_call: enable k"
    ∷ "0 c pm_ret: enable k 0"
    ∷ "0 c pm_call: get_sync k"
    ∷ "0 c pm_get: k caller"
    ∷ "0 c rpm_resume: k flags-4 cnt-1  dep-0  auto-1 p-0 irq-0 child-0"
    ∷ "0 c pm_get: p child k"
    ∷ [])

-- A parent that ignores its children isn't resumed for a child, and suspends beside an active one.
abbrev pub ignored_child_plan : Plan
ignored_child_plan =
    let p = dev 0 in
    let k = dev 1 in
    record empty_plan {
      devices =
          record (device "p") { ignore_children = true }
          ∷ record (device "k") { parent = Some p }
          ∷ [];
      callers =
          caller "c" (
          call Enable p
          ∷ call Enable k
          ∷ call GetSync k
          ∷ call GetSync p
          ∷ call PutSyncSuspend p
          ∷ [])
          ∷ [];
      law = refl;
    }

abbrev pub ignored_child_text : List ℕ
ignored_child_text =
    text (
    "0 c pm_call: enable p"
    ∷ "0 c pm_ret: enable p 0"
    ∷ "0 c pm_call: enable k"
    ∷ "0 c pm_ret: enable k 0"
    ∷ "0 c pm_call: get_sync k"
    ∷ "0 c pm_get: k caller"
    ∷ "0 c rpm_resume: k flags-4 cnt-1  dep-0  auto-1 p-0 irq-0 child-0"
    ∷ "0 c pm_get: p child k"
    ∷ "0 c pm_status: k resuming"
    ∷ "0 c pm_callback: k resume begin"
    ∷ "0 c pm_callback: k resume end 0"
    ∷ "0 c pm_status: k active"
    ∷ "0 c rpm_idle: k flags-1 cnt-1  dep-0  auto-1 p-0 irq-0 child-0"
    ∷ "0 c rpm_return_int: rpm_idle:k ret=-11"
    ∷ "0 c rpm_return_int: rpm_resume:k ret=0"
    ∷ "0 c pm_put: p child k"
    ∷ "0 c rpm_idle: p flags-5 cnt-0  dep-0  auto-1 p-0 irq-0 child-1"
    ∷ "0 c rpm_return_int: rpm_idle:p ret=-11"
    ∷ "0 c pm_ret: get_sync k 0"
    ∷ "0 c pm_call: get_sync p"
    ∷ "0 c pm_get: p caller"
    ∷ "0 c rpm_resume: p flags-4 cnt-1  dep-0  auto-1 p-0 irq-0 child-1"
    ∷ "0 c pm_status: p resuming"
    ∷ "0 c pm_callback: p resume begin"
    ∷ "0 c pm_callback: p resume end 0"
    ∷ "0 c pm_status: p active"
    ∷ "0 c rpm_idle: p flags-1 cnt-1  dep-0  auto-1 p-0 irq-0 child-1"
    ∷ "0 c rpm_return_int: rpm_idle:p ret=-11"
    ∷ "0 c rpm_return_int: rpm_resume:p ret=0"
    ∷ "0 c pm_ret: get_sync p 0"
    ∷ "0 c pm_call: put_sync_suspend p"
    ∷ "0 c pm_put: p caller"
    ∷ "0 c rpm_suspend: p flags-4 cnt-0  dep-0  auto-1 p-0 irq-0 child-1"
    ∷ "0 c pm_callback: p suspend begin"
    ∷ "0 c pm_callback: p suspend end 0"
    ∷ "0 c pm_status: p suspended"
    ∷ "0 c rpm_return_int: rpm_suspend:p ret=0"
    ∷ "0 c pm_ret: put_sync_suspend p 0"
    ∷ [])

-- A parent that fails to resume leaves its child suspended, without an error of its own.
abbrev pub failed_parent_plan : Plan
failed_parent_plan =
    let p = dev 0 in
    let k = dev 1 in
    record empty_plan {
      devices =
          record (device "p") { resume = minus 5 ∷ [] }
          ∷ record (device "k") { parent = Some p }
          ∷ [];
      callers = caller "c" (call Enable p ∷ call Enable k ∷ call Resume k ∷ []) ∷ [];
      law = refl;
    }

abbrev pub failed_parent_text : List ℕ
failed_parent_text =
    text (
    "0 c pm_call: enable p"
    ∷ "0 c pm_ret: enable p 0"
    ∷ "0 c pm_call: enable k"
    ∷ "0 c pm_ret: enable k 0"
    ∷ "0 c pm_call: resume k"
    ∷ "0 c rpm_resume: k flags-0 cnt-0  dep-0  auto-1 p-0 irq-0 child-0"
    ∷ "0 c pm_get: p child k"
    ∷ "0 c rpm_resume: p flags-0 cnt-1  dep-0  auto-1 p-0 irq-0 child-0"
    ∷ "0 c pm_status: p resuming"
    ∷ "0 c pm_callback: p resume begin"
    ∷ "0 c pm_callback: p resume end -5"
    ∷ "0 c pm_status: p suspended"
    ∷ "0 c rpm_return_int: rpm_resume:p ret=-5"
    ∷ "0 c rpm_return_int: rpm_resume:k ret=-16"
    ∷ "0 c pm_put: p child k"
    ∷ "0 c rpm_idle: p flags-5 cnt-0  dep-0  auto-1 p-0 irq-0 child-0"
    ∷ "0 c rpm_return_int: rpm_idle:p ret=-22"
    ∷ "0 c pm_ret: resume k -16"
    ∷ [])

-- A parent suspends beside an active child once it ignores its children.
abbrev pub child_let_go_plan : Plan
child_let_go_plan =
    let p = dev 0 in
    let k = dev 1 in
    record empty_plan {
      devices = device "p" ∷ record (device "k") { parent = Some p } ∷ [];
      callers =
          caller "c" (
          call Enable p
          ∷ call Enable k
          ∷ call GetSync k
          ∷ call_with IgnoreChildren p (pos 1)
          ∷ call Suspend p
          ∷ [])
          ∷ [];
      law = refl;
    }

abbrev pub child_let_go_text : List ℕ
child_let_go_text =
    text (
    "0 c pm_call: enable p"
    ∷ "0 c pm_ret: enable p 0"
    ∷ "0 c pm_call: enable k"
    ∷ "0 c pm_ret: enable k 0"
    ∷ "0 c pm_call: get_sync k"
    ∷ "0 c pm_get: k caller"
    ∷ "0 c rpm_resume: k flags-4 cnt-1  dep-0  auto-1 p-0 irq-0 child-0"
    ∷ "0 c pm_get: p child k"
    ∷ "0 c rpm_resume: p flags-0 cnt-1  dep-0  auto-1 p-0 irq-0 child-0"
    ∷ "0 c pm_status: p resuming"
    ∷ "0 c pm_callback: p resume begin"
    ∷ "0 c pm_callback: p resume end 0"
    ∷ "0 c pm_status: p active"
    ∷ "0 c rpm_idle: p flags-1 cnt-1  dep-0  auto-1 p-0 irq-0 child-0"
    ∷ "0 c rpm_return_int: rpm_idle:p ret=-11"
    ∷ "0 c rpm_return_int: rpm_resume:p ret=0"
    ∷ "0 c pm_status: k resuming"
    ∷ "0 c pm_callback: k resume begin"
    ∷ "0 c pm_callback: k resume end 0"
    ∷ "0 c pm_status: k active"
    ∷ "0 c rpm_idle: k flags-1 cnt-1  dep-0  auto-1 p-0 irq-0 child-0"
    ∷ "0 c rpm_return_int: rpm_idle:k ret=-11"
    ∷ "0 c rpm_return_int: rpm_resume:k ret=0"
    ∷ "0 c pm_put: p child k"
    ∷ "0 c rpm_idle: p flags-5 cnt-0  dep-0  auto-1 p-0 irq-0 child-1"
    ∷ "0 c rpm_return_int: rpm_idle:p ret=-16"
    ∷ "0 c pm_ret: get_sync k 0"
    ∷ "0 c pm_call: ignore_children p on"
    ∷ "0 c pm_ret: ignore_children p 0"
    ∷ "0 c pm_call: suspend p"
    ∷ "0 c rpm_suspend: p flags-0 cnt-0  dep-0  auto-1 p-0 irq-0 child-1"
    ∷ "0 c pm_callback: p suspend begin"
    ∷ "0 c pm_callback: p suspend end 0"
    ∷ "0 c pm_status: p suspended"
    ∷ "0 c rpm_return_int: rpm_suspend:p ret=0"
    ∷ "0 c pm_ret: suspend p 0"
    ∷ [])

-- A parent that no longer ignores its children is suspended after its last one.
abbrev pub parent_follows_plan : Plan
parent_follows_plan =
    let p = dev 0 in
    let k = dev 1 in
    record empty_plan {
      devices =
          record (device "p") { ignore_children = true }
          ∷ record (device "k") { parent = Some p }
          ∷ [];
      callers =
          caller "c" (
          call Enable p
          ∷ call Enable k
          ∷ call_with IgnoreChildren p (pos 0)
          ∷ call GetSync k
          ∷ call PutSyncSuspend k
          ∷ [])
          ∷ [];
      law = refl;
    }

abbrev pub parent_follows_text : List ℕ
parent_follows_text =
    text (
    "0 c pm_call: enable p"
    ∷ "0 c pm_ret: enable p 0"
    ∷ "0 c pm_call: enable k"
    ∷ "0 c pm_ret: enable k 0"
    ∷ "0 c pm_call: ignore_children p off"
    ∷ "0 c pm_ret: ignore_children p 0"
    ∷ "0 c pm_call: get_sync k"
    ∷ "0 c pm_get: k caller"
    ∷ "0 c rpm_resume: k flags-4 cnt-1  dep-0  auto-1 p-0 irq-0 child-0"
    ∷ "0 c pm_get: p child k"
    ∷ "0 c rpm_resume: p flags-0 cnt-1  dep-0  auto-1 p-0 irq-0 child-0"
    ∷ "0 c pm_status: p resuming"
    ∷ "0 c pm_callback: p resume begin"
    ∷ "0 c pm_callback: p resume end 0"
    ∷ "0 c pm_status: p active"
    ∷ "0 c rpm_idle: p flags-1 cnt-1  dep-0  auto-1 p-0 irq-0 child-0"
    ∷ "0 c rpm_return_int: rpm_idle:p ret=-11"
    ∷ "0 c rpm_return_int: rpm_resume:p ret=0"
    ∷ "0 c pm_status: k resuming"
    ∷ "0 c pm_callback: k resume begin"
    ∷ "0 c pm_callback: k resume end 0"
    ∷ "0 c pm_status: k active"
    ∷ "0 c rpm_idle: k flags-1 cnt-1  dep-0  auto-1 p-0 irq-0 child-0"
    ∷ "0 c rpm_return_int: rpm_idle:k ret=-11"
    ∷ "0 c rpm_return_int: rpm_resume:k ret=0"
    ∷ "0 c pm_put: p child k"
    ∷ "0 c rpm_idle: p flags-5 cnt-0  dep-0  auto-1 p-0 irq-0 child-1"
    ∷ "0 c rpm_return_int: rpm_idle:p ret=-16"
    ∷ "0 c pm_ret: get_sync k 0"
    ∷ "0 c pm_call: put_sync_suspend k"
    ∷ "0 c pm_put: k caller"
    ∷ "0 c rpm_suspend: k flags-4 cnt-0  dep-0  auto-1 p-0 irq-0 child-0"
    ∷ "0 c pm_callback: k suspend begin"
    ∷ "0 c pm_callback: k suspend end 0"
    ∷ "0 c pm_status: k suspended"
    ∷ "0 c rpm_idle: p flags-1 cnt-0  dep-0  auto-1 p-0 irq-0 child-0"
    ∷ "0 c rpm_return_int: rpm_idle:p ret=0"
    ∷ "0 c rpm_suspend: p flags-9 cnt-0  dep-0  auto-1 p-0 irq-0 child-0"
    ∷ "0 c pm_work: p queue autosuspend"
    ∷ "0 work.p pm_work: p run autosuspend"
    ∷ "0 c rpm_return_int: rpm_suspend:p ret=0"
    ∷ "0 work.p rpm_suspend: p flags-a cnt-0  dep-0  auto-1 p-0 irq-0 child-0"
    ∷ "0 c rpm_return_int: rpm_suspend:k ret=0"
    ∷ "0 work.p pm_callback: p suspend begin"
    ∷ "0 c pm_ret: put_sync_suspend k 0"
    ∷ "0 work.p pm_callback: p suspend end 0"
    ∷ "0 work.p pm_status: p suspended"
    ∷ "0 work.p rpm_return_int: rpm_suspend:p ret=0"
    ∷ [])

-- A disabled parent is not resumed for a child, and its count comes before its children.
abbrev pub disabled_parent_plan : Plan
disabled_parent_plan =
    let p = dev 0 in
    let k = dev 1 in
    record empty_plan {
      devices = device "p" ∷ record (device "k") { parent = Some p } ∷ [];
      callers =
          caller "c" (
          call Enable k
          ∷ call GetSync k
          ∷ call GetNoresume p
          ∷ call Enable p
          ∷ call Idle p
          ∷ [])
          ∷ [];
      law = refl;
    }

abbrev pub disabled_parent_text : List ℕ
disabled_parent_text =
    text (
    "0 c pm_call: enable k"
    ∷ "0 c pm_ret: enable k 0"
    ∷ "0 c pm_call: get_sync k"
    ∷ "0 c pm_get: k caller"
    ∷ "0 c rpm_resume: k flags-4 cnt-1  dep-0  auto-1 p-0 irq-0 child-0"
    ∷ "0 c pm_get: p child k"
    ∷ "0 c pm_status: k resuming"
    ∷ "0 c pm_callback: k resume begin"
    ∷ "0 c pm_callback: k resume end 0"
    ∷ "0 c pm_status: k active"
    ∷ "0 c rpm_idle: k flags-1 cnt-1  dep-0  auto-1 p-0 irq-0 child-0"
    ∷ "0 c rpm_return_int: rpm_idle:k ret=-11"
    ∷ "0 c rpm_return_int: rpm_resume:k ret=0"
    ∷ "0 c pm_put: p child k"
    ∷ "0 c rpm_idle: p flags-5 cnt-0  dep-1  auto-1 p-0 irq-0 child-1"
    ∷ "0 c rpm_return_int: rpm_idle:p ret=-13"
    ∷ "0 c pm_ret: get_sync k 0"
    ∷ "0 c pm_call: get_noresume p"
    ∷ "0 c pm_get: p caller"
    ∷ "0 c pm_ret: get_noresume p 0"
    ∷ "0 c pm_call: enable p"
    ∷ "0 c pm_ret: enable p 0"
    ∷ "0 c pm_call: idle p"
    ∷ "0 c rpm_idle: p flags-0 cnt-1  dep-0  auto-1 p-0 irq-0 child-1"
    ∷ "0 c rpm_return_int: rpm_idle:p ret=-11"
    ∷ "0 c pm_ret: idle p -11"
    ∷ [])

-- A resume that waited for another one neither takes a second count on the parent nor calls it again.
abbrev pub kept_marks_plan : Plan
kept_marks_plan =
    let p = dev 0 in
    let s = dev 1 in
    let k = dev 2 in
    record empty_plan {
      devices =
          record (device "p") { resume_ms = 10 }
          ∷ record (device "s") { resume = minus 5 ∷ []; resume_ms = 10 }
          ∷ record (device "k") { parent = Some p }
          ∷ [];
      links = link k s ∷ record (link k p) { later = true } ∷ [];
      callers =
          caller "c" (call Enable p ∷ call Enable s ∷ call Enable k ∷ call Resume k ∷ [])
          ∷ caller "e" (delay 5 ∷ call Resume k ∷ [])
          ∷ caller "f" (delay 15 ∷ of_pair LinkAdd k p ∷ [])
          ∷ [];
      law = refl;
    }

abbrev pub kept_marks_text : List ℕ
kept_marks_text =
    text (
    "0 c pm_call: enable p"
    ∷ "0 e pm_call: delay 5"
    ∷ "0 f pm_call: delay 15"
    ∷ "0 c pm_ret: enable p 0"
    ∷ "0 c pm_call: enable s"
    ∷ "0 c pm_ret: enable s 0"
    ∷ "0 c pm_call: enable k"
    ∷ "0 c pm_ret: enable k 0"
    ∷ "0 c pm_call: resume k"
    ∷ "0 c rpm_resume: k flags-0 cnt-0  dep-0  auto-1 p-0 irq-0 child-0"
    ∷ "0 c pm_get: p child k"
    ∷ "0 c rpm_resume: p flags-0 cnt-1  dep-0  auto-1 p-0 irq-0 child-0"
    ∷ "0 c pm_status: p resuming"
    ∷ "0 c pm_callback: p resume begin"
    ∷ "5 e pm_ret: delay 0"
    ∷ "5 e pm_call: resume k"
    ∷ "5 e rpm_resume: k flags-0 cnt-0  dep-0  auto-1 p-0 irq-0 child-0"
    ∷ "5 e pm_get: p child k"
    ∷ "5 e rpm_resume: p flags-0 cnt-2  dep-0  auto-1 p-0 irq-0 child-0"
    ∷ "5 e pm_wait: p"
    ∷ "10 c pm_callback: p resume end 0"
    ∷ "10 c pm_status: p active"
    ∷ "10 e rpm_return_int: rpm_resume:p ret=1"
    ∷ "10 c rpm_idle: p flags-1 cnt-2  dep-0  auto-1 p-0 irq-0 child-0"
    ∷ "10 e pm_status: k resuming"
    ∷ "10 c rpm_return_int: rpm_idle:p ret=-11"
    ∷ "10 e pm_get: s link k"
    ∷ "10 c rpm_return_int: rpm_resume:p ret=0"
    ∷ "10 e rpm_resume: s flags-4 cnt-1  dep-0  auto-1 p-0 irq-0 child-0"
    ∷ "10 c pm_wait: k"
    ∷ "10 e pm_status: s resuming"
    ∷ "10 e pm_callback: s resume begin"
    ∷ "15 f pm_ret: delay 0"
    ∷ "15 f pm_call: link_add k p"
    ∷ "15 f pm_ret: link_add k -11"
    ∷ "20 e pm_callback: s resume end -5"
    ∷ "20 e pm_status: s suspended"
    ∷ "20 e rpm_return_int: rpm_resume:s ret=-5"
    ∷ "20 e pm_put: s link k"
    ∷ "20 e rpm_idle: s flags-5 cnt-0  dep-0  auto-1 p-0 irq-0 child-0"
    ∷ "20 e rpm_return_int: rpm_idle:s ret=-22"
    ∷ "20 e pm_status: k suspended"
    ∷ "20 c pm_status: k resuming"
    ∷ "20 e rpm_return_int: rpm_resume:k ret=-5"
    ∷ "20 c pm_get: s link k"
    ∷ "20 e pm_put: p child k"
    ∷ "20 c rpm_resume: s flags-4 cnt-1  dep-0  auto-1 p-0 irq-0 child-0"
    ∷ "20 e rpm_usage: p flags-5 cnt-1  dep-0  auto-1 p-0 irq-0 child-0"
    ∷ "20 c rpm_return_int: rpm_resume:s ret=-22"
    ∷ "20 e pm_ret: resume k -5"
    ∷ "20 c pm_put: s link k"
    ∷ "20 c rpm_idle: s flags-5 cnt-0  dep-0  auto-1 p-0 irq-0 child-0"
    ∷ "20 c rpm_return_int: rpm_idle:s ret=-22"
    ∷ "20 c pm_status: k suspended"
    ∷ "20 c rpm_return_int: rpm_resume:k ret=-22"
    ∷ "20 c pm_put: p child k"
    ∷ "20 c rpm_idle: p flags-5 cnt-0  dep-0  auto-1 p-0 irq-0 child-0"
    ∷ "20 c rpm_return_int: rpm_idle:p ret=0"
    ∷ "20 c rpm_suspend: p flags-d cnt-0  dep-0  auto-1 p-0 irq-0 child-0"
    ∷ "20 c pm_work: p queue autosuspend"
    ∷ "20 work.p pm_work: p run autosuspend"
    ∷ "20 c rpm_return_int: rpm_suspend:p ret=0"
    ∷ "20 work.p rpm_suspend: p flags-a cnt-0  dep-0  auto-1 p-0 irq-0 child-0"
    ∷ "20 c pm_ret: resume k -22"
    ∷ "20 work.p pm_callback: p suspend begin"
    ∷ "20 work.p pm_callback: p suspend end 0"
    ∷ "20 work.p pm_status: p suspended"
    ∷ "20 work.p rpm_return_int: rpm_suspend:p ret=0"
    ∷ [])

-- A resume that waited for another one gives back the count on the parent that it took before.
abbrev pub child_waits_plan : Plan
child_waits_plan =
    let p = dev 0 in
    let k = dev 1 in
    record empty_plan {
      devices =
          record (device "p") { resume_ms = 10 }
          ∷ record (device "k") { parent = Some p; resume_ms = 10 }
          ∷ [];
      callers =
          caller "c" (call Enable p ∷ call Enable k ∷ call RequestResume k ∷ [])
          ∷ caller "e" (delay 1 ∷ call GetSync k ∷ [])
          ∷ caller "f" (delay 2 ∷ call Resume k ∷ [])
          ∷ [];
      law = refl;
    }

abbrev pub child_waits_text : List ℕ
child_waits_text =
    text (
    "0 c pm_call: enable p"
    ∷ "0 e pm_call: delay 1"
    ∷ "0 f pm_call: delay 2"
    ∷ "0 c pm_ret: enable p 0"
    ∷ "0 c pm_call: enable k"
    ∷ "0 c pm_ret: enable k 0"
    ∷ "0 c pm_call: request_resume k"
    ∷ "0 c rpm_resume: k flags-1 cnt-0  dep-0  auto-1 p-0 irq-0 child-0"
    ∷ "0 c pm_work: k queue resume"
    ∷ "0 work.k pm_work: k run resume"
    ∷ "0 c rpm_return_int: rpm_resume:k ret=0"
    ∷ "0 work.k rpm_resume: k flags-2 cnt-0  dep-0  auto-1 p-0 irq-0 child-0"
    ∷ "0 c pm_ret: request_resume k 0"
    ∷ "0 work.k pm_get: p child k"
    ∷ "0 work.k rpm_resume: p flags-0 cnt-1  dep-0  auto-1 p-0 irq-0 child-0"
    ∷ "0 work.k pm_status: p resuming"
    ∷ "0 work.k pm_callback: p resume begin"
    ∷ "1 e pm_ret: delay 0"
    ∷ "1 e pm_call: get_sync k"
    ∷ "1 e pm_get: k caller"
    ∷ "1 e rpm_resume: k flags-4 cnt-1  dep-0  auto-1 p-0 irq-0 child-0"
    ∷ "1 e pm_get: p child k"
    ∷ "1 e rpm_resume: p flags-0 cnt-2  dep-0  auto-1 p-0 irq-0 child-0"
    ∷ "1 e pm_wait: p"
    ∷ "2 f pm_ret: delay 0"
    ∷ "2 f pm_call: resume k"
    ∷ "2 f rpm_resume: k flags-0 cnt-1  dep-0  auto-1 p-0 irq-0 child-0"
    ∷ "2 f pm_get: p child k"
    ∷ "2 f rpm_resume: p flags-0 cnt-3  dep-0  auto-1 p-0 irq-0 child-0"
    ∷ "2 f pm_wait: p"
    ∷ "10 work.k pm_callback: p resume end 0"
    ∷ "10 work.k pm_status: p active"
    ∷ "10 e rpm_return_int: rpm_resume:p ret=1"
    ∷ "10 f rpm_return_int: rpm_resume:p ret=1"
    ∷ "10 work.k rpm_idle: p flags-1 cnt-3  dep-0  auto-1 p-0 irq-0 child-0"
    ∷ "10 e pm_status: k resuming"
    ∷ "10 f pm_wait: k"
    ∷ "10 work.k rpm_return_int: rpm_idle:p ret=-11"
    ∷ "10 e pm_callback: k resume begin"
    ∷ "10 work.k rpm_return_int: rpm_resume:p ret=0"
    ∷ "10 work.k rpm_return_int: rpm_resume:k ret=-115"
    ∷ "10 work.k pm_put: p child k"
    ∷ "10 work.k rpm_usage: p flags-5 cnt-2  dep-0  auto-1 p-0 irq-0 child-0"
    ∷ "20 e pm_callback: k resume end 0"
    ∷ "20 e pm_status: k active"
    ∷ "20 f rpm_return_int: rpm_resume:k ret=1"
    ∷ "20 e rpm_idle: k flags-1 cnt-1  dep-0  auto-1 p-0 irq-0 child-0"
    ∷ "20 f pm_put: p child k"
    ∷ "20 e rpm_return_int: rpm_idle:k ret=-11"
    ∷ "20 f rpm_usage: p flags-5 cnt-1  dep-0  auto-1 p-0 irq-0 child-1"
    ∷ "20 e rpm_return_int: rpm_resume:k ret=0"
    ∷ "20 f pm_ret: resume k 1"
    ∷ "20 e pm_put: p child k"
    ∷ "20 e rpm_idle: p flags-5 cnt-0  dep-0  auto-1 p-0 irq-0 child-1"
    ∷ "20 e rpm_return_int: rpm_idle:p ret=-16"
    ∷ "20 e pm_ret: get_sync k 0"
    ∷ [])

-- A resume takes a pending one away as soon as it has a count on the parent, and again where the parent fails.
abbrev pub taken_request_plan : Plan
taken_request_plan =
    let p = dev 0 in
    let k = dev 1 in
    record empty_plan {
      devices =
          record (device "p") { resume = minus 5 ∷ []; resume_ms = 10 }
          ∷ record (device "k") { parent = Some p }
          ∷ [];
      callers =
          caller "e" (call Enable p ∷ call RequestResume k ∷ delay 10 ∷ call RequestResume k ∷ [])
          ∷ caller "c" (call Enable k ∷ call Resume k ∷ [])
          ∷ [];
      law = refl;
    }

abbrev pub taken_request_text : List ℕ
taken_request_text =
    text (
    "0 e pm_call: enable p"
    ∷ "0 c pm_call: enable k"
    ∷ "0 e pm_ret: enable p 0"
    ∷ "0 c pm_ret: enable k 0"
    ∷ "0 e pm_call: request_resume k"
    ∷ "0 c pm_call: resume k"
    ∷ "0 e rpm_resume: k flags-1 cnt-0  dep-0  auto-1 p-0 irq-0 child-0"
    ∷ "0 c rpm_resume: k flags-0 cnt-0  dep-0  auto-1 p-0 irq-0 child-0"
    ∷ "0 e pm_work: k queue resume"
    ∷ "0 c pm_get: p child k"
    ∷ "0 work.k pm_work: k run none"
    ∷ "0 e rpm_return_int: rpm_resume:k ret=0"
    ∷ "0 c rpm_resume: p flags-0 cnt-1  dep-0  auto-1 p-0 irq-0 child-0"
    ∷ "0 e pm_ret: request_resume k 0"
    ∷ "0 c pm_status: p resuming"
    ∷ "0 e pm_call: delay 10"
    ∷ "0 c pm_callback: p resume begin"
    ∷ "10 e pm_ret: delay 0"
    ∷ "10 c pm_callback: p resume end -5"
    ∷ "10 e pm_call: request_resume k"
    ∷ "10 c pm_status: p suspended"
    ∷ "10 e rpm_resume: k flags-1 cnt-0  dep-0  auto-1 p-0 irq-0 child-0"
    ∷ "10 c rpm_return_int: rpm_resume:p ret=-5"
    ∷ "10 e pm_work: k queue resume"
    ∷ "10 c rpm_return_int: rpm_resume:k ret=-16"
    ∷ "10 work.k pm_work: k run none"
    ∷ "10 e rpm_return_int: rpm_resume:k ret=0"
    ∷ "10 c pm_put: p child k"
    ∷ "10 e pm_ret: request_resume k 0"
    ∷ "10 c rpm_idle: p flags-5 cnt-0  dep-0  auto-1 p-0 irq-0 child-0"
    ∷ "10 c rpm_return_int: rpm_idle:p ret=-22"
    ∷ "10 c pm_ret: resume k -16"
    ∷ [])
