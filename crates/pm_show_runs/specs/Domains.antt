-- Runs of power domains: the plans, and what one thread writes.
use Rattle.std.specs.Prelude.{ℕ, true, List, [], ◌∷◌, Some, refl}
use Rattle.pm_model.specs.declared.event.Helper.TheVariants.{Enable, GetSync, PutSyncSuspend, Resume, SetActive, SetSuspended, Suspend}
use Rattle.pm_model.specs.declared.plan.Plan.{Plan}
use Rattle.pm_show_runs.specs.Words.{empty_plan, dev, dom, device, domain, caller, call, minus, text}

-- Domains go on before a device resumes, and off once nothing in them is active; one that is always on stays.
abbrev pub domains_plan : Plan
domains_plan =
    let top = dom 0 in
    let mid = dom 1 in
    let low = dom 2 in
    let a = dev 0 in
    let b = dev 1 in
    record empty_plan {
      domains =
          record (domain "top") { always_on = true }
          ∷ record (domain "mid") { parent = Some top }
          ∷ record (domain "low") { parent = Some mid }
          ∷ [];
      devices =
          record (device "a") { domain = Some low }
          ∷ record (device "b") { domain = Some mid }
          ∷ [];
      callers =
          caller "c" (
          call Enable a
          ∷ call Enable b
          ∷ call GetSync a
          ∷ call GetSync b
          ∷ call PutSyncSuspend a
          ∷ call PutSyncSuspend b
          ∷ [])
          ∷ [];
      law = refl;
    }

abbrev pub domains_text : List ℕ
domains_text =
    text (
    "0 c pm_call: enable a"
    ∷ "0 c pm_ret: enable a 0"
    ∷ "0 c pm_call: enable b"
    ∷ "0 c pm_ret: enable b 0"
    ∷ "0 c pm_call: get_sync a"
    ∷ "0 c pm_get: a caller"
    ∷ "0 c rpm_resume: a flags-4 cnt-1  dep-0  auto-1 p-0 irq-0 child-0"
    ∷ "0 c pm_status: a resuming"
    ∷ "0 c pm_domain: a up 2"
    ∷ "0 c pm_callback: a resume begin"
    ∷ "0 c pm_callback: a resume end 0"
    ∷ "0 c pm_status: a active"
    ∷ "0 c rpm_idle: a flags-1 cnt-1  dep-0  auto-1 p-0 irq-0 child-0"
    ∷ "0 c rpm_return_int: rpm_idle:a ret=-11"
    ∷ "0 c rpm_return_int: rpm_resume:a ret=0"
    ∷ "0 c pm_ret: get_sync a 0"
    ∷ "0 c pm_call: get_sync b"
    ∷ "0 c pm_get: b caller"
    ∷ "0 c rpm_resume: b flags-4 cnt-1  dep-0  auto-1 p-0 irq-0 child-0"
    ∷ "0 c pm_status: b resuming"
    ∷ "0 c pm_domain: b up 0"
    ∷ "0 c pm_callback: b resume begin"
    ∷ "0 c pm_callback: b resume end 0"
    ∷ "0 c pm_status: b active"
    ∷ "0 c rpm_idle: b flags-1 cnt-1  dep-0  auto-1 p-0 irq-0 child-0"
    ∷ "0 c rpm_return_int: rpm_idle:b ret=-11"
    ∷ "0 c rpm_return_int: rpm_resume:b ret=0"
    ∷ "0 c pm_ret: get_sync b 0"
    ∷ "0 c pm_call: put_sync_suspend a"
    ∷ "0 c pm_put: a caller"
    ∷ "0 c rpm_suspend: a flags-4 cnt-0  dep-0  auto-1 p-0 irq-0 child-0"
    ∷ "0 c pm_callback: a suspend begin"
    ∷ "0 c pm_callback: a suspend end 0"
    ∷ "0 c pm_domain: a down 1"
    ∷ "0 c pm_status: a suspended"
    ∷ "0 c rpm_return_int: rpm_suspend:a ret=0"
    ∷ "0 c pm_ret: put_sync_suspend a 0"
    ∷ "0 c pm_call: put_sync_suspend b"
    ∷ "0 c pm_put: b caller"
    ∷ "0 c rpm_suspend: b flags-4 cnt-0  dep-0  auto-1 p-0 irq-0 child-0"
    ∷ "0 c pm_callback: b suspend begin"
    ∷ "0 c pm_callback: b suspend end 0"
    ∷ "0 c pm_domain: b down 1"
    ∷ "0 c pm_status: b suspended"
    ∷ "0 c rpm_return_int: rpm_suspend:b ret=0"
    ∷ "0 c pm_ret: put_sync_suspend b 0"
    ∷ [])

-- A device that was forced to active is so in a domain that is off, and leaves it off.
abbrev pub forced_in_domain_plan : Plan
forced_in_domain_plan =
    let d = dom 0 in
    let a = dev 0 in
    record empty_plan {
      domains = domain "d" ∷ [];
      devices = record (device "a") { domain = Some d } ∷ [];
      callers = caller "c" (call SetActive a ∷ call Enable a ∷ call Suspend a ∷ []) ∷ [];
      law = refl;
    }

abbrev pub forced_in_domain_text : List ℕ
forced_in_domain_text =
    text (
    "0 c pm_call: set_active a"
    ∷ "0 c pm_status: a forced_active"
    ∷ "0 c pm_ret: set_active a 0"
    ∷ "0 c pm_call: enable a"
    ∷ "0 c pm_ret: enable a 0"
    ∷ "0 c pm_call: suspend a"
    ∷ "0 c rpm_suspend: a flags-0 cnt-0  dep-0  auto-1 p-0 irq-0 child-0"
    ∷ "0 c pm_callback: a suspend begin"
    ∷ "0 c pm_callback: a suspend end 0"
    ∷ "0 c pm_domain: a down 0"
    ∷ "0 c pm_status: a suspended"
    ∷ "0 c rpm_return_int: rpm_suspend:a ret=0"
    ∷ "0 c pm_ret: suspend a 0"
    ∷ [])

-- Domains stay on beside a disabled device and above one that is on, also after a resume that fails.
abbrev pub kept_domains_plan : Plan
kept_domains_plan =
    let top = dom 0 in
    let bus = dom 1 in
    let mid = dom 2 in
    let low = dom 3 in
    let a = dev 0 in
    let b = dev 1 in
    let x = dev 2 in
    record empty_plan {
      domains =
          domain "top"
          ∷ record (domain "bus") { parent = Some top; always_on = true }
          ∷ record (domain "mid") { parent = Some bus }
          ∷ record (domain "low") { parent = Some mid }
          ∷ [];
      devices =
          record (device "a") { domain = Some low; resume = (minus 5) ∷ (minus 5) ∷ [] }
          ∷ record (device "b") { domain = Some mid }
          ∷ record (device "x") { domain = Some low }
          ∷ [];
      callers =
          caller "c" (
          call Enable a
          ∷ call Enable b
          ∷ call Resume a
          ∷ call Enable x
          ∷ call SetSuspended a
          ∷ call Resume a
          ∷ call SetSuspended a
          ∷ call GetSync a
          ∷ call GetSync b
          ∷ call PutSyncSuspend b
          ∷ call PutSyncSuspend a
          ∷ [])
          ∷ [];
      law = refl;
    }

abbrev pub kept_domains_text : List ℕ
kept_domains_text =
    text (
    "0 c pm_call: enable a"
    ∷ "0 c pm_ret: enable a 0"
    ∷ "0 c pm_call: enable b"
    ∷ "0 c pm_ret: enable b 0"
    ∷ "0 c pm_call: resume a"
    ∷ "0 c rpm_resume: a flags-0 cnt-0  dep-0  auto-1 p-0 irq-0 child-0"
    ∷ "0 c pm_status: a resuming"
    ∷ "0 c pm_domain: a up 2"
    ∷ "0 c pm_callback: a resume begin"
    ∷ "0 c pm_callback: a resume end -5"
    ∷ "0 c pm_domain: a down 0"
    ∷ "0 c pm_status: a suspended"
    ∷ "0 c rpm_return_int: rpm_resume:a ret=-5"
    ∷ "0 c pm_ret: resume a -5"
    ∷ "0 c pm_call: enable x"
    ∷ "0 c pm_ret: enable x 0"
    ∷ "0 c pm_call: set_suspended a"
    ∷ "0 c pm_status: a forced_suspended"
    ∷ "0 c pm_ret: set_suspended a 0"
    ∷ "0 c pm_call: resume a"
    ∷ "0 c rpm_resume: a flags-0 cnt-0  dep-0  auto-1 p-0 irq-0 child-0"
    ∷ "0 c pm_status: a resuming"
    ∷ "0 c pm_domain: a up 0"
    ∷ "0 c pm_callback: a resume begin"
    ∷ "0 c pm_callback: a resume end -5"
    ∷ "0 c pm_domain: a down 2"
    ∷ "0 c pm_status: a suspended"
    ∷ "0 c rpm_return_int: rpm_resume:a ret=-5"
    ∷ "0 c pm_ret: resume a -5"
    ∷ "0 c pm_call: set_suspended a"
    ∷ "0 c pm_status: a forced_suspended"
    ∷ "0 c pm_ret: set_suspended a 0"
    ∷ "0 c pm_call: get_sync a"
    ∷ "0 c pm_get: a caller"
    ∷ "0 c rpm_resume: a flags-4 cnt-1  dep-0  auto-1 p-0 irq-0 child-0"
    ∷ "0 c pm_status: a resuming"
    ∷ "0 c pm_domain: a up 2"
    ∷ "0 c pm_callback: a resume begin"
    ∷ "0 c pm_callback: a resume end 0"
    ∷ "0 c pm_status: a active"
    ∷ "0 c rpm_idle: a flags-1 cnt-1  dep-0  auto-1 p-0 irq-0 child-0"
    ∷ "0 c rpm_return_int: rpm_idle:a ret=-11"
    ∷ "0 c rpm_return_int: rpm_resume:a ret=0"
    ∷ "0 c pm_ret: get_sync a 0"
    ∷ "0 c pm_call: get_sync b"
    ∷ "0 c pm_get: b caller"
    ∷ "0 c rpm_resume: b flags-4 cnt-1  dep-0  auto-1 p-0 irq-0 child-0"
    ∷ "0 c pm_status: b resuming"
    ∷ "0 c pm_domain: b up 0"
    ∷ "0 c pm_callback: b resume begin"
    ∷ "0 c pm_callback: b resume end 0"
    ∷ "0 c pm_status: b active"
    ∷ "0 c rpm_idle: b flags-1 cnt-1  dep-0  auto-1 p-0 irq-0 child-0"
    ∷ "0 c rpm_return_int: rpm_idle:b ret=-11"
    ∷ "0 c rpm_return_int: rpm_resume:b ret=0"
    ∷ "0 c pm_ret: get_sync b 0"
    ∷ "0 c pm_call: put_sync_suspend b"
    ∷ "0 c pm_put: b caller"
    ∷ "0 c rpm_suspend: b flags-4 cnt-0  dep-0  auto-1 p-0 irq-0 child-0"
    ∷ "0 c pm_callback: b suspend begin"
    ∷ "0 c pm_callback: b suspend end 0"
    ∷ "0 c pm_domain: b down 0"
    ∷ "0 c pm_status: b suspended"
    ∷ "0 c rpm_return_int: rpm_suspend:b ret=0"
    ∷ "0 c pm_ret: put_sync_suspend b 0"
    ∷ "0 c pm_call: put_sync_suspend a"
    ∷ "0 c pm_put: a caller"
    ∷ "0 c rpm_suspend: a flags-4 cnt-0  dep-0  auto-1 p-0 irq-0 child-0"
    ∷ "0 c pm_callback: a suspend begin"
    ∷ "0 c pm_callback: a suspend end 0"
    ∷ "0 c pm_domain: a down 2"
    ∷ "0 c pm_status: a suspended"
    ∷ "0 c rpm_return_int: rpm_suspend:a ret=0"
    ∷ "0 c pm_ret: put_sync_suspend a 0"
    ∷ [])
