-- Runs of links from consumers to suppliers: the plans, and what one thread writes.
use Rattle.std.specs.Prelude.{ℕ, pos, true, List, [], ◌∷◌, Some, refl}
use Rattle.pm_model.specs.declared.event.Helper.TheVariants.{Disable, Enable, GetNoresume, GetSync, IgnoreChildren, LinkAdd, LinkDel, PutSync, PutSyncSuspend, Resume, SetActive, SetSuspended, Suspend}
use Rattle.pm_model.specs.declared.plan.Plan.{Plan}
use Rattle.pm_show_runs.specs.Words.{empty_plan, dev, device, link, caller, call, call_with, of_pair, delay, minus, text}

-- A supplier that fails to resume has the consumer give back its counts on all suppliers.
abbrev pub failed_supplier_plan : Plan
failed_supplier_plan =
    let s = dev 0 in
    let t = dev 1 in
    let k = dev 2 in
    record empty_plan {
      devices = device "s" ∷ record (device "t") { resume = minus 110 ∷ [] } ∷ device "k" ∷ [];
      links = link k s ∷ link k t ∷ [];
      callers =
          caller "c" (call Enable s ∷ call Enable t ∷ call Enable k ∷ call GetSync k ∷ [])
          ∷ [];
      law = refl;
    }

abbrev pub failed_supplier_text : List ℕ
failed_supplier_text =
    text (
    "0 c pm_call: enable s"
    ∷ "0 c pm_ret: enable s 0"
    ∷ "0 c pm_call: enable t"
    ∷ "0 c pm_ret: enable t 0"
    ∷ "0 c pm_call: enable k"
    ∷ "0 c pm_ret: enable k 0"
    ∷ "0 c pm_call: get_sync k"
    ∷ "0 c pm_get: k caller"
    ∷ "0 c rpm_resume: k flags-4 cnt-1  dep-0  auto-1 p-0 irq-0 child-0"
    ∷ "0 c pm_status: k resuming"
    ∷ "0 c pm_get: s link k"
    ∷ "0 c rpm_resume: s flags-4 cnt-1  dep-0  auto-1 p-0 irq-0 child-0"
    ∷ "0 c pm_status: s resuming"
    ∷ "0 c pm_callback: s resume begin"
    ∷ "0 c pm_callback: s resume end 0"
    ∷ "0 c pm_status: s active"
    ∷ "0 c rpm_idle: s flags-1 cnt-1  dep-0  auto-1 p-0 irq-0 child-0"
    ∷ "0 c rpm_return_int: rpm_idle:s ret=-11"
    ∷ "0 c rpm_return_int: rpm_resume:s ret=0"
    ∷ "0 c pm_get: t link k"
    ∷ "0 c rpm_resume: t flags-4 cnt-1  dep-0  auto-1 p-0 irq-0 child-0"
    ∷ "0 c pm_status: t resuming"
    ∷ "0 c pm_callback: t resume begin"
    ∷ "0 c pm_callback: t resume end -110"
    ∷ "0 c pm_status: t suspended"
    ∷ "0 c rpm_return_int: rpm_resume:t ret=-110"
    ∷ "0 c pm_put: s link k"
    ∷ "0 c rpm_idle: s flags-5 cnt-0  dep-0  auto-1 p-0 irq-0 child-0"
    ∷ "0 c rpm_return_int: rpm_idle:s ret=0"
    ∷ "0 c rpm_suspend: s flags-d cnt-0  dep-0  auto-1 p-0 irq-0 child-0"
    ∷ "0 c pm_work: s queue autosuspend"
    ∷ "0 work.s pm_work: s run autosuspend"
    ∷ "0 c rpm_return_int: rpm_suspend:s ret=0"
    ∷ "0 work.s rpm_suspend: s flags-a cnt-0  dep-0  auto-1 p-0 irq-0 child-0"
    ∷ "0 c pm_put: t link k"
    ∷ "0 work.s pm_callback: s suspend begin"
    ∷ "0 c rpm_idle: t flags-5 cnt-0  dep-0  auto-1 p-0 irq-0 child-0"
    ∷ "0 work.s pm_callback: s suspend end 0"
    ∷ "0 c rpm_return_int: rpm_idle:t ret=-22"
    ∷ "0 work.s pm_status: s suspended"
    ∷ "0 c pm_status: k suspended"
    ∷ "0 work.s rpm_return_int: rpm_suspend:s ret=0"
    ∷ "0 c rpm_return_int: rpm_resume:k ret=-110"
    ∷ "0 c pm_ret: get_sync k -110"
    ∷ [])

-- A disabled supplier doesn't keep its consumer from resuming.
abbrev pub disabled_supplier_plan : Plan
disabled_supplier_plan =
    let s = dev 0 in
    let k = dev 1 in
    record empty_plan {
      devices = device "s" ∷ device "k" ∷ [];
      links = link k s ∷ [];
      callers = caller "c" (call Enable k ∷ call GetSync k ∷ []) ∷ [];
      law = refl;
    }

abbrev pub disabled_supplier_text : List ℕ
disabled_supplier_text =
    text (
    "0 c pm_call: enable k"
    ∷ "0 c pm_ret: enable k 0"
    ∷ "0 c pm_call: get_sync k"
    ∷ "0 c pm_get: k caller"
    ∷ "0 c rpm_resume: k flags-4 cnt-1  dep-0  auto-1 p-0 irq-0 child-0"
    ∷ "0 c pm_status: k resuming"
    ∷ "0 c pm_get: s link k"
    ∷ "0 c rpm_resume: s flags-4 cnt-1  dep-1  auto-1 p-0 irq-0 child-0"
    ∷ "0 c rpm_return_int: rpm_resume:s ret=-13"
    ∷ "0 c pm_callback: k resume begin"
    ∷ "0 c pm_callback: k resume end 0"
    ∷ "0 c pm_status: k active"
    ∷ "0 c rpm_idle: k flags-1 cnt-1  dep-0  auto-1 p-0 irq-0 child-0"
    ∷ "0 c rpm_return_int: rpm_idle:k ret=-11"
    ∷ "0 c rpm_return_int: rpm_resume:k ret=0"
    ∷ "0 c pm_ret: get_sync k 0"
    ∷ [])

-- A link is added only while its consumer is suspended; removed, it gives its count back.
abbrev pub added_link_plan : Plan
added_link_plan =
    let s = dev 0 in
    let k = dev 1 in
    record empty_plan {
      devices = device "s" ∷ device "k" ∷ [];
      links = record (link k s) { later = true } ∷ [];
      callers =
          caller "c" (
          call Enable s
          ∷ call Enable k
          ∷ call GetSync k
          ∷ of_pair LinkAdd k s
          ∷ call PutSyncSuspend k
          ∷ of_pair LinkAdd k s
          ∷ call GetSync k
          ∷ of_pair LinkDel k s
          ∷ [])
          ∷ [];
      law = refl;
    }

abbrev pub added_link_text : List ℕ
added_link_text =
    text (
    "0 c pm_call: enable s"
    ∷ "0 c pm_ret: enable s 0"
    ∷ "0 c pm_call: enable k"
    ∷ "0 c pm_ret: enable k 0"
    ∷ "0 c pm_call: get_sync k"
    ∷ "0 c pm_get: k caller"
    ∷ "0 c rpm_resume: k flags-4 cnt-1  dep-0  auto-1 p-0 irq-0 child-0"
    ∷ "0 c pm_status: k resuming"
    ∷ "0 c pm_callback: k resume begin"
    ∷ "0 c pm_callback: k resume end 0"
    ∷ "0 c pm_status: k active"
    ∷ "0 c rpm_idle: k flags-1 cnt-1  dep-0  auto-1 p-0 irq-0 child-0"
    ∷ "0 c rpm_return_int: rpm_idle:k ret=-11"
    ∷ "0 c rpm_return_int: rpm_resume:k ret=0"
    ∷ "0 c pm_ret: get_sync k 0"
    ∷ "0 c pm_call: link_add k s"
    ∷ "0 c pm_ret: link_add k -11"
    ∷ "0 c pm_call: put_sync_suspend k"
    ∷ "0 c pm_put: k caller"
    ∷ "0 c rpm_suspend: k flags-4 cnt-0  dep-0  auto-1 p-0 irq-0 child-0"
    ∷ "0 c pm_callback: k suspend begin"
    ∷ "0 c pm_callback: k suspend end 0"
    ∷ "0 c pm_status: k suspended"
    ∷ "0 c rpm_return_int: rpm_suspend:k ret=0"
    ∷ "0 c pm_ret: put_sync_suspend k 0"
    ∷ "0 c pm_call: link_add k s"
    ∷ "0 c pm_ret: link_add k 0"
    ∷ "0 c pm_call: get_sync k"
    ∷ "0 c pm_get: k caller"
    ∷ "0 c rpm_resume: k flags-4 cnt-1  dep-0  auto-1 p-0 irq-0 child-0"
    ∷ "0 c pm_status: k resuming"
    ∷ "0 c pm_get: s link k"
    ∷ "0 c rpm_resume: s flags-4 cnt-1  dep-0  auto-1 p-0 irq-0 child-0"
    ∷ "0 c pm_status: s resuming"
    ∷ "0 c pm_callback: s resume begin"
    ∷ "0 c pm_callback: s resume end 0"
    ∷ "0 c pm_status: s active"
    ∷ "0 c rpm_idle: s flags-1 cnt-1  dep-0  auto-1 p-0 irq-0 child-0"
    ∷ "0 c rpm_return_int: rpm_idle:s ret=-11"
    ∷ "0 c rpm_return_int: rpm_resume:s ret=0"
    ∷ "0 c pm_callback: k resume begin"
    ∷ "0 c pm_callback: k resume end 0"
    ∷ "0 c pm_status: k active"
    ∷ "0 c rpm_idle: k flags-1 cnt-1  dep-0  auto-1 p-0 irq-0 child-0"
    ∷ "0 c rpm_return_int: rpm_idle:k ret=-11"
    ∷ "0 c rpm_return_int: rpm_resume:k ret=0"
    ∷ "0 c pm_ret: get_sync k 0"
    ∷ "0 c pm_call: link_del k s"
    ∷ "0 c pm_put: s link k"
    ∷ "0 c rpm_idle: s flags-5 cnt-0  dep-0  auto-1 p-0 irq-0 child-0"
    ∷ "0 c rpm_return_int: rpm_idle:s ret=0"
    ∷ "0 c rpm_suspend: s flags-d cnt-0  dep-0  auto-1 p-0 irq-0 child-0"
    ∷ "0 c pm_work: s queue autosuspend"
    ∷ "0 work.s pm_work: s run autosuspend"
    ∷ "0 c rpm_return_int: rpm_suspend:s ret=0"
    ∷ "0 work.s rpm_suspend: s flags-a cnt-0  dep-0  auto-1 p-0 irq-0 child-0"
    ∷ "0 c pm_ret: link_del k 0"
    ∷ "0 work.s pm_callback: s suspend begin"
    ∷ "0 work.s pm_callback: s suspend end 0"
    ∷ "0 work.s pm_status: s suspended"
    ∷ "0 work.s rpm_return_int: rpm_suspend:s ret=0"
    ∷ [])

-- What the link helpers refuse, and a consumer that suspends while its idle callback runs.
abbrev pub link_helpers_plan : Plan
link_helpers_plan =
    let s = dev 0 in
    let t = dev 1 in
    let k = dev 2 in
    record empty_plan {
      devices = device "s" ∷ device "t" ∷ record (device "k") { idle = Some []; idle_ms = 10 } ∷ [];
      links = record (link k t) { later = true } ∷ record (link k s) { later = true } ∷ [];
      callers =
          caller "c" (
          call Enable s
          ∷ call Enable k
          ∷ of_pair LinkAdd s k
          ∷ of_pair LinkDel k s
          ∷ of_pair LinkAdd k s
          ∷ of_pair LinkAdd k s
          ∷ call GetSync s
          ∷ call GetSync k
          ∷ call PutSync k
          ∷ of_pair LinkDel k s
          ∷ of_pair LinkDel k s
          ∷ [])
          ∷ caller "e" (delay 5 ∷ of_pair LinkDel k s ∷ call Suspend k ∷ of_pair LinkAdd k t ∷ [])
          ∷ [];
      law = refl;
    }

abbrev pub link_helpers_text : List ℕ
link_helpers_text =
    text (
    "0 c pm_call: enable s"
    ∷ "0 e pm_call: delay 5"
    ∷ "0 c pm_ret: enable s 0"
    ∷ "0 c pm_call: enable k"
    ∷ "0 c pm_ret: enable k 0"
    ∷ "0 c pm_call: link_add s k"
    ∷ "0 c pm_ret: link_add s -22"
    ∷ "0 c pm_call: link_del k s"
    ∷ "0 c pm_ret: link_del k -22"
    ∷ "0 c pm_call: link_add k s"
    ∷ "0 c pm_ret: link_add k 0"
    ∷ "0 c pm_call: link_add k s"
    ∷ "0 c pm_ret: link_add k -22"
    ∷ "0 c pm_call: get_sync s"
    ∷ "0 c pm_get: s caller"
    ∷ "0 c rpm_resume: s flags-4 cnt-1  dep-0  auto-1 p-0 irq-0 child-0"
    ∷ "0 c pm_status: s resuming"
    ∷ "0 c pm_callback: s resume begin"
    ∷ "0 c pm_callback: s resume end 0"
    ∷ "0 c pm_status: s active"
    ∷ "0 c rpm_idle: s flags-1 cnt-1  dep-0  auto-1 p-0 irq-0 child-0"
    ∷ "0 c rpm_return_int: rpm_idle:s ret=-11"
    ∷ "0 c rpm_return_int: rpm_resume:s ret=0"
    ∷ "0 c pm_ret: get_sync s 0"
    ∷ "0 c pm_call: get_sync k"
    ∷ "0 c pm_get: k caller"
    ∷ "0 c rpm_resume: k flags-4 cnt-1  dep-0  auto-1 p-0 irq-0 child-0"
    ∷ "0 c pm_status: k resuming"
    ∷ "0 c pm_get: s link k"
    ∷ "0 c rpm_resume: s flags-4 cnt-2  dep-0  auto-1 p-0 irq-0 child-0"
    ∷ "0 c rpm_return_int: rpm_resume:s ret=1"
    ∷ "0 c pm_callback: k resume begin"
    ∷ "0 c pm_callback: k resume end 0"
    ∷ "0 c pm_status: k active"
    ∷ "0 c rpm_idle: k flags-1 cnt-1  dep-0  auto-1 p-0 irq-0 child-0"
    ∷ "0 c rpm_return_int: rpm_idle:k ret=-11"
    ∷ "0 c rpm_return_int: rpm_resume:k ret=0"
    ∷ "0 c pm_ret: get_sync k 0"
    ∷ "0 c pm_call: put_sync k"
    ∷ "0 c pm_put: k caller"
    ∷ "0 c rpm_idle: k flags-4 cnt-0  dep-0  auto-1 p-0 irq-0 child-0"
    ∷ "0 c pm_callback: k idle begin"
    ∷ "5 e pm_ret: delay 0"
    ∷ "5 e pm_call: link_del k s"
    ∷ "5 e pm_ret: link_del k -11"
    ∷ "5 e pm_call: suspend k"
    ∷ "5 e rpm_suspend: k flags-0 cnt-0  dep-0  auto-1 p-0 irq-0 child-0"
    ∷ "5 e pm_callback: k suspend begin"
    ∷ "5 e pm_callback: k suspend end 0"
    ∷ "5 e pm_put: s link k"
    ∷ "5 e rpm_usage: s flags-5 cnt-1  dep-0  auto-1 p-0 irq-0 child-0"
    ∷ "5 e pm_status: k suspended"
    ∷ "5 e rpm_return_int: rpm_suspend:k ret=0"
    ∷ "5 e pm_ret: suspend k 0"
    ∷ "5 e pm_call: link_add k t"
    ∷ "5 e pm_ret: link_add k -11"
    ∷ "10 c pm_callback: k idle end 0"
    ∷ "10 c rpm_return_int: rpm_idle:k ret=0"
    ∷ "10 c rpm_suspend: k flags-c cnt-0  dep-0  auto-1 p-0 irq-0 child-0"
    ∷ "10 c rpm_return_int: rpm_suspend:k ret=1"
    ∷ "10 c pm_ret: put_sync k 1"
    ∷ "10 c pm_call: link_del k s"
    ∷ "10 c pm_ret: link_del k 0"
    ∷ "10 c pm_call: link_del k s"
    ∷ "10 c pm_ret: link_del k -22"
    ∷ [])

-- The suppliers are taken, and told, in the order of devices and not of links.
abbrev pub suppliers_in_order_plan : Plan
suppliers_in_order_plan =
    let s = dev 0 in
    let t = dev 1 in
    let k = dev 2 in
    record empty_plan {
      devices = device "s" ∷ device "t" ∷ device "k" ∷ [];
      links = link k t ∷ link k s ∷ [];
      callers =
          caller "c" (
          call Enable s
          ∷ call GetNoresume s
          ∷ call SetActive t
          ∷ call Enable t
          ∷ call GetNoresume t
          ∷ call SetActive k
          ∷ call SetSuspended k
          ∷ call SetSuspended k
          ∷ of_pair LinkDel k s
          ∷ [])
          ∷ [];
      law = refl;
    }

abbrev pub suppliers_in_order_text : List ℕ
suppliers_in_order_text =
    text (
    "0 c pm_call: enable s"
    ∷ "0 c pm_ret: enable s 0"
    ∷ "0 c pm_call: get_noresume s"
    ∷ "0 c pm_get: s caller"
    ∷ "0 c pm_ret: get_noresume s 0"
    ∷ "0 c pm_call: set_active t"
    ∷ "0 c pm_status: t forced_active"
    ∷ "0 c pm_ret: set_active t 0"
    ∷ "0 c pm_call: enable t"
    ∷ "0 c pm_ret: enable t 0"
    ∷ "0 c pm_call: get_noresume t"
    ∷ "0 c pm_get: t caller"
    ∷ "0 c pm_ret: get_noresume t 0"
    ∷ "0 c pm_call: set_active k"
    ∷ "0 c pm_status: k resuming"
    ∷ "0 c pm_get: s link k"
    ∷ "0 c rpm_resume: s flags-4 cnt-2  dep-0  auto-1 p-0 irq-0 child-0"
    ∷ "0 c pm_status: s resuming"
    ∷ "0 c pm_callback: s resume begin"
    ∷ "0 c pm_callback: s resume end 0"
    ∷ "0 c pm_status: s active"
    ∷ "0 c rpm_idle: s flags-1 cnt-2  dep-0  auto-1 p-0 irq-0 child-0"
    ∷ "0 c rpm_return_int: rpm_idle:s ret=-11"
    ∷ "0 c rpm_return_int: rpm_resume:s ret=0"
    ∷ "0 c pm_get: t link k"
    ∷ "0 c rpm_resume: t flags-4 cnt-2  dep-0  auto-1 p-0 irq-0 child-0"
    ∷ "0 c rpm_return_int: rpm_resume:t ret=1"
    ∷ "0 c pm_status: k forced_active"
    ∷ "0 c pm_ret: set_active k 0"
    ∷ "0 c pm_call: set_suspended k"
    ∷ "0 c pm_status: k forced_suspended"
    ∷ "0 c rpm_idle: s flags-1 cnt-1  dep-0  auto-1 p-0 irq-0 child-0"
    ∷ "0 c rpm_return_int: rpm_idle:s ret=-11"
    ∷ "0 c rpm_idle: t flags-1 cnt-1  dep-0  auto-1 p-0 irq-0 child-0"
    ∷ "0 c rpm_return_int: rpm_idle:t ret=-11"
    ∷ "0 c pm_ret: set_suspended k 0"
    ∷ "0 c pm_call: set_suspended k"
    ∷ "0 c pm_status: k forced_suspended"
    ∷ "0 c rpm_idle: s flags-1 cnt-1  dep-0  auto-1 p-0 irq-0 child-0"
    ∷ "0 c rpm_return_int: rpm_idle:s ret=-11"
    ∷ "0 c rpm_idle: t flags-1 cnt-1  dep-0  auto-1 p-0 irq-0 child-0"
    ∷ "0 c rpm_return_int: rpm_idle:t ret=-11"
    ∷ "0 c pm_ret: set_suspended k 0"
    ∷ "0 c pm_call: link_del k s"
    ∷ "0 c pm_ret: link_del k -22"
    ∷ [])

-- set_active takes the suppliers and minds the parent; set_suspended gives the suppliers back.
abbrev pub forced_status_plan : Plan
forced_status_plan =
    let p = dev 0 in
    let s = dev 1 in
    let k = dev 2 in
    let l = dev 3 in
    record empty_plan {
      devices =
          device "p"
          ∷ record (device "s") { resume = minus 5 ∷ [] }
          ∷ record (device "k") { parent = Some p }
          ∷ record (device "l") { parent = Some p }
          ∷ [];
      links = link k s ∷ [];
      callers =
          caller "c" (
          call SetActive k
          ∷ call SetActive k
          ∷ call SetSuspended k
          ∷ call Enable p
          ∷ call SetActive l
          ∷ call SetActive k
          ∷ call Enable s
          ∷ call SetActive k
          ∷ call Enable k
          ∷ call SetActive k
          ∷ call SetSuspended k
          ∷ call SetActive s
          ∷ call Resume s
          ∷ [])
          ∷ [];
      law = refl;
    }

abbrev pub forced_status_text : List ℕ
forced_status_text =
    text (
    "0 c pm_call: set_active k"
    ∷ "0 c pm_status: k resuming"
    ∷ "0 c pm_get: s link k"
    ∷ "0 c rpm_resume: s flags-4 cnt-1  dep-1  auto-1 p-0 irq-0 child-0"
    ∷ "0 c rpm_return_int: rpm_resume:s ret=-13"
    ∷ "0 c pm_status: k forced_active"
    ∷ "0 c pm_ret: set_active k 0"
    ∷ "0 c pm_call: set_active k"
    ∷ "0 c pm_status: k forced_active"
    ∷ "0 c pm_ret: set_active k 0"
    ∷ "0 c pm_call: set_suspended k"
    ∷ "0 c pm_status: k forced_suspended"
    ∷ "0 c rpm_idle: s flags-1 cnt-0  dep-1  auto-1 p-0 irq-0 child-0"
    ∷ "0 c rpm_return_int: rpm_idle:s ret=-13"
    ∷ "0 c rpm_idle: p flags-1 cnt-0  dep-1  auto-1 p-0 irq-0 child-0"
    ∷ "0 c rpm_return_int: rpm_idle:p ret=-13"
    ∷ "0 c pm_ret: set_suspended k 0"
    ∷ "0 c pm_call: enable p"
    ∷ "0 c pm_ret: enable p 0"
    ∷ "0 c pm_call: set_active l"
    ∷ "0 c pm_ret: set_active l -16"
    ∷ "0 c pm_call: set_active k"
    ∷ "0 c pm_status: k resuming"
    ∷ "0 c pm_get: s link k"
    ∷ "0 c rpm_resume: s flags-4 cnt-1  dep-1  auto-1 p-0 irq-0 child-0"
    ∷ "0 c rpm_return_int: rpm_resume:s ret=-13"
    ∷ "0 c pm_put: s link k"
    ∷ "0 c rpm_idle: s flags-5 cnt-0  dep-1  auto-1 p-0 irq-0 child-0"
    ∷ "0 c rpm_return_int: rpm_idle:s ret=-13"
    ∷ "0 c pm_status: k suspended"
    ∷ "0 c pm_ret: set_active k -16"
    ∷ "0 c pm_call: enable s"
    ∷ "0 c pm_ret: enable s 0"
    ∷ "0 c pm_call: set_active k"
    ∷ "0 c pm_status: k resuming"
    ∷ "0 c pm_get: s link k"
    ∷ "0 c rpm_resume: s flags-4 cnt-1  dep-0  auto-1 p-0 irq-0 child-0"
    ∷ "0 c pm_status: s resuming"
    ∷ "0 c pm_callback: s resume begin"
    ∷ "0 c pm_callback: s resume end -5"
    ∷ "0 c pm_status: s suspended"
    ∷ "0 c rpm_return_int: rpm_resume:s ret=-5"
    ∷ "0 c pm_put: s link k"
    ∷ "0 c rpm_idle: s flags-5 cnt-0  dep-0  auto-1 p-0 irq-0 child-0"
    ∷ "0 c rpm_return_int: rpm_idle:s ret=-22"
    ∷ "0 c pm_status: k suspended"
    ∷ "0 c pm_ret: set_active k -5"
    ∷ "0 c pm_call: enable k"
    ∷ "0 c pm_ret: enable k 0"
    ∷ "0 c pm_call: set_active k"
    ∷ "0 c pm_ret: set_active k -11"
    ∷ "0 c pm_call: set_suspended k"
    ∷ "0 c pm_ret: set_suspended k -11"
    ∷ "0 c pm_call: set_active s"
    ∷ "0 c pm_status: s forced_active"
    ∷ "0 c pm_ret: set_active s 0"
    ∷ "0 c pm_call: resume s"
    ∷ "0 c rpm_resume: s flags-0 cnt-0  dep-0  auto-1 p-0 irq-0 child-0"
    ∷ "0 c rpm_return_int: rpm_resume:s ret=1"
    ∷ "0 c pm_ret: resume s 1"
    ∷ [])

-- set_active and set_suspended pass over a link that is absent, and tell the supplier of one that was added.
abbrev pub absent_link_plan : Plan
absent_link_plan =
    let p = dev 0 in
    let s = dev 1 in
    let t = dev 2 in
    let k = dev 3 in
    record empty_plan {
      devices =
          record (device "p") { ignore_children = true }
          ∷ device "s"
          ∷ device "t"
          ∷ record (device "k") { parent = Some p }
          ∷ [];
      links = record (link k s) { later = true } ∷ record (link k t) { later = true } ∷ [];
      callers =
          caller "c" (
          call Enable s
          ∷ call SetActive k
          ∷ call SetSuspended k
          ∷ of_pair LinkAdd k t
          ∷ call SetActive k
          ∷ call SetSuspended k
          ∷ call SetActive p
          ∷ call Enable p
          ∷ call GetNoresume p
          ∷ call_with IgnoreChildren p (pos 0)
          ∷ call SetActive k
          ∷ [])
          ∷ [];
      law = refl;
    }

abbrev pub absent_link_text : List ℕ
absent_link_text =
    text (
    "0 c pm_call: enable s"
    ∷ "0 c pm_ret: enable s 0"
    ∷ "0 c pm_call: set_active k"
    ∷ "0 c pm_status: k forced_active"
    ∷ "0 c pm_ret: set_active k 0"
    ∷ "0 c pm_call: set_suspended k"
    ∷ "0 c pm_status: k forced_suspended"
    ∷ "0 c pm_ret: set_suspended k 0"
    ∷ "0 c pm_call: link_add k t"
    ∷ "0 c pm_ret: link_add k 0"
    ∷ "0 c pm_call: set_active k"
    ∷ "0 c pm_status: k resuming"
    ∷ "0 c pm_get: t link k"
    ∷ "0 c rpm_resume: t flags-4 cnt-1  dep-1  auto-1 p-0 irq-0 child-0"
    ∷ "0 c rpm_return_int: rpm_resume:t ret=-13"
    ∷ "0 c pm_status: k forced_active"
    ∷ "0 c pm_ret: set_active k 0"
    ∷ "0 c pm_call: set_suspended k"
    ∷ "0 c pm_status: k forced_suspended"
    ∷ "0 c rpm_idle: t flags-1 cnt-0  dep-1  auto-1 p-0 irq-0 child-0"
    ∷ "0 c rpm_return_int: rpm_idle:t ret=-13"
    ∷ "0 c pm_ret: set_suspended k 0"
    ∷ "0 c pm_call: set_active p"
    ∷ "0 c pm_status: p forced_active"
    ∷ "0 c pm_ret: set_active p 0"
    ∷ "0 c pm_call: enable p"
    ∷ "0 c pm_ret: enable p 0"
    ∷ "0 c pm_call: get_noresume p"
    ∷ "0 c pm_get: p caller"
    ∷ "0 c pm_ret: get_noresume p 0"
    ∷ "0 c pm_call: ignore_children p off"
    ∷ "0 c pm_ret: ignore_children p 0"
    ∷ "0 c pm_call: set_active k"
    ∷ "0 c pm_status: k resuming"
    ∷ "0 c pm_get: t link k"
    ∷ "0 c rpm_resume: t flags-4 cnt-1  dep-1  auto-1 p-0 irq-0 child-0"
    ∷ "0 c rpm_return_int: rpm_resume:t ret=-13"
    ∷ "0 c pm_status: k forced_active"
    ∷ "0 c pm_ret: set_active k 0"
    ∷ [])

-- The suppliers are given back in the order of devices too, by a suspend and by a set_active that fails.
abbrev pub suppliers_given_back_plan : Plan
suppliers_given_back_plan =
    let p = dev 0 in
    let s = dev 1 in
    let t = dev 2 in
    let k = dev 3 in
    record empty_plan {
      devices = device "p" ∷ device "s" ∷ device "t" ∷ record (device "k") { parent = Some p } ∷ [];
      links = link k t ∷ link k s ∷ [];
      callers =
          caller "c" (
          call Enable p
          ∷ call SetActive k
          ∷ call Disable p
          ∷ call SetActive k
          ∷ call Enable k
          ∷ call Suspend k
          ∷ [])
          ∷ [];
      law = refl;
    }

abbrev pub suppliers_given_back_text : List ℕ
suppliers_given_back_text =
    text (
    "0 c pm_call: enable p"
    ∷ "0 c pm_ret: enable p 0"
    ∷ "0 c pm_call: set_active k"
    ∷ "0 c pm_status: k resuming"
    ∷ "0 c pm_get: s link k"
    ∷ "0 c rpm_resume: s flags-4 cnt-1  dep-1  auto-1 p-0 irq-0 child-0"
    ∷ "0 c rpm_return_int: rpm_resume:s ret=-13"
    ∷ "0 c pm_get: t link k"
    ∷ "0 c rpm_resume: t flags-4 cnt-1  dep-1  auto-1 p-0 irq-0 child-0"
    ∷ "0 c rpm_return_int: rpm_resume:t ret=-13"
    ∷ "0 c pm_put: s link k"
    ∷ "0 c rpm_idle: s flags-5 cnt-0  dep-1  auto-1 p-0 irq-0 child-0"
    ∷ "0 c rpm_return_int: rpm_idle:s ret=-13"
    ∷ "0 c pm_put: t link k"
    ∷ "0 c rpm_idle: t flags-5 cnt-0  dep-1  auto-1 p-0 irq-0 child-0"
    ∷ "0 c rpm_return_int: rpm_idle:t ret=-13"
    ∷ "0 c pm_status: k suspended"
    ∷ "0 c pm_ret: set_active k -16"
    ∷ "0 c pm_call: disable p"
    ∷ "0 c pm_ret: disable p 0"
    ∷ "0 c pm_call: set_active k"
    ∷ "0 c pm_status: k resuming"
    ∷ "0 c pm_get: s link k"
    ∷ "0 c rpm_resume: s flags-4 cnt-1  dep-1  auto-1 p-0 irq-0 child-0"
    ∷ "0 c rpm_return_int: rpm_resume:s ret=-13"
    ∷ "0 c pm_get: t link k"
    ∷ "0 c rpm_resume: t flags-4 cnt-1  dep-1  auto-1 p-0 irq-0 child-0"
    ∷ "0 c rpm_return_int: rpm_resume:t ret=-13"
    ∷ "0 c pm_status: k forced_active"
    ∷ "0 c pm_ret: set_active k 0"
    ∷ "0 c pm_call: enable k"
    ∷ "0 c pm_ret: enable k 0"
    ∷ "0 c pm_call: suspend k"
    ∷ "0 c rpm_suspend: k flags-0 cnt-0  dep-0  auto-1 p-0 irq-0 child-0"
    ∷ "0 c pm_callback: k suspend begin"
    ∷ "0 c pm_callback: k suspend end 0"
    ∷ "0 c pm_put: s link k"
    ∷ "0 c rpm_idle: s flags-5 cnt-0  dep-1  auto-1 p-0 irq-0 child-0"
    ∷ "0 c rpm_return_int: rpm_idle:s ret=-13"
    ∷ "0 c pm_put: t link k"
    ∷ "0 c rpm_idle: t flags-5 cnt-0  dep-1  auto-1 p-0 irq-0 child-0"
    ∷ "0 c rpm_return_int: rpm_idle:t ret=-13"
    ∷ "0 c pm_status: k suspended"
    ∷ "0 c rpm_idle: p flags-1 cnt-0  dep-1  auto-1 p-0 irq-0 child-0"
    ∷ "0 c rpm_return_int: rpm_idle:p ret=-13"
    ∷ "0 c rpm_return_int: rpm_suspend:k ret=0"
    ∷ "0 c pm_ret: suspend k 0"
    ∷ [])
