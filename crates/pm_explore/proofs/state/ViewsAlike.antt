-- The derived tests of what the views are kept as are exact.
use Rattle.std.proofs.Common.{◌≡◌, true, arith, subst}
use Rattle.std.proofs.lemmas.Grind.{common_steps}
use Rattle.std.proofs.lemmas.Bool.{eqb-true}
use Rattle.std.proofs.lemmas.Bool.Decides.{Decides-int_eq}
use Rattle.std.specs.Cmp.{booleans_Decides}
use Rattle.pm_base.specs.declared.Armed.{Armed}
use Rattle.pm_base.specs.declared.Status.{Status}
use Rattle.pm_base.specs.contracts.StatusPartialEq.TheImpl.{eq-value as status_eq}
use Rattle.pm_explore.proofs.state.Lists.{first, second}
use Rattle.pm_base.specs.declared.Pending.{Pending}
use Rattle.pm_model.specs.declared.views.Device.{Device}
use Rattle.pm_base.specs.contracts.ArmedPartialEq.TheImpl.{eq-value as armed_eq}
use Rattle.pm_base.specs.contracts.PendingPartialEq.TheImpl.{eq-value as pending_eq}
use Rattle.pm_model.specs.contracts.views.DevicePartialEq.TheImpl.{eq-value as device_eq}
use Rattle.pm_base.specs.contracts.ArmedEq.TheImpl.Laws.{laws-law as armed_laws}
use Rattle.pm_base.specs.contracts.PendingEq.TheImpl.Laws.{laws-law as pending_laws}
use Rattle.pm_model.specs.contracts.views.DeviceEq.TheImpl.Laws.{laws-law as device_laws}

status_alike : (a b : Status) → status_eq.it a b ≡ true → a ≡ b
status_alike a b is = grind (arith, common_steps)

pub armed_alike : (a b : Armed) → armed_eq.it a b ≡ true → a ≡ b
armed_alike a b is = grind (arith, common_steps)

pub pending_alike : (a b : Pending) → pending_eq.it a b ≡ true → a ≡ b
pending_alike a b is = grind (arith, common_steps)

pub device_alike : (a b : Device) → device_eq.it a b ≡ true → a ≡ b
device_alike a b is =
    let r0 = is in
    let r1 = second _ _ r0 in
    let r2 = second _ _ r1 in
    let r3 = second _ _ r2 in
    let r4 = second _ _ r3 in
    let r5 = second _ _ r4 in
    let r6 = second _ _ r5 in
    let r7 = second _ _ r6 in
    let r8 = second _ _ r7 in
    let r9 = second _ _ r8 in
    let r10 = second _ _ r9 in
    let r11 = second _ _ r10 in
    let r12 = second _ _ r11 in
    let r13 = second _ _ r12 in
    let r14 = second _ _ r13 in
    let p0 : a.status ≡ b.status = status_alike a.status b.status (first _ _ r0) in
    let p1 : a.error ≡ b.error = (Decides-int_eq a.error b.error).0 (first _ _ r1) in
    let p2 : a.depth ≡ b.depth = eqb-true a.depth b.depth (first _ _ r2) in
    let p3 : a.last_active ≡ b.last_active = (booleans_Decides a.last_active b.last_active).0 (first _ _ r3) in
    let p4 : a.usage ≡ b.usage = eqb-true a.usage b.usage (first _ _ r4) in
    let p5 : a.share ≡ b.share = eqb-true a.share b.share (first _ _ r5) in
    let p6 : a.auto_on ≡ b.auto_on = (booleans_Decides a.auto_on b.auto_on).0 (first _ _ r6) in
    let p7 : a.last_busy ≡ b.last_busy = eqb-true a.last_busy b.last_busy (first _ _ r7) in
    let p8 : a.use_auto ≡ b.use_auto = (booleans_Decides a.use_auto b.use_auto).0 (first _ _ r8) in
    let p9 : a.delay ≡ b.delay = (Decides-int_eq a.delay b.delay).0 (first _ _ r9) in
    let p10 : a.idle_running ≡ b.idle_running = (booleans_Decides a.idle_running b.idle_running).0 (first _ _ r10) in
    let p11 : a.ignores ≡ b.ignores = (booleans_Decides a.ignores b.ignores).0 (first _ _ r11) in
    let p12 : a.begun_idle ≡ b.begun_idle = eqb-true a.begun_idle b.begun_idle (first _ _ r12) in
    let p13 : a.begun_suspend ≡ b.begun_suspend = eqb-true a.begun_suspend b.begun_suspend (first _ _ r13) in
    let p14 : a.begun_resume ≡ b.begun_resume = eqb-true a.begun_resume b.begun_resume r14 in
    λ i. record { status = p0 i; error = p1 i; depth = p2 i; last_active = p3 i; usage = p4 i; share = p5 i; auto_on = p6 i; last_busy = p7 i; use_auto = p8 i; delay = p9 i; idle_running = p10 i; ignores = p11 i; begun_idle = p12 i; begun_suspend = p13 i; begun_resume = p14 i }

pub armed_itself : (a b : Armed) → a ≡ b → armed_eq.it a b ≡ true
armed_itself a b is = let P : Armed → Type 0 = λ x. armed_eq.it a x ≡ true in subst P is (armed_laws.refl a)

pub pending_itself : (a b : Pending) → a ≡ b → pending_eq.it a b ≡ true
pending_itself a b is = let P : Pending → Type 0 = λ x. pending_eq.it a x ≡ true in subst P is (pending_laws.refl a)

pub device_itself : (a b : Device) → a ≡ b → device_eq.it a b ≡ true
device_itself a b is = let P : Device → Type 0 = λ x. device_eq.it a x ≡ true in subst P is (device_laws.refl a)
