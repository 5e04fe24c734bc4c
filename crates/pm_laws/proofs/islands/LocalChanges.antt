-- Changes of a device of a region stay in it.
use Rattle.std.proofs.Common.{ℕ, ◌≡◌, ◌+◌, ◌-◌, Bool, true, false, ◌&&◌, List, Option, None, ℤ, pos, nat_eq, if◌then◌else◌, ap, refl, sym, subst, ◌∙◌}
use Rattle.std.specs.Ordering.{int_eq}
use Rattle.std.proofs.lemmas.Bool.{eqb-true, false≢true}
use Rattle.pm_base.specs.declared.Armed.{Armed}
use Rattle.pm_base.specs.declared.DevId.{DevId}
use Rattle.pm_base.specs.declared.Pending.{Pending}
use Rattle.pm_base.specs.declared.Req.{Req}
use Rattle.pm_base.specs.declared.Req.TheVariants.{Nothing}
use Rattle.pm_model.specs.declared.plan.Plan.{Plan}
use Rattle.pm_model.specs.declared.rows.LinkRow.{LinkRow}
use Rattle.pm_model.specs.declared.stage.Change.{Change}
use Rattle.pm_model.specs.declared.stage.Change.TheVariants as change
use Rattle.pm_model.specs.declared.views.Device.{Device}
use Rattle.pm_model.specs.Changes.{set_request, set_queued, set_deferred, disarm, cancel, cancel_all, rcancel, has_auto_timer, set_last_busy, callback_marks, set_depth, set_last, disables, disables_busy, disabled_at_once, keeps_status, enables, set_setting, set_ignores, set_present}
use Rattle.pm_model.specs.Derived.{is_active}
use Rattle.pm_model.specs.Events.{is_try_again}
use Rattle.pm_model.specs.PlanRows.{is_of_pair, marks_busy}
use Rattle.pm_model.specs.ChangeViews.{change_views, suspend_ended}
use Rattle.pm_model.specs.Views.{Views, device, pending_of, with_device, with_pending, with_timer}
use Rattle.pm_laws.proofs.islands.Region.{Alike, AlikeBy, Region, Agree, Apart, ChangeIn, IsLocal, is_own_link}
use Rattle.pm_laws.proofs.islands.AlikeLists.{alike_refl, alike_set, alike_aside, alike_trans, by_refl, by_trans, by_map, by_aside}
use Rattle.pm_laws.proofs.islands.ViewsAlike.{device_agrees, pending_agrees, timer_agrees}

pub agree_refl : (plan : Plan) (k : Region plan) (v : Views) → Agree plan k v v
agree_refl plan k v = record {
  devices = alike_refl k.inside v.devices;
  pending = alike_refl k.inside v.pending;
  timers = alike_refl k.inside v.timers;
  on = alike_refl k.domains v.on;
  held = by_refl (is_own_link k) plan.links v.held;
  present = by_refl (is_own_link k) plan.links v.present;
}

pub agree_trans : {plan : Plan} {k : Region plan} {u v w : Views} → Agree plan k u v → Agree plan k v w → Agree plan k u w
agree_trans {plan} {k} {u} {v} {w} a b = record {
  devices = alike_trans k.inside u.devices v.devices w.devices a.devices b.devices;
  pending = alike_trans k.inside u.pending v.pending w.pending a.pending b.pending;
  timers = alike_trans k.inside u.timers v.timers w.timers a.timers b.timers;
  on = alike_trans k.domains u.on v.on w.on a.on b.on;
  held = by_trans (is_own_link k) plan.links u.held v.held w.held a.held b.held;
  present = by_trans (is_own_link k) plan.links u.present v.present w.present a.present b.present;
}

-- views that agree, with one list of entries made anew
pub devices_anew : {plan : Plan} {k : Region plan} {v w : Views} (xs ys : List Device) → Agree plan k v w → Alike k.inside xs ys
    → Agree plan k (record v { devices = xs }) (record w { devices = ys })
devices_anew xs ys a b = record { devices = b; pending = a.pending; timers = a.timers; on = a.on; held = a.held; present = a.present }

pub pending_anew : {plan : Plan} {k : Region plan} {v w : Views} (xs ys : List Pending) → Agree plan k v w → Alike k.inside xs ys
    → Agree plan k (record v { pending = xs }) (record w { pending = ys })
pending_anew xs ys a b = record { devices = a.devices; pending = b; timers = a.timers; on = a.on; held = a.held; present = a.present }

pub timers_anew : {plan : Plan} {k : Region plan} {v w : Views} (xs ys : List (Option Armed)) → Agree plan k v w → Alike k.inside xs ys
    → Agree plan k (record v { timers = xs }) (record w { timers = ys })
timers_anew xs ys a b = record { devices = a.devices; pending = a.pending; timers = b; on = a.on; held = a.held; present = a.present }

pub on_anew : {plan : Plan} {k : Region plan} {v w : Views} (xs ys : List Bool) → Agree plan k v w → Alike k.domains xs ys
    → Agree plan k (record v { on = xs }) (record w { on = ys })
on_anew xs ys a b = record { devices = a.devices; pending = a.pending; timers = a.timers; on = b; held = a.held; present = a.present }

pub held_anew : {plan : Plan} {k : Region plan} {v w : Views} (xs ys : List Bool) → Agree plan k v w → AlikeBy (is_own_link k) plan.links xs ys
    → Agree plan k (record v { held = xs }) (record w { held = ys })
held_anew xs ys a b = record { devices = a.devices; pending = a.pending; timers = a.timers; on = a.on; held = b; present = a.present }

pub present_anew : {plan : Plan} {k : Region plan} {v w : Views} (xs ys : List Bool) → Agree plan k v w → AlikeBy (is_own_link k) plan.links xs ys
    → Agree plan k (record v { present = xs }) (record w { present = ys })
present_anew xs ys a b = record { devices = a.devices; pending = a.pending; timers = a.timers; on = a.on; held = a.held; present = b }

pub local_same : {plan : Plan} {k : Region plan} → IsLocal plan k (λ v. v)
local_same {plan} {k} = record { keeps = λ v w a. a; spares = λ l v apart. agree_refl plan l v; same_held = λ v. refl }

pub local_then : {plan : Plan} {k : Region plan} (b c : Views → Views) → IsLocal plan k b → IsLocal plan k c → IsLocal plan k (λ v. c (b v))
local_then {plan} {k} b c x y = record {
  keeps = λ v w a. y.keeps (b v) (b w) (x.keeps v w a);
  spares = λ l v apart. agree_trans (x.spares l v apart) (y.spares l (b v) apart);
  same_held = λ v. y.same_held (b v) ∙ x.same_held v;
}

-- one entry is made anew from itself
pub local_device : {plan : Plan} {k : Region plan} (d : DevId) (f : Device → Device) → k.inside d.0 ≡ true → IsLocal plan k (λ v. with_device v d (f (device v d)))
local_device {plan} {k} d f i = record {
  keeps = λ v w a. devices_anew _ _ a (alike_set k.inside v.devices w.devices d.0 (f (device v d)) (f (device w d)) a.devices (λ _. ap f (device_agrees d a i)));
  spares = λ l v apart. devices_anew _ _ (agree_refl plan l v) (alike_aside l.inside v.devices d.0 (f (device v d)) (apart.devices d.0 i));
  same_held = λ v. refl;
}

pub local_pending : {plan : Plan} {k : Region plan} (d : DevId) (f : Pending → Pending) → k.inside d.0 ≡ true → IsLocal plan k (λ v. with_pending v d (f (pending_of v d)))
local_pending {plan} {k} d f i = record {
  keeps = λ v w a. pending_anew _ _ a (alike_set k.inside v.pending w.pending d.0 (f (pending_of v d)) (f (pending_of w d)) a.pending (λ _. ap f (pending_agrees d a i)));
  spares = λ l v apart. pending_anew _ _ (agree_refl plan l v) (alike_aside l.inside v.pending d.0 (f (pending_of v d)) (apart.devices d.0 i));
  same_held = λ v. refl;
}

pub local_timer : {plan : Plan} {k : Region plan} (d : DevId) (x : Option Armed) → k.inside d.0 ≡ true → IsLocal plan k (λ v. with_timer v d x)
local_timer {plan} {k} d x i = record {
  keeps = λ v w a. timers_anew _ _ a (alike_set k.inside v.timers w.timers d.0 x x a.timers (λ _. refl));
  spares = λ l v apart. timers_anew _ _ (agree_refl plan l v) (alike_aside l.inside v.timers d.0 x (apart.devices d.0 i));
  same_held = λ v. refl;
}

pub local_request : {plan : Plan} {k : Region plan} (r : Req) (d : DevId) → k.inside d.0 ≡ true → IsLocal plan k (set_request r d)
local_request r d i = local_pending d (λ p. record p { request = r }) i

pub local_queued : {plan : Plan} {k : Region plan} (b : Bool) (d : DevId) → k.inside d.0 ≡ true → IsLocal plan k (set_queued b d)
local_queued b d i = local_pending d (λ p. record p { queued = b }) i

pub local_deferred : {plan : Plan} {k : Region plan} (b : Bool) (d : DevId) → k.inside d.0 ≡ true → IsLocal plan k (set_deferred b d)
local_deferred b d i = local_pending d (λ p. record p { deferred = b }) i

pub local_disarm : {plan : Plan} {k : Region plan} (d : DevId) → k.inside d.0 ≡ true → IsLocal plan k (disarm d)
local_disarm d i = local_timer d None i

local_cancel : {plan : Plan} {k : Region plan} (d : DevId) → k.inside d.0 ≡ true → IsLocal plan k (cancel d)
local_cancel d i = local_then (set_request Nothing d) (disarm d) (local_request Nothing d i) (local_disarm d i)

local_cancel_all : {plan : Plan} {k : Region plan} (d : DevId) → k.inside d.0 ≡ true → IsLocal plan k (cancel_all d)
local_cancel_all d i = local_then (cancel d) (set_queued false d) (local_cancel d i) (local_queued false d i)

pub local_busy : {plan : Plan} {k : Region plan} (t : ℕ) (d : DevId) → k.inside d.0 ≡ true → IsLocal plan k (set_last_busy t d)
local_busy t d i = local_device d (λ x. record x { last_busy = t }) i

-- a choice that agreeing views make alike
pub local_if : {plan : Plan} {k : Region plan} (test : Views → Bool) (b c : Views → Views) → ((v w : Views) → Agree plan k v w → test v ≡ test w)
    → IsLocal plan k b → IsLocal plan k c → IsLocal plan k (λ v. if test v then b v else c v)
local_if {plan} {k} test b c same x y = record {
  keeps = λ v w a. keeps (test v) (test w) v w a (same v w a);
  spares = λ l v apart. spares (test v) l v apart;
  same_held = λ v. held_same (test v) v;
}
  where
    keeps : (p q : Bool) (v w : Views) → Agree plan k v w → p ≡ q → Agree plan k (if p then b v else c v) (if q then b w else c w)
    keeps true true v w a e = x.keeps v w a
    keeps false false v w a e = y.keeps v w a
    keeps true false v w a e = absurd (false≢true (sym e))
    keeps false true v w a e = absurd (false≢true e)

    spares : (p : Bool) (l : Region plan) (v : Views) → Apart plan k l → Agree plan l v (if p then b v else c v)
    spares true l v apart = x.spares l v apart
    spares false l v apart = y.spares l v apart

    held_same : (p : Bool) (v : Views) → (if p then b v else c v).held ≡ v.held
    held_same true v = x.same_held v
    held_same false v = y.same_held v

local_rcancel : {plan : Plan} {k : Region plan} (d : DevId) → k.inside d.0 ≡ true → IsLocal plan k (rcancel d)
unfolding rcancel has_auto_timer
local_rcancel {plan} {k} d i =
    local_if (λ v. has_auto_timer v d) (set_request Nothing d) (cancel d) (λ v w a. rw (timer_agrees {plan = plan} {k = k} d a i) refl)
    (local_request Nothing d i) (local_cancel d i)

local_marks : {plan : Plan} {k : Region plan} (d : DevId) (t : ℕ) → k.inside d.0 ≡ true → IsLocal plan k (callback_marks plan d t)
unfolding callback_marks
local_marks {plan = plan} {k = k} d t i = local_if (λ v. marks_busy plan d) (set_last_busy t d) (λ v. v) (λ v w a. refl) (local_busy t d i) local_same

local_depth : {plan : Plan} {k : Region plan} (n : ℕ) (d : DevId) → k.inside d.0 ≡ true → IsLocal plan k (set_depth n d)
local_depth n d i = local_device d (λ x. record x { depth = n }) i

local_last : {plan : Plan} {k : Region plan} (b : Bool) (d : DevId) → k.inside d.0 ≡ true → IsLocal plan k (set_last b d)
local_last b d i = local_device d (λ x. record x { last_active = b }) i

local_disables : {plan : Plan} {k : Region plan} (d : DevId) → k.inside d.0 ≡ true → IsLocal plan k (disables d)
local_disables d i = local_device d (λ x. record x { depth = x.depth + 1 }) i

local_setting : {plan : Plan} {k : Region plan} (b : Bool) (n : ℤ) (d : DevId) → k.inside d.0 ≡ true → IsLocal plan k (set_setting b n d)
local_setting b n d i = local_device d (λ x. record x { use_auto = b; delay = n }) i

local_ignores : {plan : Plan} {k : Region plan} (b : Bool) (d : DevId) → k.inside d.0 ≡ true → IsLocal plan k (set_ignores b d)
local_ignores b d i = local_device d (λ x. record x { ignores = b }) i

local_enables : {plan : Plan} {k : Region plan} (d : DevId) → k.inside d.0 ≡ true → IsLocal plan k (enables d)
unfolding enables
local_enables {plan} {k} d i =
    local_if (λ v. nat_eq (device v d).depth 1) (λ v. set_last false d (set_depth 0 d v)) (λ v. set_depth ((device v d).depth - 1) d v)
    (λ v w a. rw (device_agrees {plan = plan} {k = k} d a i) refl)
    (local_then (set_depth 0 d) (set_last false d) (local_depth 0 d i) (local_last false d i)) (local_device d (λ x. record x { depth = x.depth - 1 }) i)

-- a link of a pair whose consumer lies in another region
pub not_pair : {plan : Plan} (k l : Region plan) (c s : DevId) (row : LinkRow) → Apart plan k l → k.inside c.0 ≡ true → is_own_link l row ≡ true
    → is_of_pair c s row ≡ false
not_pair k l c s row apart i own = go (nat_eq row.consumer.0 c.0) refl
  where
    go : (b : Bool) → nat_eq row.consumer.0 c.0 ≡ b → b && nat_eq row.supplier.0 s.0 ≡ false
    go false e = refl
    go true e = absurd (false≢true (sym (apart.devices row.consumer.0 (ap k.inside (eqb-true row.consumer.0 c.0 e) ∙ i)) ∙ own))

local_present : {plan : Plan} {k : Region plan} (c s : DevId) (b : Bool) → k.inside c.0 ≡ true → IsLocal plan k (set_present plan c s b)
unfolding set_present
local_present {plan} {k} c s b i = record {
  keeps = λ v w a. present_anew _ _ a (by_map (is_own_link k) (λ p. if is_of_pair c s p.0 then b else p.1) plan.links v.present w.present a.present);
  spares = λ l v apart. present_anew _ _ (agree_refl plan l v) (by_aside (is_own_link l) (λ p. if is_of_pair c s p.0 then b else p.1) plan.links v.present (λ row x own. rw (not_pair k l c s row apart i own) refl));
  same_held = λ v. refl;
}

pub local_ended : {plan : Plan} {k : Region plan} (d : DevId) (c : ℤ) (t : ℕ) → k.inside d.0 ≡ true → IsLocal plan k (suspend_ended plan d c t)
unfolding suspend_ended
local_ended {plan} {k} d c t i =
    let marked = local_marks {plan = plan} {k = k} d t i in
    let put_off = local_then (callback_marks plan d t) (set_deferred false d) marked (local_deferred false d i) in
    local_if (λ v. int_eq c (pos 0)) (callback_marks plan d t) _ (λ v w a. refl) marked
    (local_if (λ v. is_try_again c) (λ v. set_deferred false d (callback_marks plan d t v)) _ (λ v w a. refl) put_off
    (local_then (λ v. set_deferred false d (callback_marks plan d t v)) (cancel d) put_off (local_cancel d i)))

-- a value that agreeing views give alike
local_read : {A : Type 0} {plan : Plan} {k : Region plan} (f : Views → A) (c : A → Views → Views) → ((v w : Views) → Agree plan k v w → f v ≡ f w)
    → ((x : A) → IsLocal plan k (c x)) → IsLocal plan k (λ v. c (f v) v)
local_read {A} {plan} {k} f c same each = record {
  keeps = λ v w a. subst (λ x. Agree plan k (c (f v) v) (c x w)) (same v w a) ((each (f v)).keeps v w a);
  spares = λ l v apart. (each (f v)).spares l v apart;
  same_held = λ v. (each (f v)).same_held v;
}

local_disables_busy : {plan : Plan} {k : Region plan} (d : DevId) → k.inside d.0 ≡ true → IsLocal plan k (disables_busy d)
local_disables_busy d i = local_then (disables d) (cancel_all d) (local_disables d i) (local_cancel_all d i)

local_keeps_status : {plan : Plan} {k : Region plan} (d : DevId) → k.inside d.0 ≡ true → IsLocal plan k (keeps_status d)
local_keeps_status {plan} {k} d i =
    local_read (λ v. is_active v d) (λ b v. set_last b d v) (λ v w a. rw (device_agrees {plan = plan} {k = k} d a i) refl) (λ b. local_last b d i)

local_at_once : {plan : Plan} {k : Region plan} (d : DevId) → k.inside d.0 ≡ true → IsLocal plan k (disabled_at_once d)
local_at_once {plan} {k} d i =
    local_read (λ v. is_active v d) (λ b v. set_last b d (disables_busy d v)) (λ v w a. rw (device_agrees {plan = plan} {k = k} d a i) refl)
    (λ b. local_then (disables_busy d) (set_last b d) (local_disables_busy d i) (local_last b d i))

-- each change that a row names is local to its device
pub change_local : {plan : Plan} {k : Region plan} (t : ℕ) (c : Change) → ChangeIn k c → IsLocal plan k (change_views plan t c)
change_local t change.Same i = local_same
change_local t (change.CancelRequest d) i = local_request Nothing d i
change_local t (change.Disarm d) i = local_disarm d i
change_local t (change.Cancel d) i = local_cancel d i
change_local t (change.CancelAll d) i = local_cancel_all d i
change_local t (change.ResumeCancel d) i = local_rcancel d i
change_local t (change.CallbackMarks d) i = local_marks d t i
change_local t (change.SuspendEnded d c) i = local_ended d c t i
change_local t (change.MarkBusy d) i = local_busy t d i
change_local t (change.Enable d) i = local_enables d i
change_local t (change.Disable d) i = local_disables d i
change_local t (change.DisableBusy d) i = local_disables_busy d i
change_local t (change.DisableAtOnce d) i = local_at_once d i
change_local t (change.KeepStatus d) i = local_keeps_status d i
change_local t (change.Set d use_auto delay) i = local_setting use_auto delay d i
change_local t (change.Ignore d ignores) i = local_ignores ignores d i
change_local t (change.Link consumer supplier present) i = local_present consumer supplier present i
