-- Nothing keeps a device from suspending exactly where its suspend begins at once.
use Rattle.std.proofs.Common.{ℕ, suc, ◌≡◌, ◌+◌, ◌<◌, Bool, true, false, cond, not, ◌&&◌, List, [], ◌∷◌, ◌++◌, Some, ℤ, pos, length, length-append, map, nat_lt, slice_get, slice_index_or, if◌then◌else◌, ap, refl, sym, ◌∙◌, arith}
use Rattle.std.specs.List.{count_by, enumerate_from, zip}
use Rattle.std.specs.Ordering.{int_eq}
use Rattle.std.proofs.lemmas.Bool.{ltb-false}
use Rattle.std.proofs.lemmas.List.{length-map}
use Rattle.std.proofs.lemmas.List.Sums.{length-filter, sum_by-cons}
use Rattle.std.proofs.lemmas.Option.{get_or_from_slice_get}
use Rattle.pm_base.specs.declared.Cb.TheVariants as cb
use Rattle.pm_base.specs.declared.DevId.{DevId}
use Rattle.pm_base.specs.declared.Status.{Status}
use Rattle.pm_base.specs.declared.Status.TheVariants as status
use Rattle.pm_base.specs.declared.codes.TheConstants.{EAGAIN, EACCES, EBUSY, EINPROGRESS, EINVAL}
use Rattle.pm_model.specs.declared.event.Event.{Event}
use Rattle.pm_model.specs.declared.event.Event.TheVariants as event
use Rattle.pm_model.specs.declared.event.Word.TheVariants as word
use Rattle.pm_model.specs.declared.plan.Plan.{Plan}
use Rattle.pm_model.specs.declared.rows.DeviceRow.{DeviceRow}
use Rattle.pm_model.specs.declared.views.Device.{Device}
use Rattle.pm_model.specs.Derived.{asks_resume, children, first_of, has, has_children, has_error, is_active, is_active_status, is_counted_child, is_disabled, is_in_use, is_resuming, is_resuming_status, is_suspended, is_suspended_status, is_suspending, is_suspending_status, refusal}
use Rattle.pm_model.specs.History.{History}
use Rattle.pm_model.specs.Lawful.{IsLawful}
use Rattle.pm_model.specs.PlanRows.{no_callbacks, parent}
use Rattle.pm_model.specs.Row.{Row}
use Rattle.pm_model.specs.SuspendTable.{suspend_verdict}
use Rattle.pm_model.specs.Views.{Views, device, fresh_device, pending_of}
use Rattle.pm_model.specs.World.{world}
use Rattle.pm_laws.specs.counts.Sums.{one}
use Rattle.pm_laws.proofs.counts.Runs.{lawful_holds}
use Rattle.pm_why.specs.declared.gets.Count.{Count}
use Rattle.pm_why.specs.declared.Reason.{Reason}
use Rattle.pm_why.specs.declared.Reason.TheVariants as reason
use Rattle.pm_why.specs.OpenGets.{open_gets}
use Rattle.pm_why.specs.Reasons.{child_reasons, count_reasons, counted_children, devices_of, error_line, is_child, line_of, reasons, reasons_on, suspend_line, when}
use Rattle.pm_why.proofs.UsageLemmas.{length_is}

-- no test of the refusal holds, and the device is Active
record IsFree (plan : Plan) (v : Views) (d : DevId) : Type 0 where
  error : has_error v d ≡ false
  depth : is_disabled v d ≡ false
  usage : is_in_use v d ≡ false
  children : has_children plan v d ≡ false
  deferred : is_suspending v d && (pending_of v d).deferred ≡ false
  request : asks_resume v d ≡ false
  active : is_active v d ≡ true

active_only : (s : Status) → is_active_status s ≡ true → (is_suspended_status s ≡ false) × (is_suspending_status s ≡ false) × (is_resuming_status s ≡ false)
active_only status.Active e = (refl, refl, refl)
active_only status.Suspended e = cc
active_only status.Suspending e = cc
active_only status.Resuming e = cc

still_active : (s : Status) → is_suspended_status s ≡ false → is_suspending_status s ≡ false → is_resuming_status s ≡ false → is_active_status s ≡ true
still_active status.Active a b c = refl
still_active status.Suspended a b c = cc
still_active status.Suspending a b c = cc
still_active status.Resuming a b c = cc

-- the tests of the refusal
free_refusal : (plan : Plan) (v : Views) (d : DevId) → IsFree plan v d → refusal plan v d ≡ pos 0
unfolding refusal
free_refusal plan v d free =
    let other = active_only (device v d).status free.active in
    rw (free.error, free.depth, free.usage, free.children, free.deferred, free.request, other.0) refl

free_tests : (a b c e f g s : Bool)
    → int_eq (first_of ((a, EINVAL) ∷ (b, EACCES) ∷ (c, EAGAIN) ∷ (e, EBUSY) ∷ (f, EAGAIN) ∷ (g, EAGAIN) ∷ (s, pos 1) ∷ []) (pos 0)) (pos 0) ≡ true
    → (a ≡ false) × (b ≡ false) × (c ≡ false) × (e ≡ false) × (f ≡ false) × (g ≡ false) × (s ≡ false)
free_tests true b c e f g s is = cc
free_tests false true c e f g s is = cc
free_tests false false true e f g s is = cc
free_tests false false false true f g s is = cc
free_tests false false false false true g s is = cc
free_tests false false false false false true s is = cc
free_tests false false false false false false true is = cc
free_tests false false false false false false false is = (refl, refl, refl, refl, refl, refl, refl)

-- a free device is suspended at once
chosen : (b : Bool) (x y : Row) (e f : Event) → line_of x ≡ Some e → line_of y ≡ Some f → line_of (if b then x else y) ≡ Some (if b then e else f)
chosen true x y e f p q = p
chosen false x y e f p q = q

begins_at_once : (plan : Plan) (v : Views) (d : DevId) (t : ℕ) → IsFree plan v d → line_of (suspend_verdict plan v d 0 t) ≡ Some (suspend_line plan d)
unfolding suspend_verdict has
begins_at_once plan v d t free =
    let other = active_only (device v d).status free.active in
    rw (free_refusal plan v d free, other.1, other.2) (chosen (no_callbacks plan d) _ _ _ _ refl refl)

-- and a device that is suspended at once is free
record Says (e : Event) (r : Row) : Type 0 where
  said : line_of r ≡ Some e

skipped : {e : Event} (x y : Row) (b : Bool) → Says e (if b then x else y) → (line_of x ≡ Some e → ⊥) → (b ≡ false) × Says e y
skipped x y true says none = absurd (none says.said)
skipped x y false says none = (refl, says)

no_return : (plan : Plan) (d : DevId) (c : ℤ) → Some (event.Return cb.Suspend d c) ≡ Some (suspend_line plan d) → ⊥
no_return plan d c is = go (no_callbacks plan d) is
  where
    go : (b : Bool) → Some (event.Return cb.Suspend d c) ≡ Some (if b then event.State d word.Suspended else event.Begin d cb.Suspend) → ⊥
    go true is = cc
    go false is = cc

no_wait : (plan : Plan) (d : DevId) → Some (event.Wait d) ≡ Some (suspend_line plan d) → ⊥
no_wait plan d is = go (no_callbacks plan d) is
  where
    go : (b : Bool) → Some (event.Wait d) ≡ Some (if b then event.State d word.Suspended else event.Begin d cb.Suspend) → ⊥
    go true is = cc
    go false is = cc

and_true : (b : Bool) → b && true ≡ false → b ≡ false
and_true true e = e
and_true false e = refl

not_false : (b : Bool) → not b ≡ false → b ≡ true
not_false true e = refl
not_false false e = cc

record Begins (plan : Plan) (v : Views) (d : DevId) : Type 0 where
  refused : int_eq (refusal plan v d) (pos 0) ≡ true
  resuming : is_resuming v d ≡ false
  suspending : is_suspending v d ≡ false

begun : (plan : Plan) (v : Views) (d : DevId) (t : ℕ) → Says (suspend_line plan d) (suspend_verdict plan v d 0 t) → Begins plan v d
unfolding suspend_verdict has
begun plan v d t says =
    let first = skipped _ _ (not (int_eq (refusal plan v d) (pos 0))) says (no_return plan d (refusal plan v d)) in
    let second = skipped _ _ (is_resuming v d && true) first.1 (no_return plan d EAGAIN) in
    let third = skipped _ _ (is_suspending v d && false) second.1 (no_return plan d EINPROGRESS) in
    let fourth = skipped _ _ (is_suspending v d) third.1 (no_wait plan d) in
    record { refused = not_false _ first.0; resuming = and_true _ second.0; suspending = fourth.0 }

free_where_it_begins : (plan : Plan) (v : Views) (d : DevId) (t : ℕ) → line_of (suspend_verdict plan v d 0 t) ≡ Some (suspend_line plan d) → IsFree plan v d
unfolding refusal
free_where_it_begins plan v d t begins =
    let it = begun plan v d t (record { said = begins }) in
    let tests = free_tests (has_error v d) (is_disabled v d) (is_in_use v d) (has_children plan v d) (is_suspending v d && (pending_of v d).deferred) (asks_resume v d) (is_suspended v d) it.refused in
    record {
      error = tests.0;
      depth = tests.1;
      usage = tests.2;
      children = tests.3;
      deferred = tests.4;
      request = tests.5;
      active = still_active (device v d).status tests.6 it.suspending it.resuming;
    }

-- how many reasons there are
when_length : (b : Bool) (r : Reason) → length (when b r) ≡ one b
when_length true r = refl
when_length false r = refl

lengths : (plan : Plan) (v : Views) (h : History) (d : DevId)
    → length (reasons_on plan v h d) ≡ one (has_error v d) + one (is_disabled v d) + length (open_gets h d) + length (child_reasons plan v d) + one (is_suspending v d && (pending_of v d).deferred) + one (asks_resume v d) + one (not (is_active v d))
lengths plan v h d =
    let a = when (has_error v d) (reason.Error (device v d).error (error_line h d)) in
    let b = when (is_disabled v d) (reason.Depth (device v d).depth) in
    let c = count_reasons h d in
    let e = child_reasons plan v d in
    let f = when (is_suspending v d && (pending_of v d).deferred) reason.Deferred in
    let g = when (asks_resume v d) reason.Request in
    let s = when (not (is_active v d)) (reason.State (device v d).status) in
    omega (
      arith,
      length-append (a ++ b ++ c ++ e ++ f ++ g) s,
      length-append (a ++ b ++ c ++ e ++ f) g,
      length-append (a ++ b ++ c ++ e) f,
      length-append (a ++ b ++ c) e,
      length-append (a ++ b) c,
      length-append a b,
      when_length (has_error v d) (reason.Error (device v d).error (error_line h d)),
      when_length (is_disabled v d) (reason.Depth (device v d).depth),
      length-map (open_gets h d) (λ (count : Count). reason.Count count.why count.line),
      when_length (is_suspending v d && (pending_of v d).deferred) reason.Deferred,
      when_length (asks_resume v d) reason.Request,
      when_length (not (is_active v d)) (reason.State (device v d).status),
    )

-- the children that count
counted_at : (f : DevId → Bool) (t : DeviceRow × Device → Bool) (rows : List DeviceRow) (xs : List Device) (i : ℕ) → length rows ≡ length xs
    → ((k : ℕ) (row : DeviceRow) (x : Device) → slice_get rows k ≡ Some row → slice_get xs k ≡ Some x → f (record { 0 = i + k }) ≡ t (row, x))
    → count_by f (map (λ p. record { 0 = p.0 }) (enumerate_from i rows)) ≡ count_by t (zip rows xs)
counted_at f t [] xs i same each = refl
counted_at f t (row ∷ rows) [] i same each = absurd (omega arith)
counted_at f t (row ∷ rows) (x ∷ xs) i same each =
    let here : one (f (record { 0 = i })) ≡ one (t (row, x)) = ap (λ n. one (f (record { 0 = n }))) (omega arith) ∙ ap one (each 0 row x refl refl) in
    let later = counted_at f t rows xs (i + 1) (omega arith) (λ k r y rows_k xs_k. ap (λ n. f (record { 0 = n })) (omega arith) ∙ each (suc k) r y rows_k xs_k) in
    omega (
      arith,
      sum_by-cons (λ (c : DevId). cond (f c) 1 0) (record { 0 = i }) (map (λ (p : ℕ × DeviceRow). record { 0 = p.0 }) (enumerate_from (i + 1) rows)),
      sum_by-cons (λ (q : DeviceRow × Device). cond (t q) 1 0) (row, x) (zip rows xs),
    )

child_at : (plan : Plan) (v : Views) (d : DevId) (k : ℕ) (row : DeviceRow) (x : Device) → slice_get plan.devices k ≡ Some row → slice_get v.devices k ≡ Some x
    → is_child plan v d (record { 0 = 0 + k }) ≡ is_counted_child d row x
unfolding parent
child_at plan v d k row x of_plan of_views =
    let entry : slice_index_or v.devices k fresh_device ≡ x = get_or_from_slice_get v.devices k x fresh_device of_views in
    let at_k : 0 + k ≡ k = omega arith in
    rw (at_k, of_plan, entry) refl

counted : (plan : Plan) (v : Views) (d : DevId) → length v.devices ≡ length plan.devices → length (counted_children plan v d) ≡ children plan v d
unfolding children
counted plan v d entries =
    length-filter (is_child plan v d) (devices_of plan)
    ∙ counted_at (is_child plan v d) (λ q. is_counted_child d q.0 q.1) plan.devices v.devices 0 (sym entries) (child_at plan v d)

children_none : (ignores : Bool) (l : List DevId) (n : ℕ) → length l ≡ n → length (if ignores then [] else map reason.Child l) ≡ 0 → nat_lt 0 n && not ignores ≡ false
children_none true l n is none = and_off (nat_lt 0 n)
  where
    and_off : (b : Bool) → b && false ≡ false
    and_off true = refl
    and_off false = refl
children_none false l n is none = let zero : n ≡ 0 = omega (arith, length-map l reason.Child) in rw zero refl

none_children : (ignores : Bool) (l : List DevId) (n : ℕ) → length l ≡ n → nat_lt 0 n && not ignores ≡ false → length (if ignores then [] else map reason.Child l) ≡ 0
none_children true l n is none = refl
none_children false l n is none =
    let few = ltb-false 0 n (and_true (nat_lt 0 n) none) in omega (arith, length-map l reason.Child)

off_one : (b : Bool) → one b ≡ 0 → b ≡ false
off_one true e = absurd (omega arith)
off_one false e = refl

empty : {A : Type 0} (l : List A) → length l ≡ 0 → l ≡ []
empty [] e = refl
empty (x ∷ l) e = absurd (omega arith)

-- nothing keeps it exactly where it is free
free_if_none : (plan : Plan) (h : History) (d : DevId) → IsLawful plan h → d.0 < length plan.devices → reasons plan h d ≡ [] → IsFree plan (world plan h).views d
free_if_none plan h d lawful within none =
    let v = (world plan h).views in
    let entries = (lawful_holds plan h lawful).entries.devices in
    let all = lengths plan v h d in
    let zero : length (reasons plan h d) ≡ 0 = ap length none in
    let unused : (device v d).usage ≡ 0 = omega (arith, length_is plan h d lawful within) in
    record {
      error = off_one (has_error v d) (omega arith);
      depth = off_one (is_disabled v d) (omega arith);
      usage = rw unused refl;
      children = children_none (device v d).ignores (counted_children plan v d) (children plan v d) (counted plan v d entries) (omega arith);
      deferred = off_one (is_suspending v d && (pending_of v d).deferred) (omega arith);
      request = off_one (asks_resume v d) (omega arith);
      active = not_false (is_active v d) (off_one (not (is_active v d)) (omega arith));
    }

none_if_free : (plan : Plan) (h : History) (d : DevId) → IsLawful plan h → d.0 < length plan.devices → IsFree plan (world plan h).views d → reasons plan h d ≡ []
none_if_free plan h d lawful within free =
    let v = (world plan h).views in
    let entries = (lawful_holds plan h lawful).entries.devices in
    let few = ltb-false 0 (device v d).usage free.usage in
    let active : one (not (is_active v d)) ≡ 0 = ap (λ b. one (not b)) free.active in
    empty (reasons plan h d) (
    omega (
      arith,
      lengths plan v h d,
      length_is plan h d lawful within,
      ap one free.error,
      ap one free.depth,
      none_children (device v d).ignores (counted_children plan v d) (children plan v d) (counted plan v d entries) free.children,
      ap one free.deferred,
      ap one free.request,
    ))

pub free_begins : (plan : Plan) (h : History) (d : DevId) (t : ℕ) → IsLawful plan h → d.0 < length plan.devices → reasons plan h d ≡ []
    → line_of (suspend_verdict plan (world plan h).views d 0 t) ≡ Some (suspend_line plan d)
free_begins plan h d t lawful within none = begins_at_once plan (world plan h).views d t (free_if_none plan h d lawful within none)

pub begins_free : (plan : Plan) (h : History) (d : DevId) (t : ℕ) → IsLawful plan h → d.0 < length plan.devices
    → line_of (suspend_verdict plan (world plan h).views d 0 t) ≡ Some (suspend_line plan d) → reasons plan h d ≡ []
begins_free plan h d t lawful within begins = none_if_free plan h d lawful within (free_where_it_begins plan (world plan h).views d t begins)
