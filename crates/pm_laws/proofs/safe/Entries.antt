-- Which lines let a device enter, and which let it leave Active or Suspended.
use Rattle.std.proofs.Common.{ℕ, ◌≡◌, ◌⊎◌, inl, inr, Bool, true, false, not, ◌&&◌, Option, Some, None, ap, refl, arith, subst}
use Rattle.std.specs.Option.{unwrap_or}
use Rattle.pm_base.specs.declared.DevId.{DevId}
use Rattle.pm_base.specs.declared.Status.{Status}
use Rattle.pm_base.specs.declared.Status.TheVariants as status
use Rattle.pm_model.specs.declared.event.Event.{Event}
use Rattle.pm_model.specs.declared.event.Event.TheVariants as event
use Rattle.pm_model.specs.declared.event.Word.{Word}
use Rattle.pm_model.specs.declared.event.Word.TheVariants as word
use Rattle.pm_model.specs.declared.plan.Plan.{Plan}
use Rattle.pm_model.specs.Counted.{is_same}
use Rattle.pm_model.specs.Derived.{is_active, is_moving, is_active_status, is_suspended_status, awaits_parent}
use Rattle.pm_model.specs.Excuse.{is_entry, forces}
use Rattle.pm_model.specs.PlanRows.{no_callbacks}
use Rattle.pm_model.specs.Views.{Views, device}
use Rattle.pm_laws.specs.counts.Sums.{one}
use Rattle.pm_laws.proofs.stacks.Tests.{front, rear}
use Rattle.pm_laws.specs.safe.Parts.{Phase, giving, falling, unsetting, counts, any_phase, passes}
use Rattle.pm_laws.specs.safe.Kinds.{Kind, keeps, begins_suspend, fails_suspend, suspends, suspends_quiet, resumes_quiet, enters, sets_active, resumes, forces_again, forces_bare, forces_held, forces_off, adds_link, drops_link, dev_of, from, to, old, turn, turned, says, is_silent, is_owners_word, lets_go, EventIs, MayRest, Guard}
use Rattle.pm_laws.specs.safe.Needs.{needs_parent}
use Rattle.pm_laws.proofs.safe.Refusals.{rests_so}
use Rattle.pm_laws.proofs.safe.Steps.{differ, same_is, Least, IsNeed, least_own, Owned, alone, own_one, forced}

pub parent_needs : IsNeed needs_parent
parent_needs = record { suspending = refl; ready = refl; resuming = refl; resumed = refl; lets_go = apart; falls = record { refuses = omega arith; unsets = omega arith } }
  where
    apart : (x : Phase) → lets_go x ≡ true → needs_parent x ≡ false
    apart giving e = refl
    apart falling e = refl
    apart unsetting e = refl
    apart _ e = cc

-- a device begins to need its parent only as it enters
pub parent_least : (plan : Plan) (v : Views) (c : DevId) (k : Kind) (e : Event) → EventIs k e → Guard plan v k → is_entry plan v c e ≡ false
    → is_same c (dev_of k) ≡ true → Least needs_parent k (device v c).status
parent_least plan v c (resumes_quiet d) e is g silent m =
    let u : is_same c d && no_callbacks plan c ≡ false = rw is at silent in
    let quiet : no_callbacks plan c ≡ true = subst (λ x. no_callbacks plan x ≡ true) (same_is c d m) g.0 in
    let k : true && true ≡ false = rw (m, quiet) at u in cc
parent_least plan v c (enters d) e is g silent m = let u : is_same c d && true ≡ false = rw is at silent in let k : true && true ≡ false = rw m at u in cc
parent_least plan v c (forces_bare d) e is g silent m =
    let u : is_same c d && not (is_active_status (device v c).status) ≡ false = rw is at silent in omega (arith, ap one (forced (is_same c d) (device v c).status u m))
parent_least plan v c (forces_held d) e is g silent m =
    let u : is_same c d && not (is_active_status (device v c).status) ≡ false = rw is at silent in omega (arith, ap one (forced (is_same c d) (device v c).status u m))
parent_least plan v c k e is g silent m = least_own plan v needs_parent k c parent_needs g refl m

-- a device whose status changes in a test is the line's
own_change : (test : Status → Bool) (o : Option Status) (m : Bool) (st : Status) → test st ≡ true → test (unwrap_or (turned o m) st) ≡ false
    → (m ≡ true) × (test (unwrap_or o st) ≡ false)
own_change test None m st up down = differ up down
own_change test (Some s) true st up down = (refl, down)
own_change test (Some s) false st up down = differ up down

inactive : (st : Status) → is_suspended_status st ≡ true → is_active_status st ≡ false
inactive status.Suspended e = refl
inactive status.Active e = cc
inactive status.Suspending e = cc
inactive status.Resuming e = cc

-- a device leaves Active only where it may rest, or by force
own_leaves : (plan : Plan) (v : Views) (p : DevId) (k : Kind) (e : Event) (y : ℕ) → EventIs k e → Guard plan v k → Owned (device v p).status (counts any_phase p (old k)) y
    → is_same p (dev_of k) ≡ true → is_active v p ≡ true → is_active_status (unwrap_or (turn k) (device v p).status) ≡ false → MayRest plan v p ⊎ (forces p e ≡ true)
own_leaves plan v p (begins_suspend d) e y is g own m up down = inl (subst (MayRest plan v) (same_is p d m) g)
own_leaves plan v p (suspends_quiet d) e y is g own m up down = inl (subst (MayRest plan v) (same_is p d m) g.1)
own_leaves plan v p (suspends d w x) e y is g own m up down = differ up (alone (device v p).status _ y y (own_one (suspends d w x) p x refl m) own (omega arith)).inactive
own_leaves plan v p (enters d) e y is g own m up down = differ up (subst (λ x. is_active v x ≡ false) (same_is p d m) g.2)
own_leaves plan v p (sets_active d) e y is g own m up down = differ up (subst (λ x. is_active v x ≡ false) (same_is p d m) g.1)
own_leaves plan v p (forces_off d) e y is g own m up down = inr (rw (is, m) refl)
own_leaves plan v p (fails_suspend d c) e y is g own m up down = cc
own_leaves plan v p (resumes_quiet d) e y is g own m up down = cc
own_leaves plan v p (resumes d) e y is g own m up down = cc
own_leaves plan v p (forces_again d) e y is g own m up down = cc
own_leaves plan v p (forces_bare d) e y is g own m up down = cc
own_leaves plan v p (forces_held d) e y is g own m up down = cc
own_leaves plan v p _ e y is g own m up down = differ up down

pub leaves : (plan : Plan) (v : Views) (p : DevId) (k : Kind) (e : Event) (y : ℕ) → EventIs k e → Guard plan v k → Owned (device v p).status (counts any_phase p (old k)) y
    → is_active v p ≡ true → is_active_status (unwrap_or (says k p) (device v p).status) ≡ false → MayRest plan v p ⊎ (forces p e ≡ true)
leaves plan v p k e y is g own up down =
    let change = own_change is_active_status (turn k) (is_same p (dev_of k)) (device v p).status up down in
    own_leaves plan v p k e y is g own change.0 up change.1

-- a device leaves Suspended only as it enters
own_wakes : (plan : Plan) (v : Views) (c : DevId) (k : Kind) (e : Event) (y : ℕ) → EventIs k e → Guard plan v k → Owned (device v c).status (counts any_phase c (old k)) y
    → is_same c (dev_of k) ≡ true → is_suspended_status (device v c).status ≡ true → is_suspended_status (unwrap_or (turn k) (device v c).status) ≡ false → is_entry plan v c e ≡ true
own_wakes plan v c (begins_suspend d) e y is g own m up down =
    differ (subst (λ x. is_active v x ≡ true) (same_is c d m) (rests_so plan v d g).active) (inactive (device v c).status up)
own_wakes plan v c (fails_suspend d x) e y is g own m up down = differ up (alone (device v c).status _ y y (own_one (fails_suspend d x) c _ refl m) own (omega arith)).awake
own_wakes plan v c (resumes d) e y is g own m up down = differ up (alone (device v c).status _ y y (own_one (resumes d) c _ refl m) own (omega arith)).awake
own_wakes plan v c (resumes_quiet d) e y is g own m up down = let quiet : no_callbacks plan c ≡ true = subst (λ x. no_callbacks plan x ≡ true) (same_is c d m) g.0 in rw (is, m, quiet) refl
own_wakes plan v c (enters d) e y is g own m up down = rw (is, m) refl
own_wakes plan v c (sets_active d) e y is g own m up down = rw (is, m) refl
own_wakes plan v c (forces_again d) e y is g own m up down = differ (subst (λ x. is_active v x ≡ true) (same_is c d m) g) (inactive (device v c).status up)
own_wakes plan v c (forces_bare d) e y is g own m up down = rw (is, m, inactive (device v c).status up) refl
own_wakes plan v c (forces_held d) e y is g own m up down = rw (is, m, inactive (device v c).status up) refl
own_wakes plan v c (suspends d w x) e y is g own m up down = cc
own_wakes plan v c (suspends_quiet d) e y is g own m up down = cc
own_wakes plan v c (forces_off d) e y is g own m up down = cc
own_wakes plan v c _ e y is g own m up down = differ up down

pub wakes : (plan : Plan) (v : Views) (c : DevId) (k : Kind) (e : Event) (y : ℕ) → EventIs k e → Guard plan v k → Owned (device v c).status (counts any_phase c (old k)) y
    → is_suspended_status (device v c).status ≡ true → is_suspended_status (unwrap_or (says k c) (device v c).status) ≡ false → is_entry plan v c e ≡ true
wakes plan v c k e y is g own up down =
    let change = own_change is_suspended_status (turn k) (is_same c (dev_of k)) (device v c).status up down in
    own_wakes plan v c k e y is g own change.0 up change.1

-- a device that begins to be set Active needs no parent yet
pub record Setting (v : Views) (c : DevId) (k : Kind) : Type 0 where
  pub own : is_same c (dev_of k) ≡ true
  pub stands : is_moving v c ≡ false
  pub turns : turn k ≡ Some status.Resuming
  pub starts : from k ≡ None
  pub light : passes needs_parent (to k) ≡ 0

silent_entry : (plan : Plan) (v : Views) (c : DevId) (e : Event) → is_silent e ≡ true → is_entry plan v c e ≡ false
silent_entry plan v c (event.State x w) s = cc
silent_entry plan v c _ s = refl

owners_entry : (plan : Plan) (v : Views) (c d : DevId) (w : Word) → is_owners_word w ≡ true → is_entry plan v c (event.State d w) ≡ true → ⊥
owners_entry plan v c d word.Suspended e q = let k : false ≡ true = rear (is_same c d) false q in cc
owners_entry plan v c d word.Deferred e q = let k : false ≡ true = rear (is_same c d) false q in cc
owners_entry plan v c d _ e q = cc

-- an entry finds the parent Active, or not minded; or it begins to set the device Active
pub entry_kind : (plan : Plan) (v : Views) (c : DevId) (k : Kind) (e : Event) → EventIs k e → Guard plan v k → is_entry plan v c e ≡ true
    → (counts any_phase c (old k) ≡ 1 → no_callbacks plan c ≡ false) → (awaits_parent plan v c ≡ false) ⊎ Setting v c k
entry_kind plan v c (enters d) e is g entry calls =
    let u : is_same c d && true ≡ true = rw is at entry in inl (subst (λ x. awaits_parent plan v x ≡ false) (same_is c d (front _ _ u)) g.1)
entry_kind plan v c (resumes_quiet d) e is g entry calls =
    let u : is_same c d && no_callbacks plan c ≡ true = rw is at entry in inl (subst (λ x. awaits_parent plan v x ≡ false) (same_is c d (front _ _ u)) g.2)
entry_kind plan v c (forces_bare d) e is g entry calls =
    let u : is_same c d && not (is_active v c) ≡ true = rw is at entry in inl (subst (λ x. awaits_parent plan v x ≡ false) (same_is c d (front _ _ u)) g.2)
entry_kind plan v c (forces_held d) e is g entry calls =
    let u : is_same c d && not (is_active v c) ≡ true = rw is at entry in inl (subst (λ x. awaits_parent plan v x ≡ false) (same_is c d (front _ _ u)) g.1)
entry_kind plan v c (forces_again d) e is g entry calls =
    let u : is_same c d && not (is_active v c) ≡ true = rw is at entry in
    let up : is_active v c ≡ true = subst (λ x. is_active v x ≡ true) (same_is c d (front _ _ u)) g in
    let k : not true ≡ true = rw up at (rear (is_same c d) (not (is_active v c)) u) in cc
entry_kind plan v c (resumes d) e is g entry calls =
    let u : is_same c d && no_callbacks plan c ≡ true = rw is at entry in differ (rear (is_same c d) _ u) (calls (own_one (resumes d) c _ refl (front _ _ u)))
entry_kind plan v c (sets_active d) e is g entry calls =
    let u : is_same c d && true ≡ true = rw is at entry in
    let m = front _ _ u in
    inr (record { own = m; stands = subst (λ x. is_moving v x ≡ false) (same_is c d m) g.0; turns = refl; starts = refl; light = refl })
entry_kind plan v c (suspends d w x) e is g entry calls = let u : is_entry plan v c (event.State d w) ≡ true = rw is at entry in absurd (owners_entry plan v c d w g.1 u)
entry_kind plan v c (suspends_quiet d) e is g entry calls = let u : is_same c d && false ≡ true = rw is at entry in let k : false ≡ true = rear (is_same c d) false u in cc
entry_kind plan v c (forces_off d) e is g entry calls = let u : is_same c d && false ≡ true = rw is at entry in let k : false ≡ true = rear (is_same c d) false u in cc
entry_kind plan v c (keeps d x) e is g entry calls = differ entry (silent_entry plan v c e is)
entry_kind plan v c (adds_link d s) e is g entry calls = differ entry (silent_entry plan v c e is)
entry_kind plan v c (drops_link d s) e is g entry calls = differ entry (silent_entry plan v c e is)
entry_kind plan v c _ e is g entry calls = let u : false ≡ true = rw is at entry in cc
