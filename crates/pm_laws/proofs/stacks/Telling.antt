-- What a row tells and leaves: devices, flags, codes and times are the plan's.
use Rattle.std.proofs.Common.{ℕ, ◌≡◌, ◌≤◌, Bool, true, false, List, [], ◌∷◌, Option, Some, None, ℤ, pos, int_le, length, nat_lt, bit_or, if◌then◌else◌, refl, arith}
use Rattle.std.specs.Option.{option_map_or}
use Rattle.std.proofs.lemmas.Bool.{and_from, lt-ltb, ltb-true}
use Rattle.std.proofs.lemmas.Nat.{or_lt}
use Rattle.pm_base.specs.declared.Cb.{Cb}
use Rattle.pm_base.specs.declared.Cb.TheVariants as cb
use Rattle.pm_base.specs.declared.DevId.{DevId}
use Rattle.pm_base.specs.declared.Req.TheVariants as req
use Rattle.pm_base.specs.declared.Why.{Why}
use Rattle.pm_base.specs.declared.Why.TheVariants as why
use Rattle.pm_base.specs.declared.codes.TheConstants.{AUTO}
use Rattle.pm_model.specs.declared.event.Event.{Event}
use Rattle.pm_model.specs.declared.event.Event.TheVariants as event
use Rattle.pm_model.specs.declared.event.Fields.{Fields}
use Rattle.pm_model.specs.declared.event.WorkAct.TheVariants.{Queue}
use Rattle.pm_model.specs.declared.plan.Plan.{Plan}
use Rattle.pm_model.specs.declared.stage.Change.{Change}
use Rattle.pm_model.specs.declared.stage.Change.TheVariants as change
use Rattle.pm_model.specs.declared.stage.IdleStage.TheVariants as idle
use Rattle.pm_model.specs.declared.stage.ResumeStage.TheVariants as resume
use Rattle.pm_model.specs.declared.stage.Stage.{Stage}
use Rattle.pm_model.specs.declared.stage.Stage.TheVariants as stage
use Rattle.pm_model.specs.declared.stage.SuspendStage.TheVariants as suspend
use Rattle.pm_model.specs.Derived.{callback_code, fields, has, refusal}
use Rattle.pm_model.specs.IsPlan.{is_code, is_command}
use Rattle.pm_model.specs.LineOf.{is_device_of, is_why_of, is_work_line}
use Rattle.pm_model.specs.SuspendTable.{suspend_request}
use Rattle.pm_model.specs.Views.{Views}
use Rattle.pm_model.specs.WellFormed.{device_of, is_in}
use Rattle.pm_laws.specs.stacks.Fit.{IsTold, code_at, flags_at, is_delay, is_result, since_at}
use Rattle.pm_laws.specs.stacks.Shape.{IsLink}
use Rattle.pm_laws.proofs.stacks.Codes.{callback_is_code}
use Rattle.pm_laws.proofs.stacks.Obeying.{Duty}
use Rattle.pm_laws.proofs.stacks.Tests.{front, rear}

-- of an open stage, all that needs no other
abbrev pub IsSound : Plan → Views → ℕ → Stage → Type 0
IsSound plan v last s =
    (option_map_or (is_in (length plan.devices)) (device_of s) true ≡ true) × (nat_lt (flags_at s) 16 ≡ true) × (is_result (code_at s) ≡ true) × (since_at s ≤ last) × IsTold plan v s

-- a stage that begins to run does so with its callback's begin line; every other is told as it is
abbrev pub Begins : Plan → Views → Event → Stage → Type 0
Begins plan v e (stage.Idle (idle.Running d f since)) = e ≡ event.Begin d cb.Idle
Begins plan v e (stage.Suspend (suspend.Running d f since)) = e ≡ event.Begin d cb.Suspend
Begins plan v e (stage.Resume (resume.Running r since)) = e ≡ event.Begin r.dev cb.Resume
Begins plan v e s = IsTold plan v s

-- a stage that a line at t leaves on top
abbrev pub IsFresh : Plan → Views → ℕ → Event → Stage → Type 0
IsFresh plan v t e s =
    (option_map_or (is_in (length plan.devices)) (device_of s) true ≡ true) × (nat_lt (flags_at s) 16 ≡ true) × (is_result (code_at s) ≡ true) × (since_at s ≤ t) × Begins plan v e s

abbrev pub AreFresh : Plan → Views → ℕ → Event → List Stage → Type 0
AreFresh plan v t e [] = Unit {0}
AreFresh plan v t e (s ∷ rest) = IsFresh plan v t e s × AreFresh plan v t e rest

abbrev pub LeavesFit : Plan → Views → ℕ → Event → Option ℤ → List Stage → Type 0
LeavesFit plan v t e None push = AreFresh plan v t e push
LeavesFit plan v t e (Some c) push = is_result c ≡ true

-- a count of a link is one of a runtime link of the plan
abbrev pub IsGot : Plan → DevId → Why → Type 0
IsGot plan s (why.Link d) = (l : ℕ) × IsLink plan l d s
IsGot plan s w = is_why_of (length plan.devices) w ≡ true

-- the event is of the plan's devices, flags and codes
abbrev pub IsTelling : Plan → Event → Type 0
IsTelling plan (event.Call c) = is_command (length plan.devices) c ≡ true
IsTelling plan (event.Ret h d c) = (is_device_of (length plan.devices) h d ≡ true) × (is_result c ≡ true)
IsTelling plan (event.Get d w) = (is_in (length plan.devices) d ≡ true) × IsGot plan d w
IsTelling plan (event.Put d w) = (is_in (length plan.devices) d ≡ true) × (is_why_of (length plan.devices) w ≡ true)
IsTelling plan (event.Usage d x) = (is_in (length plan.devices) d ≡ true) × (nat_lt x.flags 16 ≡ true)
IsTelling plan (event.Idle d x) = (is_in (length plan.devices) d ≡ true) × (nat_lt x.flags 16 ≡ true)
IsTelling plan (event.Suspend d x) = (is_in (length plan.devices) d ≡ true) × (nat_lt x.flags 16 ≡ true)
IsTelling plan (event.Resume d x) = (is_in (length plan.devices) d ≡ true) × (nat_lt x.flags 16 ≡ true)
IsTelling plan (event.Return k d c) = (is_in (length plan.devices) d ≡ true) × (is_result c ≡ true)
IsTelling plan (event.Wait d) = is_in (length plan.devices) d ≡ true
IsTelling plan (event.State d w) = is_in (length plan.devices) d ≡ true
IsTelling plan (event.Begin d k) = is_in (length plan.devices) d ≡ true
IsTelling plan (event.End d k c) = (is_in (length plan.devices) d ≡ true) × (is_result c ≡ true)
IsTelling plan (event.Domain d is_up n) = is_in (length plan.devices) d ≡ true
IsTelling plan (event.Work d act) = (is_in (length plan.devices) d ≡ true) × (is_work_line act ≡ true)
IsTelling plan (event.Timer d act) = is_in (length plan.devices) d ≡ true

-- the change is of one of the plan's devices, and a setting is one that a command may name
abbrev pub IsChanging : Plan → Change → Type 0
IsChanging plan change.Same = Unit {0}
IsChanging plan (change.Link consumer supplier present) = Unit {0}
IsChanging plan (change.Set d use_auto delay) = (is_in (length plan.devices) d ≡ true) × (is_delay delay ≡ true)
IsChanging plan (change.CancelRequest d) = is_in (length plan.devices) d ≡ true
IsChanging plan (change.Disarm d) = is_in (length plan.devices) d ≡ true
IsChanging plan (change.Cancel d) = is_in (length plan.devices) d ≡ true
IsChanging plan (change.CancelAll d) = is_in (length plan.devices) d ≡ true
IsChanging plan (change.ResumeCancel d) = is_in (length plan.devices) d ≡ true
IsChanging plan (change.CallbackMarks d) = is_in (length plan.devices) d ≡ true
IsChanging plan (change.SuspendEnded d c) = is_in (length plan.devices) d ≡ true
IsChanging plan (change.MarkBusy d) = is_in (length plan.devices) d ≡ true
IsChanging plan (change.Enable d) = is_in (length plan.devices) d ≡ true
IsChanging plan (change.Disable d) = is_in (length plan.devices) d ≡ true
IsChanging plan (change.DisableBusy d) = is_in (length plan.devices) d ≡ true
IsChanging plan (change.DisableAtOnce d) = is_in (length plan.devices) d ≡ true
IsChanging plan (change.KeepStatus d) = is_in (length plan.devices) d ≡ true
IsChanging plan (change.Ignore d ignores) = is_in (length plan.devices) d ≡ true

-- what is asked of a row
abbrev pub Telling : Plan → Views → ℕ → Duty
Telling plan v t e c next = IsTelling plan e × IsChanging plan c × LeavesFit plan v t e next.back next.push

-- times
pub no_time : (t : ℕ) → 0 ≤ t
no_time t = omega arith

pub this_time : (t : ℕ) → t ≤ t
this_time t = omega arith

-- flags
pub flags_told : (plan : Plan) (v : Views) (d : DevId) (f : ℕ) → nat_lt f 16 ≡ true → (let x : Fields = fields plan v d f in nat_lt x.flags 16 ≡ true)
unfolding fields
flags_told plan v d f small = small

pub auto_small : (f : ℕ) → nat_lt f 16 ≡ true → nat_lt (bit_or f AUTO) 16 ≡ true
auto_small f small = lt-ltb _ _ (or_lt 4 f AUTO (ltb-true f 16 small) (omega arith))

-- codes
one_above : (c : ℤ) → int_le c (pos 0) ≡ true → int_le c (pos 1) ≡ true
one_above c le = grind arith

pub code_result : (c : ℤ) → is_code c ≡ true → is_result c ≡ true
code_result c is = let low = front _ _ is in and_from _ _ (front _ _ low) (one_above c (rear _ _ low))

pub callback_result : (plan : Plan) (v : Views) (k : Cb) (d : DevId) → is_result (callback_code plan v k d) ≡ true
callback_result plan v k d = code_result (callback_code plan v k d) (callback_is_code plan v k d)

pub either_result : (b : Bool) (x y : ℤ) → is_result x ≡ true → is_result y ≡ true → is_result (if b then x else y) ≡ true
either_result true x y p q = p
either_result false x y p q = q

pub refusal_result : (plan : Plan) (v : Views) (d : DevId) → is_result (refusal plan v d) ≡ true
unfolding refusal
refusal_result plan v d = search either_result depth 20

-- a queue line never has none
pub request_told : (f : ℕ) → is_work_line (Queue (suspend_request f)) ≡ true
request_told f = go (has f AUTO)
  where
    go : (b : Bool) → is_work_line (Queue (if b then req.Autosuspend else req.Suspend)) ≡ true
    go true = refl
    go false = refl
