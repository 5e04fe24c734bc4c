-- Whether an event may come next at some time: by the stage, and on either side of an expiry.
use Rattle.std.proofs.Common.{ℕ, ◌≡◌, ◌<◌, ◌≤◌, ◌+◌, ◌-◌, ◌⊎◌, inl, inr, Bool, true, false, not, ◌&&◌, Option, Some, None, IfSome, length, max, pos, unwrap_or, nat_lt, if◌then◌else◌, refl, sym, subst, ◌∙◌, ap, arith}
use Rattle.std.specs.Ordering.{int_eq}
use Rattle.std.proofs.lemmas.Bool.{and_parts, ltb-true}
use Rattle.std.proofs.lemmas.Bool.Decides.{nat_tests}
use Rattle.pm_base.specs.declared.Cb.TheVariants as cb
use Rattle.pm_base.specs.declared.codes.TheConstants.{ASYNC, AUTO}
use Rattle.pm_base.specs.declared.DevId.{DevId}
use Rattle.pm_model.specs.declared.event.Event.{Event}
use Rattle.pm_model.specs.declared.event.Event.TheVariants as event
use Rattle.pm_model.specs.declared.event.TimerAct.TheVariants as timer
use Rattle.pm_model.specs.declared.plan.Plan.{Plan}
use Rattle.pm_model.specs.declared.stage.Change.{Change}
use Rattle.pm_model.specs.declared.stage.HelperStage.TheVariants as at
use Rattle.pm_model.specs.declared.stage.IdleStage.TheVariants as idle
use Rattle.pm_model.specs.declared.stage.ResumeCall.{ResumeCall}
use Rattle.pm_model.specs.declared.stage.ResumeStage.TheVariants as resume
use Rattle.pm_model.specs.declared.stage.Stage.{Stage}
use Rattle.pm_model.specs.declared.stage.Stage.TheVariants as stage
use Rattle.pm_model.specs.declared.stage.SuspendStage.TheVariants as suspend
use Rattle.pm_model.specs.declared.stage.Then.{Then}
use Rattle.pm_model.specs.Changes.{has_auto_timer}
use Rattle.pm_model.specs.Derived.{callback_code, expiry, has, is_ahead, is_moving, is_suspending, is_resuming, refusal}
use Rattle.pm_model.specs.HelperTable.{timer_fires}
use Rattle.pm_model.specs.IdleTable.{idle_ends}
use Rattle.pm_model.specs.PlanRows.{no_callbacks}
use Rattle.pm_model.specs.ResumeTable.{resume_ends}
use Rattle.pm_model.specs.Row.{Row, writes, waits}
use Rattle.pm_model.specs.SuspendTable.{may_not_wait, suspend_ends, suspend_verdict}
use Rattle.pm_model.specs.Views.{Views}
use Rattle.pm_model.specs.WellFormed.{is_well_formed}
use Rattle.pm_model.specs.World.{due}
use Rattle.pm_laws.specs.bounds.Times.{arms_for, event_at, event_of, expiry_of}
use Rattle.pm_laws.proofs.bounds.Timeless.{event_same}
use Rattle.pm_book.specs.Sometime.{Comes, Follows, awaited, is_put_off, once_expired, tested_at}

-- a line that is due some time after an earlier one has the same event at all times; every other is due at once
idle_end : (plan : Plan) (v : Views) (d : DevId) (f t : ℕ) → event_of (idle_ends plan v d f t) ≡ Some (event.End d cb.Idle (callback_code plan v cb.Idle d))
unfolding idle_ends
idle_end plan v d f t = refl

suspend_end : (plan : Plan) (v : Views) (d : DevId) (f t : ℕ) → event_of (suspend_ends plan v d f t) ≡ Some (event.End d cb.Suspend (callback_code plan v cb.Suspend d))
unfolding suspend_ends
suspend_end plan v d f t = refl

either_end : (b : Bool) (e : Event) (c c' : Change) (next next' : Then) → event_of (if b then writes e c next else writes e c' next') ≡ Some e
either_end true e c c' next next' = refl
either_end false e c c' next next' = refl

resume_end : (plan : Plan) (v : Views) (r : ResumeCall) → event_of (resume_ends plan v r) ≡ Some (event.End r.dev cb.Resume (callback_code plan v cb.Resume r.dev))
unfolding resume_ends
resume_end plan v r = either_end (int_eq (callback_code plan v cb.Resume r.dev) (pos 0)) _ _ _ _ _

timer_end : (v : Views) (d : DevId) → event_of (timer_fires v d) ≡ Some (event.Timer d (timer.Fire (has_auto_timer v d)))
unfolding timer_fires
timer_end v d = refl

awaited_always : (plan : Plan) (v : Views) (s : Stage) (e : Event) → awaited plan v s ≡ Some e → (t : ℕ) → event_at plan v s t ≡ Some e
awaited_always plan v (stage.Idle (idle.Running d f since)) e is t = idle_end plan v d f t ∙ is
awaited_always plan v (stage.Suspend (suspend.Running d f since)) e is t = suspend_end plan v d f t ∙ is
awaited_always plan v (stage.Resume (resume.Running r since)) e is t = resume_end plan v r ∙ is
awaited_always plan v (stage.Helper (at.Delay ms since)) e is t = is
awaited_always plan v (stage.Helper (at.Timer d)) e is t = timer_end v d ∙ is
awaited_always plan v _ e is t = cc is

at_once : (plan : Plan) (v : Views) (s : Stage) → awaited plan v s ≡ None → due plan v s ≡ 0
at_once plan v (stage.Idle (idle.Running d f since)) is = cc is
at_once plan v (stage.Suspend (suspend.Running d f since)) is = cc is
at_once plan v (stage.Resume (resume.Running r since)) is = cc is
at_once plan v (stage.Helper (at.Delay ms since)) is = cc is
at_once plan v (stage.Helper (at.Timer d)) is = cc is
at_once plan v _ is = refl

comes_awaited : (plan : Plan) (v : Views) (s : Stage) (last : ℕ) (only e : Event) → awaited plan v s ≡ Some only → (only ≡ e → Comes plan v s last e) × (Comes plan v s last e → only ≡ e)
comes_awaited plan v s last only e is = (λ same. (max last (due plan v s), omega arith, omega arith, awaited_always plan v s only is _ ∙ ap (λ x. Some x) same), λ (t, later, due_by, writes_it). back t writes_it)
  where
    back : (t : ℕ) → event_at plan v s t ≡ Some e → only ≡ e
    back t writes_it = let always = awaited_always plan v s only is t in cc

-- a plain timer
comes_armed : (plan : Plan) (v : Views) (s : Stage) (last ms : ℕ) (d : DevId) (e : Event) → due plan v s ≡ 0
    → ((t : ℕ) → event_at plan v s t ≡ Some (event.Timer d (timer.Arm (t + ms) false)))
    → ((moment : ℕ) × (last + ms ≤ moment) × (e ≡ event.Timer d (timer.Arm moment false)) → Comes plan v s last e)
    × (Comes plan v s last e → (moment : ℕ) × (last + ms ≤ moment) × (e ≡ event.Timer d (timer.Arm moment false)))
comes_armed plan v s last ms d e now arms = (forth, back)
  where
    forth : (moment : ℕ) × (last + ms ≤ moment) × (e ≡ event.Timer d (timer.Arm moment false)) → Comes plan v s last e
    forth (moment, late, is) =
        let t = moment - ms in
        let sum : t + ms ≡ moment = omega (arith, late) in
        (t, omega (arith, late), omega (arith, now), arms t ∙ (ap (λ m. Some (event.Timer d (timer.Arm m false))) sum ∙ ap (λ x. Some x) (sym is)))

    back : Comes plan v s last e → (moment : ℕ) × (last + ms ≤ moment) × (e ≡ event.Timer d (timer.Arm moment false))
    back (t, later, due_by, writes_it) = (t + ms, omega (arith, later), let is = arms t in cc)

-- the tests of suspend before the expiry and behind it: the same event, or it is put off before
rests : (s m n y : Bool) (r4 r5 : Row) (e6 e7 e8 : Event) (c6 c7 c8 : Change) (n6 n7 n8 : Then) → s ≡ false
    → event_of (if s && m then r4 else if s then r5 else if n then writes e6 c6 n6 else if y then writes e7 c7 n7 else writes e8 c8 n8) ≡ Some (if n then e6 else if y then e7 else e8)
rests true m n y r4 r5 e6 e7 e8 c6 c7 c8 n6 n7 n8 none = cc none
rests false m true y r4 r5 e6 e7 e8 c6 c7 c8 n6 n7 n8 none = refl
rests false m false true r4 r5 e6 e7 e8 c6 c7 c8 n6 n7 n8 none = refl
rests false m false false r4 r5 e6 e7 e8 c6 c7 c8 n6 n7 n8 none = refl

same_rests : (b s n y : Bool) (r4 r5 r6 r7 : Row) (e : Event) (c c' : Change) (next next' : Then)
    → event_of (if b then r4 else if s then r5 else if n then r6 else if y then r7 else writes e c next) ≡ event_of (if b then r4 else if s then r5 else if n then r6 else if y then r7 else writes e c' next')
same_rests true s n y r4 r5 r6 r7 e c c' next next' = refl
same_rests false true n y r4 r5 r6 r7 e c c' next next' = refl
same_rests false false true y r4 r5 r6 r7 e c c' next next' = refl
same_rests false false false true r4 r5 r6 r7 e c c' next next' = refl
same_rests false false false false r4 r5 r6 r7 e c c' next next' = refl

-- behind the expiry the event is the same, or before it the suspend is put off
abbrev Turns : Option Event → Option Event → Event → Type 0
Turns before behind expired = (behind ≡ before) ⊎ ((e : Event) × (is_put_off e ≡ true) × (before ≡ Some e) × (behind ≡ Some expired))

turn : (b1 b2 a s : Bool) (r1 r2 r3 x y : Row) (e expired : Event) → event_of r3 ≡ Some e → is_put_off e ≡ true → event_of y ≡ event_of x → (s ≡ false → event_of y ≡ Some expired)
    → Turns (event_of (if b1 then r1 else if b2 then r2 else if a && not s && true then r3 else x)) (event_of (if b1 then r1 else if b2 then r2 else if a && not s && false then r3 else y)) expired
turn true b2 a s r1 r2 r3 x y e expired arms off same rest = inl refl
turn false true a s r1 r2 r3 x y e expired arms off same rest = inl refl
turn false false false s r1 r2 r3 x y e expired arms off same rest = inl same
turn false false true true r1 r2 r3 x y e expired arms off same rest = inl same
turn false false true false r1 r2 r3 x y e expired arms off same rest = inr (e, off, arms, rest refl)

verdict_turn : (plan : Plan) (v : Views) (d : DevId) (f t u : ℕ) → is_ahead (expiry v d) t ≡ true → is_ahead (expiry v d) u ≡ false
    → Turns (event_of (suspend_verdict plan v d f t)) (event_of (suspend_verdict plan v d f u)) (once_expired plan d f)
unfolding suspend_verdict
verdict_turn plan v d f t u ahead behind =
    rw (ahead, behind) (turn (not (int_eq (refusal plan v d) (pos 0))) (is_resuming v d && not (has f ASYNC)) (has f AUTO) (is_suspending v d) _ _ _ _ _ _ (once_expired plan d f) refl refl
    (same_rests (is_suspending v d && may_not_wait f) (is_suspending v d) (no_callbacks plan d) (has f ASYNC) _ _ _ _ _ _ _ _ _)
    (rests (is_suspending v d) (may_not_wait f) (no_callbacks plan d) (has f ASYNC) _ _ _ _ _ _ _ _ _ _ _))

waiting_turn : (b : Bool) (d : DevId) (x y : Row) (expired : Event) → Turns (event_of x) (event_of y) expired
    → Turns (event_of (if b then waits d else x)) (event_of (if b then waits d else y)) expired
waiting_turn true d x y expired turns = inl refl
waiting_turn false d x y expired turns = turns

-- the parts of a pair that is there
abbrev Tested : Type 0
Tested = DevId × ℕ

there : (e d : DevId) (g f : ℕ) → (let x : Tested = (e, g) in Some x) ≡ (let y : Tested = (d, f) in Some y) → (e ≡ d) × (g ≡ f)
there e d g f is =
    let pair : (let x : Tested = (e, g) in x) ≡ (let y : Tested = (d, f) in y) = cc is in
    (ap (λ (p : Tested). p.0) pair, ap (λ (p : Tested). p.1) pair)

stage_turn : (plan : Plan) (v : Views) (s : Stage) (d : DevId) (f t u : ℕ) → tested_at s ≡ Some (d, f) → is_ahead (expiry v d) t ≡ true → is_ahead (expiry v d) u ≡ false
    → Turns (event_at plan v s t) (event_at plan v s u) (once_expired plan d f)
stage_turn plan v (stage.Suspend (suspend.Verdict e g)) d f t u is ahead behind =
    let same = there e d g f is in
    rw (same.0, same.1) (verdict_turn plan v d f t u ahead behind)
stage_turn plan v (stage.Suspend (suspend.Waiting e g)) d f t u is ahead behind =
    let same = there e d g f is in
    rw (same.0, same.1) (waiting_turn (is_moving v d) d _ _ (once_expired plan d f) (verdict_turn plan v d f t u ahead behind))
stage_turn plan v _ d f t u is ahead behind = cc is

-- behind the expiry none is put off
record NotOff (r : Row) : Type 0 where
  not_off : (e : Event) → event_of r ≡ Some e → is_put_off e ≡ true → ⊥

other_event : {e : Event} {c : Change} {next : Then} → is_put_off e ≡ false → NotOff (writes e c next)
other_event {e = e} {c = c} {next = next} other = record { not_off = λ x same off. let is : e ≡ x = cc same in cc (is, other, off) }

waits_off : {d : DevId} → NotOff (waits d)
waits_off {d = d} = record { not_off = λ x same off. cc same }

either_off : {x y : Row} (b : Bool) → NotOff x → NotOff y → NotOff (if b then x else y)
either_off true p q = p
either_off false p q = q

and_never : (b : Bool) (x y : Row) → NotOff y → NotOff (if b && false then x else y)
and_never true x y p = p
and_never false x y p = p

verdict_off : (plan : Plan) (v : Views) (d : DevId) (f t : ℕ) → is_ahead (expiry v d) t ≡ false → NotOff (suspend_verdict plan v d f t)
unfolding suspend_verdict
verdict_off plan v d f t behind =
    rw behind (either_off (not (int_eq (refusal plan v d) (pos 0))) (other_event refl) (either_off (is_resuming v d && not (has f ASYNC)) (other_event refl)
    (and_never (has f AUTO && not (is_suspending v d)) _ _ (search (either_off, other_event)))))

stage_off : (plan : Plan) (v : Views) (s : Stage) (d : DevId) (f t : ℕ) (e : Event) → tested_at s ≡ Some (d, f) → is_ahead (expiry v d) t ≡ false
    → event_at plan v s t ≡ Some e → is_put_off e ≡ true → ⊥
stage_off plan v (stage.Suspend (suspend.Verdict g k)) d f t e is behind =
    rw (there g d k f is).0 ((verdict_off plan v d k t behind).not_off e)
stage_off plan v (stage.Suspend (suspend.Waiting g k)) d f t e is behind =
    rw (there g d k f is).0 ((either_off (is_moving v d) waits_off (verdict_off plan v d k t behind)).not_off e)
stage_off plan v _ d f t e is behind = cc is

-- an expiry is tested at these stages alone
tested_or : (v : Views) (s : Stage) → (expiry_of v s ≡ None) ⊎ ((d : DevId) × (f : ℕ) × (tested_at s ≡ Some (d, f)) × (expiry_of v s ≡ expiry v d))
tested_or v (stage.Suspend (suspend.Verdict d f)) = inr (d, f, refl, refl)
tested_or v (stage.Suspend (suspend.Waiting d f)) = inr (d, f, refl, refl)
tested_or v (stage.Suspend _) = inl refl
tested_or v _ = inl refl

-- the row of a stage writes the same at two times, or at the later one it has passed an expiry that was ahead
abbrev Later : Plan → Views → Stage → ℕ → ℕ → Type 0
Later plan v s t u =
    (event_at plan v s u ≡ event_at plan v s t)
    ⊎ ((d : DevId) × (f : ℕ) × (tested_at s ≡ Some (d, f)) × Turns (event_at plan v s t) (event_at plan v s u) (once_expired plan d f))

ahead_before : (x : Option ℕ) (t u : ℕ) → t ≤ u → is_ahead x u ≡ true → is_ahead x t ≡ true
ahead_before None t u later ahead = ahead
ahead_before (Some n) t u later ahead = grind (arith, nat_tests)

passes : (plan : Plan) (v : Views) (s : Stage) (t u : ℕ) → (expiry_of v s ≡ None) ⊎ ((d : DevId) × (f : ℕ) × (tested_at s ≡ Some (d, f)) × (expiry_of v s ≡ expiry v d))
    → is_ahead (expiry_of v s) t ≡ true → is_ahead (expiry_of v s) u ≡ false → Later plan v s t u
passes plan v s t u (inl none) ahead behind = let passed_it : is_ahead (expiry_of v s) t ≡ false = rw none refl in cc (passed_it, ahead)
passes plan v s t u (inr (d, f, is, same)) ahead behind = inr (d, f, is, stage_turn plan v s d f t u is (rw same at ahead) (rw same at behind))

later_turn : (plan : Plan) (v : Views) (s : Stage) (t u : ℕ) → arms_for plan v s ≡ None → t ≤ u → Later plan v s t u
later_turn plan v s t u none later = go (is_ahead (expiry_of v s) t) (is_ahead (expiry_of v s) u) refl refl
  where
    go : (a b : Bool) → is_ahead (expiry_of v s) t ≡ a → is_ahead (expiry_of v s) u ≡ b → Later plan v s t u
    go true true x y = inl (event_same plan v s u t none (y ∙ sym x))
    go false false x y = inl (event_same plan v s u t none (y ∙ sym x))
    go true false x y = passes plan v s t u (tested_or v s) x y
    go false true x y = let still = ahead_before (expiry_of v s) t u later y in cc (still, x)

-- where no plain timer is armed: the event now, or what follows once the expiry has passed
passed : (x : Option ℕ) (last : ℕ) → is_ahead x (max last (unwrap_or x 0)) ≡ false
passed None last = refl
passed (Some n) last = let after : n ≤ max last n = omega arith in grind (arith, nat_tests)

follows_at : (plan : Plan) (v : Views) (s : Stage) (d : DevId) (f last u : ℕ) (now e : Event) → tested_at s ≡ Some (d, f) → event_at plan v s last ≡ Some now → is_put_off now ≡ true
    → is_ahead (expiry v d) u ≡ false → once_expired plan d f ≡ e → event_at plan v s u ≡ Some e
follows_at plan v s d f last u now e is at_last off behind same = go (is_ahead (expiry v d) last) refl
  where
    turned : Turns (event_at plan v s last) (event_at plan v s u) (once_expired plan d f) → event_at plan v s u ≡ Some e
    turned (inl still) = absurd (stage_off plan v s d f u now is behind (still ∙ at_last) off)
    turned (inr (x, x_off, before, after)) = after ∙ ap (λ y. Some y) same

    go : (ahead : Bool) → is_ahead (expiry v d) last ≡ ahead → event_at plan v s u ≡ Some e
    go true ahead = turned (stage_turn plan v s d f last u is ahead behind)
    go false ahead = absurd (stage_off plan v s d f last now is ahead at_last off)

comes_now : (plan : Plan) (v : Views) (s : Stage) (last : ℕ) (now e : Event) → due plan v s ≡ 0 → arms_for plan v s ≡ None → event_at plan v s last ≡ Some now
    → ((now ≡ e) ⊎ Follows plan s now e → Comes plan v s last e) × (Comes plan v s last e → (now ≡ e) ⊎ Follows plan s now e)
comes_now plan v s last now e at_any none at_last = (forth, back)
  where
    forth : (now ≡ e) ⊎ Follows plan s now e → Comes plan v s last e
    forth (inl same) = (last, omega arith, omega (arith, at_any), at_last ∙ ap (λ x. Some x) same)
    forth (inr (d, f, is, off, same)) =
        let u = max last (unwrap_or (expiry v d) 0) in
        (u, omega arith, omega (arith, at_any), follows_at plan v s d f last u now e is at_last off (passed (expiry v d) last) same)

    turned : (t : ℕ) → event_at plan v s t ≡ Some e → Later plan v s last t → (now ≡ e) ⊎ Follows plan s now e
    turned t at_t (inl still) = inl (cc (still, at_t, at_last))
    turned t at_t (inr (d, f, is, inl still)) = inl (cc (still, at_t, at_last))
    turned t at_t (inr (d, f, is, inr (x, off, before, after))) =
        let same : x ≡ now = cc (before, at_last) in
        let P : Event → Type 0 = λ y. is_put_off y ≡ true in
        inr (d, f, is, subst P same off, cc (after, at_t))

    back : Comes plan v s last e → (now ≡ e) ⊎ Follows plan s now e
    back (t, later, due_by, at_t) = turned t at_t (later_turn plan v s last t none later)

-- a stage that waits now writes nothing later
never_comes : (plan : Plan) (v : Views) (s : Stage) (last : ℕ) (e : Event) → arms_for plan v s ≡ None → event_at plan v s last ≡ None → Comes plan v s last e → ⊥
never_comes plan v s last e none waits_now (t, later, due_by, at_t) = turned (later_turn plan v s last t none later)
  where
    turned : Later plan v s last t → ⊥
    turned (inl still) = cc (still, at_t, waits_now)
    turned (inr (d, f, is, inl still)) = cc (still, at_t, waits_now)
    turned (inr (d, f, is, inr (x, off, before, after))) = cc (before, waits_now)

-- a test tells whether a fact holds
abbrev pub Tells : Bool → Type 0 → Type 0
Tells b P = (b ≡ true → P) × (P → b ≡ true)

carried : (b : Bool) (P Q : Type 0) → (P → Q) × (Q → P) → Tells b P → Tells b Q
carried b P Q same tells = (λ told. same.0 (tells.0 told), λ q. tells.1 (same.1 q))

pub by_awaited : (plan : Plan) (v : Views) (s : Stage) (last : ℕ) (only e : Event) (b : Bool) → Some only ≡ awaited plan v s → Tells b (only ≡ e) → Tells b (Comes plan v s last e)
by_awaited plan v s last only e b is tells = carried b (only ≡ e) (Comes plan v s last e) (comes_awaited plan v s last only e (sym is)) tells

pub by_armed : (plan : Plan) (v : Views) (s : Stage) (last ms : ℕ) (d : DevId) (e : Event) (b : Bool) → None ≡ awaited plan v s
    → ((t : ℕ) → event_at plan v s t ≡ Some (event.Timer d (timer.Arm (t + ms) false))) → Tells b ((moment : ℕ) × (last + ms ≤ moment) × (e ≡ event.Timer d (timer.Arm moment false)))
    → Tells b (Comes plan v s last e)
by_armed plan v s last ms d e b once arms tells = carried b _ (Comes plan v s last e) (comes_armed plan v s last ms d e (at_once plan v s (sym once)) arms) tells

pub by_now : (plan : Plan) (v : Views) (s : Stage) (last : ℕ) (now e : Event) (b : Bool) → None ≡ awaited plan v s → arms_for plan v s ≡ None → Some now ≡ event_at plan v s last
    → Tells b (now ≡ e) → b ≡ true → Tells b (Comes plan v s last e)
by_now plan v s last now e b once none at_last tells told = (λ _. (comes_now plan v s last now e (at_once plan v s (sym once)) none (sym at_last)).0 (inl (tells.0 told)), λ _. told)

pub by_later : (plan : Plan) (v : Views) (s : Stage) (last : ℕ) (now e : Event) (b r : Bool) → None ≡ awaited plan v s → arms_for plan v s ≡ None → Some now ≡ event_at plan v s last
    → Tells b (now ≡ e) → b ≡ false → Tells r (Follows plan s now e) → Tells r (Comes plan v s last e)
by_later plan v s last now e b r once none at_last tells other follow = (λ told. same.0 (inr (follow.0 told)), λ come. turned (same.1 come))
  where
    same : ((now ≡ e) ⊎ Follows plan s now e → Comes plan v s last e) × (Comes plan v s last e → (now ≡ e) ⊎ Follows plan s now e)
    same = comes_now plan v s last now e (at_once plan v s (sym once)) none (sym at_last)

    turned : (now ≡ e) ⊎ Follows plan s now e → r ≡ true
    turned (inl is) = let told = tells.1 is in cc (told, other)
    turned (inr is) = follow.1 is

pub by_none : (plan : Plan) (v : Views) (s : Stage) (last : ℕ) (e : Event) → arms_for plan v s ≡ None → None ≡ event_at plan v s last → Tells false (Comes plan v s last e)
by_none plan v s last e none waits_now = (λ told. cc told, λ come. absurd (never_comes plan v s last e none (sym waits_now) come))

-- the device of a suspend whose tests are made is one of the plan's
pub tested_in : (plan : Plan) (v : Views) (s : Stage) → is_well_formed plan v s ≡ true → IfSome (tested_at s) (λ p. p.0.0 < length plan.devices)
tested_in plan v (stage.Suspend (suspend.Verdict d f)) is = ltb-true d.0 (length plan.devices) (and_parts (nat_lt d.0 (length plan.devices)) true is).0
tested_in plan v (stage.Suspend (suspend.Waiting d f)) is = ltb-true d.0 (length plan.devices) (and_parts (nat_lt d.0 (length plan.devices)) true is).0
tested_in plan v (stage.Suspend _) is = tt
tested_in plan v _ is = tt
