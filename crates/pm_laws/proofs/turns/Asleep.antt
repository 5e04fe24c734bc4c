-- Where no actor may ever write, no device moves, none is busy, and no actor stands at a stage.
use Rattle.std.proofs.Common.{ℕ, zero, suc, ◌≡◌, ◌<◌, ◌≤◌, Bool, true, false, ◌||◌, List, [], ◌∷◌, Option, Some, None, length, slice_index_or, if◌then◌else◌, ap, refl, sym, ◌∙◌, arith, inl, inr}
use Rattle.std.specs.List.{sum_by}
use Rattle.std.specs.Option.{option_and_then}
use Rattle.std.proofs.lemmas.Bool.{cases_lt, false≢true}
use Rattle.std.proofs.lemmas.List.{get_or_past}
use Rattle.std.proofs.lemmas.List.Sums.{sum_by-cons}
use Rattle.pm_base.specs.declared.ActorId.{ActorId}
use Rattle.pm_base.specs.declared.ActorId.TheVariants.{Caller, Work, Timer}
use Rattle.pm_base.specs.declared.DevId.{DevId}
use Rattle.pm_model.specs.declared.plan.Plan.{Plan}
use Rattle.pm_model.specs.declared.stage.ControlStage.TheVariants as control
use Rattle.pm_model.specs.declared.stage.ResumeStage.TheVariants as resume
use Rattle.pm_model.specs.declared.stage.Stage.{Stage}
use Rattle.pm_model.specs.declared.stage.Stage.TheVariants as stage
use Rattle.pm_model.specs.declared.stage.SuspendStage.TheVariants as suspend
use Rattle.pm_model.specs.declared.views.Device.{Device}
use Rattle.pm_model.specs.Derived.{busy, is_moving, is_moving, is_resuming, is_suspending, is_resuming_status, is_suspending_status}
use Rattle.pm_model.specs.Views.{Views, device, fresh_device}
use Rattle.pm_model.specs.World.{World, due, place, ready, stage_at, top}
use Rattle.pm_laws.specs.counts.Sums.{one, tally}
use Rattle.pm_laws.specs.counts.Owners.{places, owns_suspend, owns_resume, HasOneOwner}
use Rattle.pm_laws.specs.counts.Sizes.{HasEntries}
use Rattle.pm_laws.proofs.counts.Places.{tally_joined}
use Rattle.pm_laws.specs.turns.Blocks.{blocks}
use Rattle.pm_laws.specs.turns.Idles.{runs_idle, HasOneIdle}
use Rattle.pm_laws.specs.turns.Wakes.{wakes, wakes_at}
use Rattle.pm_laws.specs.stacks.Shape.{call_of, IsAwake, IsNested, AreNested}
use Rattle.pm_laws.proofs.stacks.Nesting.{stands_nested}
use Rattle.pm_laws.proofs.stacks.Standing.{stands}
use Rattle.pm_laws.proofs.turns.Earlier.{Carries, carries_suspend, carries_resume, carries_idle, calls_earlier, waits_earlier}

pub record IsAsleep (plan : Plan) (w : World) : Type 0 where
  pub entries : HasEntries plan w.views
  pub nested : AreNested plan w
  pub owners : HasOneOwner plan w
  pub idles : HasOneIdle plan w
  pub asleep : (a : ActorId) → wakes plan w a ≡ None

never : (b : Bool) (m : ℕ) → (if b then None else Some m) ≡ None → b ≡ true
never true m e = refl
never false m e = cc

-- a stage that awaits no call, and whose line may never be written, blocks
asleep_blocks : (plan : Plan) (v : Views) (s : Stage) → IsAwake s → wakes_at plan v s ≡ None → blocks v s ≡ true
asleep_blocks plan v (stage.Await a) awake e = elim awake [ ]
asleep_blocks plan v (stage.Suspend s) awake e = never (blocks v (stage.Suspend s)) _ e
asleep_blocks plan v s awake e = never (blocks v s) (due plan v s) e

stage_blocks : (plan : Plan) (w : World) → IsAsleep plan w → (a : ActorId) (s : Stage) → stage_at plan w a ≡ Some s → blocks w.views s ≡ true
stage_blocks plan w is a s at =
    let shape = stands_nested plan s (place w a) (stands plan w a s at) (is.nested a) in
    asleep_blocks plan w.views s shape.0 (ap (option_and_then (wakes_at plan w.views)) (sym at) ∙ is.asleep a)

-- a list of weight 0
no_sum : {A : Type 0} (f : A → ℕ) (xs : List A) (past : A) → ((i : ℕ) → f (slice_index_or xs i past) ≡ 0) → sum_by f xs ≡ 0
no_sum f [] past each = refl
no_sum f (x ∷ xs) past each = omega (arith, sum_by-cons f x xs, each 0, no_sum f xs past (λ i. each (suc i)))

no_tally : (f : Stage → ℕ) (w : World) → ((a : ActorId) → sum_by f (place w a) ≡ 0) → tally f (places w) ≡ 0
no_tally f w each =
    omega (arith, tally_joined f w.caller_places w.work_places w.timer_places, no_sum (sum_by f) w.caller_places [] (λ c. each (Caller c)), no_sum (sum_by f) w.work_places [] (λ d. each (Work d)), no_sum (sum_by f) w.timer_places [] (λ d. each (Timer d)))

-- while no earlier device moves nobody does a work of d
nobody : (plan : Plan) (w : World) → IsAsleep plan w → (d : DevId) (f : Stage → ℕ) → Carries plan d f
    → ((e : DevId) → e.0 < d.0 → is_moving w.views e ≡ true → ⊥) → tally f (places w) ≡ 0
nobody plan w is d f carries earlier = no_tally f w (λ a. light a (place w a) refl)
  where
    light : (a : ActorId) (p : List Stage) → place w a ≡ p → sum_by f p ≡ 0
    light a [] at = refl
    light a (s ∷ rest) at =
        let b = stage_blocks plan w is a s (ap (top (ready plan w a)) at) in
        let shape : IsNested plan (s ∷ rest) = rw at at (is.nested a) in
        elim (cases_lt 0 (sum_by f rest)) [
          | inl lt ↦
              let waits = waits_earlier w.views d s b (calls_earlier plan d f carries (call_of s) rest shape.2 lt) in
              absurd (earlier waits.dev waits.earlier waits.moves)
          | inr le ↦ omega (arith, sum_by-cons f s rest, carries.light w.views s b)
        ]

-- a device whose entry isn't as before any line is one of the plan's
within : (plan : Plan) (v : Views) (d : DevId) (test : Device → Bool) → HasEntries plan v → test fresh_device ≡ false → test (device v d) ≡ true
    → d.0 < length plan.devices
within plan v d test entries fresh passes = elim (cases_lt d.0 (length plan.devices)) [ inl lt ↦ lt | inr le ↦ absurd (past le) ]
  where
    past : length plan.devices ≤ d.0 → ⊥
    past le = false≢true (sym fresh ∙ ap test (sym (get_or_past v.devices d.0 fresh_device (omega (arith, entries.devices)))) ∙ passes)

clash : (n : ℕ) (b : Bool) → n ≡ 0 → n ≡ one b → b ≡ true → ⊥
clash n true none all is = omega arith
clash n false none all is = false≢true is

none_moves : (plan : Plan) (w : World) → IsAsleep plan w → (n : ℕ) (d : DevId) → d.0 < n → is_moving w.views d ≡ true → ⊥
none_moves plan w is zero d lt moves = omega arith
none_moves plan w is (suc n) d lt moves = go (λ e less. none_moves plan w is n e (omega arith)) (is_suspending w.views d) refl moves
  where
    go : ((e : DevId) → e.0 < d.0 → is_moving w.views e ≡ true → ⊥) → (b : Bool) → is_suspending w.views d ≡ b → b || is_resuming w.views d ≡ true → ⊥
    go earlier true suspends set =
        clash _ _ (nobody plan w is d (owns_suspend d) (carries_suspend plan d) earlier)
        (is.owners.suspending d (within plan w.views d (λ x. is_suspending_status x.status) is.entries refl suspends)) suspends
    go earlier false suspends resumes =
        clash _ _ (nobody plan w is d (owns_resume d) (carries_resume plan d) earlier)
        (is.owners.resuming d (within plan w.views d (λ x. is_resuming_status x.status) is.entries refl resumes)) resumes

still : (plan : Plan) (w : World) → IsAsleep plan w → (d : DevId) → is_moving w.views d ≡ true → ⊥
still plan w is d moves = none_moves plan w is (suc d.0) d (omega arith) moves

none_idles : (plan : Plan) (w : World) → IsAsleep plan w → (d : DevId) → (device w.views d).idle_running ≡ true → ⊥
none_idles plan w is d runs =
    clash _ _ (nobody plan w is d (runs_idle d) (carries_idle plan d) (λ e less moves. still plan w is e moves))
    (is.idles d (within plan w.views d (λ x. x.idle_running) is.entries refl runs)) runs

none_busy : (plan : Plan) (w : World) → IsAsleep plan w → (d : DevId) → busy w.views d ≡ true → ⊥
unfolding busy
none_busy plan w is d b = go (is_moving w.views d) refl b
  where
    go : (m : Bool) → is_moving w.views d ≡ m → m || (device w.views d).idle_running ≡ true → ⊥
    go true moves set = still plan w is d moves
    go false moves runs = none_idles plan w is d runs

none_blocks : (plan : Plan) (w : World) → IsAsleep plan w → (s : Stage) → blocks w.views s ≡ true → ⊥
none_blocks plan w is (stage.Suspend (suspend.Waiting d f)) b = still plan w is d b
none_blocks plan w is (stage.Resume (resume.Waiting r tried)) b = still plan w is r.dev b
none_blocks plan w is (stage.Control (control.Disabled d)) b = none_busy plan w is d b
none_blocks plan w is (stage.Control (control.BarrierWait d c)) b = none_busy plan w is d b
none_blocks plan w is _ b = false≢true b

pub none_stands : (plan : Plan) (w : World) → IsAsleep plan w → (a : ActorId) → stage_at plan w a ≡ None
none_stands plan w is a = go (stage_at plan w a) refl
  where
    go : (o : Option Stage) → stage_at plan w a ≡ o → o ≡ None
    go None at = refl
    go (Some s) at = absurd (none_blocks plan w is s (stage_blocks plan w is a s at))
