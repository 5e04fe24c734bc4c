-- Every open stage stays sound where an actor's stage gives way.
use Rattle.std.proofs.Common.{ℕ, ◌≡◌, ◌<◌, ◌≤◌, Bool, true, false, List, [], ◌∷◌, ◌++◌, drop, Option, Some, None, ℤ, length, nat_eq, nat_lt, if◌then◌else◌, refl, sym, subst, arith, inl, inr}
use Rattle.std.specs.Option.{option_map_or}
use Rattle.std.proofs.lemmas.Bool.{lt-ltb, ltb-true}
use Rattle.pm_base.specs.declared.ActorId.{ActorId}
use Rattle.pm_base.specs.declared.ActorId.TheVariants.{Caller, Work, Timer}
use Rattle.pm_base.specs.declared.Cb.{Cb}
use Rattle.pm_base.specs.declared.Cb.TheVariants as cb
use Rattle.pm_base.specs.declared.DevId.{DevId}
use Rattle.pm_model.specs.declared.event.Command.{Command}
use Rattle.pm_model.specs.declared.event.Event.{Event}
use Rattle.pm_model.specs.declared.event.Event.TheVariants as event
use Rattle.pm_model.specs.declared.plan.Plan.{Plan}
use Rattle.pm_model.specs.declared.stage.Await.{Await}
use Rattle.pm_model.specs.declared.stage.Await.TheVariants as await
use Rattle.pm_model.specs.declared.stage.Handed.{Handed}
use Rattle.pm_model.specs.declared.stage.Handed.TheVariants as handed
use Rattle.pm_model.specs.declared.stage.IdleStage.TheVariants as idle
use Rattle.pm_model.specs.declared.stage.ResumeStage.TheVariants as resume
use Rattle.pm_model.specs.declared.stage.Stage.{Stage}
use Rattle.pm_model.specs.declared.stage.Stage.TheVariants as stage
use Rattle.pm_model.specs.declared.stage.SuspendStage.TheVariants as suspend
use Rattle.pm_model.specs.declared.stage.Then.{Then}
use Rattle.pm_model.specs.Derived.{begun}
use Rattle.pm_model.specs.Handing.{take_code, after_code, after_back, after_then}
use Rattle.pm_model.specs.IsPlan.{is_command, is_operand}
use Rattle.pm_model.specs.ResumeTable.{is_supplied}
use Rattle.pm_model.specs.Spelling.{operand_of, takes_device}
use Rattle.pm_model.specs.Views.{Views}
use Rattle.pm_model.specs.WellFormed.{called_for, is_in}
use Rattle.pm_model.specs.World.{World, place, stage_at}
use Rattle.pm_model.proofs.Arrivals.{on_handed, after_await}
use Rattle.pm_laws.specs.counts.Sizes.{HasPlaces}
use Rattle.pm_laws.proofs.counts.Places.{IsPlaced}
use Rattle.pm_laws.specs.stacks.Fit.{is_result}
use Rattle.pm_laws.proofs.stacks.PlanLaw.{command_lawful}
use Rattle.pm_laws.proofs.stacks.Readying.{IsReady, stands_ready}
use Rattle.pm_laws.proofs.stacks.Standing.{Stands}
use Rattle.pm_laws.proofs.stacks.Tests.{front}
use Rattle.pm_laws.proofs.stacks.Telling.{AreFresh, IsFresh, IsSound, LeavesFit, no_time}

abbrev pub AreSound : Plan → Views → ℕ → List Stage → Type 0
AreSound plan v last [] = Unit {0}
AreSound plan v last (s ∷ rest) = IsSound plan v last s × AreSound plan v last rest

-- the views of a later list: each callback has begun as often, or more
abbrev pub HasBegunMore : Plan → Views → Views → Type 0
HasBegunMore plan v v' = (k : Cb) (d : DevId) → d.0 < length plan.devices → begun v k d ≤ begun v' k d

more_told : (plan : Plan) (v v' : Views) (k : Cb) (d : DevId) → HasBegunMore plan v v' → is_in (length plan.devices) d ≡ true → 0 < begun v k d → 0 < begun v' k d
more_told plan v v' k d more inside some = omega (arith, some, more k d (ltb-true _ _ inside))

sound_later : (plan : Plan) (v v' : Views) (t t' : ℕ) → HasBegunMore plan v v' → t ≤ t' → (s : Stage) → IsSound plan v t s → IsSound plan v' t' s
sound_later plan v v' t t' more le (stage.Idle (idle.Running d f since)) (inside, small, good, timely, told) =
    (inside, small, good, omega arith, more_told plan v v' cb.Idle d more inside told)
sound_later plan v v' t t' more le (stage.Suspend (suspend.Running d f since)) (inside, small, good, timely, told) =
    (inside, small, good, omega arith, more_told plan v v' cb.Suspend d more inside told)
sound_later plan v v' t t' more le (stage.Resume (resume.Running r since)) (inside, small, good, timely, told) =
    (inside, small, good, omega arith, more_told plan v v' cb.Resume r.dev more inside told)
sound_later plan v v' t t' more le s (inside, small, good, timely, told) = (inside, small, good, omega arith, told)

pub all_later : (plan : Plan) (v v' : Views) (t t' : ℕ) → HasBegunMore plan v v' → t ≤ t' → (stack : List Stage) → AreSound plan v t stack → AreSound plan v' t' stack
all_later plan v v' t t' more le [] all = tt
all_later plan v v' t t' more le (s ∷ rest) all = (sound_later plan v v' t t' more le s all.0, all_later plan v v' t t' more le rest all.1)

-- a stage that begins to run has begun
abbrev pub HasBegunBy : Plan → Event → Views → Type 0
HasBegunBy plan e v = (k : Cb) (d : DevId) → d.0 < length plan.devices → e ≡ event.Begin d k → 0 < begun v k d

fresh_sound : (plan : Plan) (v v' : Views) (t : ℕ) (e : Event) → HasBegunBy plan e v' → (s : Stage) → IsFresh plan v t e s → IsSound plan v' t s
fresh_sound plan v v' t e by (stage.Idle (idle.Running d f since)) (inside, small, good, timely, begins) =
    (inside, small, good, timely, by cb.Idle d (ltb-true _ _ inside) begins)
fresh_sound plan v v' t e by (stage.Suspend (suspend.Running d f since)) (inside, small, good, timely, begins) =
    (inside, small, good, timely, by cb.Suspend d (ltb-true _ _ inside) begins)
fresh_sound plan v v' t e by (stage.Resume (resume.Running r since)) (inside, small, good, timely, begins) =
    (inside, small, good, timely, by cb.Resume r.dev (ltb-true _ _ inside) begins)
fresh_sound plan v v' t e by s (inside, small, good, timely, told) = (inside, small, good, timely, told)

-- a stage that goes on with a code is as sound as it was
abbrev HandsSound : Plan → Views → ℕ → Handed → Type 0
HandsSound plan v t (handed.Goes s) = IsSound plan v t s
HandsSound plan v t (handed.Back k) = is_result k ≡ true

either_sound : (plan : Plan) (v : Views) (t : ℕ) (b : Bool) (x y : Handed) → HandsSound plan v t x → HandsSound plan v t y → HandsSound plan v t (if b then x else y)
either_sound plan v t true x y p q = p
either_sound plan v t false x y p q = q

hands_sound : (plan : Plan) (v : Views) (t : ℕ) (a : Await) (c : ℤ) → is_result c ≡ true → IsSound plan v t (stage.Await a) → HandsSound plan v t (take_code a c)
unfolding take_code
hands_sound plan v t (await.ResumePut r kept) c good (inside, small, is, timely, told) = is
hands_sound plan v t (await.ResumeSupplier r link) c good (inside, small, is, timely, told) = (inside, small, good, timely, tt)
hands_sound plan v t (await.ActiveSupplier d link) c good (inside, small, is, timely, told) =
    either_sound plan v t (is_supplied c) _ _ (inside, small, is, timely, tt) (inside, small, good, timely, tt)
hands_sound plan v t (await.Return h d) c good (inside, small, is, timely, told) = (inside, small, good, timely, told)
hands_sound plan v t (await.ReturnZero h d) c good (inside, small, is, timely, told) = (inside, small, refl, timely, told)
hands_sound plan v t _ c good (inside, small, is, timely, told) = (inside, small, is, timely, tt)

handed_sound : (plan : Plan) (v : Views) (t : ℕ) (h : Handed) (rest : List Stage) → HandsSound plan v t h → AreSound plan v t rest
    → ((k : ℤ) → is_result k ≡ true → AreSound plan v t (after_code rest k)) → AreSound plan v t (on_handed h rest (after_code rest))
handed_sound plan v t (handed.Goes s) rest is all below = (is, all)
handed_sound plan v t (handed.Back k) rest is all below = below k is

code_sound : (plan : Plan) (v : Views) (t : ℕ) (rest : List Stage) (c : ℤ) → is_result c ≡ true → AreSound plan v t rest → AreSound plan v t (after_code rest c)
code_sound plan v t [] c good all = tt
code_sound plan v t (stage.Await a ∷ rest) c good all =
    subst (AreSound plan v t) (sym (after_await a c rest)) (handed_sound plan v t (take_code a c) rest (hands_sound plan v t a c good all.0) all.1 (λ k is. code_sound plan v t rest k is all.1))
code_sound plan v t (s ∷ rest) c good all = all

pushed_sound : (plan : Plan) (v v' : Views) (t : ℕ) (e : Event) → HasBegunBy plan e v' → (push rest : List Stage) → AreFresh plan v t e push
    → AreSound plan v' t rest → AreSound plan v' t (push ++ rest)
pushed_sound plan v v' t e by [] rest fresh all = all
pushed_sound plan v v' t e by (s ∷ push) rest fresh all = (fresh_sound plan v v' t e by s fresh.0, pushed_sound plan v v' t e by push rest fresh.1 all)

-- a place once its top has given way
pub then_sound : (plan : Plan) (v v' : Views) (t : ℕ) (e : Event) (next : Then) (rest : List Stage) → HasBegunBy plan e v'
    → LeavesFit plan v t e next.back next.push → AreSound plan v' t rest → AreSound plan v' t (after_then next rest)
then_sound plan v v' t e next rest by leaves all = go next.back next.push leaves
  where
    go : (back : Option ℤ) (push : List Stage) → LeavesFit plan v t e back push → AreSound plan v' t (after_back back push rest)
    go None push fresh = pushed_sound plan v v' t e by push rest fresh all
    go (Some c) push good = code_sound plan v' t rest c good all

-- the device of a command
called_device : (plan : Plan) (command : Command) → is_command (length plan.devices) command ≡ true
    → option_map_or (is_in (length plan.devices)) (called_for command.helper command.dev) true ≡ true
called_device plan command told = go (takes_device command.helper) (front _ (is_operand (length plan.devices) command.helper (operand_of command.helper) command.number) told)
  where
    go : (b : Bool) → (if b then nat_lt command.dev.0 (length plan.devices) else nat_eq command.dev.0 0) ≡ true
        → option_map_or (is_in (length plan.devices)) (if b then Some command.dev else None) true ≡ true
    go true is = is
    go false is = refl

-- what an empty place starts is sound
ready_sound : (plan : Plan) (w : World) (v : Views) (t : ℕ) (a : ActorId) (s : Stage) → HasPlaces plan w → IsPlaced w a → IsReady plan a s → IsSound plan v t s
ready_sound plan w v t (Caller c) s places placed (command, is, at) =
    let told = command_lawful plan c at.at at.caller command at.calls at.is in rw is (called_device plan command told, refl, refl, no_time t, told)
ready_sound plan w v t (Work d) s places placed is = rw is (lt-ltb _ _ (omega (arith, placed, places.works)), refl, refl, no_time t, tt)
ready_sound plan w v t (Timer d) s places placed is = rw is (lt-ltb _ _ (omega (arith, placed, places.timers)), refl, refl, no_time t, tt)

-- the stage at which an actor stands is sound
pub stands_sound : (plan : Plan) (w : World) (t : ℕ) (a : ActorId) (s : Stage) → HasPlaces plan w → IsPlaced w a → stage_at plan w a ≡ Some s
    → Stands s (place w a) → AreSound plan w.views t (place w a) → IsSound plan w.views t s
stands_sound plan w t a s places placed at st all = elim st.either [
  | inl p ↦ ready_sound plan w w.views t a s places placed (stands_ready plan w a s at p.0)
  | inr is ↦ let both : AreSound plan w.views t (s ∷ drop 1 (place w a)) = subst (AreSound plan w.views t) is all in both.0
]

-- and so are those below it
pub rest_sound : (plan : Plan) (v : Views) (t : ℕ) (stack : List Stage) → AreSound plan v t stack → AreSound plan v t (drop 1 stack)
rest_sound plan v t [] all = tt
rest_sound plan v t (s ∷ rest) all = all.1
