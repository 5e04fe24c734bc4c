-- When the next line may come at a pace.
use Rattle.std.proofs.Common.{ℕ, ◌≡◌, ◌≤◌, ◌+◌, ◌⊎◌, inl, inr, Bool, true, false, List, [], ◌∷◌, Option, Some, None, min, nat_abs, nat_lt, option_map, pos, if◌then◌else◌, refl, sym, subst, ◌&&◌, ◌∙◌, arith, int_le}
use Rattle.std.proofs.lemmas.Bool.{cases_lt}
use Rattle.std.proofs.lemmas.List.Elements.{Contains-append_cases}
use Rattle.std.specs.List.{Contains, cons_option, enumerate_from, filter_map}
use Rattle.std.specs.Option.{option_and_then, option_map_or}
use Rattle.pm_base.specs.declared.ActorId.{ActorId}
use Rattle.pm_base.specs.declared.DevId.{DevId}
use Rattle.pm_laws.specs.stacks.Fit.{HasDelays}
use Rattle.pm_laws.proofs.bounds.Saying.{short}
use Rattle.pm_model.specs.declared.event.Line.{Line}
use Rattle.pm_model.specs.declared.plan.Plan.{Plan}
use Rattle.pm_model.specs.declared.stage.Move.TheVariants.{Write, Late, Wait}
use Rattle.pm_model.specs.declared.stage.Stage.{Stage}
use Rattle.pm_model.specs.declared.stage.Stage.TheVariants as stage
use Rattle.pm_model.specs.declared.stage.SuspendStage.TheVariants as suspend
use Rattle.pm_model.specs.Derived.{expiry}
use Rattle.pm_model.specs.History.{History}
use Rattle.pm_model.specs.Lawful.{last_time}
use Rattle.pm_model.specs.Row.{Row, writes, waits, timed}
use Rattle.pm_model.specs.Serial.{late_moment, least}
use Rattle.pm_model.specs.Views.{Views, device}
use Rattle.pm_model.specs.World.{World, due, move, row, stage_at, world}
use Rattle.pm_explore.specs.declared.schedule.Pace.{Pace}
use Rattle.pm_explore.specs.declared.schedule.Pace.TheVariants as pace
use Rattle.pm_explore.specs.schedule.Schedules.{snapshot}
use Rattle.pm_explore.specs.schedule.Snapshots.{IsTimely, all_actors, anyone_may, due_moment, due_moments, expiry_at, moments, prompt_time}
use Rattle.pm_explore.specs.successors.Lines.{IsMoment}
use Rattle.pm_explore.proofs.successors.Found.{some_is}
use Rattle.pm_explore.proofs.successors.Successors.{filtered}

-- the moment that a line only awaits is the one at which it is due
awaited_due : (d t : ℕ) (r : Option Row) (n : ℕ) → option_and_then late_moment (option_map (timed d t) r) ≡ Some n → d ≡ n
awaited_due d t None n is = cc is
awaited_due d t (Some (waits dev)) n is = go (nat_lt t d) is
  where
    go : (b : Bool) → late_moment (if b then Late d else Wait dev) ≡ Some n → d ≡ n
    go true e = some_is d n e
    go false e = cc e
awaited_due d t (Some (writes ev change next)) n is = go (nat_lt t d) is
  where
    go : (b : Bool) → late_moment (if b then Late d else Write ev change next) ≡ Some n → d ≡ n
    go true e = some_is d n e
    go false e = cc e

-- limits on the moments at which lines are due, and from which on devices may suspend
abbrev AreDueBy : Plan → World → ℕ → Type 0
AreDueBy plan w most = (a : ActorId) (s : Stage) → stage_at plan w a ≡ Some s → due plan w.views s ≤ most

pub record AreSoon (plan : Plan) (w : World) (last : ℕ) : Type 0 where
  pub due : AreDueBy plan w (last + 1000000)
  pub delays : HasDelays w.views
  pub busy : (d : DevId) → (device w.views d).last_busy ≤ last

moment_by : (plan : Plan) (w : World) (most t : ℕ) (a : ActorId) (o : Option Stage) (n : ℕ) → AreDueBy plan w most → stage_at plan w a ≡ o
    → option_and_then late_moment (option_and_then (λ s. move plan w.views s t) o) ≡ Some n → n ≤ most
moment_by plan w most t a None n by stands is = cc is
moment_by plan w most t a (Some s) n by stands is = let same = awaited_due (due plan w.views s) t (row plan w.views s t) n is in let le = by a s stands in omega (arith, same, le)

expires_by : (v : Views) (d : DevId) (last n : ℕ) → HasDelays v → (device v d).last_busy ≤ last → expiry v d ≡ Some n → n ≤ last + 1000000
unfolding expiry
expires_by v d last n delays busy is = go ((device v d).use_auto && int_le (pos 0) (device v d).delay) is
  where
    go : (b : Bool) → (if b then Some ((device v d).last_busy + nat_abs (device v d).delay) else None) ≡ Some n → n ≤ last + 1000000
    go true e = let same = some_is ((device v d).last_busy + nat_abs (device v d).delay) n e in let few = short (device v d).delay (delays d) in omega (arith, same, busy, few)
    go false e = cc e

min_either : (m k : ℕ) → (min m k ≡ m) ⊎ (min m k ≡ k)
min_either m k = elim (cases_lt m k) [ inl lt ↦ inl (omega (arith, lt)) | inr le ↦ inr (omega (arith, le)) ]

-- the least of some moments is one of them
least_passes : (P : ℕ → Type 0) {A : Type 0} (f : A → Option ℕ) → ((x : A) (n : ℕ) → f x ≡ Some n → P n) → (xs : List A) (n : ℕ) → least (filter_map f xs) ≡ Some n → P n
least_passes P f each [] n is = cc is
least_passes P {A} f each (x ∷ xs) n is = go (f x) refl (λ m e. least_passes P f each xs m e) is
  where
    two : (m : ℕ) (o : Option ℕ) → P m → ((k : ℕ) → o ≡ Some k → P k) → Some (option_map_or (min m) o m) ≡ Some n → P n
    two m None p rest e = let same : m ≡ n = cc e in subst P same p
    two m (Some k) p rest e =
        let same : min m k ≡ n = cc e in
        elim (min_either m k) [ inl l ↦ subst P (sym l ∙ same) p | inr r ↦ subst P (sym r ∙ same) (rest k refl) ]

    go : (o : Option ℕ) → f x ≡ o → ((m : ℕ) → least (filter_map f xs) ≡ Some m → P m) → least (cons_option o (filter_map f xs)) ≡ Some n → P n
    go None e rest i = rest n i
    go (Some m) e rest i = two m (least (filter_map f xs)) (each x m e) rest i

module _ (plan : Plan) (h : History) (soon : AreSoon plan (world plan h) (last_time h)) where
  due_soon : (a : ActorId) (n : ℕ) → due_moment plan (snapshot plan h) a ≡ Some n → n ≤ last_time h + 1000000
  due_soon a n is = moment_by plan (world plan h) (last_time h + 1000000) (last_time h) a (stage_at plan (world plan h) a) n soon.due refl is

  expires_soon : (d : DevId) (n : ℕ) → expiry (world plan h).views d ≡ Some n → n ≤ last_time h + 1000000
  expires_soon d n is = expires_by (world plan h).views d (last_time h) n soon.delays (soon.busy d) is

  prompt_soon : (t : ℕ) → prompt_time plan (snapshot plan h) ≡ Some t → t ≤ last_time h + 1000000
  prompt_soon t is = go (anyone_may plan (snapshot plan h)) is
    where
      go : (b : Bool) → (if b then Some (last_time h) else least (due_moments plan (snapshot plan h))) ≡ Some t → t ≤ last_time h + 1000000
      go true e = let same = some_is (last_time h) t e in omega (arith, same)
      go false e = least_passes (λ n. n ≤ last_time h + 1000000) (due_moment plan (snapshot plan h)) due_soon (all_actors plan) t e

  moments_soon : (t : ℕ) → Contains (moments plan (snapshot plan h)) t → t ≤ last_time h + 1000000
  moments_soon t there = elim (Contains-append_cases (due_moments plan (snapshot plan h)) (filter_map (λ p. expiry (world plan h).views (record { 0 = p.0 })) (enumerate_from 0 plan.devices)) t there) [
    | inl due ↦ let from = filtered (due_moment plan (snapshot plan h)) (all_actors plan) t due in due_soon from.0 t from.1
    | inr free ↦ let from = filtered (λ p. expiry (world plan h).views (record { 0 = p.0 })) (enumerate_from 0 plan.devices) t free in expires_soon (record { 0 = from.0.0 }) t from.1
  ]

  tests_soon : (t : ℕ) (o : Option Stage) → option_and_then (expiry_at (world plan h).views) o ≡ Some t → t ≤ last_time h + 1000000
  tests_soon t None is = cc is
  tests_soon t (Some (stage.Suspend (suspend.Verdict d f))) is = expires_soon d t is
  tests_soon t (Some (stage.Suspend (suspend.Waiting d f))) is = expires_soon d t is
  tests_soon t (Some _) is = cc is

  pub moment_near : (p : Pace) (t : ℕ) → IsMoment p plan (snapshot plan h) t → t ≤ last_time h + 1000000
  moment_near pace.Eager t is = prompt_soon t is
  moment_near pace.Late t (inl now) = omega (arith, now)
  moment_near pace.Late t (inr there) = moments_soon t there.1

  pub line_near : (p : Pace) (line : Line) → IsTimely p plan (snapshot plan h) line → line.time ≤ last_time h + 1000000
  line_near pace.Eager line is = prompt_soon line.time is
  line_near pace.Late line is = elim is [
    | inl now ↦ omega (arith, now)
    | inr rest ↦ elim rest [
      | inl due ↦ due_soon line.actor line.time due
      | inr others ↦ elim others [
        | inl at ↦ tests_soon line.time (stage_at plan (world plan h) line.actor) at.1
        | inr at ↦ moments_soon line.time at.1
      ]
    ]
  ]
