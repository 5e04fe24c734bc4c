-- Who stands at a stage is one of the plan's actors.
use Rattle.std.proofs.Common.{ℕ, zero, suc, ◌≡◌, ◌+◌, ◌<◌, ◌≤◌, inl, inr, List, [], ◌∷◌, ◌++◌, length, map, option_map, slice_get, slice_index_or, Option, Some, None, if◌then◌else◌, refl, sym, subst, ◌∙◌, ap, arith}
use Rattle.std.proofs.lemmas.Option.{slice_get-map, slice_get_cases, slice_get_past}
use Rattle.std.specs.List.{enumerate_from}
use Rattle.std.specs.Option.{option_and_then}
use Rattle.pm_base.specs.declared.ActorId.{ActorId}
use Rattle.pm_base.specs.declared.ActorId.TheVariants.{Caller, Work, Timer}
use Rattle.pm_base.specs.declared.Pending.{Pending}
use Rattle.pm_laws.specs.counts.Sizes.{HasEntries, HasPlaces}
use Rattle.pm_model.specs.declared.plan.Plan.{Plan}
use Rattle.pm_model.specs.declared.stage.HelperStage.TheVariants as at
use Rattle.pm_model.specs.declared.stage.Stage.{Stage}
use Rattle.pm_model.specs.declared.stage.Stage.TheVariants as stage
use Rattle.pm_model.specs.Serial.{timer_actors}
use Rattle.pm_model.specs.Views.{fresh_pending}
use Rattle.pm_model.specs.World.{World, called_by, place, ready, stage_at, top}
use Rattle.pm_explore.specs.schedule.Snapshots.{all_actors}

-- it is in the list
abbrev pub IsIn : {A : Type 0} → List A → A → Type 0
IsIn xs x = (i : ℕ) × (slice_get xs i ≡ Some x)

-- one entry for each device and place for each actor
pub record IsSized (plan : Plan) (w : World) : Type 0 where
  pub entries : HasEntries plan w.views
  pub places : HasPlaces plan w

pub in_left : {A : Type 0} (xs ys : List A) (i : ℕ) (x : A) → slice_get xs i ≡ Some x → slice_get (xs ++ ys) i ≡ Some x
in_left [] ys i x is = cc is
in_left (y ∷ xs) ys zero x is = is
in_left (y ∷ xs) ys (suc i) x is = in_left xs ys i x is

pub in_right : {A : Type 0} (xs ys : List A) (x : A) → IsIn ys x → IsIn (xs ++ ys) x
in_right [] ys x is = is
in_right (y ∷ xs) ys x is = let rest = in_right xs ys x is in (suc rest.0, rest.1)

numbered : {A : Type 0} (n : ℕ) (xs : List A) (i : ℕ) → i < length xs → (x : A) × (slice_get (enumerate_from n xs) i ≡ Some (n + i, x))
numbered n [] i lt = absurd (omega (arith, lt))
numbered n (x ∷ xs) zero lt = (x, let e : n + 0 ≡ n = omega arith in ap (λ k. Some (k, x)) (sym e))
numbered n (x ∷ xs) (suc i) lt =
    let rest = numbered (n + 1) xs i (omega (arith, lt)) in
    let e : n + 1 + i ≡ n + suc i = omega arith in
    (rest.0, rest.1 ∙ ap (λ k. Some (k, rest.0)) e)

pub each : {A B : Type 0} (f : ℕ → B) (xs : List A) (i : ℕ) → i < length xs → IsIn (map (λ p. f p.0) (enumerate_from 0 xs)) (f i)
each f xs i lt =
    let at = numbered 0 xs i lt in
    let e : 0 + i ≡ i = omega arith in
    (i, slice_get-map (λ p. f p.0) (enumerate_from 0 xs) i ∙ ap (option_map (λ p. f p.0)) at.1 ∙ ap (λ k. Some (f k)) e)

pub past : {A : Type 0} (xs : List A) (i : ℕ) (d : A) → length xs ≤ i → slice_index_or xs i d ≡ d
past [] i d le = refl
past (x ∷ xs) zero d le = absurd (omega (arith, le))
past (x ∷ xs) (suc i) d le = past xs i d (omega (arith, le))

pub within : {A : Type 0} (xs : List A) (i : ℕ) → (length xs ≤ i → ⊥) → i < length xs
within xs i not = elim (slice_get_cases xs i).1 [ inl there ↦ there.1 | inr gone ↦ absurd (not gone.0) ]

resting : (o : Option Stage) (l : List Stage) (s : Stage) → o ≡ None → l ≡ [] → top o l ≡ Some s → ⊥
resting o l s none empty is =
    let gone : top None [] ≡ Some s = subst (λ x. top x [] ≡ Some s) none (subst (λ x. top o x ≡ Some s) empty is) in cc gone

caller_rests : (plan : Plan) (w : World) (c : ℕ) (s : Stage) → IsSized plan w → length plan.callers ≤ c → stage_at plan w (Caller c) ≡ Some s → ⊥
caller_rests plan w c s has le is =
    resting (ready plan w (Caller c)) (place w (Caller c)) s
    (ap (λ o. option_map (λ command. stage.Helper (at.Call command)) (option_and_then (λ caller. slice_get caller.script (called_by w c)) o)) (slice_get_past plan.callers c le))
    (past w.caller_places c [] (omega (arith, has.places.callers, le))) is

work_rests : (plan : Plan) (w : World) (d : ℕ) (s : Stage) → IsSized plan w → length plan.devices ≤ d → stage_at plan w (Work d) ≡ Some s → ⊥
work_rests plan w d s has le is =
    resting (ready plan w (Work d)) (place w (Work d)) s
    (ap (λ (p : Pending). if p.queued then Some (stage.Helper (at.Work (record { 0 = d }))) else None) (past w.views.pending d fresh_pending (omega (arith, has.entries.pending, le))))
    (past w.work_places d [] (omega (arith, has.places.works, le))) is

timer_rests : (plan : Plan) (w : World) (d : ℕ) (s : Stage) → IsSized plan w → length plan.devices ≤ d → stage_at plan w (Timer d) ≡ Some s → ⊥
timer_rests plan w d s has le is =
    resting (ready plan w (Timer d)) (place w (Timer d)) s
    (ap (option_map (λ armed. stage.Helper (at.Timer (record { 0 = d })))) (past w.views.timers d None (omega (arith, has.entries.timers, le))))
    (past w.timer_places d [] (omega (arith, has.places.timers, le))) is

-- so its number is below that of the plan's rows
pub caller_within : (plan : Plan) (w : World) (c : ℕ) (s : Stage) → IsSized plan w → stage_at plan w (Caller c) ≡ Some s → c < length plan.callers
caller_within plan w c s has is = within plan.callers c (λ le. caller_rests plan w c s has le is)

pub work_within : (plan : Plan) (w : World) (d : ℕ) (s : Stage) → IsSized plan w → stage_at plan w (Work d) ≡ Some s → d < length plan.devices
work_within plan w d s has is = within plan.devices d (λ le. work_rests plan w d s has le is)

pub timer_within : (plan : Plan) (w : World) (d : ℕ) (s : Stage) → IsSized plan w → stage_at plan w (Timer d) ≡ Some s → d < length plan.devices
timer_within plan w d s has is = within plan.devices d (λ le. timer_rests plan w d s has le is)

abbrev callers_of : Plan → List ActorId
callers_of plan = map (λ p. Caller p.0) (enumerate_from 0 plan.callers)

abbrev works_of : Plan → List ActorId
works_of plan = map (λ p. Work p.0) (enumerate_from 0 plan.devices)

pub in_plan : (plan : Plan) (w : World) (actor : ActorId) (s : Stage) → IsSized plan w → stage_at plan w actor ≡ Some s → IsIn (all_actors plan) actor
in_plan plan w (Caller c) s has is =
    let here = each Caller plan.callers c (caller_within plan w c s has is) in
    (here.0, in_left (callers_of plan ++ works_of plan) (timer_actors plan) here.0 (Caller c) (in_left (callers_of plan) (works_of plan) here.0 (Caller c) here.1))
in_plan plan w (Work d) s has is =
    let here = in_right (callers_of plan) (works_of plan) (Work d) (each Work plan.devices d (work_within plan w d s has is)) in
    (here.0, in_left (callers_of plan ++ works_of plan) (timer_actors plan) here.0 (Work d) here.1)
in_plan plan w (Timer d) s has is =
    in_right (callers_of plan ++ works_of plan) (timer_actors plan) (Timer d) (each Timer plan.devices d (timer_within plan w d s has is))

-- each row has its number
pub each_row : {A : Type 0} (xs : List A) (i : ℕ) → i < length xs → (j : ℕ) × (p : ℕ × A) × (slice_get (enumerate_from 0 xs) j ≡ Some p) × (p.0 ≡ i)
each_row xs i lt =
    let at = numbered 0 xs i lt in
    let e : 0 + i ≡ i = omega arith in
    (i, (0 + i, at.0), at.1, e)
