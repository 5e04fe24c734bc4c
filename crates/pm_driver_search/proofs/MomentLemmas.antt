-- The next line comes at one of the moments that were looked at.
use Rattle.std.proofs.Common.{ℕ, zero, suc, ◌≡◌, ◌+◌, ◌<◌, ◌≤◌, ◌^◌, ◌&&◌, ◌⊎◌, inl, inr, Bool, true, false, List, [], ◌∷◌, Option, Some, None, IfSome, length, min, nat_abs, int_le, pos, slice_get, refl, sym, subst, ◌∙◌, ap, arith, if◌then◌else◌}
use Rattle.std.proofs.lemmas.Bool.{cases_lt}
use Rattle.std.proofs.lemmas.List.Elements.{Contains-append_cases}
use Rattle.std.specs.List.{All, cons_option, enumerate_from, filter_map}
use Rattle.std.specs.Option.{option_and_then, option_map_or}
use Rattle.pm_base.specs.declared.ActorId.{ActorId}
use Rattle.pm_model.specs.declared.plan.Plan.{Plan}
use Rattle.pm_model.specs.Derived.{expiry}
use Rattle.pm_model.specs.Serial.{late_moment, least, move_at}
use Rattle.pm_model.specs.declared.event.Line.{Line}
use Rattle.pm_model.specs.declared.stage.Stage.{Stage}
use Rattle.pm_model.specs.declared.stage.Stage.TheVariants as stage
use Rattle.pm_model.specs.declared.stage.SuspendStage.TheVariants as suspend
use Rattle.pm_model.specs.declared.views.Device.{Device}
use Rattle.pm_model.specs.Views.{Views, device, fresh_device}
use Rattle.pm_model.specs.World.{World, stage_at}
use Rattle.pm_base.specs.declared.DevId.{DevId}
use Rattle.pm_laws.specs.counts.Sizes.{HasEntries, HasPlaces}
use Rattle.std.proofs.lemmas.List.{get_or_past}
use Rattle.pm_explore.specs.declared.schedule.Pace.{Pace}
use Rattle.pm_explore.specs.declared.schedule.Pace.TheVariants as pace
use Rattle.pm_explore.specs.declared.successors.moves.Last.{Last}
use Rattle.pm_explore.specs.schedule.Snapshots.{IsTimely, MayFollow, all_actors, anyone_may, due_moment, due_moments, expiry_at}
use Rattle.pm_explore.specs.successors.Lines.{IsMoment}
use Rattle.pm_explore.specs.successors.Standing.{snapshot_at}
use Rattle.pm_explore.proofs.successors.Places.{IsIn, in_plan}
use Rattle.pm_driver_search.proofs.Among.{contained, some_is}
use Rattle.pm_driver_search.proofs.SteadyLemmas.{in_all}

-- what a filter keeps comes of the list
in_filter : {A B : Type 0} (f : A → Option B) (xs : List A) (i : ℕ) (y : B) → slice_get (filter_map f xs) i ≡ Some y → (x : A) × IsIn xs x × (f x ≡ Some y)
in_filter f [] i y is = cc is
in_filter {A = A} {B = B} f (x ∷ xs) i y is = go (f x) refl (λ k e. let rest = in_filter f xs k y e in (rest.0, (suc rest.1.0, rest.1.1), rest.2)) i is
  where
    go : (o : Option B) → f x ≡ o → ((k : ℕ) → slice_get (filter_map f xs) k ≡ Some y → (z : A) × IsIn (x ∷ xs) z × (f z ≡ Some y)) → (i : ℕ) → slice_get (cons_option o (filter_map f xs)) i ≡ Some y → (z : A) × IsIn (x ∷ xs) z × (f z ≡ Some y)
    go None e rest i is = rest i is
    go (Some z) e rest zero is = (x, (0, refl), e ∙ is)
    go (Some z) e rest (suc i) is = rest i is

min_either : (m k : ℕ) → (min m k ≡ m) ⊎ (min m k ≡ k)
min_either m k = elim (cases_lt m k) [ inl lt ↦ inl (omega (arith, lt)) | inr le ↦ inr (omega (arith, le)) ]

-- the least of some moments is one of them
least_in : (xs : List ℕ) (n : ℕ) → least xs ≡ Some n → IsIn xs n
least_in [] n is = cc is
least_in (x ∷ xs) n is = go (least xs) (λ k e. least_in xs k e) is
  where
    go : (o : Option ℕ) → ((k : ℕ) → o ≡ Some k → IsIn xs k) → Some (option_map_or (min x) o x) ≡ Some n → IsIn (x ∷ xs) n
    go None rest same = (0, same)
    go (Some k) rest same =
        let there = rest k refl in
        elim (min_either x k) [
          | inl l ↦ (0, ap Some (sym l) ∙ same)
          | inr r ↦ (suc there.0, there.1 ∙ ap Some (sym r) ∙ same)
        ]

abbrev pub IsEarly : Option ℕ → Type 0
IsEarly moment = IfSome moment (λ t. t < 2 ^ 63)

early_at : (o : Option ℕ) (t : ℕ) → IsEarly o → o ≡ Some t → t < 2 ^ 63
early_at o t early is = subst (λ x. IsEarly x) is early

-- a device that there isn't has no expiry
none_past : (v : Views) (d : DevId) (t : ℕ) → length v.devices ≤ d.0 → expiry v d ≡ Some t → ⊥
unfolding expiry
none_past v d t le is =
    let gone : device v d ≡ fresh_device = get_or_past v.devices d.0 fresh_device le in
    let no : None ≡ Some t = sym (ap (λ (x : Device). if x.use_auto && int_le (pos 0) x.delay then Some (x.last_busy + nat_abs x.delay) else None) gone) ∙ is in
    cc no

-- the place of a numbered row is one of the list
numbered : {A : Type 0} (n : ℕ) (xs : List A) (i : ℕ) (p : ℕ × A) → slice_get (enumerate_from n xs) i ≡ Some p → p.0 < n + length xs
numbered n [] i p is = cc is
numbered n (x ∷ xs) zero p is = let same : n ≡ p.0 = ap (λ q. q.0) (some_is (n, x) p is) in omega (arith, same)
numbered n (x ∷ xs) (suc i) p is = omega (arith, numbered (n + 1) xs i p is)

module _ (plan : Plan) (w : World) (last : Last) (actors : List ActorId) (same : actors ≡ all_actors plan) (early : last.time < 2 ^ 63) (dues : All (λ actor. IfSome (option_and_then late_moment (move_at plan w last.time actor)) (λ t. t < 2 ^ 63)) actors) (expire : (d : ℕ) → d < length plan.devices → IfSome (expiry w.views (record { 0 = d })) (λ t. t < 2 ^ 63)) where
  due_early : (t : ℕ) → IsIn (due_moments plan (snapshot_at w last)) t → t < 2 ^ 63
  due_early t there =
      let from = in_filter (due_moment plan (snapshot_at w last)) (all_actors plan) there.0 t there.1 in
      let here : IsIn actors from.0 = subst (λ xs. IsIn xs from.0) (sym same) from.1 in
      early_at (due_moment plan (snapshot_at w last) from.0) t (in_all (λ actor. IsEarly (due_moment plan (snapshot_at w last) actor)) actors from.0 dues here) from.2

  expires_early : (t : ℕ) → IsIn (filter_map (λ p. expiry w.views (record { 0 = p.0 })) (enumerate_from 0 plan.devices)) t → t < 2 ^ 63
  expires_early t there =
      let from = in_filter (λ p. expiry w.views (record { 0 = p.0 })) (enumerate_from 0 plan.devices) there.0 t there.1 in
      early_at (expiry w.views (record { 0 = from.0.0 })) t (expire from.0.0 (let within = numbered 0 plan.devices from.1.0 from.0 from.1.1 in omega (arith, within))) from.2

  pub moment_early : (p : Pace) (t : ℕ) → IsMoment p plan (snapshot_at w last) t → t < 2 ^ 63
  moment_early pace.Eager t is = go (anyone_may plan (snapshot_at w last)) is
    where
      go : (b : Bool) → (if b then Some last.time else least (due_moments plan (snapshot_at w last))) ≡ Some t → t < 2 ^ 63
      go true e = let now = some_is last.time t e in omega (arith, now, early)
      go false e = due_early t (least_in (due_moments plan (snapshot_at w last)) t e)
  moment_early pace.Late t (inl now) = subst (λ n. n < 2 ^ 63) (sym now) early
  moment_early pace.Late t (inr there) = elim (Contains-append_cases (due_moments plan (snapshot_at w last)) (filter_map (λ p. expiry w.views (record { 0 = p.0 })) (enumerate_from 0 plan.devices)) t there.1) [
    | inl due ↦ due_early t (contained (due_moments plan (snapshot_at w last)) t due)
    | inr free ↦ expires_early t (contained (filter_map (λ p. expiry w.views (record { 0 = p.0 })) (enumerate_from 0 plan.devices)) t free)
  ]

  expiry_early : (d : DevId) (t : ℕ) → HasEntries plan w.views → expiry w.views d ≡ Some t → t < 2 ^ 63
  expiry_early d t entries is = elim (cases_lt d.0 (length plan.devices)) [ inl lt ↦ early_at (expiry w.views d) t (expire d.0 lt) is | inr le ↦ absurd (none_past w.views d t (let many = entries.devices in omega (arith, many, le)) is) ]

  tested_early : (t : ℕ) (o : Option Stage) → HasEntries plan w.views → option_and_then (expiry_at w.views) o ≡ Some t → t < 2 ^ 63
  tested_early t None entries is = cc is
  tested_early t (Some (stage.Suspend (suspend.Verdict d f))) entries is = expiry_early d t entries is
  tested_early t (Some (stage.Suspend (suspend.Waiting d f))) entries is = expiry_early d t entries is
  tested_early t (Some _) entries is = cc is

  pub line_early : HasEntries plan w.views → HasPlaces plan w → (line : Line) (p : Pace) → MayFollow plan (snapshot_at w last) line → IsTimely p plan (snapshot_at w last) line → line.time < 2 ^ 63
  line_early entries places line pace.Eager may timely = moment_early pace.Eager line.time timely
  line_early entries places line pace.Late may timely = elim timely [
    | inl now ↦ subst (λ n. n < 2 ^ 63) (sym now) early
    | inr rest ↦ elim rest [
      | inl due ↦
          let here = in_plan plan w line.actor may.stage (record { entries = entries; places = places }) may.stands in
          early_at (due_moment plan (snapshot_at w last) line.actor) line.time (in_all (λ actor. IsEarly (due_moment plan (snapshot_at w last) actor)) actors line.actor dues (subst (λ xs. IsIn xs line.actor) (sym same) here)) due
      | inr others ↦ elim others [
        | inl at ↦ tested_early line.time (stage_at plan w line.actor) entries at.1
        | inr at ↦ moment_early pace.Late line.time (inr (at.0, at.1))
      ]
    ]
  ]
