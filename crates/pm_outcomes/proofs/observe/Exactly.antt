-- The observations of a snapshot are exactly those that it has.
use Rattle.std.proofs.Common.{◌≡◌, ◌<◌, ◌⊎◌, ◌++◌, ◌∷◌, [], ℕ, zero, suc, ℤ, Bool, true, false, List, Option, Some, None, map, length, slice_get, refl, sym, ap, subst, ◌∙◌, inl, inr, arith, option_map, if◌then◌else◌}
use Rattle.std.proofs.lemmas.List.{append-nil, length-map, map-append}
use Rattle.std.proofs.lemmas.List.FromFn.{get_or-map-range_with_len, length-map-range_with_len}
use Rattle.std.proofs.lemmas.Option.{slice_get-get_or, slice_get-map, slice_get_within}
use Rattle.std.specs.List.{range_with_len}
use Rattle.std.specs.Option.{option_to_list}
use Rattle.pm_base.specs.declared.ActorId.{ActorId}
use Rattle.pm_base.specs.declared.ActorId.TheVariants.{Caller, Timer, Work}
use Rattle.pm_base.specs.declared.DevId.{DevId}
use Rattle.pm_outcomes.specs.declared.list.observations.Observation.{Observation}
use Rattle.pm_outcomes.specs.declared.list.observations.Observation.TheVariants.{Return}
use Rattle.pm_outcomes.specs.list.Shown.{observation_of}
use Rattle.pm_model.specs.declared.plan.Plan.{Plan}
use Rattle.pm_model.specs.Lawful.{is_finished}
use Rattle.pm_model.specs.World.{World, called_by}
use Rattle.pm_explore.specs.schedule.Observations.{HasObservation, Observation as Shown}
use Rattle.pm_explore.specs.schedule.Observations.Observation.{Ends, Returns}
use Rattle.pm_explore.specs.schedule.Snapshots.{Snapshot}
use Rattle.pm_explore.specs.search.Exact.{HasExactly, IsAmong}
use Rattle.pm_outcomes.specs.observe.Shows.{end_at, observations_at, return_at, return_by}

-- the list has it somewhere
abbrev Has : {A : Type 0} → List A → A → Type 0
Has xs x = (i : ℕ) × (slice_get xs i ≡ Some x)

module _ {A : Type 0} where
  in_part : (xs ys : List A) (i : ℕ) (x : A) → slice_get (xs ++ ys) i ≡ Some x → Has xs x ⊎ Has ys x
  in_part [] ys i x there = inr (i, there)
  in_part (y ∷ xs) ys zero x there = inl (0, there)
  in_part (y ∷ xs) ys (suc i) x there = elim (in_part xs ys i x there) [ inl h ↦ inl (suc h.0, h.1) | inr h ↦ inr h ]

  left : (xs ys : List A) (i : ℕ) (x : A) → slice_get xs i ≡ Some x → Has (xs ++ ys) x
  left [] ys i x there = absurd (cc there)
  left (y ∷ xs) ys zero x there = (0, there)
  left (y ∷ xs) ys (suc i) x there = let h = left xs ys i x there in (suc h.0, h.1)

  right : (xs ys : List A) (x : A) → Has ys x → Has (xs ++ ys) x
  right [] ys x h = h
  right (y ∷ xs) ys x h = let r = right xs ys x h in (suc r.0, r.1)

  among : (xs : List A) (x : A) → Has xs x → IsAmong xs (length xs) x
  among xs x h = record { place = h.0; below = slice_get_within xs h.0 x h.1; there = h.1 }

  at_range : (f : ℕ → A) (n i : ℕ) → i < n → slice_get (map f (range_with_len 0 n)) i ≡ Some (f i)
  at_range f n i lt =
      let long = length-map-range_with_len f 0 n in
      slice_get-get_or (map f (range_with_len 0 n)) i (f i) (omega (arith, long, lt)) ∙ ap Some (get_or-map-range_with_len f 0 n i i (f i) lt (omega arith))

module _ (plan : Plan) where
  return_sound : (w : World) (t : ℕ) (last : Option ActorId) (code : Option ℤ) (i : ℕ) (p : Shown) → slice_get (map observation_of (option_to_list (option_map Return (return_by w last code)))) i ≡ Some p
      → HasObservation plan (record { world = w; time = t; last = last; code = code }) p
  return_sound w t (Some (Caller c)) (Some k) zero p there = subst (HasObservation plan (record { world = w; time = t; last = Some (Caller c); code = Some k })) (some_is there) (refl, refl, refl)
    where
      some_is : Some (Returns c (called_by w c) k) ≡ Some p → Returns c (called_by w c) k ≡ p
      some_is is = cc is
  return_sound w t (Some (Caller c)) (Some k) (suc i) p there = absurd (cc there)
  return_sound w t (Some (Caller c)) None i p there = absurd (cc there)
  return_sound w t (Some (Work d)) code i p there = absurd (cc there)
  return_sound w t (Some (Timer d)) code i p there = absurd (cc there)
  return_sound w t None code i p there = absurd (cc there)

  end_sound : (s : Snapshot) (i : ℕ) (p : Shown) → is_finished plan s.world ≡ true → slice_get (map observation_of (map (end_at s.world.views) (range_with_len 0 (length plan.devices)))) i ≡ Some p → HasObservation plan s p
  end_sound s i p finished there =
      let ends = map (end_at s.world.views) (range_with_len 0 (length plan.devices)) in
      let below = slice_get_within (map observation_of ends) i p there in
      let long = length-map ends observation_of in
      let long_too = length-map-range_with_len (end_at s.world.views) 0 (length plan.devices) in
      let lt : i < length plan.devices = omega (arith, below, long, long_too) in
      let at : slice_get (map observation_of ends) i ≡ Some (observation_of (end_at s.world.views i)) = slice_get-map observation_of ends i ∙ ap (option_map observation_of) (at_range (end_at s.world.views) (length plan.devices) i lt) in
      subst (HasObservation plan s) (same (observation_of (end_at s.world.views i)) p (sym at ∙ there)) (finished, lt, refl, refl, refl)
    where
      same : (x y : Shown) → Some x ≡ Some y → x ≡ y
      same x y is = cc is

  ends_sound : (s : Snapshot) (b : Bool) → is_finished plan s.world ≡ b → (i : ℕ) (p : Shown) → slice_get (map observation_of (if b then map (end_at s.world.views) (range_with_len 0 (length plan.devices)) else [])) i ≡ Some p → HasObservation plan s p
  ends_sound s true is i p there = end_sound s i p is there
  ends_sound s false is i p there = absurd (cc there)

  return_complete : (s : Snapshot) (caller command : ℕ) (code : ℤ) → HasObservation plan s (Returns caller command code) → Has (option_to_list (option_map Return (return_at s))) (Return (record { caller = caller; command = command; code = code }))
  return_complete s caller command code has =
      let is : return_at s ≡ Some (record { caller = caller; command = command; code = code }) =
      ap (λ l. return_by s.world l s.code) has.0 ∙ ap (λ k. return_by s.world (Some (Caller caller)) k) has.1 ∙ ap (λ n. Some (record { caller = caller; command = n; code = code })) has.2
      in
      (0, ap (λ o. slice_get (option_to_list (option_map Return o)) 0) is)

  end_complete : (s : Snapshot) (d : DevId) → d.0 < length plan.devices → is_finished plan s.world ≡ true → Has (if is_finished plan s.world then map (end_at s.world.views) (range_with_len 0 (length plan.devices)) else []) (end_at s.world.views d.0)
  end_complete s d lt finished = (d.0, ap (λ b. slice_get (if b then map (end_at s.world.views) (range_with_len 0 (length plan.devices)) else []) d.0) finished ∙ at_range (end_at s.world.views) (length plan.devices) d.0 lt)

  shows : (xs : List Observation) (m : Observation) → Has xs m → IsAmong (map observation_of xs) (length (map observation_of xs)) (observation_of m)
  shows xs m h = among (map observation_of xs) (observation_of m) (h.0, slice_get-map observation_of xs h.0 ∙ ap (option_map observation_of) h.1)

  complete : (s : Snapshot) (p : Shown) → HasObservation plan s p → IsAmong (map observation_of (observations_at plan s)) (length (map observation_of (observations_at plan s))) p
  complete s (Returns caller command code) has =
      let h = return_complete s caller command code has in
      shows (observations_at plan s) (Return (record { caller = caller; command = command; code = code })) (left (option_to_list (option_map Return (return_at s))) _ h.0 _ h.1)
  complete s (Ends d status usage error) has =
      let h = right (option_to_list (option_map Return (return_at s))) _ (end_at s.world.views d.0) (end_complete s d has.1 has.0) in
      let is_status = has.2 in
      let is_usage = has.3 in
      let is_error = has.4 in
      let is : observation_of (end_at s.world.views d.0) ≡ Ends d status usage error = cc (is_status, is_usage, is_error) in
      subst (IsAmong (map observation_of (observations_at plan s)) (length (map observation_of (observations_at plan s)))) is (shows (observations_at plan s) (end_at s.world.views d.0) h)

  pub observations_exact : (s : Snapshot) → HasExactly (HasObservation plan s) (map observation_of (observations_at plan s))
  observations_exact s = record {
    sound = λ i p there.
        let returns = option_to_list (option_map Return (return_at s)) in
        let ends = if is_finished plan s.world then map (end_at s.world.views) (range_with_len 0 (length plan.devices)) else [] in
        let parts = in_part (map observation_of returns) (map observation_of ends) i p (subst (λ l. slice_get l i ≡ Some p) (map-append observation_of returns ends) there) in
        elim parts [
          | inl h ↦ return_sound s.world s.time s.last s.code h.0 p h.1
          | inr h ↦ ends_sound s (is_finished plan s.world) refl h.0 p h.1
        ];
    complete = complete s;
  }

  -- what a finished run shows
  pub finished_exact : (s : Snapshot) (returns out : List Observation) → is_finished plan s.world ≡ true → returns ≡ option_to_list (option_map Return (return_at s)) → out ≡ returns ++ map (end_at s.world.views) (range_with_len 0 (length plan.devices))
      → HasExactly (HasObservation plan s) (map observation_of out)
  finished_exact s returns out finished is more =
      let all : out ≡ observations_at plan s =
      more ∙ ap (λ l. l ++ map (end_at s.world.views) (range_with_len 0 (length plan.devices))) is
      ∙ ap (λ b. option_to_list (option_map Return (return_at s)) ++ (if b then map (end_at s.world.views) (range_with_len 0 (length plan.devices)) else [])) (sym finished)
      in
      subst (λ l. HasExactly (HasObservation plan s) (map observation_of l)) (sym all) (observations_exact s)

  -- what one shows that isn't
  pub unfinished_exact : (s : Snapshot) (out : List Observation) → is_finished plan s.world ≡ false → out ≡ option_to_list (option_map Return (return_at s)) → HasExactly (HasObservation plan s) (map observation_of out)
  unfinished_exact s out unfinished is =
      let all : out ≡ observations_at plan s =
      is ∙ sym (append-nil (option_to_list (option_map Return (return_at s))))
      ∙ ap (λ b. option_to_list (option_map Return (return_at s)) ++ (if b then map (end_at s.world.views) (range_with_len 0 (length plan.devices)) else [])) (sym unfinished)
      in
      subst (λ l. HasExactly (HasObservation plan s) (map observation_of l)) (sym all) (observations_exact s)
