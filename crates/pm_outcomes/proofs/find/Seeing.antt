-- The observations of one more snapshot are seen.
use Rattle.std.proofs.Common.{◌≡◌, ◌<◌, ◌+◌, ◌++◌, ◌∷◌, [], ℕ, List, Some, map, length, slice_get, sym, ap, subst, ◌∙◌, inl, inr, arith, take, get_or, append_assoc, Contains}
use Rattle.std.proofs.lemmas.List.{map_more}
use Rattle.std.proofs.lemmas.List.Elements.{Contains-append_cases, Contains-append_left, Contains-append_right}
use Rattle.std.proofs.lemmas.Bool.{cases_lt}
use Rattle.pm_outcomes.specs.declared.list.observations.Observation.{Observation}
use Rattle.pm_outcomes.specs.list.Firsts.{AreFirsts, IsUpTo}
use Rattle.pm_outcomes.specs.list.Shown.{observation_of}
use Rattle.pm_model.specs.declared.plan.Plan.{Plan}
use Rattle.pm_explore.specs.schedule.Observations.{HasObservation}
use Rattle.pm_explore.specs.schedule.Snapshots.{Snapshot}
use Rattle.pm_explore.specs.search.Exact.{HasExactly}
use Rattle.pm_outcomes.specs.find.Seen.{AreFirstsBefore, AreSeen}
use Rattle.pm_outcomes.proofs.find.Among.{at_place, has_place, mapped_from, mapped_to, some_is}

-- an observation at a place
abbrev pub placed : ℕ → Observation → (Observation × ℕ)
placed place m = (m, place)

-- what of the observations at a place is in the list
of_observations : (observations : List Observation) (place : ℕ) (m : Observation) (p : ℕ) → Contains (map (placed place) observations) (m, p) → (p ≡ place) × Contains observations m
of_observations observations place m p has =
    let h = has_place (map (placed place) observations) (m, p) has in
    let f = mapped_from (placed place) observations h.0 (m, p) h.1 in
    let at_m : f.0 ≡ m = ap (λ e. e.0) f.2 in
    (sym (ap (λ e. e.1) f.2), subst (Contains observations) at_m (at_place observations h.0 f.0 f.1))

to_observations : (observations : List Observation) (place i : ℕ) (m : Observation) → slice_get observations i ≡ Some m → Contains (map (placed place) observations) (m, place)
to_observations observations place i m there = at_place (map (placed place) observations) i (m, place) (mapped_to (placed place) observations i m there)

-- one observation more of a snapshot
pub up_to_more : (seen : List (Observation × ℕ)) (observations : List Observation) (place : ℕ) → IsUpTo place seen → IsUpTo place (seen ++ map (placed place) observations)
up_to_more seen observations place up_to m p has = elim (Contains-append_cases seen (map (placed place) observations) (m, p) has) [
  | inl old ↦ up_to m p old
  | inr new ↦ let is = (of_observations observations place m p new).0 in omega (arith, is)
]

pub noted_more : (seen : List (Observation × ℕ)) (observations : List Observation) (place i : ℕ) (d : Observation) (firsts : List (Observation × ℕ)) → i < length observations → AreFirsts ((seen ++ map (placed place) (take i observations)) ++ (get_or observations i d, place) ∷ []) firsts
    → AreFirsts (seen ++ map (placed place) (take (i + 1) observations)) firsts
noted_more seen observations place i d firsts lt r =
    let is : (seen ++ map (placed place) (take i observations)) ++ (get_or observations i d, place) ∷ [] ≡ seen ++ map (placed place) (take (i + 1) observations) =
    append_assoc seen (map (placed place) (take i observations)) ((get_or observations i d, place) ∷ []) ∙ ap (λ l. seen ++ l) (sym (map_more (placed place) observations i d lt))
    in
    subst (λ l. AreFirsts l firsts) is r

module _ (plan : Plan) (snapshots : List Snapshot) where
  pub seen_more : (place : ℕ) (s : Snapshot) (observations : List Observation) (seen : List (Observation × ℕ)) → slice_get snapshots place ≡ Some s → HasExactly (HasObservation plan s) (map observation_of observations) → AreSeen plan snapshots place seen
      → AreSeen plan snapshots (place + 1) (seen ++ map (placed place) observations)
  seen_more place s observations seen there exact r = record {
    sound = λ m p has. elim (Contains-append_cases seen (map (placed place) observations) (m, p) has) [
      | inl old ↦ let h = r.sound m p old in let lt = h.0 in (omega (arith, lt), h.1)
      | inr new ↦
          let h = of_observations observations place m p new in
          let is = h.0 in
          let at = has_place observations m h.1 in
          let shown : HasObservation plan s (observation_of m) = exact.sound at.0 (observation_of m) (mapped_to observation_of observations at.0 m at.1) in
          (omega (arith, is), record { where_it_stands = s; there = subst (λ k. slice_get snapshots k ≡ Some s) (sym is) there; has = shown })
    ];
    complete = λ j t q lt at has. elim (cases_lt j place) [
      | inl before ↦ let h = r.complete j t q before at has in record { kept = h.kept; is = h.is; there = Contains-append_left seen (map (placed place) observations) (h.kept, j) h.there }
      | inr behind ↦
          let is : j ≡ place = omega (arith, lt, behind) in
          let same : t ≡ s = some_is t s (sym at ∙ subst (λ k. slice_get snapshots k ≡ Some s) (sym is) there) in
          let a = exact.complete q (subst (λ x. HasObservation plan x q) same has) in
          let m = mapped_from observation_of observations a.place q a.there in
          record {
            kept = m.0;
            is = m.2;
            there = subst (λ k. Contains (seen ++ map (placed place) observations) (m.0, k)) (sym is) (Contains-append_right seen (map (placed place) observations) (m.0, place) (to_observations observations place a.place m.0 m.1));
          }
    ];
  }

  pub seen_up_to : (place : ℕ) (seen : List (Observation × ℕ)) → AreSeen plan snapshots place seen → IsUpTo place seen
  seen_up_to place seen r m p has = let lt = (r.sound m p has).0 in omega (arith, lt)

  pub none_seen : AreFirstsBefore plan snapshots 0 []
  none_seen = record {
    seen = [];
    all_seen = record { sound = λ m p has. absurd (nothing m p has); complete = λ j s q lt there has. absurd (omega (arith, lt)) };
    are_firsts = record { seen_there = λ i m p there. absurd (cc there); all = λ m p has. absurd (nothing m p has); once = λ i j m p q one other. absurd (cc one) };
  }
    where
      nothing : (m : Observation) (p : ℕ) → Contains {X = Observation × ℕ} [] (m, p) → ⊥
      nothing m p has = let lt = has.1 in omega (arith, lt)
