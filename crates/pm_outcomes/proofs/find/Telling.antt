-- What the list tells, of what the schedules show.
use Rattle.std.proofs.Common.{◌≡◌, ◌<◌, ◌≤◌, ◌⊎◌, ◌||◌, ℕ, Bool, true, false, not, List, Some, None, length, slice_get, nat_lt, get_or, refl, sym, ap, subst, ◌∙◌, inl, inr, arith, if◌then◌else◌}
use Rattle.std.proofs.lemmas.Bool.{cases_lt}
use Rattle.std.proofs.lemmas.Bool.Decides.{nat_tests}
use Rattle.std.proofs.lemmas.List.Sorted.{Contains-permutation, IsPermutation-sym}
use Rattle.std.proofs.lemmas.List.Sums.{prefix_len_passes, prefix_len_stops}
use Rattle.std.proofs.lemmas.Option.{get_or_from_slice_get, slice_get-get_or, slice_get_within}
use Rattle.std.specs.List.{filter_map}
use Rattle.pm_outcomes.specs.declared.list.observations.Observation.{Observation}
use Rattle.pm_outcomes.specs.declared.list.observations.Outcome.{Outcome}
use Rattle.pm_outcomes.specs.list.Listing.{AreListed, outcome_of, round_of}
use Rattle.pm_outcomes.specs.list.Shown.{observation_of}
use Rattle.pm_model.specs.declared.plan.Plan.{Plan}
use Rattle.pm_explore.specs.declared.schedule.Pace.{Pace}
use Rattle.pm_explore.specs.schedule.Observations.{HasObservation, Observation as Shown}
use Rattle.pm_explore.specs.schedule.Schedules.{snapshot}
use Rattle.pm_explore.specs.schedule.Snapshots.{Snapshot}
use Rattle.pm_explore.specs.declared.search.found.Ended.{Ended}
use Rattle.pm_explore.specs.declared.search.found.Ended.TheVariants.{Whole}
use Rattle.pm_explore.specs.search.Exact.{EndWithAll}
use Rattle.pm_explore.specs.search.Seen.{IsSeen}
use Rattle.pm_outcomes.specs.paths.Found.{AreOfAllSchedules, AreOfSchedules}
use Rattle.pm_outcomes.specs.find.Had.{AreExact, AreExactWithin, AreShown, IsShownAt}
use Rattle.pm_outcomes.specs.find.Seen.{AreFirstsBefore}
use Rattle.pm_outcomes.proofs.find.Among.{at_place, has_place, some_is, told_from, told_to}

-- what is known of an outcome that is told of an observation
pub record IsTold (rounds : List ℕ) (whole : Bool) (m : Observation) (place : ℕ) (o : Outcome) : Type 0 where
  pub observation : o.observation ≡ m
  pub at : o.place ≡ place
  pub round : o.round ≡ round_of rounds place
  pub counts : (whole ≡ true) ⊎ (round_of rounds place < length rounds)

pub told_is : (rounds : List ℕ) (whole : Bool) (m : Observation) (place : ℕ) (o : Outcome) → outcome_of rounds whole (m, place) ≡ Some o → IsTold rounds whole m place o
told_is rounds true m place o is =
    let e : record { observation = m; round = round_of rounds place; place = place } ≡ o = some_is _ o is in
    record { observation = sym (ap (λ (x : Outcome). x.observation) e); at = sym (ap (λ (x : Outcome). x.place) e); round = sym (ap (λ (x : Outcome). x.round) e); counts = inl refl }
told_is rounds false m place o is = by (nat_lt (round_of rounds place) (length rounds)) refl is
  where
    made : Outcome
    made = record { observation = m; round = round_of rounds place; place = place }

    by : (b : Bool) → nat_lt (round_of rounds place) (length rounds) ≡ b → (if b then Some made else None) ≡ Some o → IsTold rounds false m place o
    by false is_not t = absurd (cc t)
    by true is_so t =
        let e : made ≡ o = some_is made o t in
        record { observation = sym (ap (λ (x : Outcome). x.observation) e); at = sym (ap (λ (x : Outcome). x.place) e); round = sym (ap (λ (x : Outcome). x.round) e); counts = inr (grind (arith, nat_tests)) }

-- an observation is told where its round counts
tells : (rounds : List ℕ) (whole : Bool) (m : Observation) (place : ℕ) → (whole ≡ true) ⊎ (round_of rounds place < length rounds) → outcome_of rounds whole (m, place) ≡ Some (record { observation = m; round = round_of rounds place; place = place })
tells rounds whole m place (inl is) = ap (λ b. if b || nat_lt (round_of rounds place) (length rounds) then Some (record { observation = m; round = round_of rounds place; place = place }) else None) is
tells rounds true m place (inr lt) = refl
tells rounds false m place (inr lt) =
    let is_so : nat_lt (round_of rounds place) (length rounds) ≡ true = grind (arith, nat_tests) in
    ap (λ b. if b then Some (record { observation = m; round = round_of rounds place; place = place }) else None) is_so

-- a place is within its round
in_its_round : (rounds : List ℕ) (place bound : ℕ) → slice_get rounds (round_of rounds place) ≡ Some bound → place < bound
in_its_round rounds place bound there =
    let stops = prefix_len_stops (λ x. not (nat_lt place x)) rounds 0 (slice_get_within rounds (round_of rounds place) bound there) in
    let is : get_or rounds (round_of rounds place) 0 ≡ bound = get_or_from_slice_get rounds (round_of rounds place) bound 0 there in
    let reads : not (nat_lt place bound) ≡ false = ap (λ x. not (nat_lt place x)) (sym is) ∙ stops in
    grind (arith, nat_tests)

-- and no later round is its own
no_later : (rounds : List ℕ) (place k bound : ℕ) → slice_get rounds k ≡ Some bound → place < bound → round_of rounds place ≤ k
no_later rounds place k bound there lt = elim (cases_lt k (round_of rounds place)) [
  | inl before ↦
      let passes = prefix_len_passes (λ x. not (nat_lt place x)) rounds k 0 before in
      let is : get_or rounds k 0 ≡ bound = get_or_from_slice_get rounds k bound 0 there in
      let reads : not (nat_lt place bound) ≡ true = ap (λ x. not (nat_lt place x)) (sym is) ∙ passes in
      absurd (grind (arith, nat_tests))
  | inr behind ↦ behind
]

module _ (plan : Plan) (snapshots : List Snapshot) (rounds : List ℕ) (whole : Bool) (firsts : List (Observation × ℕ)) (outcomes : List Outcome)
    (are_firsts : AreFirstsBefore plan snapshots (length snapshots) firsts) (listed : AreListed firsts rounds whole outcomes) where
  -- an outcome comes of an observation that shows
  record Comes (o : Outcome) : Type 0 where
    pub shown : IsShownAt plan snapshots o.place (observation_of o.observation)
    pub round : o.round ≡ round_of rounds o.place
    pub counts : (whole ≡ true) ⊎ (round_of rounds o.place < length rounds)

  comes : (i : ℕ) (o : Outcome) → slice_get outcomes i ≡ Some o → Comes o
  comes i o there =
      let told = filter_map (outcome_of rounds whole) firsts in
      let has = Contains-permutation outcomes told o (IsPermutation-sym told outcomes listed.same) (at_place outcomes i o there) in
      let at = has_place told o has in
      let f = told_from (outcome_of rounds whole) firsts at.0 o at.1 in
      let first = f.1 in
      let t = told_is rounds whole first.0 first.1 o f.3 in
      let seen = are_firsts.are_firsts.seen_there f.0 first.0 first.1 f.2 in
      let s = (are_firsts.all_seen.sound first.0 first.1 seen).1 in
      record {
        shown = subst (λ p. IsShownAt plan snapshots p (observation_of o.observation)) (sym t.at) (subst (λ m. IsShownAt plan snapshots first.1 (observation_of m)) (sym t.observation) s);
        round = t.round ∙ ap (round_of rounds) (sym t.at);
        counts = subst (λ p. (whole ≡ true) ⊎ (round_of rounds p < length rounds)) (sym t.at) t.counts;
      }

  -- an observation that shows is told
  record Goes (place : ℕ) (q : Shown) : Type 0 where
    pub first : ℕ
    pub early : first ≤ place
    pub told : (whole ≡ true) ⊎ (round_of rounds first < length rounds) → (i : ℕ) × (o : Outcome) × (slice_get outcomes i ≡ Some o) × (observation_of o.observation ≡ q) × (o.round ≡ round_of rounds first)

  goes : (place : ℕ) (s : Snapshot) (q : Shown) → slice_get snapshots place ≡ Some s → HasObservation plan s q → Goes place q
  goes place s q there has =
      let seen = are_firsts.all_seen.complete place s q (slice_get_within snapshots place s there) there has in
      let f = are_firsts.are_firsts.all seen.kept place seen.there in
      record {
        first = f.first;
        early = f.by;
        told = λ counts.
            let o : Outcome = record { observation = seen.kept; round = round_of rounds f.first; place = f.first } in
            let told = filter_map (outcome_of rounds whole) firsts in
            let t = told_to (outcome_of rounds whole) firsts f.at (seen.kept, f.first) o f.there (tells rounds whole seen.kept f.first counts) in
            let at = has_place outcomes o (Contains-permutation told outcomes o listed.same (at_place told t.0 o t.1)) in
            (at.0, o, at.1, seen.is, refl);
      }

  pub shown_exactly : AreShown plan snapshots rounds outcomes
  shown_exactly = record {
    shown = λ i o there. (comes i o there).shown;
    in_round = λ i o bound there at. let c = comes i o there in in_its_round rounds o.place bound (subst (λ k. slice_get rounds k ≡ Some bound) c.round at);
  }

  -- each has the number of a round, where the last round of a whole search has all snapshots
  pub in_rounds : (whole ≡ true → EndWithAll snapshots rounds) → (i : ℕ) (o : Outcome) → slice_get outcomes i ≡ Some o → o.round < length rounds
  in_rounds ends i o there =
      let c = comes i o there in
      let same = c.round in
      elim c.counts [
        | inl is ↦
            let e = ends is in
            let last = e.is_last in
            let round = no_later rounds o.place e.last (length snapshots) e.all (slice_get_within snapshots o.place c.shown.where_it_stands c.shown.there) in
            omega (arith, same, last, round)
        | inr lt ↦ omega (arith, same, lt)
      ]

  exact_within : (pace : Pace) → ((k bound : ℕ) → slice_get rounds k ≡ Some bound → AreOfSchedules pace plan k snapshots bound) → (k bound : ℕ) → slice_get rounds k ≡ Some bound → AreExactWithin pace plan k outcomes
  exact_within pace of_schedules k bound at = record {
    sound = λ m l.
        let c = comes l.index l.outcome l.there in
        let few = l.few in
        let within = slice_get_within rounds k bound at in
        let there = slice_get-get_or rounds l.outcome.round 0 (omega (arith, few, within)) in
        let b = get_or rounds l.outcome.round 0 in
        let below = in_its_round rounds l.outcome.place b (subst (λ r. slice_get rounds r ≡ Some b) c.round there) in
        let h = (of_schedules l.outcome.round b there).sound l.outcome.place c.shown.where_it_stands below c.shown.there in
        let preempts = h.2 in
        let has : HasObservation plan (snapshot plan h.0) (observation_of l.outcome.observation) = subst (λ s. HasObservation plan s (observation_of l.outcome.observation)) (sym h.3) c.shown.has in
        record { order = h.0; is_schedule = h.1; few = omega (arith, preempts, few); has = subst (HasObservation plan (snapshot plan h.0)) l.observation has };
    complete = λ m h.
        let a = (of_schedules k bound at).complete h.order h.is_schedule h.few in
        let g = goes a.place (snapshot plan h.order) m a.there h.has in
        let early = g.early in
        let below = a.below in
        let round = no_later rounds g.first k bound at (omega (arith, early, below)) in
        let within = slice_get_within rounds k bound at in
        let t = g.told (inr (omega (arith, round, within))) in
        let is = t.4 in
        record { index = t.0; outcome = t.1; there = t.2; observation = t.3; few = omega (arith, is, round) };
  }

  pub exact : (pace : Pace) → whole ≡ true → AreOfAllSchedules pace plan snapshots → AreExact pace plan outcomes
  exact pace is all = record {
    sound = λ m l.
        let c = comes l.index l.outcome l.there in
        let h = all.sound l.outcome.place c.shown.where_it_stands c.shown.there in
        let has : HasObservation plan (snapshot plan h.0) (observation_of l.outcome.observation) = subst (λ s. HasObservation plan s (observation_of l.outcome.observation)) (sym h.2) c.shown.has in
        record { order = h.0; is_schedule = h.1; has = subst (HasObservation plan (snapshot plan h.0)) l.observation has };
    complete = λ m h.
        let a = all.complete h.order h.is_schedule in
        let g = goes a.place (snapshot plan h.order) m a.there h.has in
        let t = g.told (inl is) in
        record { index = t.0; outcome = t.1; there = t.2; observation = t.3 };
  }

  -- past the last round of a whole search
  exact_beyond : (pace : Pace) → ((k bound : ℕ) → slice_get rounds k ≡ Some bound → AreOfSchedules pace plan k snapshots bound) → whole ≡ true → AreOfAllSchedules pace plan snapshots → EndWithAll snapshots rounds → (k : ℕ) → length rounds ≤ k → AreExactWithin pace plan k outcomes
  exact_beyond pace of_schedules is all e k past =
      let last = e.is_last in
      record {
        sound = λ m l.
            let lt = in_rounds (λ w. e) l.index l.outcome l.there in
            let h = (exact_within pace of_schedules e.last (length snapshots) e.all).sound m (record { index = l.index; outcome = l.outcome; there = l.there; observation = l.observation; few = omega (arith, lt, last) }) in
            let few = h.few in
            record { order = h.order; is_schedule = h.is_schedule; few = omega (arith, few, last, past); has = h.has };
        complete = λ m h.
            let l = (exact pace is all).complete m (record { order = h.order; is_schedule = h.is_schedule; has = h.has }) in
            let lt = in_rounds (λ w. e) l.index l.outcome l.there in
            record { index = l.index; outcome = l.outcome; there = l.there; observation = l.observation; few = omega (arith, lt, past) };
      }

  -- and so for each number of preemptions whose schedules were all seen
  pub exact_seen : (pace : Pace) (ended : Ended) → ((k bound : ℕ) → slice_get rounds k ≡ Some bound → AreOfSchedules pace plan k snapshots bound) → (ended ≡ Whole → whole ≡ true) → (ended ≡ Whole → AreOfAllSchedules pace plan snapshots)
      → (ended ≡ Whole → EndWithAll snapshots rounds) → (k : ℕ) → IsSeen ended rounds k → AreExactWithin pace plan k outcomes
  exact_seen pace ended of_schedules is all ends k seen = elim (cases_lt k (length rounds)) [
    | inl lt ↦ exact_within pace of_schedules k (get_or rounds k 0) (slice_get-get_or rounds k 0 lt)
    | inr past ↦ elim seen [
      | inl saw ↦ exact_beyond pace of_schedules (is saw) (all saw) (ends saw) k past
      | inr lt ↦ absurd (omega (arith, lt, past))
    ]
  ]
