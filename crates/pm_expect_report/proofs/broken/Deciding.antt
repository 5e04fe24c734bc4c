-- What the first snapshot that breaks an expectation says of all schedules.
use Rattle.std.proofs.Common.{◌≡◌, ◌<◌, ◌≤◌, ◌+◌, ◌↔◌, ℕ, List, Option, Some, None, IsSome, length, min, slice_get, get_or, refl, ap, ◌∙◌, inl, inr, arith}
use Rattle.std.proofs.lemmas.Bool.{cases_lt}
use Rattle.std.proofs.lemmas.Option.{slice_get-get_or, slice_get_within}
use Rattle.pm_expect_report.specs.broken.Breaches.{breach_at}
use Rattle.pm_expect_report.specs.broken.Found.{AreFound, BreaksSo, IsBroken, IsBrokenWithin, IsFirst, IsFirstOf, IsToldWithin}
use Rattle.pm_expect_report.specs.declared.broken.expectation.Breach.{Breach}
use Rattle.pm_expect_report.specs.declared.broken.expectation.Expectation.{Expectation}
use Rattle.pm_expect_report.specs.declared.broken.firsts.Broken.{Broken}
use Rattle.pm_outcomes.specs.list.Listing.{round_of}
use Rattle.pm_model.specs.declared.plan.Plan.{Plan}
use Rattle.pm_model.specs.History.{History}
use Rattle.pm_explore.specs.declared.schedule.Pace.{Pace}
use Rattle.pm_explore.specs.schedule.Schedules.{IsSchedule, preemptions, snapshot}
use Rattle.pm_explore.specs.schedule.Snapshots.{Follows, Snapshot, start_snapshot}
use Rattle.pm_explore.specs.declared.search.found.Ended.{Ended}
use Rattle.pm_explore.specs.search.Exact.{EndWithAll}
use Rattle.pm_explore.specs.search.Growing.{IsLed}
use Rattle.pm_explore.specs.search.Reached.{Reached}
use Rattle.pm_explore.specs.search.Seen.{IsSeen}
use Rattle.pm_explore.specs.search.Trees.{IsTree}
use Rattle.pm_outcomes.specs.paths.Found.{AreOfAllSchedules, AreOfSchedules}
use Rattle.pm_explore.proofs.search.Leading.{reached_within}
use Rattle.pm_expect_report.proofs.broken.Lists.{clash, in_its_round, no_later}

-- it is first broken at a place, or before it
abbrev IsEarly : ℕ → Option Broken → Type 0
IsEarly j (Some b) = b.place ≤ j
IsEarly j None = ⊥

-- a schedule stands where something is reached
abbrev pub OrdersStand : Pace → Plan → Type 0
OrdersStand pace plan = (k : ℕ) (s : Snapshot) → Reached (Follows pace plan) (start_snapshot plan) k s → (h : History) × IsSchedule pace plan h × (preemptions plan h ≡ k) × (snapshot plan h ≡ s)

module _ (pace : Pace) (plan : Plan) (e : Expectation) (snapshots : List Snapshot) (rounds : List ℕ) where
  early : (b : Option Broken) → IsFirstOf plan e snapshots rounds b → (j : ℕ) (s : Snapshot) (x : Breach) → slice_get snapshots j ≡ Some s → breach_at plan e s ≡ Some x → IsEarly j b
  early None none j s x there breaks = clash (breach_at plan e s) x (none j s (slice_get_within snapshots j s there) there) breaks
  early (Some b) first j s x there breaks = elim (cases_lt j b.place) [ inl before ↦ absurd (clash (breach_at plan e s) x (first.first j s before there) breaks) | inr behind ↦ behind ]

  module _ (k bound : ℕ) (at : slice_get rounds k ≡ Some bound) where
    told_of : (b : Option Broken) → IsFirstOf plan e snapshots rounds b → (j : ℕ) → IsEarly j b → j < bound → IsToldWithin k b
    told_of None first j at_once lt = at_once
    told_of (Some b) first j at_once lt =
        let r = no_later rounds b.place k bound at (omega (arith, at_once, lt)) in
        let round = first.round in
        omega (arith, r, round)

    broken_of : (b : Option Broken) → IsFirstOf plan e snapshots rounds b → ((k bound : ℕ) → slice_get rounds k ≡ Some bound → AreOfSchedules pace plan k snapshots bound) → IsToldWithin k b → IsBrokenWithin pace plan k e
    broken_of None first of_schedules told = absurd told
    broken_of (Some b) first of_schedules told =
        let within = slice_get_within rounds k bound at in
        let round = first.round in
        let r = round_of rounds b.place in
        let there = slice_get-get_or rounds r 0 (omega (arith, told, within, round)) in
        let c = get_or rounds r 0 in
        let h = (of_schedules r c there).sound b.place first.stands (in_its_round rounds b.place c there) first.there in
        let few = h.2 in
        record { order = h.0; is_schedule = h.1; few = omega (arith, few, told, round); breach = b.breach; breaks = ap (breach_at plan e) h.3 ∙ first.breach }

  -- of a round that is complete
  in_round : (b : Option Broken) → IsFirstOf plan e snapshots rounds b → ((k bound : ℕ) → slice_get rounds k ≡ Some bound → AreOfSchedules pace plan k snapshots bound) → (k bound : ℕ) → slice_get rounds k ≡ Some bound → IsToldWithin k b ↔ IsBrokenWithin pace plan k e
  in_round b first of_schedules k bound at = (
    λ told. broken_of k bound at b first of_schedules told,
    λ broken.
        let a = (of_schedules k bound at).complete broken.order broken.is_schedule broken.few in
        told_of k bound at b first a.place (early b first a.place (snapshot plan broken.order) broken.breach a.there broken.breaks) a.below,
  )

  -- the first place is in a round, where the last round has all
  pub in_a_round : (b : Broken) → IsFirst plan e snapshots rounds b → EndWithAll snapshots rounds → b.round < length rounds
  in_a_round b first ends =
      let last = ends.is_last in
      let round = first.round in
      let r = no_later rounds b.place ends.last (length snapshots) ends.all (slice_get_within snapshots b.place first.stands first.there) in
      omega (arith, last, round, r)

  -- past the last round of a search that saw all
  broken_past : (b : Option Broken) → IsFirstOf plan e snapshots rounds b → ((k bound : ℕ) → slice_get rounds k ≡ Some bound → AreOfSchedules pace plan k snapshots bound) → EndWithAll snapshots rounds → (k : ℕ) → length rounds ≤ k → IsToldWithin k b → IsBrokenWithin pace plan k e
  broken_past None first of_schedules ends k past told = absurd told
  broken_past (Some b) first of_schedules ends k past told =
      let last = ends.is_last in
      let lt = in_a_round b first ends in
      let o = broken_of ends.last (length snapshots) ends.all (Some b) first of_schedules (omega (arith, last, lt)) in
      let few = o.few in
      record { order = o.order; is_schedule = o.is_schedule; few = omega (arith, few, last, past); breach = o.breach; breaks = o.breaks }

  told_past : (b : Option Broken) → IsFirstOf plan e snapshots rounds b → AreOfAllSchedules pace plan snapshots → EndWithAll snapshots rounds → (k : ℕ) → length rounds ≤ k → IsBrokenWithin pace plan k e → IsToldWithin k b
  told_past None first of_all ends k past broken =
      let a = of_all.complete broken.order broken.is_schedule in
      absurd (early None first a.place (snapshot plan broken.order) broken.breach a.there broken.breaks)
  told_past (Some b) first of_all ends k past broken = let lt = in_a_round b first ends in omega (arith, lt, past)

  -- of each number of preemptions whose schedules were all seen
  pub within : (ended : Ended) (b : Option Broken) → IsFirstOf plan e snapshots rounds b → AreFound pace plan snapshots rounds ended → (k : ℕ) → IsSeen ended rounds k → IsToldWithin k b ↔ IsBrokenWithin pace plan k e
  within ended b first found k seen = elim (cases_lt k (length rounds)) [
    | inl lt ↦ in_round b first found.of_schedules k (get_or rounds k 0) (slice_get-get_or rounds k 0 lt)
    | inr past ↦ elim seen [
      | inl saw ↦ (λ told. broken_past b first found.of_schedules (found.last saw) k past told, λ broken. told_past b first (found.all_schedules saw) (found.last saw) k past broken)
      | inr lt ↦ absurd (omega (arith, lt, past))
    ]
  ]

  some_broken : (b : Option Broken) → IsFirstOf plan e snapshots rounds b → ((i : ℕ) (s : Snapshot) → slice_get snapshots i ≡ Some s → (h : History) × IsSchedule pace plan h × (snapshot plan h ≡ s)) → IsSome b → IsBroken pace plan e
  some_broken None first stand some = absurd (cc some)
  some_broken (Some b) first stand some =
      let h = stand b.place first.stands first.there in
      record { order = h.0; is_schedule = h.1; breach = b.breach; breaks = ap (breach_at plan e) h.2 ∙ first.breach }

  is_some_of : (b : Option Broken) (j : ℕ) → IsEarly j b → IsSome b
  is_some_of None j at_once = absurd at_once
  is_some_of (Some b) j at_once = refl

  pub all : (b : Option Broken) → IsFirstOf plan e snapshots rounds b → AreOfAllSchedules pace plan snapshots → IsSome b ↔ IsBroken pace plan e
  all b first of_all = (
    λ some. some_broken b first (λ i s there. of_all.sound i s there) some,
    λ broken.
        let a = of_all.complete broken.order broken.is_schedule in
        is_some_of b a.place (early b first a.place (snapshot plan broken.order) broken.breach a.there broken.breaks),
  )

  -- as it is told a schedule breaks it: of a round that is complete, or else of the next one
  pub so : OrdersStand pace plan → (parents : List ℕ) (ended : Ended) (most : ℕ) (b : Broken) → IsFirst plan e snapshots rounds b → AreFound pace plan snapshots rounds ended → length rounds ≤ most + 1
      → IsTree (Follows pace plan) (start_snapshot plan) snapshots parents → IsLed (Follows pace plan) (min most (length rounds)) snapshots parents → (order : History) × BreaksSo pace plan most e b.breach order
  so orders parents ended most b first found asked tree near = elim (cases_lt b.round (length rounds)) [
    | inl lt ↦
        let round = first.round in
        let r = round_of rounds b.place in
        let there = slice_get-get_or rounds r 0 (omega (arith, lt, round)) in
        let c = get_or rounds r 0 in
        let h = (found.of_schedules r c there).sound b.place first.stands (in_its_round rounds b.place c there) first.there in
        let few = h.2 in (
          h.0,
          record {
            is_schedule = h.1;
            breaks = ap (breach_at plan e) h.3 ∙ first.breach;
            within = omega (arith, few, lt, round, asked);
            fewest = λ k broken. elim (cases_lt k (length rounds)) [
              | inl complete ↦ let told : b.round ≤ k = (within ended (Some b) first found k (inr complete)).1 broken in omega (arith, few, told, round)
              | inr past ↦ omega (arith, few, lt, round, past)
            ];
          },
        )
    | inr past ↦
        let r = reached_within (Follows pace plan) (start_snapshot plan) snapshots parents (min most (length rounds)) tree near b.place first.stands first.there in
        let o = orders r.spent first.stands r.reached in
        let few = r.few in
        let same = o.2 in (
          o.0,
          record {
            is_schedule = o.1;
            breaks = ap (breach_at plan e) o.3 ∙ first.breach;
            within = omega (arith, few, same);
            fewest = λ k broken. elim (cases_lt k (length rounds)) [
              | inl complete ↦ let told : b.round ≤ k = (within ended (Some b) first found k (inr complete)).1 broken in absurd (omega (arith, complete, past, told))
              | inr beyond ↦ omega (arith, few, same, beyond)
            ];
          },
        )
  ]
