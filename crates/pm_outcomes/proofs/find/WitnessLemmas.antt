-- The schedule that leads to a snapshot shows what the snapshot does.
use Rattle.std.proofs.Common.{ℕ, ◌≡◌, ◌<◌, List, Some, length, reverse, slice_get, get_or, sym, subst, ◌∙◌, Result, Ok, Err, Option, None, IfOk}
use Rattle.std.proofs.lemmas.Option.{slice_get-get_or, slice_get_within}
use Rattle.std.specs.Option.{IfSome}
use Rattle.pm_outcomes.specs.declared.list.observations.Outcome.{Outcome}
use Rattle.pm_outcomes.specs.list.Shown.{observation_of}
use Rattle.pm_model.specs.declared.event.Line.{Line}
use Rattle.pm_model.specs.declared.plan.Plan.{Plan}
use Rattle.pm_explore.specs.declared.schedule.Pace.{Pace}
use Rattle.pm_explore.specs.schedule.Observations.{HasObservation}
use Rattle.pm_explore.specs.schedule.Schedules.{snapshot}
use Rattle.pm_explore.specs.schedule.Snapshots.{Follows, Snapshot}
use Rattle.pm_explore.specs.search.Trees.{AreLed}
use Rattle.pm_outcomes.specs.paths.Found.{IsTooFar}
use Rattle.pm_outcomes.specs.paths.Runs.{IsAsLed, IsScheduleTo}
use Rattle.pm_outcomes.specs.find.Had.{AreShown, IsWitness}
use Rattle.pm_outcomes.proofs.find.Among.{some_is}

pub is_witness : (pace : Pace) (plan : Plan) (snapshots : List Snapshot) (parents rounds : List ℕ) (outcomes : List Outcome) (index : ℕ) (o : Outcome) (lines : List Line) → AreShown plan snapshots rounds outcomes → AreLed (Follows pace plan) snapshots parents rounds
    → slice_get outcomes index ≡ Some o → IsScheduleTo pace plan snapshots o.place lines → IsAsLed pace plan snapshots parents o.place lines → IsWitness pace plan rounds o lines
is_witness pace plan snapshots parents rounds outcomes index o lines shown led there to few =
    let s = shown.shown index o there in
    let stands : s.where_it_stands ≡ snapshot plan (reverse lines) = some_is s.where_it_stands (snapshot plan (reverse lines)) (sym s.there ∙ to.stands) in
    record {
      order = to.order;
      lawful = to.lawful;
      has = subst (λ p. HasObservation plan p (observation_of o.observation)) stands s.has;
      few = λ within.
          let at = slice_get-get_or rounds o.round 0 within in
          few o.round (led o.round (get_or rounds o.round 0) o.place at (shown.in_round index o (get_or rounds o.round 0) there at));
    }

-- what holds of an answer, where there is one, by two things that do
pub by_both : {V E : Type 0} (P Q R : V → Type 0) (r : Result (Option V) E) → IfOk r (λ f. IfSome f P) → IfOk r (λ f. IfSome f Q) → ((v : V) → P v → Q v → R v) → IfOk r (λ f. IfSome f R)
by_both P Q R (Ok (Some v)) p q both = both v p q
by_both P Q R (Ok None) p q both = tt
by_both P Q R (Err e) p q both = tt

-- a path that is too far leads somewhere
pub far_somewhere : {V E : Type 0} (plan : Plan) (parents : List ℕ) (at : ℕ) (r : Result (Option V) E) → IfOk r (λ f. f ≡ None → IsTooFar plan parents at) → IfOk r (λ f. f ≡ None → (n : ℕ) × IsTooFar plan parents n)
far_somewhere plan parents at (Ok f) far = λ none. (at, far none)
far_somewhere plan parents at (Err e) far = tt

pub is_within : (plan : Plan) (snapshots : List Snapshot) (rounds : List ℕ) (outcomes : List Outcome) (index : ℕ) (o : Outcome) → AreShown plan snapshots rounds outcomes → slice_get outcomes index ≡ Some o → o.place < length snapshots
is_within plan snapshots rounds outcomes index o shown there = slice_get_within snapshots o.place (shown.shown index o there).where_it_stands (shown.shown index o there).there
