-- Which observations are listed, and by how many preemptions.
use Rattle.std.proofs.Common.{ℕ, ◌≡◌, ◌<◌, ◌≤◌, List, Some, length, reverse, slice_get, sym, subst, ap, ◌∙◌, arith}
use Rattle.std.proofs.lemmas.Option.{slice_get_within}
use Rattle.pm_outcomes.specs.islands.Homes.{IsHomePart}
use Rattle.pm_outcomes.specs.wanted.Listed.{HasItNot, IsObservationAt}
use Rattle.pm_cmd_lab.specs.ends.Ending.{Unseen}
use Rattle.pm_cmd_lab.specs.order.Order.{ObservationEnds, in_none, none_ending, too_far, too_far_text}
use Rattle.pm_cmd_lab.specs.order.Showing.{IsFewest, IsInNone}
use Rattle.pm_cmd_lab.specs.order.Work.{IsPathTo}
use Rattle.pm_cmd_lab.specs.orders.Found.{IsFound}
use Rattle.pm_cmd_lab.specs.orders.Orders.{pace_of, reach}
use Rattle.pm_cmd_lab.proofs.orders.SchedulesLemmas.{reach_is}
use Rattle.pm_lab_words.specs.declared.request.Bounds.{Bounds}
use Rattle.pm_outcomes.specs.declared.list.observations.Left.{Left}
use Rattle.pm_outcomes.specs.declared.list.observations.Observation.{Observation}
use Rattle.pm_outcomes.specs.declared.list.observations.Observation.TheVariants.{End, Return}
use Rattle.pm_outcomes.specs.declared.list.observations.Outcome.{Outcome}
use Rattle.pm_outcomes.specs.declared.list.observations.Returned.{Returned}
use Rattle.pm_outcomes.specs.list.Shown.{observation_of}
use Rattle.pm_model.specs.declared.event.Line.{Line}
use Rattle.pm_model.specs.declared.plan.Plan.{Plan}
use Rattle.pm_explore.specs.declared.schedule.Pace.{Pace}
use Rattle.pm_explore.specs.schedule.Observations.{HasObservation}
use Rattle.pm_explore.specs.schedule.Observations.Observation.{Ends, Returns}
use Rattle.pm_explore.specs.schedule.Schedules.{preemptions, snapshot}
use Rattle.pm_outcomes.specs.text.Absent.{absent_line}
use Rattle.pm_outcomes.specs.text.Reached.{reach_of}
use Rattle.pm_outcomes.specs.declared.text.reach.Reach.{Reach}
use Rattle.pm_outcomes.specs.declared.find.finding.Outcomes.{Outcomes}
use Rattle.pm_outcomes.specs.find.Had.{IsListed, IsListedWithin, IsWitness}
use Rattle.pm_outcomes.specs.paths.Found.{IsTooFar}

-- observations of one kind that stand for the same are the same
same_return : (r s : Returned) → Returns r.caller r.command r.code ≡ Returns s.caller s.command s.code → r ≡ s
same_return r s is =
    let caller : r.caller ≡ s.caller = cc is in
    let command : r.command ≡ s.command = cc is in
    let code : r.code ≡ s.code = cc is in
    λ i. record { caller = caller i; command = command i; code = code i }

same_left : (l m : Left) → Ends l.device l.status l.usage l.error ≡ Ends m.device m.status m.usage m.error → l ≡ m
same_left l m is =
    let device : l.device ≡ m.device = cc is in
    let status : l.status ≡ m.status = cc is in
    let usage : l.usage ≡ m.usage = cc is in
    let error : l.error ≡ m.error = cc is in
    λ i. record { device = device i; status = status i; usage = usage i; error = error i }

same_observation : (a b : Observation) → observation_of a ≡ observation_of b → a ≡ b
same_observation (Return r) (Return s) is = ap Return (same_return r s is)
same_observation (Return r) (End m) is = cc is
same_observation (End l) (Return s) is = cc is
same_observation (End l) (End m) is = ap End (same_left l m is)

some_is : {A : Type 0} (x y : A) → Some x ≡ Some y → x ≡ y
some_is x y is = cc is

-- an observation that the list doesn't have isn't listed
not_at : (outcomes : List Outcome) (observation : Observation) (index : ℕ) (o : Outcome) → HasItNot outcomes observation (length outcomes) → slice_get outcomes index ≡ Some o → observation_of o.observation ≡ observation_of observation → ⊥
not_at outcomes observation index o none there is = none index o (slice_get_within outcomes index o there) there (same_observation o.observation observation is)

-- so no schedule has it
pub has_none : (bounds : Bounds) (plan : Plan) (all : Outcomes) (observation : Observation) (f : IsFound bounds plan all) → HasItNot all.observations.items observation (length all.observations.items) → IsInNone bounds plan f.found (observation_of observation)
has_none bounds plan all observation f none = record {
  within = λ k seen had.
      let l : IsListedWithin f.found.observations k (observation_of observation) = (f.found.exact k seen).complete (observation_of observation) had in
      not_at f.found.observations observation l.index l.outcome none_found l.there l.observation;
  of_all = λ whole had.
      let l : IsListed f.found.observations (observation_of observation) = (f.found.whole whole).complete (observation_of observation) had in
      not_at f.found.observations observation l.index l.outcome none_found l.there l.observation;
}
  where
    none_found : HasItNot f.found.observations observation (length f.found.observations)
    none_found = subst (λ (outcomes : List Outcome). HasItNot outcomes observation (length outcomes)) (sym f.observations) none

pub none_ends : (bounds : Bounds) (plan part : Plan) (all : Outcomes) (observation : Observation) → IsHomePart plan observation part → (f : IsFound bounds part all) (known : Reach) (text : List ℕ) → HasItNot all.observations.items observation (length all.observations.items)
    → known ≡ reach_of all.found.ended (length all.found.rounds.items) → text ≡ absent_line plan known observation → ObservationEnds bounds plan observation (none_ending known text)
none_ends bounds plan part all observation at f known text none known_is text_is =
    let same : known ≡ reach f.found = known_is ∙ reach_is bounds part all f in
    subst (λ (t : List ℕ). ObservationEnds bounds plan observation (none_ending known t)) (sym text_is)
    (subst (λ (r : Reach). ObservationEnds bounds plan observation (none_ending r (absent_line plan r observation))) (sym same) (in_none part at f.found (has_none bounds part all observation f none)))

-- the order of an observation that is listed has as few preemptions as any
pub fewest : (bounds : Bounds) (plan : Plan) (all : Outcomes) (observation : Observation) (place : ℕ) (lines : List Line) (f : IsFound bounds plan all) (at : IsObservationAt all.observations.items observation place)
    → IsWitness (pace_of bounds) plan all.found.rounds.items at.outcome lines → IsFewest bounds plan f.found (observation_of observation) (reverse lines)
fewest bounds plan all observation place lines f at w = record {
  is_schedule = w.order;
  has = subst (λ (m : Observation). HasObservation plan (snapshot plan (reverse lines)) (observation_of m)) at.is w.has;
  few = λ k seen had.
      let l : IsListedWithin f.found.observations k (observation_of observation) = (f.found.exact k seen).complete (observation_of observation) had in
      let same : l.index ≡ place = f.found.once l.index place l.outcome at.outcome l.there there (same_observation l.outcome.observation observation l.observation ∙ sym at.is) in
      let is : l.outcome ≡ at.outcome = some_is l.outcome at.outcome (sym l.there ∙ (ap (slice_get f.found.observations) same ∙ there)) in
      let round : l.outcome.round ≡ at.outcome.round = ap (λ (o : Outcome). o.round) is in
      few_of k (l.outcome.round) l.few round;
  of_round = let few = w.few (omega (arith, inside, rounds_are)) in omega (arith, inside, few);
}
  where
    there : slice_get f.found.observations place ≡ Some at.outcome
    there = ap (λ (outcomes : List Outcome). slice_get outcomes place) f.observations ∙ at.there

    rounds_are : length f.found.rounds ≡ length all.found.rounds.items
    rounds_are = ap (λ (r : List ℕ). length r) f.rounds

    inside : at.outcome.round < length f.found.rounds
    inside = f.found.of_rounds place at.outcome there

    few_of : (k round : ℕ) → round ≤ k → round ≡ at.outcome.round → preemptions plan (reverse lines) ≤ k
    few_of k round le is =
        let few = w.few (omega (arith, inside, rounds_are)) in
        omega (arith, few, le, is)

-- the lines of a witness are a path to the observation
pub path_is : (pace : Pace) (bounds : Bounds) (plan part : Plan) (all : Outcomes) (observation : Observation) (place : ℕ) (lines : List Line) → IsHomePart plan observation part → IsFound bounds part all → IsObservationAt all.observations.items observation place → pace ≡ pace_of bounds
    → ((o : Outcome) → slice_get all.observations.items place ≡ Some o → IsWitness pace part all.found.rounds.items o lines) → IsPathTo bounds plan observation lines
path_is pace bounds plan part all observation place lines home f at is witness =
    let w : IsWitness (pace_of bounds) part all.found.rounds.items at.outcome lines = subst (λ (p : Pace). IsWitness p part all.found.rounds.items at.outcome lines) is (witness at.outcome at.there) in
    record { part = part; at = home; found = f.found; lawful = w.lawful; fewest = fewest bounds part all observation place lines f at w }

pub place_within : (outcomes : List Outcome) (observation : Observation) (place : ℕ) → IsObservationAt outcomes observation place → place < length outcomes
place_within outcomes observation place at = slice_get_within outcomes place at.outcome at.there

-- the path there is too long
pub far_ends : (bounds : Bounds) (plan part : Plan) (all : Outcomes) (observation : Observation) (text : List ℕ) → IsHomePart plan observation part → IsFound bounds part all → text ≡ too_far_text → (at : ℕ) × IsTooFar part all.found.tree.parents.items at → ObservationEnds bounds plan observation (Unseen text)
far_ends bounds plan part all observation text home f same far =
    subst (λ (t : List ℕ). ObservationEnds bounds plan observation (Unseen t)) (sym same) (too_far part home f.found far.0 (subst (λ (p : List ℕ). IsTooFar part p far.0) (sym f.parents) far.1))
