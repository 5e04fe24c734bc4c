-- While a get_sync binds its device is Active, after every lawful list of lines.
use Rattle.std.proofs.Common.{◌≡◌, ◌<◌, ◌⊎◌, inl, inr, Bool, true, false, ◌&&◌, List, [], ◌∷◌, length, drop, nat_eq, ap, refl, sym, ◌∙◌, subst}
use Rattle.std.specs.List.{enumerate_from, list_all}
use Rattle.std.proofs.lemmas.Bool.{eqb-true}
use Rattle.pm_base.specs.declared.ActorId.{ActorId}
use Rattle.pm_base.specs.declared.ActorId.TheVariants.{Caller, Work, Timer}
use Rattle.pm_base.specs.declared.DevId.{DevId}
use Rattle.pm_base.specs.declared.Why.TheVariants as why
use Rattle.pm_model.specs.declared.event.Event.{Event}
use Rattle.pm_model.specs.declared.event.Event.TheVariants as event
use Rattle.pm_model.specs.declared.event.Line.{Line}
use Rattle.pm_model.specs.declared.plan.Plan.{Plan}
use Rattle.pm_model.specs.declared.stage.HelperStage.TheVariants as at
use Rattle.pm_model.specs.declared.stage.Stage.{Stage}
use Rattle.pm_model.specs.declared.stage.Stage.TheVariants as stage
use Rattle.pm_model.specs.ChangeViews.{change_views}
use Rattle.pm_model.specs.Counted.{is_callers, is_same, takes}
use Rattle.pm_model.specs.Derived.{is_active, is_active_status}
use Rattle.pm_model.specs.Events.{by_event}
use Rattle.pm_model.specs.Excuse.{forces}
use Rattle.pm_model.specs.Handing.{after_then}
use Rattle.pm_model.specs.History.{History}
use Rattle.pm_model.specs.Lawful.{IsLawful}
use Rattle.pm_model.specs.Promises.{each_device, implies, is_actor, got_well, lets_go, holds_count, binds, is_kept}
use Rattle.pm_model.specs.Views.{device}
use Rattle.pm_model.specs.World.{World, place, after_line, counts_call, start, world}
use Rattle.pm_laws.proofs.counts.Links.{neither}
use Rattle.pm_laws.proofs.counts.Places.{IsPlaced, is_placed}
use Rattle.pm_laws.proofs.counts.Runs.{Holds, Paid, permitted, lawful_holds}
use Rattle.pm_laws.specs.stacks.Shape.{call_of, IsNested}
use Rattle.pm_laws.proofs.stacks.Nesting.{stands_nested}
use Rattle.pm_laws.proofs.stacks.Stacks.{empty_place, paid_row, stack_placed, stacks_nest}
use Rattle.pm_laws.proofs.stacks.Standing.{IsStart, Stands, stands}
use Rattle.pm_laws.proofs.stacks.Tests.{front, rear, not_true}
use Rattle.pm_laws.proofs.safe.Steps.{differ}
use Rattle.pm_laws.specs.gets.Answered.{answers, is_answered}
use Rattle.pm_laws.proofs.gets.OtherOwes.{row_owes}
use Rattle.pm_laws.proofs.gets.Owing.{is_callers_get, Owed}
use Rattle.pm_laws.proofs.gets.Handing.{start_alone, answers_pass, ends_well, tells_answer}
use Rattle.pm_laws.proofs.gets.Passing.{either_of, or_front, or_rear, stands_some, then_below}
use Rattle.pm_laws.proofs.gets.Staying.{share_within, status_next, stays}

-- what holds after every lawful list
pub record Keeps (plan : Plan) (h : History) : Type 0 where
  pub bound : (d : DevId) → binds plan d h ≡ true → is_active (world plan h).views d ≡ true
  pub answered : (a : ActorId) (d : DevId) → is_answered d (place (world plan h) a) ≡ true → holds_count plan d a h ≡ true → is_active (world plan h).views d ≡ true

-- the stage at which an actor stands, over the rest of its stack, answers what the stack does
start_silent : (d : DevId) (s : Stage) → IsStart s → answers d s ≡ false
start_silent d (stage.Helper (at.Call c)) is = refl
start_silent d (stage.Helper (at.Work e)) is = refl
start_silent d (stage.Helper (at.Timer e)) is = refl
start_silent d _ is = elim is [ ]

stands_answered : (d : DevId) (s : Stage) (stack : List Stage) → Stands s stack → is_answered d (s ∷ drop 1 stack) ≡ is_answered d stack
stands_answered d s stack st = stands_some (answers d) (start_silent d) s stack st

-- a count that is held after a line: the line lets go of nothing, and the count was taken by it or held before it
count_held : (plan : Plan) (d : DevId) (a : ActorId) (line : Line) (h : History) → holds_count plan d a (line ∷ h) ≡ true
    → (lets_go plan d h line ≡ false) × ((is_actor a line.actor && takes is_callers d line.event ≡ true) ⊎ (holds_count plan d a h ≡ true))
count_held plan d a line h e = (not_true _ (front _ _ e), either_of _ _ (rear _ _ e))

-- and a device that is bound after it: a get_sync returned well by it, or bound the device before it
held_bound : (plan : Plan) (d : DevId) (line : Line) (h : History) → binds plan d (line ∷ h) ≡ true
    → (lets_go plan d h line ≡ false) × ((got_well d line.event && holds_count plan d line.actor h ≡ true) ⊎ (binds plan d h ≡ true))
held_bound plan d line h e = (not_true _ (front _ _ e), either_of _ _ (rear _ _ e))

pub same_actor : (a b : ActorId) → is_actor a b ≡ true → a ≡ b
same_actor (Caller a) (Caller b) e = ap Caller (eqb-true a b e)
same_actor (Work a) (Work b) e = ap Work (eqb-true a b e)
same_actor (Timer a) (Timer b) e = ap Timer (eqb-true a b e)
same_actor (Caller a) b e = cc
same_actor (Work a) b e = cc
same_actor (Timer a) b e = cc

callers_take : (d : DevId) (e : Event) → takes is_callers d e ≡ true → is_callers_get e ≡ true
callers_take d (event.Get x why.Caller) t = refl
callers_take d (event.Get x _) t = let k : false ≡ true = rear (is_same d x) false t in cc
callers_take d _ t = cc

-- an actor whose stack answers, and that holds its count after a line, has its device Active then
abbrev Answered : Plan → History → Line → DevId → ActorId → List Stage → Type 0
Answered plan h line d a stack = is_answered d stack ≡ true → holds_count plan d a (line ∷ h) ≡ true → is_active (world plan (line ∷ h)).views d ≡ true

keeps_line : (plan : Plan) (h : History) (line : Line) → IsLawful plan (line ∷ h) → Keeps plan h → Keeps plan (line ∷ h)
keeps_line plan h line lawful was = record { bound = bound; answered = answered }
  where
    w : World
    w = world plan h

    next : World
    next = world plan (line ∷ h)

    before : Holds plan w
    before = lawful_holds plan h lawful.2

    p : Paid plan w line
    p = permitted plan h line lawful.0 before

    rest : List Stage
    rest = drop 1 (place w line.actor)

    st : Stands p.stage (place w line.actor)
    st = stands plan w line.actor p.stage p.stands

    nested : IsNested plan (p.stage ∷ rest)
    nested = stands_nested plan p.stage (place w line.actor) st (stacks_nest plan h lawful.2 line.actor)

    owed : Owed w.views p.stage line.event p.next
    owed = (row_owes plan w.views line.time p.stage _ nested.1 (paid_row plan w line p)).paid

    stayed : (d : DevId) → is_active w.views d ≡ true → lets_go plan d h line ≡ false → is_active next.views d ≡ true
    stayed d = stays plan h line d lawful

    -- the writer's stack before the line
    writers : (d : DevId) → is_answered d (p.stage ∷ rest) ≡ true → holds_count plan d line.actor h ≡ true → lets_go plan d h line ≡ false → is_active next.views d ≡ true
    writers d e holds keeps = stayed d (was.answered line.actor d (sym (stands_answered d p.stage (place w line.actor) st) ∙ e) holds) keeps

    -- a caller that takes a count has no answer yet
    none_yet : (d : DevId) → takes is_callers d line.event ≡ true → is_answered d (p.stage ∷ rest) ≡ false
    none_yet d t = start_alone plan d p.stage rest (owed.taken (callers_take d line.event t)).0 nested.2

    bound : (d : DevId) → binds plan d (line ∷ h) ≡ true → is_active next.views d ≡ true
    bound d e = elim (held_bound plan d line h e).1 [
      | inl well ↦ returns (front (got_well d line.event) (holds_count plan d line.actor h) well) (rear (got_well d line.event) (holds_count plan d line.actor h) well)
      | inr b ↦ stayed d (was.bound d b) (held_bound plan d line h e).0
    ]
      where
        returns : got_well d line.event ≡ true → holds_count plan d line.actor h ≡ true → is_active next.views d ≡ true
        returns well holds = writers d (or_front (answers d p.stage) (is_answered d rest) (owed.returned d well)) holds (held_bound plan d line h e).0

    mine : (d : DevId) → Answered plan h line d line.actor (after_then p.next rest)
    mine d e kept = elim (count_held plan d line.actor line h kept).1 [
      | inl took ↦ fresh (rear (is_actor line.actor line.actor) (takes is_callers d line.event) took)
      | inr holds ↦ elim below [
        | inl under ↦ writers d (or_rear (answers d p.stage) (is_answered d rest) under) holds keeps
        | inr told ↦ elim (owed.told d told) [
          | inl here ↦ writers d (or_front (answers d p.stage) (is_answered d rest) here) holds keeps
          | inr up ↦ ap is_active_status (status_next plan h line d p within) ∙ up
        ]
      ]
    ]
      where
        keeps : lets_go plan d h line ≡ false
        keeps = (count_held plan d line.actor line h kept).0

        within : d.0 < length plan.devices
        within = share_within plan next d (lawful_holds plan (line ∷ h) lawful) (neither (nat_eq (device next.views d).share 0) (forces d line.event) keeps).0

        below : (is_answered d rest ≡ true) ⊎ (tells_answer d p.stage p.next ≡ true)
        below = then_below plan (answers d) (ends_well d) (answers_pass plan d) (call_of p.stage) p.next rest nested.2 e

        fresh : takes is_callers d line.event ≡ true → is_active next.views d ≡ true
        fresh t = elim below [
          | inl under ↦ differ (or_rear (answers d p.stage) (is_answered d rest) under) (none_yet d t)
          | inr told ↦ differ told ((owed.taken (callers_take d line.event t)).1 d)
        ]

    others : (d : DevId) (a : ActorId) → Answered plan h line d a (place w a)
    others d a e kept = elim (count_held plan d a line h kept).1 [
      | inl took ↦
          let here : is_answered d (place w line.actor) ≡ true = subst (λ b. is_answered d (place w b) ≡ true) (same_actor a line.actor (front (is_actor a line.actor) (takes is_callers d line.event) took)) e in
          differ (stands_answered d p.stage (place w line.actor) st ∙ here) (none_yet d (rear (is_actor a line.actor) (takes is_callers d line.event) took))
      | inr holds ↦ stayed d (was.answered a d e holds) (count_held plan d a line h kept).0
    ]

    placed : IsPlaced w line.actor
    placed = is_placed plan w line.actor p.stage before.entries before.places p.stands

    answered : (a : ActorId) (d : DevId) → Answered plan h line d a (place next a)
    answered a d =
        let after = by_event plan line.time line.event (change_views plan line.time p.change w.views) in
        subst (λ r. Answered plan h line d a (place (after_line plan w line r) a)) (sym p.leads)
        (stack_placed (Answered plan h line d) w after (counts_call line.actor line.event w.called) line.actor a (after_then p.next rest) placed (mine d) (others d))

none_answered : (plan : Plan) (a : ActorId) (d : DevId) → is_answered d (place (start plan) a) ≡ false
none_answered plan a d = rw (empty_place plan a) refl

pub keeps : (plan : Plan) (h : History) → IsLawful plan h → Keeps plan h
keeps plan [] lawful = record { bound = λ d e. cc; answered = λ a d e kept. differ e (none_answered plan a d) }
keeps plan (line ∷ h) lawful = keeps_line plan h line lawful (keeps plan h lawful.2)

-- the promise, after each prefix and for each device
all_true : {A : Type 0} (test : A → Bool) → ((x : A) → test x ≡ true) → (l : List A) → list_all test l ≡ true
all_true test is [] = refl
all_true test is (x ∷ l) = rw (is x, all_true test is l) refl

pub implied : (a b : Bool) → (a ≡ true → b ≡ true) → implies a b ≡ true
implied true b f = f refl
implied false b f = refl

both_true : (a b : Bool) → a ≡ true → b ≡ true → a && b ≡ true
both_true true b p q = q
both_true false b p q = cc

kept_now : (plan : Plan) (h : History) → IsLawful plan h → each_device (λ d. implies (binds plan d h) (is_active (world plan h).views d)) plan ≡ true
kept_now plan h lawful =
    all_true (λ p. implies (binds plan (record { 0 = p.0 }) h) (is_active (world plan h).views (record { 0 = p.0 }))) (λ p. implied _ _ ((keeps plan h lawful).bound (record { 0 = p.0 }))) (enumerate_from 0 plan.devices)

pub kept : (plan : Plan) (h : History) → IsLawful plan h → is_kept plan h ≡ true
kept plan [] lawful = kept_now plan [] lawful
kept plan (line ∷ h) lawful = both_true _ _ (kept_now plan (line ∷ h) lawful) (kept plan h lawful.2)
