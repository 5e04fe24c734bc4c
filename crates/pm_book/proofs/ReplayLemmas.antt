-- The lines of a lawful list in order, one by one.
use Rattle.std.proofs.Common.{ℕ, ◌≡◌, ◌<◌, ◌^◌, true, ◌∷◌, Some, length, ap, refl, sym, ◌∙◌, subst}
use Rattle.std.proofs.lemmas.Bool.{and_parts, ltb-true}
use Rattle.pm_base.specs.declared.ActorId.{ActorId}
use Rattle.pm_base.specs.declared.ActorId.TheVariants.{Caller, Work, Timer}
use Rattle.pm_model.specs.declared.event.Event.{Event}
use Rattle.pm_model.specs.declared.event.Line.{Line}
use Rattle.pm_model.specs.declared.plan.Plan.{Plan}
use Rattle.pm_model.specs.declared.stage.Change.{Change}
use Rattle.pm_model.specs.declared.stage.Move.{Move}
use Rattle.pm_model.specs.declared.stage.Move.TheVariants.{Late, Wait, Write}
use Rattle.pm_model.specs.declared.stage.Stage.{Stage}
use Rattle.pm_model.specs.declared.stage.Then.{Then}
use Rattle.pm_model.specs.History.{History}
use Rattle.pm_model.specs.Lawful.{IsLawful}
use Rattle.pm_model.specs.LineOf.{is_actor_of, is_line_of}
use Rattle.pm_model.specs.World.{World, move}
use Rattle.pm_book.specs.Judging.{JudgeStandsFor, StandsForSome}
use Rattle.pm_book.specs.Offering.{IsOffer, IsWrite}
use Rattle.pm_book.specs.Sometime.{MayCome, Writes}
use Rattle.pm_state.specs.Standing.{IsActor, IsOf, Standing, after_write}
use Rattle.pm_book.proofs.Answering.{goes_on_for_some, stands_on}
use Rattle.pm_book.specs.Replayed.{IsAfter, Replayed}

-- what a line of the plan has
pub time_of : (plan : Plan) (line : Line) → is_line_of plan line ≡ true → line.time < 2 ^ 63
time_of plan line is = ltb-true line.time (2 ^ 63) (and_parts _ _ (and_parts _ _ is).0).0

actor_within : (plan : Plan) (a : ActorId) → is_actor_of (length plan.devices) (length plan.callers) a ≡ true → IsActor plan a
actor_within plan (Caller c) e = ltb-true c (length plan.callers) e
actor_within plan (Work d) e = ltb-true d (length plan.devices) e
actor_within plan (Timer d) e = ltb-true d (length plan.devices) e

pub actor_of : (plan : Plan) (line : Line) → is_line_of plan line ≡ true → IsActor plan line.actor
actor_of plan line is = actor_within plan line.actor (and_parts _ _ (and_parts _ _ is).0).1

-- one line more is read
pub goes_on : (plan : Plan) (h : History) (line : Line) (r : Replayed) (c : Change) (next : Then) (new : Standing) → IsLawful plan (line ∷ h) → line.time < 2 ^ 63 → IsAfter plan r h
    → Writes plan r.standing.world r.last line c next → new ≡ record r.standing { world = after_write plan r.standing.world c line next }
    → IsAfter plan (record { standing = new; last = line.time }) (line ∷ h)
goes_on plan h line r c next new lawful early before writes is =
    let stands : JudgeStandsFor (record { plan = plan; world = r.standing.world; last = r.last; lines = length h }) h = record { world_is = before.world_is; last_is = before.last_is; lines_are = refl } in
    let some : StandsForSome plan r.standing r.last (length h) = record { list = h; lawful = lawful.2; stands = stands; is_of = before.is_of; in_time = before.in_time } in
    let then = stands_on plan r.standing.world r.last (length h) h line c next stands writes in
    let later = goes_on_for_some plan r.standing r.last (length h) line c next some lawful.1 early writes in
    record {
      world_is = ap (λ (s : Standing). s.world) is ∙ then.world_is;
      last_is = refl;
      is_of = subst (IsOf plan) (sym is) later.is_of;
      in_time = early;
    }

-- what is offered where a line may come next is that line
pub offer_is : (plan : Plan) (w : World) (last : ℕ) (line : Line) (m : Move) → MayCome plan w last line → IsOffer plan w last line.actor line.time m
    → IsWrite m (λ e c next. (e ≡ line.event) × Writes plan w last line c next)
offer_is plan w last line (Write e c next) may offer =
    let same : offer.stage ≡ may.2.stage = cc (offer.stands, may.2.stands) in
    let here : move plan w.views may.2.stage line.time ≡ Some (Write e c next) = ap (λ (s : Stage). move plan w.views s line.time) (sym same) ∙ offer.gives in
    let event_is : e ≡ line.event = cc (here, may.2.gives) in (
      event_is,
      record {
        stage = may.2.stage;
        stands = may.2.stands;
        gives = here ∙ ap (λ (x : Event). Some (Write x c next)) event_is;
        in_time = may.2.in_time;
      },
    )
offer_is plan w last line (Late at) may offer = absurd offer
offer_is plan w last line (Wait d) may offer = absurd offer

-- so a move of it is that line's, and there is no other kind of move
pub write_is : (plan : Plan) (w : World) (last : ℕ) (line : Line) (m : Move) (e : Event) (c : Change) (next : Then) → m ≡ Write e c next
    → IsWrite m (λ x d n. (x ≡ line.event) × Writes plan w last line d n) → Writes plan w last line c next
write_is plan w last line m e c next same is = (subst (λ (x : Move). IsWrite x (λ y d n. (y ≡ line.event) × Writes plan w last line d n)) same is).1

pub never_else : (plan : Plan) (w : World) (last : ℕ) (line : Line) (m : Move) → IsWrite m (λ x d n. (x ≡ line.event) × Writes plan w last line d n)
    → ((e : Event) (c : Change) (next : Then) → m ≡ Write e c next → ⊥) → ⊥
never_else plan w last line (Write e c next) is none = none e c next refl
never_else plan w last line (Late at) is none = is
never_else plan w last line (Wait d) is none = is
