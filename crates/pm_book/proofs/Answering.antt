-- What a judge answers of a line, and for which lists it stands then.
use Rattle.std.proofs.Common.{ℕ, ◌≡◌, ◌<◌, ◌+◌, ◌^◌, true, List, ◌∷◌, length, Some, Ok, Err, refl, sym, subst, arith}
use Rattle.std.specs.Option.{option_map_or}
use Rattle.pm_base.specs.declared.ActorId.{ActorId}
use Rattle.pm_model.specs.declared.event.Line.{Line}
use Rattle.pm_model.specs.declared.plan.Plan.{Plan}
use Rattle.pm_model.specs.declared.stage.Change.{Change}
use Rattle.pm_model.specs.declared.stage.Move.{Move}
use Rattle.pm_model.specs.declared.stage.Move.TheVariants.{Late, Wait, Write}
use Rattle.pm_model.specs.declared.stage.Stage.{Stage}
use Rattle.pm_model.specs.declared.stage.Then.{Then}
use Rattle.pm_model.specs.Lawful.{IsLawful, Permits, last_time}
use Rattle.pm_model.specs.LineOf.{is_line_of}
use Rattle.pm_model.specs.NoWhy.{at_time}
use Rattle.pm_model.specs.World.{World, due, move, row, stage_at, world}
use Rattle.pm_state.specs.Standing.{Standing, StandsWell, after_write, can_go_on}
use Rattle.pm_laws.proofs.bounds.Deciding.{event_move, move_event}
use Rattle.pm_book.specs.declared.judge.Bad.{Bad}
use Rattle.pm_book.specs.declared.judge.Bad.TheVariants as bad
use Rattle.pm_book.specs.Judging.{IsAnswer, JudgeStandsFor, Judged, StandsForSome}
use Rattle.pm_book.specs.Offering.{IsOfPlan, IsOffer, line_by}
use Rattle.pm_book.specs.Sometime.{Comes, MayCome, Writes}
use Rattle.pm_book.proofs.Moves.{may_come, permits, stays_of, world_after}

abbrev pub judged : Plan → World → ℕ → ℕ → Judged
judged plan w last lines = record { plan = plan; world = w; last = last; lines = lines }

-- what a line may come next by, told of a judge that is the same
pub may_write : (new old : Judged) (line : Line) (c : Change) (next : Then) → new ≡ old → Writes new.plan new.world new.last line c next → Writes old.plan old.world old.last line c next
may_write new old line c next same may = subst (λ (j : Judged). Writes j.plan j.world j.last line c next) same may

-- the stage at which an actor stands may go on
pub stands_at : (plan : Plan) (w : World) (actor : ActorId) (s : Stage) → StandsWell plan w actor → Some s ≡ stage_at plan w actor → can_go_on plan w.views s ≡ true
stands_at plan w actor s well is = subst (λ o. option_map_or (can_go_on plan w.views) o true ≡ true) (sym is) well

-- a line that is offered is one of the plan
pub offer_of_plan : (plan : Plan) (w : World) (last : ℕ) (actor : ActorId) (t : ℕ) (h : List Line) (m : Move) → w ≡ world plan h → last ≡ last_time h → t < 2 ^ 63
    → ((line : Line) → Permits plan h line → line.time < 2 ^ 63 → is_line_of plan line ≡ true) → IsOffer plan w last actor t m → IsOfPlan plan actor t m
offer_of_plan plan w last actor t h (Write e c next) same at early of_plan may = of_plan (line_by actor t e) (permits plan h w last (line_by actor t e) c next same at may) early
offer_of_plan plan w last actor t h (Late due) same at early of_plan may = may
offer_of_plan plan w last actor t h (Wait d) same at early of_plan may = may

-- a line that is taken: the list with it is the one for which the judge stands then
pub stands_on : (plan : Plan) (w : World) (last lines : ℕ) (h : List Line) (line : Line) (c : Change) (next : Then) → JudgeStandsFor (judged plan w last lines) h → Writes plan w last line c next
    → JudgeStandsFor (judged plan (after_write plan w c line next) line.time (lines + 1)) (line ∷ h)
stands_on plan w last lines h line c next stands may = record {
  world_is = world_after plan h w last line c next stands.world_is stands.last_is may;
  last_is = refl;
  lines_are = let same : lines ≡ length h = stands.lines_are in omega (arith, same);
}

pub goes_on_for_some : (plan : Plan) (state : Standing) (last lines : ℕ) (line : Line) (c : Change) (next : Then) → (is : StandsForSome plan state last lines) → lines < plan.lines
    → line.time < 2 ^ 63 → Writes plan state.world last line c next
    → StandsForSome plan (record state { world = after_write plan state.world c line next }) line.time (lines + 1)
goes_on_for_some plan state last lines line c next is room in_time may =
    let few : lines ≡ length is.list = is.stands.lines_are in
    let fits : length is.list < plan.lines = omega (arith, few, room) in
    let lawful : IsLawful plan (line ∷ is.list) = (permits plan is.list state.world last line c next is.stands.world_is is.stands.last_is may, fits, is.lawful) in
    record {
      list = line ∷ is.list;
      lawful = lawful;
      stands = stands_on plan state.world last lines is.list line c next is.stands may;
      is_of = stays_of plan state c line next is.is_of;
      in_time = in_time;
    }

-- a line that may come next
pub answers_ok : (plan : Plan) (w : World) (last lines : ℕ) (h : List Line) (line : Line) (c : Change) (next : Then) → JudgeStandsFor (judged plan w last lines) h → lines < plan.lines
    → Writes plan w last line c next → IsAnswer plan h line (Ok tt)
answers_ok plan w last lines h line c next stands room may =
    let few : lines ≡ length h = stands.lines_are in
    (omega (arith, few, room), permits plan h w last line c next stands.world_is stands.last_is may)

-- a line that comes at another time
pub answers_time : (plan : Plan) (w : World) (last : ℕ) (h : List Line) (line : Line) (s : Stage) → w ≡ world plan h → last ≡ last_time h → length h < plan.lines
    → Some s ≡ stage_at plan w line.actor → (MayCome plan w last line → ⊥) → Comes plan w.views s last line.event
    → IsAnswer plan h line (Err bad.Time)
answers_time plan w last h line s same at room stands not_now (t, later, due_by, writes_it) =
    let m = event_move (row plan w.views s t) (due plan w.views s) t line.event writes_it due_by in (
      room,
      (t, permits plan h w last (at_time line t) m.0 m.1 same at (record { stage = s; stands = sym stands; gives = m.2; in_time = later })),
      λ p. not_now (may_come plan h w last line same at p),
    )

-- a line that never comes
pub answers_step : (plan : Plan) (w : World) (last : ℕ) (h : List Line) (line : Line) (s : Stage) → w ≡ world plan h → last ≡ last_time h → length h < plan.lines
    → Some s ≡ stage_at plan w line.actor → (Comes plan w.views s last line.event → ⊥) → IsAnswer plan h line (Err bad.Step)
answers_step plan w last h line s same at room stands never = (room, λ t p. go t (may_come plan h w last (at_time line t) same at p))
  where
    go : (t : ℕ) → MayCome plan w last (at_time line t) → ⊥
    go t (c, next, may) =
        let here : may.stage ≡ s = cc (may.stands, stands) in
        let gives = subst (λ x. move plan w.views x t ≡ _) here may.gives in
        let o = move_event (row plan w.views s t) (due plan w.views s) t line.event c next gives in
        never (t, may.in_time, o.1, o.0)

-- what is wrong with a line behind every list that isn't full is wrong with it behind each for which the judge stands
pub refused : (plan : Plan) (w : World) (last lines : ℕ) (h : List Line) (line : Line) (why : Bad) → JudgeStandsFor (judged plan w last lines) h → lines < plan.lines
    → ((h : List Line) → w ≡ world plan h → last ≡ last_time h → length h < plan.lines → IsAnswer plan h line (Err why)) → IsAnswer plan h line (Err why)
refused plan w last lines h line why stands room wrong =
    let few : lines ≡ length h = stands.lines_are in
    wrong h stands.world_is stands.last_is (omega (arith, few, room))
