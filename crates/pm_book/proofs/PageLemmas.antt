-- What a book keeps, as it writes a line.
use Rattle.std.proofs.Common.{◌≡◌, ◌∙◌, ◌<◌, ◌≤◌, ◌^◌, ◌++◌, ℕ, true, false, List, [], ◌∷◌, Option, Some, None, Result, Ok, Err, IfOk, IfSome, OnOk, length, nat_le, reverse, arith, refl, sym, subst}
use Rattle.std.specs.Option.{option_map_or}
use Rattle.std.proofs.lemmas.Bool.{ltb-true}
use Rattle.std.proofs.lemmas.Grind.{common_steps}
use Rattle.std.proofs.lemmas.List.{reverse-append}
use Rattle.pm_base.specs.declared.ActorId.{ActorId}
use Rattle.pm_model.specs.declared.event.Event.{Event}
use Rattle.pm_model.specs.declared.event.Event.TheVariants as event
use Rattle.pm_model.specs.declared.event.Line.{Line}
use Rattle.pm_model.specs.declared.plan.Plan.{Plan}
use Rattle.pm_model.specs.declared.stage.Change.{Change}
use Rattle.pm_model.specs.declared.stage.Move.TheVariants.{Write}
use Rattle.pm_model.specs.declared.stage.Stage.{Stage}
use Rattle.pm_model.specs.declared.stage.Then.{Then}
use Rattle.pm_model.specs.History.{History}
use Rattle.pm_model.specs.Lawful.{IsFinished, IsLawful, Permits, last_time}
use Rattle.pm_model.specs.LineOf.{is_event_of}
use Rattle.pm_model.specs.World.{World, move, stage_at, start, world}
use Rattle.pm_laws.specs.turns.Looks.{device_at}
use Rattle.pm_state.specs.Standing.{IsOf, Standing, StandsWell, after_write, can_go_on}
use Rattle.pm_state.specs.Turns.{running_due}
use Rattle.pm_turns.specs.Turning.{Index, IsIndex, Leads}
use Rattle.pm_book.specs.Pages.{Adds, BeginsWithin, IsKept, Longer, MayGo, MayWrite, Pages, by_move, moment_from, running, step_answer, world_of}
use Rattle.pm_book.specs.declared.steps.Step.{Step}
use Rattle.pm_book.specs.declared.steps.Step.TheVariants as step
use Rattle.pm_book.specs.Sometime.{Writes}
use Rattle.pm_book.proofs.Moves.{stays_of, world_after}
use Rattle.pm_book.proofs.RunningLemmas.{start_running}

pub reverse-push : (lines lines' : List Line) (line : Line) → lines' ≡ lines ++ line ∷ [] → reverse lines' ≡ line ∷ reverse lines
reverse-push lines lines' line h = subst (λ l. reverse l ≡ line ∷ reverse lines) (sym h) (reverse-append lines (line ∷ []))

-- a line that may be written may come next
pub writes : (plan : Plan) (h : History) (w : World) (s : Stage) (line : Line) (c : Change) (next : Then) → w ≡ world plan h → MayWrite plan h s line c next → Writes plan w (last_time h) line c next
writes plan h w s line c next same may = record {
  stage = s;
  stands = subst (λ (x : World). stage_at plan x line.actor ≡ Some s) (sym same) may.may.stands;
  gives = subst (λ (x : World). move plan x.views s line.time ≡ Some (Write line.event c next)) (sym same) may.gives;
  in_time = may.may.later;
}

pub permits : (plan : Plan) (h : History) (s : Stage) (line : Line) (c : Change) (next : Then) → MayWrite plan h s line c next → Permits plan h line
permits plan h s line c next may = record { stage = s; stands = may.may.stands; change = c; next = next; gives = may.gives; in_time = may.may.later }

pub can_go : (plan : Plan) (w : World) (actor : ActorId) (s : Stage) → StandsWell plan w actor → stage_at plan w actor ≡ Some s → can_go_on plan w.views s ≡ true
can_go plan w actor s stands at = subst (λ o. option_map_or (can_go_on plan w.views) o true ≡ true) at stands

-- what it makes of the world
after : (plan : Plan) (h : History) (w : World) (s : Stage) (line : Line) (c : Change) (next : Then) → w ≡ world plan h
    → MayWrite plan h s line c next → after_write plan w c line next ≡ world plan (line ∷ h)
after plan h w s line c next same may = world_after plan h w (last_time h) line c next same refl (writes plan h w s line c next same may)

-- what a line that may be written leads to
pub leads : (plan : Plan) (h : History) (w : World) (s : Stage) (line : Line) (c : Change) (next : Then) → IsLawful plan h → w ≡ world plan h
    → MayWrite plan h s line c next → Leads plan h line (device_at s) c (after_write plan w c line next)
unfolding permits
leads plan h w s line c next lawful same may = record {
  lawful = (permits plan h s line c next may, may.may.room, lawful);
  at_is = refl;
  change_is = refl;
  world_is = after plan h w s line c next same may;
}

-- a line that may be written keeps what a book keeps, where places are kept for the callbacks that run then, and the turns
-- are those after it
pub kept_step : (plan : Plan) (state : Standing) (turns turns' : Index) (ends ends' limit : ℕ) (h : List Line) (s : Stage) (line : Line) (c : Change) (next : Then)
    → IsKept plan state turns ends limit h → MayWrite plan h s line c next → running (after_write plan (world plan h) c line next) ≤ ends' → IsIndex plan (line ∷ h) turns'
    → IsKept plan (record state { world = after_write plan state.world c line next }) turns' ends' limit (line ∷ h)
kept_step plan state turns turns' ends ends' limit h s line c next kept may room are =
    let led = leads plan h state.world s line c next kept.lawful kept.world_is may in
    record {
      lawful = led.lawful;
      world_is = led.world_is;
      is_of = stays_of plan state c line next kept.is_of;
      turns_are = are;
      in_time = may.may.in_time;
      limit_is = kept.limit_is;
      each = subst (λ (x : World). running (after_write plan x c line next) ≤ ends') (sym kept.world_is) room;
    }

-- more room for lines changes nothing of it
pub kept_lines : (plan : Plan) (state : Standing) (turns : Index) (ends ends' limit limit' : ℕ) (lines lines' : List Line) → IsKept plan state turns ends limit (reverse lines)
    → ends' ≡ ends → limit' ≡ limit → lines' ≡ lines → IsKept plan state turns ends' limit' (reverse lines')
kept_lines plan state turns ends ends' limit limit' lines lines' kept count most all =
    subst (λ (l : List Line). IsKept plan state turns ends' limit' (reverse l)) (sym all)
    (subst (λ n. IsKept plan state turns n limit' (reverse lines)) (sym count) (subst (λ n. IsKept plan state turns ends n (reverse lines)) (sym most) kept))

later_than : (h : List Line) (now : ℕ) → last_time h ≤ moment_from h now
later_than h now = grind (arith, common_steps)

pub room_left : (lines n : ℕ) → nat_le lines n ≡ false → n < lines
room_left lines n h = grind (arith, common_steps)

-- where an actor may go on, on a list that isn't full, and write its move
pub may_go : (plan : Plan) (h : History) (w : World) (actor : ActorId) (now t : ℕ) (s : Stage) → w ≡ world plan h → t ≡ moment_from h now → t < 2 ^ 63
    → nat_le plan.lines (length h) ≡ false → stage_at plan w actor ≡ Some s → MayGo plan h actor s t
may_go plan h w actor now t s same at in_time free stands = record {
  stands = subst (λ (x : World). stage_at plan x actor ≡ Some s) same stands;
  later = subst (λ x. last_time h ≤ x) (sym at) (later_than h now);
  in_time = in_time;
  room = room_left plan.lines (length h) free;
}

pub may_write : (plan : Plan) (h : History) (w : World) (actor : ActorId) (t : ℕ) (s : Stage) (e : Event) (c : Change) (next : Then) → w ≡ world plan h
    → MayGo plan h actor s t → Some (Write e c next) ≡ move plan w.views s t → MayWrite plan h s (record { time = t; actor = actor; event = e }) c next
may_write plan h w actor t s e c next same may gives = record { may = may; gives = sym (subst (λ (x : World). Some (Write e c next) ≡ move plan x.views s t) same gives) }

-- the line that was written is one more
pub adds : (old new : Pages) (s : Stage) (line : Line) (c : Change) (next : Then) (t : ℕ) → MayWrite old.plan old.lines s line c next → line.time ≡ t
    → Longer old new line → Adds old new line.actor t
adds old new s line c next t may at longer = record { line = line; added = longer; permits = permits old.plan old.lines s line c next may; actor_is = refl; time_is = at }

pub if_ok : {A B : Type 0} (r : Result A B) (P : A → Type 0) (Q : Type 0) → OnOk r Q → ((x : A) → Q → P x) → IfOk r P
if_ok (Ok x) P Q q f = f x q
if_ok (Err e) P Q q f = tt

-- what a step answers, by what it finds
pub rests_answer : (p : Pages) (actor : ActorId) (now : ℕ) → nat_le p.plan.lines (length p.lines) ≡ false → stage_at p.plan (world_of p) actor ≡ None → step.Resting ≡ step_answer p actor now
rests_answer p actor now free rests = rw (free, rests) refl

pub runs_answer : (p : Pages) (actor : ActorId) (now : ℕ) (s : Stage) (at : ℕ) → nat_le p.plan.lines (length p.lines) ≡ false → stage_at p.plan (world_of p) actor ≡ Some s
    → running_due p.plan s ≡ Some at → step.Running at ≡ step_answer p actor now
runs_answer p actor now s at free stands runs = rw (free, stands, runs) refl

pub moves_answer : (p : Pages) (actor : ActorId) (now t : ℕ) (s : Stage) (x : Step) → nat_le p.plan.lines (length p.lines) ≡ false → t ≡ moment_from p.lines now
    → stage_at p.plan (world_of p) actor ≡ Some s → running_due p.plan s ≡ None → x ≡ by_move (world_of p).views (move p.plan (world_of p).views s t) → x ≡ step_answer p actor now
moves_answer p actor now t s x free at stands rests is = rw (free, stands, rests, ← at) is

-- an empty book
pub kept_start : (plan : Plan) (state : Standing) (turns : Index) (ends limit : ℕ) (lines : List Line) → IsOf plan state → state.world ≡ start plan → IsIndex plan [] turns
    → limit ≡ plan.lines → lines ≡ [] → IsKept plan state turns ends limit (reverse lines)
kept_start plan state turns ends limit lines is_of same are most empty =
    subst (λ (l : List Line). IsKept plan state turns ends limit (reverse l)) (sym empty)
    (record {
      lawful = tt;
      world_is = same;
      is_of = is_of;
      turns_are = are;
      in_time = omega arith;
      limit_is = most;
      each = subst (λ (w : World). running w ≤ ends) (sym same) (omega (arith, start_running plan));
    })

-- a callback that begins is one of the plan's devices
pub begins_within : (n : ℕ) (e : Event) → is_event_of n e ≡ true → BeginsWithin n e
begins_within n (event.Begin d k) is = ltb-true _ _ is
begins_within n _ is = tt

-- where it is somebody's turn the run isn't finished
pub unfinished : {A : Type 0} (plan : Plan) (h : History) (turn next : Option A) → turn ≡ next → (IsFinished plan h → next ≡ None) → IfSome turn (λ t. ¬ IsFinished plan h)
unfinished plan h None next is stops = tt
unfinished plan h (Some t) next is stops = λ finished. let clash = is ∙ stops finished in cc
