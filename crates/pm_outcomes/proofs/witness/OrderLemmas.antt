-- The lines of a list that come near one another come early, and may be taken one by one.
use Rattle.std.proofs.Common.{ℕ, zero, suc, ◌≡◌, ◌<◌, ◌≤◌, ◌+◌, ◌-◌, ◌*◌, ◌^◌, lit<, List, [], ◌∷◌, ◌++◌, Some, None, Err, drop, get_or, length, reverse, take, refl, sym, subst, ap, ◌∙◌, arith}
use Rattle.std.proofs.lemmas.Bool.{leb-true}
use Rattle.std.proofs.lemmas.List.{reverse-append, take-append-drop, take_more}
use Rattle.std.specs.Option.{option_map_or}
use Rattle.pm_base.specs.declared.ActorId.{ActorId}
use Rattle.pm_base.specs.declared.ActorId.TheVariants.{Caller, Work, Timer}
use Rattle.pm_book.specs.declared.taking.TakeFault.{TakeFault}
use Rattle.pm_book.specs.declared.taking.TakeFault.TheVariants as fault
use Rattle.pm_book.specs.Judging.{IsAnswer}
use Rattle.pm_book.specs.Pages.{Pages}
use Rattle.pm_book.specs.Takes.{judged_as}
use Rattle.pm_book.specs.Turn.{HasTime}
use Rattle.pm_laws.specs.counts.Sizes.{HasEntries, HasPlaces}
use Rattle.pm_model.specs.declared.event.Line.{Line}
use Rattle.pm_model.specs.declared.plan.Plan.{Plan}
use Rattle.pm_model.specs.declared.stage.Stage.{Stage}
use Rattle.pm_model.specs.History.{History}
use Rattle.pm_model.specs.Lawful.{IsFinished, IsLawful, last_time}
use Rattle.pm_model.specs.Serial.{goes_on, next_line}
use Rattle.pm_model.specs.World.{World, stage_at, world}
use Rattle.pm_explore.specs.declared.schedule.Pace.{Pace}
use Rattle.pm_explore.specs.schedule.Schedules.{IsSchedule, snapshot}
use Rattle.pm_explore.specs.schedule.Snapshots.{IsTimely}
use Rattle.pm_serial.specs.declared.running.End.{End}
use Rattle.pm_serial.specs.declared.running.End.TheVariants as end
use Rattle.pm_serial.specs.Ends.{GoesOn, IsEnd, whole}
use Rattle.pm_state.specs.Standing.{IsActor}
use Rattle.pm_explore.proofs.successors.Places.{IsSized, caller_within, timer_within, work_within}
use Rattle.pm_outcomes.specs.witness.Going.{GoesOnFrom, IsEndOf, IsNear}

-- what holds of a list holds of the lines before the newest
pub older_near : (plan : Plan) (more h : History) → IsNear (more ++ h) → IsNear h
older_near plan [] h is = is
older_near plan (line ∷ more) h is = older_near plan more h is.1

pub older_lawful : (plan : Plan) (more h : History) → IsLawful plan (more ++ h) → IsLawful plan h
older_lawful plan [] h is = is
older_lawful plan (line ∷ more) h is = older_lawful plan more h is.2

-- the lines up to a place, and those behind it
taken : (lines : List Line) (i : ℕ) (d : Line) → i < length lines → reverse (take (i + 1) lines) ≡ get_or lines i d ∷ reverse (take i lines)
taken lines i d lt = ap (λ l. reverse l) (take_more lines i d lt) ∙ reverse-append (take i lines) (get_or lines i d ∷ [])

split : (lines : List Line) (i : ℕ) → reverse lines ≡ reverse (drop i lines) ++ reverse (take i lines)
split lines i = ap (λ l. reverse l) (sym (take-append-drop i lines)) ∙ reverse-append (take i lines) (drop i lines)

-- so the next one comes next in the order
pub next_there : (P : Plan → History → Type 0) (old new : Pages) (lines : List Line) (i : ℕ) (d : Line) → ((plan : Plan) (more h : History) → P plan (more ++ h) → P plan h) → i < length lines
    → new.plan ≡ old.plan → new.lines ≡ reverse (take i lines) → P old.plan (reverse lines) → P new.plan (get_or lines i d ∷ new.lines)
next_there P old new lines i d older lt same so_far whole_order =
    let here : P old.plan (reverse (take (i + 1) lines)) = older old.plan (reverse (drop (i + 1) lines)) (reverse (take (i + 1) lines)) (subst (P old.plan) (split lines (i + 1)) whole_order) in
    subst (λ (q : Plan). P q (get_or lines i d ∷ new.lines)) (sym same) (subst (P old.plan) (taken lines i d lt ∙ ap (λ h. get_or lines i d ∷ h) (sym so_far)) here)

-- at whatever pace the next line comes soon
abbrev pub AreNear : Pace → Plan → Type 0
AreNear pace plan = (h : History) (line : Line) → IsLawful plan h → IsTimely pace plan (snapshot plan h) line → line.time ≤ last_time h + 1000000

pub schedules_near : (pace : Pace) (plan : Plan) (h : History) → AreNear pace plan → IsSchedule pace plan h → IsLawful plan h → IsNear h
schedules_near pace plan [] near order lawful = tt
schedules_near pace plan (line ∷ h) near order lawful = (near h line lawful.2 order.1, schedules_near pace plan h near order.2 lawful.2)

-- so the last line comes early
next_early : (last time n : ℕ) → last ≤ 1000000 * n → time ≤ last + 1000000 → time ≤ 1000000 * suc n
next_early last time n early near = omega (arith, early, near)

pub early : (h : History) → IsNear h → last_time h ≤ 1000000 * length h
early [] near = omega arith
early (line ∷ h) near = next_early (last_time h) line.time (length h) (early h near.1) near.0

-- and there is time for it
small : (time n : ℕ) → time ≤ 1000000 * n → n ≤ 200000 → time < 2 ^ 63
small time n le few = let end : 200000000000 < 2 ^ 63 = lit< tt in omega (arith, le, few, end)

pub in_time : (line : Line) (h : History) → length (line ∷ h) ≤ 200000 → IsNear (line ∷ h) → line.time < 2 ^ 63
in_time line h few near = small line.time (length (line ∷ h)) (early (line ∷ h) near) few

-- and for what follows
pub fits : (plan : Plan) (h : History) → IsLawful plan h → length h ≤ plan.lines
fits plan [] lawful = omega arith
fits plan (line ∷ h) lawful = let room = lawful.1 in omega (arith, room)

time_left : (last len lines : ℕ) → last ≤ 1000000 * len → len ≤ lines → 0 + 1000000 * (lines - 0) ≤ 2 ^ 62 → last + 1000000 * (lines - len) ≤ 2 ^ 62
time_left last len lines early fits all = omega (arith, early, fits, all)

pub has_time : (plan : Plan) (h : History) → IsNear h → IsLawful plan h → HasTime plan [] → HasTime plan h
has_time plan h near lawful all = time_left (last_time h) (length h) plan.lines (early h near) (fits plan h lawful) all

-- who writes it is one of the plan's actors
within : (plan : Plan) (w : World) (actor : ActorId) (s : Stage) → IsSized plan w → stage_at plan w actor ≡ Some s → IsActor plan actor
within plan w (Caller c) s has is = caller_within plan w c s has is
within plan w (Work d) s has is = work_within plan w d s has is
within plan w (Timer d) s has is = timer_within plan w d s has is

pub writer_is : (plan : Plan) (line : Line) (h : History) → HasEntries plan (world plan h).views → HasPlaces plan (world plan h) → IsLawful plan (line ∷ h) → IsActor plan line.actor
writer_is plan line h entries places lawful = within plan (world plan h) line.actor lawful.0.stage (record { entries = entries; places = places }) lawful.0.stands

-- of a line that comes next only memory can be wanting
pub only_memory : (plan : Plan) (line : Line) (h : History) (f : TakeFault) → IsLawful plan (line ∷ h) → IsAnswer plan h line (judged_as (Err f)) → f ≡ fault.NoMemory
only_memory plan line h fault.Limit lawful answer = let room = lawful.1 in absurd (omega (arith, answer, room))
only_memory plan line h fault.Step lawful answer = absurd (answer.1 line.time lawful.0)
only_memory plan line h fault.Time lawful answer = absurd (answer.2 lawful.0)
only_memory plan line h fault.NoMemory lawful answer = refl

-- where one thread goes on from a finished list
stays_at : (plan : Plan) (n : ℕ) (h : History) → next_line plan h ≡ None → goes_on plan n h ≡ h
stays_at plan zero h none = refl
stays_at plan (suc n) h none = ap (λ o. option_map_or (λ line. goes_on plan n (line ∷ h)) o h) none

-- what was drained of a book with the lines of a schedule
end_is : (p : Pages) (plan : Plan) (e : End) → p.plan ≡ plan → IsEnd p e → IsEndOf plan p.lines e
end_is p plan end.Finished same ends = subst (λ (q : Plan). IsFinished q p.lines) same ends
end_is p plan end.AtLimit same ends = subst (λ (q : Plan). IsEndOf q p.lines end.AtLimit) same (leb-true _ _ ends.0, ends.1)

pub drained : (plan : Plan) (order : History) (old new : Pages) (e : End) → ((h : History) → IsFinished plan h → next_line plan h ≡ None) → old.plan ≡ plan → old.lines ≡ order → GoesOn old new → new.lines ≡ whole old.plan old.lines → IsEnd new e
    → GoesOnFrom plan order new.lines e
drained plan order old new e finished same_plan same_lines goes all ends = record {
  more = goes.more;
  begins = goes.lines_are ∙ ap (λ l. goes.more ++ l) same_lines;
  goes_on = is_whole;
  stays = λ done. is_whole ∙ stays_at plan (plan.lines - length order) order (finished order done);
  ends = end_is new plan e (goes.plan_is ∙ same_plan) ends;
}
  where
    is_whole : new.lines ≡ whole plan order
    is_whole = all ∙ ap (λ (q : Plan). whole q old.lines) same_plan ∙ ap (whole plan) same_lines
