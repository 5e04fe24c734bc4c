-- How many callbacks run: where one begins, and where one ends.
use Rattle.std.proofs.Common.{◌≡◌, ◌∙◌, ◌+◌, ◌<◌, ◌≤◌, ℕ, Bool, true, false, List, [], ◌∷◌, ◌++◌, Option, Some, None, ℤ, drop, is_some, nat_lt, if◌then◌else◌, ap, arith, refl, subst, sym}
use Rattle.std.specs.List.{sum_by}
use Rattle.std.specs.Option.{option_and_then}
use Rattle.std.proofs.lemmas.Grind.{common_steps}
use Rattle.std.proofs.lemmas.List.Sums.{sum_by-append, sum_by-cons}
use Rattle.pm_base.specs.declared.DevId.{DevId}
use Rattle.pm_model.specs.declared.event.Event.{Event}
use Rattle.pm_model.specs.declared.event.Line.{Line}
use Rattle.pm_model.specs.declared.plan.Plan.{Plan}
use Rattle.pm_model.specs.declared.stage.Await.{Await}
use Rattle.pm_model.specs.declared.stage.Await.TheVariants as await
use Rattle.pm_model.specs.declared.stage.Change.{Change}
use Rattle.pm_model.specs.declared.stage.Handed.{Handed}
use Rattle.pm_model.specs.declared.stage.IdleStage.TheVariants as idle
use Rattle.pm_model.specs.declared.stage.Move.{Move}
use Rattle.pm_model.specs.declared.stage.Move.TheVariants.{Write, Late}
use Rattle.pm_model.specs.declared.stage.ResumeCall.{ResumeCall}
use Rattle.pm_model.specs.declared.stage.ResumeStage.TheVariants as resume
use Rattle.pm_model.specs.declared.stage.Stage.{Stage}
use Rattle.pm_model.specs.declared.stage.Stage.TheVariants as stage
use Rattle.pm_model.specs.declared.stage.SuspendStage.TheVariants as suspend
use Rattle.pm_model.specs.declared.stage.Then.{Then}
use Rattle.pm_model.specs.ChangeViews.{change_views}
use Rattle.pm_model.specs.Events.{by_event}
use Rattle.pm_model.specs.Handing.{after_back, after_then, take_code}
use Rattle.pm_model.specs.History.{History}
use Rattle.pm_model.specs.IdleTable.{idle_ends}
use Rattle.pm_model.specs.Lawful.{IsLawful, Permits, last_time}
use Rattle.pm_model.specs.ResumeTable.{is_supplied, resume_ends}
use Rattle.pm_model.specs.Row.{Row, goes, timed, writes, waits}
use Rattle.pm_model.specs.SuspendTable.{suspend_ends}
use Rattle.pm_model.specs.Views.{Views}
use Rattle.pm_model.specs.World.{World, counts_call, due, move, place, row, row_at, start, world}
use Rattle.pm_laws.specs.counts.Sums.{one, tally, weigh}
use Rattle.pm_laws.proofs.counts.Tally.{weigh_is}
use Rattle.pm_laws.proofs.counts.Places.{IsHanded, IsWeight, is_placed, shown, shown_of, tally_goes}
use Rattle.pm_laws.proofs.counts.Runs.{lawful_holds, permitted, places_moved, start_tally, written}
use Rattle.pm_laws.specs.stacks.Shape.{Call, IsNested, Nested, call_of}
use Rattle.pm_laws.proofs.stacks.Nesting.{nested_goes}
use Rattle.pm_laws.proofs.stacks.Stacks.{stacked, told}
use Rattle.pm_laws.proofs.stacks.Standing.{stands}
use Rattle.pm_laws.proofs.stacks.Telling.{IsFresh, LeavesFit}
use Rattle.pm_laws.specs.bounds.Running.{runs_callback}
use Rattle.pm_state.specs.Standing.{after_write}
use Rattle.pm_state.specs.Turns.{is_running, running_due, runs_at}
use Rattle.pm_book.specs.Pages.{MayWrite, runs_here, running}
use Rattle.pm_book.specs.Sheets.{begins_callback}

-- no stage that awaits a call runs a callback, nor does one at which it goes on
either_handed : (a : Await) (b : Bool) (x y : Handed) → IsHanded runs_here a x → IsHanded runs_here a y → IsHanded runs_here a (if b then x else y)
either_handed a true x y p q = p
either_handed a false x y p q = q

runs_weigh : IsWeight runs_here
unfolding take_code
runs_weigh = record { call = λ _. refl; work = λ _. refl; timer = λ _. refl; handed = go }
  where
    go : (a : Await) (c : ℤ) → IsHanded runs_here a (take_code a c)
    go (await.ActiveSupplier e l) c = either_handed (await.ActiveSupplier e l) (is_supplied c) _ _ refl refl
    go _ c = refl

-- a callback ends with a line, and its stage gives way to none at which one runs
abbrev pub Overs : Row → Type 0
Overs (writes e c next) = weigh runs_here (shown next) ≡ 0
Overs (waits d) = ⊥

record IsOverRow (r : Row) : Type 0 where
  overs : Overs r

idle_over : (plan : Plan) (v : Views) (d : DevId) (f t : ℕ) → IsOverRow (idle_ends plan v d f t)
unfolding idle_ends
idle_over plan v d f t = record { overs = refl }

over_next : {e : Event} {c : Change} {x y : Then} (b : Bool) → IsOverRow (writes e c x) → IsOverRow (writes e c y) → IsOverRow (writes e c (if b then x else y))
over_next true p q = p
over_next false p q = q

over_row : {x y : Row} (b : Bool) → IsOverRow x → IsOverRow y → IsOverRow (if b then x else y)
over_row true p q = p
over_row false p q = q

none_over : {e : Event} {c : Change} (s : Stage) → runs_here s ≡ 0 → IsOverRow (writes e c (goes s))
none_over s none = record { overs = none }

suspend_over : (plan : Plan) (v : Views) (d : DevId) (f t : ℕ) → IsOverRow (suspend_ends plan v d f t)
unfolding suspend_ends
suspend_over plan v d f t = search (over_next, none_over) depth 12

resume_over : (plan : Plan) (v : Views) (r : ResumeCall) → IsOverRow (resume_ends plan v r)
unfolding resume_ends
resume_over plan v r = search (over_row, none_over) depth 12

abbrev pub SomeOvers : Option Row → Type 0
SomeOvers (Some r) = Overs r
SomeOvers None = ⊥

row_over : (plan : Plan) (v : Views) (s : Stage) (t : ℕ) → runs_callback s ≡ true → SomeOvers (row plan v s t)
row_over plan v (stage.Idle (idle.Running d f since)) t runs = (idle_over plan v d f t).overs
row_over plan v (stage.Suspend (suspend.Running d f since)) t runs = (suspend_over plan v d f t).overs
row_over plan v (stage.Resume (resume.Running r since)) t runs = (resume_over plan v r).overs
row_over plan v _ t runs = cc runs

end_over : (plan : Plan) (v : Views) (s : Stage) (t : ℕ) (e : Event) (c : Change) (next : Then) → move plan v s t ≡ Some (Write e c next) → runs_callback s ≡ true → weigh runs_here (shown next) ≡ 0
end_over plan v s t e c next gives runs = subst SomeOvers (written (due plan v s) t (row plan v s t) e c next gives) (row_over plan v s t runs)

-- a callback runs at the stage where its actor stands
due_runs : (plan : Plan) (s : Stage) → is_some (running_due plan s) ≡ true → runs_callback s ≡ true
due_runs plan (stage.Idle (idle.Running d f since)) runs = refl
due_runs plan (stage.Suspend (suspend.Running d f since)) runs = refl
due_runs plan (stage.Resume (resume.Running r since)) runs = refl
due_runs plan _ runs = cc runs

runs_where : (plan : Plan) (o : Option Stage) (s : Stage) → o ≡ Some s → runs_at plan o ≡ true → runs_callback s ≡ true
runs_where plan o s at runs = due_runs plan s (subst (λ x. runs_at plan x ≡ true) at runs)

runs_one : (s : Stage) → runs_callback s ≡ true → runs_here s ≡ 1
runs_one s runs = ap (λ b. if b then 1 else 0) runs

-- a stage that begins to run its callback is left by the callback's begin line
fresh_begins : (plan : Plan) (v : Views) (t : ℕ) (e : Event) (s : Stage) → IsFresh plan v t e s → runs_here s ≤ one (begins_callback e)
fresh_begins plan v t e (stage.Idle (idle.Running d f since)) (inside, small, good, timely, begins) = rw begins (omega arith)
fresh_begins plan v t e (stage.Suspend (suspend.Running d f since)) (inside, small, good, timely, begins) = rw begins (omega arith)
fresh_begins plan v t e (stage.Resume (resume.Running r since)) (inside, small, good, timely, begins) = rw begins (omega arith)
fresh_begins plan v t e _ fresh = omega arith

-- below the top no callback runs
calm_below : (plan : Plan) (k : Call) (rest : List Stage) → Nested plan k rest → sum_by runs_here rest ≡ 0
calm_below plan k [] nested = refl
calm_below plan k (stage.Await a ∷ rest) nested = omega (arith, sum_by-cons runs_here (stage.Await a) rest, calm_below plan (call_of (stage.Await a)) rest nested.2)
calm_below plan k (s ∷ rest) nested = elim nested.0 [ ]

shown_begins : (plan : Plan) (v : Views) (t : ℕ) (e : Event) (back : Option ℤ) (push rest : List Stage) → LeavesFit plan v t e back push → IsNested plan (after_back back push rest)
    → weigh runs_here (shown_of back push) ≤ one (begins_callback e)
shown_begins plan v t e (Some c) push rest leaves nested = omega arith
shown_begins plan v t e None [] rest leaves nested = omega arith
shown_begins plan v t e None (s ∷ more) rest leaves nested =
    let below = calm_below plan (call_of s) (more ++ rest) nested.2 in
    omega (arith, fresh_begins plan v t e s leaves.0, weigh_is runs_here (s ∷ more), sum_by-cons runs_here s more, sum_by-append runs_here more rest, below)

-- so a line leaves a callback that runs where it begins one, and else none
begins_one : (plan : Plan) (h : History) (s : Stage) (line : Line) (c : Change) (next : Then) → IsLawful plan h → MayWrite plan h s line c next
    → weigh runs_here (shown next) ≤ one (begins_callback line.event)
begins_one plan h s line c next lawful may =
    let w = world plan h in
    let holds = lawful_holds plan h lawful in
    let p : Permits plan h line = record { stage = s; stands = may.may.stands; change = c; next = next; gives = may.gives; in_time = may.may.later } in
    let paid = permitted plan h line p holds in
    let all = stacked plan h lawful in
    let it = told plan w (last_time h) line paid holds all may.may.later in
    let leads : row_at plan w line.actor line.time ≡ Some (writes line.event c next) =
    ap (option_and_then (λ s. row plan w.views s line.time)) may.may.stands ∙ written (due plan w.views s) line.time (row plan w.views s line.time) line.event c next may.gives in
    let both : Some (writes line.event paid.change paid.next) ≡ Some (writes line.event c next) = sym paid.leads ∙ leads in
    let same : paid.next ≡ next = cc in
    let nested = nested_goes plan paid.stage (place w line.actor) paid.next (stands plan w line.actor paid.stage paid.stands) (λ fits. it.nests) (all.nested line.actor) in
    subst (λ (n : Then). weigh runs_here (shown n) ≤ one (begins_callback line.event)) same
    (shown_begins plan w.views line.time line.event paid.next.back paid.next.push (drop 1 (place w line.actor)) it.tells.2 nested)

-- how many run after a line, and where one ended
running_goes : (plan : Plan) (h : History) (s : Stage) (line : Line) (c : Change) (next : Then) → IsLawful plan h → MayWrite plan h s line c next
    → running (after_write plan (world plan h) c line next) + runs_here s ≡ running (world plan h) + weigh runs_here (shown next)
running_goes plan h s line c next lawful may =
    let w = world plan h in
    let holds = lawful_holds plan h lawful in
    let placed = is_placed plan w line.actor s holds.entries holds.places may.may.stands in
    let moved = ap (tally runs_here) (places_moved w (by_event plan line.time line.event (change_views plan line.time c w.views)) (counts_call line.actor line.event w.called) line.actor (after_then next (drop 1 (place w line.actor)))) in
    let goes = tally_goes runs_here runs_weigh plan w line.actor s next placed may.may.stands in
    omega (arith, moved, goes)

running_ends : (plan : Plan) (h : History) (s : Stage) (line : Line) (c : Change) (next : Then) → IsLawful plan h → MayWrite plan h s line c next
    → is_running plan (world plan h) line.actor ≡ true → running (after_write plan (world plan h) c line next) + 1 ≡ running (world plan h)
running_ends plan h s line c next lawful may runs =
    let here = runs_where plan _ s may.may.stands runs in
    let goes = running_goes plan h s line c next lawful may in
    let one_here = runs_one s here in
    let over = end_over plan (world plan h).views s line.time line.event c next may.gives here in
    omega (arith, goes, one_here, over)

-- places for the callbacks that run after a line, and after an end
pub room_goes : (plan : Plan) (h : History) (w : World) (s : Stage) (line : Line) (c : Change) (next : Then) (ends : ℕ) → IsLawful plan h → w ≡ world plan h
    → MayWrite plan h s line c next → running w ≤ ends → running (after_write plan (world plan h) c line next) ≤ ends + one (begins_callback line.event)
room_goes plan h w s line c next ends lawful same may each =
    omega (arith, each, ap (λ (x : World). running x) same, running_goes plan h s line c next lawful may, begins_one plan h s line c next lawful may)

pub room_ends : (plan : Plan) (h : History) (w : World) (s : Stage) (line : Line) (c : Change) (next : Then) (ends ends' : ℕ) → IsLawful plan h → w ≡ world plan h
    → MayWrite plan h s line c next → is_running plan (world plan h) line.actor ≡ true → ends' + 1 ≡ ends → running w ≤ ends → running (after_write plan (world plan h) c line next) ≤ ends'
room_ends plan h w s line c next ends ends' lawful same may runs less each =
    omega (arith, each, ap (λ (x : World). running x) same, running_ends plan h s line c next lawful may runs, less)

-- where a callback runs, a place is kept
pub room_is : (plan : Plan) (h : History) (w : World) (s : Stage) (line : Line) (c : Change) (next : Then) (ends : ℕ) → IsLawful plan h → w ≡ world plan h
    → MayWrite plan h s line c next → is_running plan (world plan h) line.actor ≡ true → running w ≤ ends → 0 < ends
room_is plan h w s line c next ends lawful same may runs each =
    omega (arith, each, ap (λ (x : World). running x) same, running_ends plan h s line c next lawful may runs)

-- before any line none runs
pub start_running : (plan : Plan) → running (start plan) ≡ 0
start_running plan = start_tally plan runs_here

-- at t, what may be done where a callback runs that is due at this moment: its end is late, or a line
abbrev pub IsEnding : ℕ → Option ℕ → Option Move → Type 0
IsEnding t (Some at) (Some (Late later)) = (at ≡ later) × (t < at)
IsEnding t (Some at) (Some (Write e c next)) = at ≤ t
IsEnding t due may = ⊥

timed_ends : (at t : ℕ) (r : Row) → Overs r → IsEnding t (Some at) (Some (timed at t r))
timed_ends at t (waits d) over = absurd over
timed_ends at t (writes e c next) over = go (nat_lt t at) refl
  where
    go : (late : Bool) → nat_lt t at ≡ late → IsEnding t (Some at) (Some (if late then Late at else Write e c next))
    go true is = (refl, grind (arith, common_steps))
    go false is = grind (arith, common_steps)

pub stage_ends : (plan : Plan) (v : Views) (s : Stage) (t : ℕ) → is_some (running_due plan s) ≡ true → IsEnding t (running_due plan s) (move plan v s t)
stage_ends plan v (stage.Idle (idle.Running d f since)) t runs = timed_ends _ t _ (idle_over plan v d f t).overs
stage_ends plan v (stage.Suspend (suspend.Running d f since)) t runs = timed_ends _ t _ (suspend_over plan v d f t).overs
stage_ends plan v (stage.Resume (resume.Running r since)) t runs = timed_ends _ t _ (resume_over plan v r).overs
stage_ends plan v _ t runs = cc runs
