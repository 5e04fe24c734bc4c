-- What one hold of a book's lock makes of it (this project's own).
use Rattle.std.specs.Prelude.{◌≡◌, ◌+◌, ◌⊎◌, ℕ, true}
use Rattle.pm_base.specs.declared.ActorId.{ActorId}
use Rattle.pm_model.specs.declared.event.Event.TheVariants as event
use Rattle.pm_model.specs.Derived.{begun}
use Rattle.pm_model.specs.Lawful.{IsFinished}
use Rattle.pm_model.specs.PlanRows.{ms_of}
use Rattle.pm_book.specs.Pages.{Adds, Pages, is_full, world_of}
use Rattle.pm_book.specs.Turn.{HasTime}
use Rattle.pm_state.specs.Standing.{IsActor}
use Rattle.pm_state.specs.Turns.{is_running}
use Rattle.pm_hands.specs.declared.callback.Callback.{Callback}
use Rattle.pm_hands.specs.declared.turn.Turn.{Turn}
use Rattle.pm_hands.specs.declared.turn.Turn.TheVariants as turn
use Rattle.pm_hands.specs.declared.callback.Wrote.{Wrote}
use Rattle.pm_hands.specs.declared.callback.Wrote.TheVariants as wrote

-- one line more, which the list permitted
pub record AddsOne (old new : Pages) : Type 0 where
  pub actor : ActorId
  pub time : ℕ
  pub adds : Adds old new actor time

-- one permitted line more, or nothing
abbrev pub Goes : Pages → Pages → Type 0
Goes old new = AddsOne old new ⊎ (new ≡ old)

-- one line more, which begins this callback of its actor
pub record Begins (old new : Pages) (callback : Callback) : Type 0 where
  pub time : ℕ
  pub adds : Adds old new callback.actor time
  pub event_is : adds.line.event ≡ event.Begin callback.dev callback.cb
  pub nth_is : callback.nth ≡ begun (world_of old).views callback.cb callback.dev + 1
  pub ms_is : callback.ms ≡ ms_of old.plan callback.cb callback.dev

-- the line that was written
abbrev pub ByWrote : Pages → Pages → Wrote → Type 0
ByWrote old new (wrote.Began callback) = Begins old new callback
ByWrote old new wrote.Line = AddsOne old new

-- a callback runs that some actor began
pub record SomeRuns (p : Pages) : Type 0 where
  pub actor : ActorId
  pub in_range : IsActor p.plan actor
  pub runs : is_running p.plan (world_of p) actor ≡ true

-- the list has all the lines that its plan allows, or the run is finished, or there isn't time for the lines that are left
abbrev pub IsOver : Pages → Type 0
IsOver p = (is_full p ≡ true) ⊎ (IsFinished p.plan p.lines ⊎ (¬ HasTime p.plan p.lines))

-- what came of a turn. A hand finds nothing to write only where a callback runs
abbrev pub ByTurn : Pages → Pages → Turn → Type 0
ByTurn old new (turn.Wrote w) = ByWrote old new w
ByTurn old new turn.Waits = (new ≡ old) × SomeRuns old
ByTurn old new turn.Over = (new ≡ old) × IsOver old
