-- The move by which an actor writes a line that may come next (this project's own).
use Rattle.std.specs.Prelude.{ℕ, ◌≡◌, true}
use Rattle.pm_base.specs.declared.ActorId.{ActorId}
use Rattle.pm_model.specs.declared.event.Event.{Event}
use Rattle.pm_model.specs.declared.event.Line.{Line}
use Rattle.pm_model.specs.declared.plan.Plan.{Plan}
use Rattle.pm_model.specs.declared.stage.Change.{Change}
use Rattle.pm_model.specs.declared.stage.Move.{Move}
use Rattle.pm_model.specs.declared.stage.Move.TheVariants.{Write}
use Rattle.pm_model.specs.declared.stage.Then.{Then}
use Rattle.pm_model.specs.LineOf.{is_line_of}
use Rattle.pm_model.specs.World.{World}
use Rattle.pm_book.specs.Sometime.{Writes}

-- the line that an actor writes at a time, with this event
abbrev pub line_by : ActorId → ℕ → Event → Line
line_by actor time e = record { time = time; actor = actor; event = e }

-- a move that writes, and so that this holds of what it writes
abbrev pub IsWrite : Move → (Event → Change → Then → Type 0) → Type 0
IsWrite (Write e c next) P = P e c next
IsWrite _ P = ⊥

-- where the run stands so and the last line was written at that time, the move writes the line of this actor and time
-- that may come next
abbrev pub IsOffer : Plan → World → ℕ → ActorId → ℕ → Move → Type 0
IsOffer plan w last actor time m = IsWrite m (λ e c next. Writes plan w last (line_by actor time e) c next)

-- the move writes a line of the plan
abbrev pub IsOfPlan : Plan → ActorId → ℕ → Move → Type 0
IsOfPlan plan actor time m = IsWrite m (λ e c next. is_line_of plan (line_by actor time e) ≡ true)
