-- What is kept of all devices and callers while lines are read, and what is told of it.
use Rattle.std.specs.Prelude.{ℕ, ◌≡◌, ◌<◌, ◌+◌, Bool, false, true, List, [], ◌∷◌, ◌++◌, Option, Some, None, length, slice_index_or, slice_set}
use Rattle.pm_base.specs.declared.ActorId.{ActorId}
use Rattle.pm_base.specs.declared.ActorId.TheVariants.{Caller, Work, Timer}
use Rattle.pm_base.specs.declared.DevId.{DevId}
use Rattle.pm_model.specs.declared.event.Event.{Event}
use Rattle.pm_model.specs.declared.event.Line.{Line}
use Rattle.pm_model.specs.declared.plan.Plan.{Plan}
use Rattle.pm_model.specs.History.{History}
use Rattle.pm_model.specs.Views.{Views}
use Rattle.pm_find.specs.declared.findings.Finding.{Finding}
use Rattle.pm_find.specs.declared.findings.Kind.{Kind}
use Rattle.pm_find.specs.declared.findings.watched.Called.{Called}
use Rattle.pm_find.specs.declared.findings.watched.Count.{Count}
use Rattle.pm_find.specs.findings.AllFound.{Later, at_line}
use Rattle.pm_find.specs.findings.Ending.{left_on}
use Rattle.pm_find.specs.findings.Kept.{AreCalled, AreKnown, Known, known_after, row_at}
use Rattle.pm_find.specs.findings.OpenCounts.{device_of, gives, is_given}
use Rattle.pm_find.specs.findings.Said.{called_after}
use Rattle.pm_find.specs.findings.StandsOut.{answer, failed, leak, never_on, no_count, poisoned, refused, refused_put, refused_status, stolen}

-- a row for each device, the last call of each caller, and for each line, counted from 1, whether the count that was taken there has been given back;
-- line 0 is none
pub record Table : Type 0 where
  pub rows : List Known
  pub calls : List (Option Called)
  pub given : List Bool

-- the last call of an actor
abbrev pub called_at : List (Option Called) → ActorId → Option Called
called_at calls (Caller c) = slice_index_or calls c None
called_at calls (Work d) = None
called_at calls (Timer d) = None

-- what an event of this actor makes of the last calls
abbrev pub calls_after : ActorId → ℕ → ℕ → Event → List (Option Called) → List (Option Called)
calls_after (Caller c) number time e calls = slice_set calls c (called_after number time e (slice_index_or calls c None))
calls_after (Work d) number time e calls = calls
calls_after (Timer d) number time e calls = calls

abbrev pub rows_after : ℕ → Option Called → Line → List Known → List Known
rows_after number called line rows =
    slice_set rows (let d : DevId = device_of line.event in d.0) (known_after line.actor number called line.event (row_at rows (device_of line.event)))

-- a count that is given back is noted at its line
abbrev pub noted : Option ℕ → List Bool → List Bool
noted (Some m) given = slice_set given m true
noted None given = given

-- a line more is kept, and what it gives back
abbrev pub given_after : Option ℕ → List Bool → List Bool
given_after gives given = noted gives given ++ false ∷ []

-- whether the count that was taken in a line has been given back
abbrev pub given_at : List Bool → ℕ → Bool
given_at given m = slice_index_or given m false

-- the open counts of a device in a table
abbrev pub counts_in : Table → DevId → List Count
counts_in t d = let x : Known = row_at t.rows d in x.counts

-- what a line makes of a table
abbrev pub table_after : ℕ → Line → Table → Table
table_after number line t = record {
  rows = rows_after number (called_at t.calls line.actor) line t.rows;
  calls = calls_after line.actor number line.time line.event t.calls;
  given = given_after (gives (counts_in t (device_of line.event)) (called_at t.calls line.actor) line.actor line.event) t.given;
}

-- what is known later, in a table of what is left and one of the end
abbrev pub later_in : Table → Table → Later
later_in left ends = record { left = counts_in left; given = given_at ends.given }

-- what stands out at a line of gets and puts, by the counts that are left, a row of its device and a call of its actor
abbrev pub counts_told : List Count → Known → Option Called → ℕ → Line → List Finding
counts_told left x called number line =
    at_line number (leak left number called line.actor line.event)
    ++ at_line number (stolen x.counts line.actor line.event)
    ++ at_line number (never_on x.counts x.status x.left line.actor line.event)

-- of returns
abbrev pub answers_told : (ℕ → Bool) → Known → Option Called → ℕ → Line → List Finding
answers_told given x called number line =
    at_line number (answer x.error x.failed x.counts given called line.actor line.event)
    ++ at_line number (refused line.actor line.event)
    ++ at_line number (refused_status line.actor line.event)
    ++ at_line number (refused_put called line.actor line.event)
    ++ at_line number (no_count line.actor line.event)
    ++ at_line number (poisoned x.error x.counts called line.actor line.event)

-- and of callbacks too
abbrev pub told : List Count → (ℕ → Bool) → Known → Option Called → ℕ → Line → List Finding
told left given x called number line =
    counts_told left x called number line ++ answers_told given x called number line ++ at_line number (failed line.event)

-- what stands out at a line, by what is left in one table and given back in another, and what is known in a third
abbrev pub told_at : Table → Table → Table → ℕ → Line → List Finding
told_at left ends t number line =
    told (counts_in left (device_of line.event)) (given_at ends.given) (row_at t.rows (device_of line.event)) (called_at t.calls line.actor) number line

-- a device that is left on, by what is kept of it at the end
abbrev pub on_in : Plan → Views → Table → List Bool → DevId → Option Kind
on_in plan v ends drops d = left_on plan v (counts_in ends d) (slice_index_or drops d.0 false) d

-- for each of the lines whether its count has been given back
pub record AreGiven (h : History) (given : List Bool) : Type 0 where
  pub entries : length given ≡ length h + 1
  pub each : (m : ℕ) → given_at given m ≡ is_given h m

-- what is kept is that of these lines
pub record IsTable (devices callers : ℕ) (h : History) (t : Table) : Type 0 where
  pub known : AreKnown devices h t.rows
  pub called : AreCalled callers h t.calls
  pub given : AreGiven h t.given
