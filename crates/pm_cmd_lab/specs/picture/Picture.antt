-- What `picture` may come to (this project's own).
use Rattle.std.specs.Prelude.{◌≡◌, ℕ, Bool, Option, List, IsSome, if◌then◌else◌}
use Rattle.pm_cmd_ends.specs.Coming.{trace_too_long}
use Rattle.pm_cmd_ends.specs.Reading.{IsRead, IsTooLong}
use Rattle.pm_cmd_lab.specs.ends.Coming.{ending_of}
use Rattle.pm_cmd_lab.specs.ends.Ending.{Ending, Refused}
use Rattle.pm_cmd_lab.specs.declared.ends.ending.Outcome.{Outcome}
use Rattle.pm_cmd_lab.specs.declared.ends.ending.Outcome.TheVariants as outcome
use Rattle.pm_model.specs.declared.plan.Plan.{Plan}
use Rattle.pm_cmd_lab.specs.picture.Drawing.{IsDrawn}
use Rattle.pm_cmd_lab.specs.declared.picture.telling.Drawn.{Drawn}

-- what it told, by whether the trace is that of a lawful run
abbrev pub outcome_of_picture : Bool → Outcome
outcome_of_picture is_lawful = if is_lawful then outcome.Done else outcome.Found

-- the text is what is written of the trace
abbrev pub DrawnEnds : Drawn → Ending → Type 0
DrawnEnds drawn ending = ending ≡ ending_of (outcome_of_picture drawn.is_lawful) drawn.text.items

-- over a plan: a trace that is too long is told so; or the trace is read, and this is what is written of it
pub data OfPicture (all : Bool) (known : Option (List ℕ)) (file : List ℕ) (json : Bool) (plan : Plan) : Ending → Type 0 where
  too_many : IsTooLong all known 67108864 → OfPicture all known file json plan (Refused trace_too_long)
  of_trace : (drawn : Drawn) → IsDrawn all known plan file json drawn → (ending : Ending) → DrawnEnds drawn ending → OfPicture all known file json plan ending

-- which file's read failed: the plan's, and no other file was asked for where all is told of it; or the trace's, and the plan
-- was read
pub data PictureUnread (all : Bool) (known : Option (List ℕ)) (plan trace : List ℕ) (Alone Failed : Type 0) : List ℕ → Type 0 where
  plan_unread : (IsSome known → Alone) → Failed → PictureUnread all known plan trace Alone Failed plan
  trace_unread : (read : Plan) → IsRead all known read → Failed → PictureUnread all known plan trace Alone Failed trace
