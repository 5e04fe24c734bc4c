-- What each command may come to: its own endings (this project's own). Those that it shares with the others stand in
-- `Ending` of pm_cmd_ends, what comes of a plan's file in `Reading`, those of `serial`, `run` and `desk` in `Runs`, and
-- those of the commands over a trace in `TraceCommands`.
use Rattle.std.specs.Prelude.{◌≡◌, ◌⊎◌, ℕ, Bool, Option, List, IsSome}
use Rattle.pm_io.specs.Asks.{AskedOnly, Asks}
use Rattle.pm_make.specs.Generator.{IsGenerated}
use Rattle.pm_model.specs.declared.plan.Plan.{Plan}
use Rattle.pm_model.specs.Islands.{Numbering}
use Rattle.pm_model.specs.Serial.{serial}
use Rattle.pm_report.specs.Report.{summary, summary_text}
use Rattle.pm_cmd_top.specs.Runs.{IsRun, RunEnds, SerialEnds, is_whole, run_ending}
use Rattle.pm_serial.specs.declared.running.End.{End}
use Rattle.pm_cmd_top.specs.TraceCommands.{OfAudit, OfConvert, OfTimes, OfWhy}
use Rattle.pm_cmd_ends.specs.Request.{Asked, Audit, Check, Convert, Desk, Make, Run, Serial, Times, Why}
use Rattle.pm_cmd_top.specs.Counts.{counts_text}
use Rattle.pm_cmd_ends.specs.Ending.{Done, Ending}
use Rattle.pm_cmd_ends.specs.Reading.{OfPlan}
use Rattle.pm_cmd_ends.specs.Told.{IsNoPlan, LacksDevice}

-- `check PLAN`: the line of its counts, with the number of its islands
pub record CheckEnds (plan : Plan) (ending : Ending) : Type 0 where
  pub islands : ℕ
  pub numbering : Numbering plan islands
  pub is : ending ≡ Done (counts_text plan islands)

-- the summary of the run that one thread makes of a plan
pub record SummaryEnds (plan : Plan) (ending : Ending) : Type 0 where
  pub end_of : End
  pub run : IsRun plan end_of
  pub is : ending ≡ run_ending end_of (summary_text (summary plan (serial plan) (is_whole end_of)))

-- `make NUMBER DEVICES`: the summary of the run of the generator's plan
pub record MakeEnds (number devices : ℕ) (ending : Ending) : Type 0 where
  pub plan : Plan
  pub generated : IsGenerated number devices plan
  pub end_of : End
  pub run : IsRun plan end_of
  pub is : ending ≡ run_ending end_of (summary_text (summary plan (serial plan) (is_whole end_of)))

-- the endings of the command that is asked for, over files of which so much is told
abbrev pub AskedEnds : Bool → (List ℕ → Option (List ℕ)) → Asked → Ending → Type 0
AskedEnds all told (Serial plan) = OfPlan all (told plan) SerialEnds
AskedEnds all told (Run plan hands) = OfPlan all (told plan) RunEnds
AskedEnds all told (Check plan) = OfPlan all (told plan) CheckEnds
AskedEnds all told (Audit plan trace) = OfPlan all (told plan) (OfAudit all (told trace))
AskedEnds all told (Convert plan trace) = OfPlan all (told plan) (OfConvert all (told trace))
AskedEnds all told (Times plan trace) = OfPlan all (told plan) (OfTimes all (told trace))
AskedEnds all told (Why plan trace device) = OfPlan all (told plan) (OfWhy all (told trace) device)
AskedEnds all told (Make number devices) = MakeEnds number devices
AskedEnds all told (Desk plan) = OfPlan all (told plan) RunEnds

-- the files that the command asks for: the plan's alone, where no trace is named, or where what is told of the plan's is no
-- plan, or for `why` one without such a device; `make` asks for none
abbrev pub AsksInOrder : (List ℕ → Option (List ℕ)) → Asked → Asks → Asks → Type 0
AsksInOrder told (Serial plan) old new = IsSome (told plan) → AskedOnly plan old new
AsksInOrder told (Run plan hands) old new = IsSome (told plan) → AskedOnly plan old new
AsksInOrder told (Desk plan) old new = IsSome (told plan) → AskedOnly plan old new
AsksInOrder told (Check plan) old new = IsSome (told plan) → AskedOnly plan old new
AsksInOrder told (Audit plan trace) old new = IsNoPlan (told plan) → AskedOnly plan old new
AsksInOrder told (Convert plan trace) old new = IsNoPlan (told plan) → AskedOnly plan old new
AsksInOrder told (Times plan trace) old new = IsNoPlan (told plan) → AskedOnly plan old new
AsksInOrder told (Why plan trace device) old new = IsNoPlan (told plan) ⊎ LacksDevice (told plan) device → AskedOnly plan old new
AsksInOrder told (Make number devices) old new = new ≡ old
