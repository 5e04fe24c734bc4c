-- The text of where the outcome of a kernel's run stands among what the schedules of its plan show (this project's own).
use Rattle.std.specs.Prelude.{ℕ, ◌-◌, List, [], ◌++◌, Option, Some, None, codes, decimal, slice_get}
use Rattle.std.specs.Fmt.{signed_decimal}
use Rattle.std.specs.Option.{option_map_or}
use Rattle.pm_model.specs.declared.plan.Plan.{Plan}
use Rattle.pm_model.specs.declared.rows.CallerRow.{CallerRow}
use Rattle.pm_model.specs.Spelling.{command_text, device_name, newline}
use Rattle.pm_model.specs.Text.{names_of}
use Rattle.pm_outcomes.specs.text.Texts.{status_text}
use Rattle.pm_outcomes.specs.declared.text.reach.Reach.{Reach}
use Rattle.pm_outcomes.specs.declared.text.reach.Reach.TheVariants.{All, Limit, Within}
use Rattle.pm_outcomes.specs.declared.kernel_log.tells.Tell.{Tell}
use Rattle.pm_outcomes.specs.declared.kernel_log.tells.Tell.TheVariants.{Answer, End}

-- as many preemptions at most
unfoldable pub few_text : ℕ → List ℕ
few_text k = codes " of at most " ++ decimal k ++ codes " preemptions"

abbrev pub none_within : ℕ → List ℕ
none_within k = codes "in no schedule" ++ few_text k

-- of which schedules none shows it
abbrev pub none_words : Reach → List ℕ
none_words All = codes "in no schedule"
none_words (Within k) = none_within k
none_words (Limit (Some k)) = none_within k
none_words (Limit None) = codes "no round is complete"

-- the command at a place of a script
abbrev pub command_there : Plan → CallerRow → ℕ → List ℕ
command_there plan row place = option_map_or (command_text (names_of plan)) (slice_get row.script place) []

-- a command of a caller, from 1
abbrev pub called_text : Plan → ℕ → CallerRow → List ℕ
called_text plan number row = row.name ++ codes " " ++ decimal number ++ codes " " ++ command_there plan row (number - 1)

-- what a kernel tells
abbrev pub tell_text : Plan → Tell → List ℕ
tell_text plan (Answer caller number code) =
    option_map_or (called_text plan number) (slice_get plan.callers caller) [] ++ codes " answered " ++ signed_decimal code
tell_text plan (End d status usage) =
    device_name (names_of plan) d.0 ++ codes " ended " ++ status_text status ++ codes " usage " ++ signed_decimal usage

-- the line behind what the schedules show: of what was told the first that none of them shows, if there is one
abbrev pub seen_line : Plan → Reach → Option Tell → List ℕ
seen_line plan reach None = codes "seen: every observation is listed\n"
seen_line plan reach (Some t) = codes "seen: " ++ tell_text plan t ++ codes ": " ++ none_words reach ++ newline
