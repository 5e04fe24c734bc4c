-- The line that says that no schedule shows what is asked for (this project's own).
use Rattle.std.specs.Prelude.{ℕ, List, [], ◌++◌, codes, slice_get}
use Rattle.std.specs.Option.{option_map_or}
use Rattle.pm_outcomes.specs.declared.list.observations.Observation.{Observation}
use Rattle.pm_outcomes.specs.declared.list.observations.Observation.TheVariants.{End, Return}
use Rattle.pm_model.specs.declared.plan.Plan.{Plan}
use Rattle.pm_model.specs.Spelling.{device_name, newline}
use Rattle.pm_model.specs.Text.{names_of}
use Rattle.pm_outcomes.specs.text.Seen.{called_text, none_words}
use Rattle.pm_outcomes.specs.text.Texts.{value_text}
use Rattle.pm_outcomes.specs.declared.text.reach.Reach.{Reach}
use Rattle.pm_outcomes.specs.declared.text.reach.Reach.TheVariants.{All, Limit, Within}

-- the command that returned, or the device that is left so
abbrev pub subject_text : Plan → Observation → List ℕ
subject_text plan (Return r) = option_map_or (called_text plan r.command) (slice_get plan.callers r.caller) []
subject_text plan (End l) = codes "end " ++ device_name (names_of plan) l.device.0

abbrev pub limit_words : Reach → List ℕ
limit_words All = []
limit_words (Within k) = []
limit_words (Limit k) = codes "; a limit came first"

abbrev pub absent_line : Plan → Reach → Observation → List ℕ
absent_line plan reach observation = codes "order: " ++ subject_text plan observation ++ codes ": " ++ value_text observation ++ codes ": " ++ none_words reach ++ limit_words reach ++ newline
