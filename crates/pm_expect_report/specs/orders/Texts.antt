-- The text of what the schedules of a plan make of the expectations of a file (this project's own).
use Rattle.std.specs.Prelude.{ℕ, Bool, List, [], ◌++◌, Option, Some, None, codes, decimal, is_some, nat_lt, if◌then◌else◌}
use Rattle.std.specs.List.{flat_map, list_any}
use Rattle.pm_expect_report.specs.declared.broken.expectation.Breach.{Breach}
use Rattle.pm_expect_report.specs.declared.broken.expectation.Breach.TheVariants.{Answered, Lacking, Leaving}
use Rattle.pm_expect_report.specs.declared.broken.expectation.Expectation.{Expectation}
use Rattle.pm_expect_report.specs.declared.broken.expectation.Expectation.TheVariants.{Answer, End, Use}
use Rattle.pm_expect_report.specs.declared.broken.firsts.Broken.{Broken}
use Rattle.pm_expect_report.specs.declared.orders.judging.Judged.{Judged}
use Rattle.pm_expect.specs.text.Names.{answer_name, answer_told, end_name, end_told, use_name, use_told}
use Rattle.pm_model.specs.declared.plan.Plan.{Plan}
use Rattle.pm_model.specs.Spelling.{Names, newline}
use Rattle.pm_model.specs.Text.{names_of}
use Rattle.pm_outcomes.specs.text.Absent.{limit_words}
use Rattle.pm_outcomes.specs.text.Reached.{last_round}
use Rattle.pm_outcomes.specs.text.Texts.{after_text}
use Rattle.pm_outcomes.specs.declared.text.reach.Reach.{Reach}
use Rattle.pm_outcomes.specs.declared.text.reach.Reach.TheVariants.{All, Limit, Within}

-- how an expectation is called, as in a run
abbrev pub name_of : Names → Expectation → List ℕ
name_of names (Answer a) = answer_name names a
name_of names (End e) = end_name names e
name_of names (Use u) = use_name names u

-- how it is broken, told as of a run
abbrev pub breach_told : Names → Expectation → Breach → List ℕ
breach_told names (Answer a) (Answered code) = answer_told names a code
breach_told names (End e) (Leaving leaves) = end_told names e leaves
breach_told names (Use u) (Lacking lack) = use_told names u lack
breach_told names _ _ = []

-- by how many preemptions: the least number, where it isn't 0; or, of a snapshot of no complete round, that they are more than the last one's
abbrev pub beyond_text : Option ℕ → List ℕ
beyond_text (Some k) = codes " after more than " ++ decimal k
beyond_text None = codes " in some schedule"

abbrev pub fewest_text : ℕ → ℕ → List ℕ
fewest_text rounds round = if nat_lt round rounds then after_text round else beyond_text (last_round rounds)

-- of which schedules it is said that it holds in them
unfoldable pub within_text : ℕ → List ℕ
within_text k = codes " of at most " ++ decimal k ++ codes " preemptions"

abbrev pub holds_within : ℕ → List ℕ
holds_within k = codes "holds in every schedule" ++ within_text k

abbrev pub holds_text : Reach → List ℕ
holds_text All = codes "holds in every schedule"
holds_text (Within k) = holds_within k
holds_text (Limit (Some k)) = holds_within k
holds_text (Limit None) = codes "no round is complete"

abbrev pub verdict_text : Names → Reach → ℕ → Expectation → Option Broken → List ℕ
verdict_text names reach rounds e (Some b) = codes "fails" ++ fewest_text rounds b.round ++ codes ": " ++ name_of names e ++ codes ": " ++ breach_told names e b.breach
verdict_text names reach rounds e None = holds_text reach

-- `FILE:LINE: holds in every schedule`, `FILE:LINE: fails after 1: end hid suspended: hid is active at the end, usage 1`
abbrev pub judged_line : Names → List ℕ → Reach → ℕ → Judged → List ℕ
judged_line names file reach rounds j = file ++ codes ":" ++ decimal j.line ++ codes ": " ++ verdict_text names reach rounds j.expectation j.broken ++ newline

abbrev pub judged_lines : Plan → List ℕ → Reach → ℕ → List Judged → List ℕ
judged_lines plan file reach rounds all = flat_map (judged_line (names_of plan) file reach rounds) all

-- one of them is broken
abbrev pub has_broken : List Judged → Bool
has_broken all = list_any (λ j. is_some j.broken) all

-- that no schedule breaks it, of those that were gone through
abbrev pub unbroken_line : Plan → Reach → Expectation → List ℕ
unbroken_line plan reach e = codes "order: " ++ name_of (names_of plan) e ++ codes ": " ++ holds_text reach ++ limit_words reach ++ newline

-- `order: no expectation 7: the file has 6`
abbrev pub no_expectation_line : ℕ → ℕ → List ℕ
no_expectation_line index count = codes "order: no expectation " ++ decimal index ++ codes ": the file has " ++ decimal count ++ newline
