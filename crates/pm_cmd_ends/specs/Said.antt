-- What is said of a trace: the line of `audit` (this project's own).
use Rattle.std.specs.Prelude.{ℕ, List, ◌++◌, codes, decimal}
use Rattle.pm_model.specs.NoWhy.{Cut, Limit, NoWhy, Step, Text, Time}
use Rattle.pm_model.specs.Spelling.{newline, space}
use Rattle.pm_model.specs.Verdict.{No, Verdict, YesFinished, YesOpen}

abbrev pub why_word : NoWhy → List ℕ
why_word Cut = codes "cut"
why_word Text = codes "text"
why_word Limit = codes "limit"
why_word Step = codes "step"
why_word Time = codes "time"

-- its line of that number is the first bad one, for this reason
abbrev pub no_line : ℕ → NoWhy → List ℕ
no_line n why = codes "no line " ++ decimal n ++ space ++ why_word why ++ newline

abbrev pub finished_line : List ℕ
finished_line = codes "yes finished" ++ newline

abbrev pub open_line : List ℕ
open_line = codes "yes open" ++ newline

-- the line, with its newline
abbrev pub verdict_line : Verdict → List ℕ
verdict_line YesFinished = finished_line
verdict_line YesOpen = open_line
verdict_line (No n why) = no_line n why
