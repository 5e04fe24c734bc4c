-- The text of reasons (this project's own).
use Rattle.std.specs.Prelude.{ℕ, List, [], ◌∷◌, ◌++◌, codes, decimal}
use Rattle.std.specs.Fmt.{signed_decimal}
use Rattle.std.specs.List.{flat_map}
use Rattle.pm_base.specs.declared.Status.{Status}
use Rattle.pm_base.specs.declared.Status.TheVariants as status
use Rattle.pm_model.specs.Spelling.{Names, device_name, newline, why_text}
use Rattle.pm_why.specs.declared.Reason.{Reason}
use Rattle.pm_why.specs.declared.Reason.TheVariants as reason

abbrev pub status_text : Status → List ℕ
status_text status.Active = codes "active"
status_text status.Suspended = codes "suspended"
status_text status.Suspending = codes "suspending"
status_text status.Resuming = codes "resuming"

-- a reason; what a count was taken for is spelled as in a pm_get line
abbrev pub reason_text : Names → Reason → List ℕ
reason_text names (reason.Error code line) = codes "error " ++ signed_decimal code ++ codes " line " ++ decimal line
reason_text names (reason.Depth depth) = codes "depth " ++ decimal depth
reason_text names (reason.Count w line) = codes "count " ++ why_text names w ++ codes " line " ++ decimal line
reason_text names (reason.Child d) = codes "child " ++ device_name names d.0
reason_text names reason.Deferred = codes "deferred"
reason_text names reason.Request = codes "request resume"
reason_text names (reason.State s) = codes "status " ++ status_text s

-- with its newline
abbrev pub reason_line : Names → Reason → List ℕ
reason_line names r = reason_text names r ++ newline

-- where there is no reason
abbrev pub free_line : List ℕ
free_line = codes "free" ++ newline

-- one reason per line
abbrev pub reasons_text : Names → List Reason → List ℕ
reasons_text names [] = free_line
reasons_text names (r ∷ reasons) = flat_map (reason_line names) (r ∷ reasons)
