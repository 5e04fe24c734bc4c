-- How expectations are called, and what is told where one fails (this project's own).
use Rattle.std.specs.Prelude.{ℕ, ℤ, List, [], ◌++◌, Option, Some, None, codes, decimal}
use Rattle.std.specs.Fmt.{signed_decimal}
use Rattle.pm_base.specs.declared.ActorId.TheVariants.{Caller}
use Rattle.pm_base.specs.declared.Status.{Status}
use Rattle.pm_base.specs.declared.Status.TheVariants as status
use Rattle.pm_expect.specs.declared.expectation.Answer.{Answer}
use Rattle.pm_expect.specs.declared.expectation.End.{End}
use Rattle.pm_expect.specs.declared.expectation.Left.{Left}
use Rattle.pm_expect.specs.declared.expectation.Left.TheVariants as left
use Rattle.pm_expect.specs.declared.expectation.Use.{Use}
use Rattle.pm_expect.specs.declared.expectation.Which.{Which}
use Rattle.pm_expect.specs.declared.expectation.Which.TheVariants as which
use Rattle.pm_expect.specs.declared.verdicts.verdict.Leaves.{Leaves}
use Rattle.pm_find.specs.text.Texts.{code_text}
use Rattle.pm_model.specs.Spelling.{Names, actor_text, command_text, device_name}
use Rattle.pm_expect.specs.declared.verdicts.verdict.Lack.{Lack}
use Rattle.pm_expect.specs.declared.verdicts.verdict.Lack.TheVariants as lack

abbrev pub which_text : Which → List ℕ
which_text which.Each = []
which_text (which.Nth n) = codes " nth " ++ decimal n

abbrev pub answer_name : Names → Answer → List ℕ
answer_name names a =
    codes "answer " ++ actor_text names (Caller a.caller) ++ codes " " ++ command_text names a.command ++ which_text a.which ++ codes " " ++ signed_decimal a.code

abbrev pub left_word : Left → List ℕ
left_word left.Suspended = codes "suspended"
left_word left.Active = codes "active"

abbrev pub usage_text : Option ℕ → List ℕ
usage_text (Some usage) = codes " usage " ++ decimal usage
usage_text None = []

abbrev pub end_name : Names → End → List ℕ
end_name names e = codes "end " ++ device_name names (let d = e.dev in d.0) ++ codes " " ++ left_word e.left ++ usage_text e.usage

abbrev pub use_name : Names → Use → List ℕ
use_name names u = codes "use " ++ device_name names (let d = u.dev in d.0) ++ codes " " ++ actor_text names (Caller u.caller) ++ codes " " ++ command_text names u.command

abbrev pub status_word : Status → List ℕ
status_word status.Active = codes "active"
status_word status.Suspended = codes "suspended"
status_word status.Suspending = codes "suspending"
status_word status.Resuming = codes "resuming"

-- a call answers this code
abbrev pub answer_told : Names → Answer → ℤ → List ℕ
answer_told names a code = actor_text names (Caller a.caller) ++ codes ": " ++ command_text names a.command ++ codes " answers " ++ code_text code

-- a run leaves a device so
abbrev pub end_told : Names → End → Leaves → List ℕ
end_told names e x = device_name names (let d = e.dev in d.0) ++ codes " is " ++ status_word x.status ++ codes " at the end, usage " ++ decimal x.usage

-- a device lacks this
abbrev pub lack_text : Names → Lack → List ℕ
lack_text names (lack.Inactive s) = codes " is " ++ status_word s
lack_text names (lack.Domain o) = codes " is active, and its domain or one above it is off"
lack_text names (lack.Parent p) = codes " is active, and its parent " ++ device_name names (let d = p in d.0) ++ codes " isn't"
lack_text names (lack.Supplier s) = codes " is active, and its supplier " ++ device_name names (let d = s in d.0) ++ codes " isn't"

abbrev pub use_told : Names → Use → Lack → List ℕ
use_told names u l = device_name names (let d = u.dev in d.0) ++ lack_text names l
