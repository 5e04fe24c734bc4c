-- The headline, of what each command's statuses say.
use Rattle.std.proofs.Common.{◌≡◌, ◌≤◌, ℕ, Bool, List, Option, Some, refl, subst}
use Rattle.pm_io.specs.Faults.{Rose}
use Rattle.pm_model.specs.Verdict.{YesFinished}
use Rattle.pm_cmd_ends.specs.Ending.{Answered, SaidNo, Taking}
use Rattle.pm_cmd_ends.specs.Reading.{OfPlan}
use Rattle.pm_cmd_ends.specs.Request.{Asked, Audit}
use Rattle.pm_cmd_top.specs.Commands.{AskedEnds}
use Rattle.pm_cmd_top.specs.Headline.{IsTextOfRun, RunsPlan, desk, run, serial}
use Rattle.pm_cmd_top.specs.Runs.{RunEnds, SerialEnds}
use Rattle.pm_cmd_top.specs.TraceCommands.{AuditEnds, OfAudit}
use Rattle.pm_cmd_top.specs.answers.Audited.{AuditSays, HasVerdict, TookAll}
use Rattle.pm_cmd_top.specs.answers.Page.{Exactly, IsBadTrace, IsLawfulTrace, IsRefusedTrace, IsUndisturbed}
use Rattle.pm_cmd_top.proofs.answers.AuditLemmas.{audited, serial_finished, threads_finished}
use Rattle.pm_cmd_top.proofs.answers.PageLemmas.{audit_done, first_exactly, lawful_not_bad, lawful_not_refused, trace_is, zero_one, zero_three}

-- the text of a finished run has that verdict, and the other way round
pub of_verdict : (plan_bytes bytes : List ℕ) → HasVerdict plan_bytes bytes YesFinished → IsTextOfRun plan_bytes bytes
of_verdict plan_bytes bytes has = record { plan = has.plan; is_plan = has.is_plan; run = has.says.0; lawful = has.says.1; finished = has.says.3; text = has.says.2; short = has.short }

pub has_verdict : (plan_bytes bytes : List ℕ) → IsTextOfRun plan_bytes bytes → HasVerdict plan_bytes bytes YesFinished
has_verdict plan_bytes bytes is = record { plan = is.plan; is_plan = is.is_plan; short = is.short; says = (is.run, is.lawful, is.text, is.finished) }

pub wrote : (all : Bool) (told : List ℕ → Option (List ℕ)) (asked : Asked) (plan plan_bytes bytes : List ℕ) (old new : ℕ) (out err : Taking)
    → RunsPlan plan asked → told plan ≡ Some plan_bytes → TookAll out bytes
    → Answered (AskedEnds all told asked) 0 (Rose old new) out err
    → IsTextOfRun plan_bytes bytes
wrote all told _ plan plan_bytes bytes old new out err serial tells took answers =
    let P : Option (List ℕ) → Type 0 = λ known. Answered (OfPlan all known SerialEnds) 0 (Rose old new) out err in
    of_verdict plan_bytes bytes (serial_finished all plan_bytes bytes (Rose old new) out err took (subst P tells answers))
wrote all told _ plan plan_bytes bytes old new out err (run hands) tells took answers =
    let P : Option (List ℕ) → Type 0 = λ known. Answered (OfPlan all known RunEnds) 0 (Rose old new) out err in
    of_verdict plan_bytes bytes (threads_finished all plan_bytes bytes (Rose old new) out err took (subst P tells answers))
wrote all told _ plan plan_bytes bytes old new out err desk tells took answers =
    let P : Option (List ℕ) → Type 0 = λ known. Answered (OfPlan all known RunEnds) 0 (Rose old new) out err in
    of_verdict plan_bytes bytes (threads_finished all plan_bytes bytes (Rose old new) out err took (subst P tells answers))

pub judged : (all : Bool) (told : List ℕ → Option (List ℕ)) (plan trace plan_bytes bytes : List ℕ) (status old new : ℕ) (out err : Taking)
    → told plan ≡ Some plan_bytes → told trace ≡ Some bytes → IsUndisturbed status old new out
    → Answered (AskedEnds all told (Audit plan trace)) status (Rose old new) out err
    → Exactly status 0 (IsLawfulTrace plan_bytes bytes)
judged all told plan trace plan_bytes bytes status old new out err tells_plan tells_trace quiet answers =
    let P : Option (List ℕ) → Type 0 = λ known. Answered (OfPlan all known (OfAudit all (told trace))) status (Rose old new) out err in
    let Q : Option (List ℕ) → Type 0 = λ known. Answered (OfPlan all (Some plan_bytes) (OfAudit all known)) status (Rose old new) out err in
    first_exactly status 0 1 3 (IsLawfulTrace plan_bytes bytes) (IsBadTrace plan_bytes bytes) (IsRefusedTrace plan_bytes bytes) zero_one zero_three (lawful_not_bad plan_bytes bytes) (lawful_not_refused plan_bytes bytes)
    (trace_is all plan_bytes bytes SaidNo AuditEnds status old new out err quiet (λ line. refl) audit_done (subst Q tells_trace (subst P tells_plan answers)))
