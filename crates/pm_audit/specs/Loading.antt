-- What a book that is loaded from a trace says of its bytes (this project's own). Lists have the newest line first.
use Rattle.std.specs.Prelude.{ℕ, ◌≡◌, List}
use Rattle.pm_model.specs.declared.plan.Plan.{Plan}
use Rattle.pm_model.specs.FirstBad.{StandsFor}
use Rattle.pm_model.specs.Lawful.{IsLawful}
use Rattle.pm_model.specs.Verdict as verdicts
use Rattle.pm_model.specs.Verdict.{IsVerdict}
use Rattle.pm_book.specs.Pages.{Pages}
use Rattle.pm_audit.specs.Auditing.{reason_of}
use Rattle.pm_audit.specs.declared.loading.LoadFault.{LoadFault}
use Rattle.pm_audit.specs.declared.loading.LoadFault.TheVariants as fault

-- why no book was loaded from the bytes: an auditor says it of them, or memory ran out
abbrev pub IsRefused : Plan → List ℕ → LoadFault → Type 0
IsRefused plan bytes (fault.No n why) = IsVerdict plan bytes (verdicts.No n (reason_of why))
IsRefused plan bytes fault.NoMemory = Unit {0}

-- the book has the lines that are lawful for this plan and whose text the bytes are
pub record AreLoaded (plan : Plan) (bytes : List ℕ) (p : Pages) : Type 0 where
  pub plan_is : p.plan ≡ plan
  pub lawful : IsLawful plan p.lines
  pub stands : StandsFor plan bytes p.lines
