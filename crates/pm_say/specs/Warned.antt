-- What is told of a plan that is one: its warnings, and how much it has (this project's own).
use Rattle.std.specs.Prelude.{◌≡◌, ℕ, List, [], ◌∷◌, ◌++◌}
use Rattle.pm_model.specs.Islands.{Numbering}
use Rattle.pm_model.specs.declared.plan.Plan.{Plan}
use Rattle.pm_planread.specs.PlanOf.{Contents, contents_of}
use Rattle.pm_say.specs.Counts.{counts_told}
use Rattle.pm_say.specs.declared.told.Kind.{Kind}
use Rattle.pm_say.specs.declared.told.Kind.TheVariants.{Clean, Warned}
use Rattle.pm_say.specs.declared.told.Said.{Said}
use Rattle.pm_say.specs.lint_text.Told.{TellsWarnings}
use Rattle.pm_say.specs.lints.Warnings.{warnings_of}
use Rattle.pm_say.specs.declared.lints.Warning.{Warning}

-- a plan without warnings is clean
abbrev pub kind_of : List Warning → Kind
kind_of [] = Clean
kind_of (w ∷ more) = Warned

-- the plan's warnings are told, and then how much it has
pub record TellsPlan (file text : List ℕ) (contents : Contents) (said : Said) : Type 0 where
  pub plan : Plan
  pub of_text : contents_of plan ≡ contents
  pub kind : said.kind ≡ kind_of (warnings_of plan)
  pub warned : List ℕ
  pub tells : TellsWarnings file text (warnings_of plan) warned
  pub islands : ℕ
  pub numbering : Numbering plan islands
  pub is : said.text.items ≡ warned ++ counts_told file plan islands
