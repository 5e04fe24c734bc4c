-- What is told of a plan that is one, put together.
use Rattle.std.proofs.Common.{◌≡◌, ℕ, List, ◌++◌, Result, Ok, Err, IfOk, ap, refl, subst, ◌∙◌}
use Rattle.pm_base.specs.declared.errors.NoMemory.{NoMemory}
use Rattle.pm_model.specs.Islands.{Numbering}
use Rattle.pm_model.specs.declared.plan.Plan.{Plan}
use Rattle.pm_planread.specs.PlanOf.{contents_of, plan_of}
use Rattle.pm_say.specs.Counts.{counts_told}
use Rattle.pm_say.specs.Says.{Says, of_plan}
use Rattle.pm_say.specs.Warned.{TellsPlan, kind_of}
use Rattle.pm_say.specs.declared.told.Said.{Said}
use Rattle.pm_say.specs.lint_text.Told.{TellsWarnings}
use Rattle.pm_say.specs.lints.Warnings.{warnings_of}
use Rattle.pm_say.specs.declared.lints.Warning.{Warning}

-- the warnings are told, and the counts behind them
pub tells_plan : (file text : List ℕ) (plan : Plan) (islands : ℕ) (found told seen : List Warning) (warned counts : List ℕ) (said : Said)
    → found ≡ warnings_of plan → told ≡ found → seen ≡ found → said.kind ≡ kind_of seen → TellsWarnings file text told warned → Numbering plan islands
    → counts ≡ counts_told file plan islands → said.text.items ≡ warned ++ counts → TellsPlan file text (contents_of plan) said
tells_plan file text plan islands found told seen warned counts said is told_is seen_is kind tells numbering counted all = record {
  plan = plan;
  of_text = refl;
  kind = kind ∙ ap kind_of (seen_is ∙ is);
  warned = warned;
  tells = subst (λ (ws : List Warning). TellsWarnings file text ws warned) (told_is ∙ is) tells;
  islands = islands;
  numbering = numbering;
  is = all ∙ ap (λ (x : List ℕ). warned ++ x) counted;
}

-- so it is what is said of the bytes
pub says_told : (file text : List ℕ) (plan : Plan) (r : Result Said NoMemory) → plan_of text ≡ Ok (contents_of plan) → IfOk r (TellsPlan file text (contents_of plan))
    → IfOk r (Says file text)
says_told file text plan (Ok said) is told = of_plan (contents_of plan) is told
says_told file text plan (Err e) is told = tt
