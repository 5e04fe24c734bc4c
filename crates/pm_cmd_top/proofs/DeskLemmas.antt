-- What a desk that is closed comes to, and what its passes call.
use Rattle.std.proofs.Common.{◌≡◌, ℕ, true, List, Some, get_or, length, reverse, slice_get, subst, sym}
use Rattle.std.specs.List.{AllPass, list_all}
use Rattle.std.proofs.lemmas.Option.{slice_get-get_or}
use Rattle.pm_model.specs.declared.event.Line.{Line}
use Rattle.pm_model.specs.declared.plan.Plan.{Plan}
use Rattle.pm_model.specs.declared.rows.CallerRow.{CallerRow}
use Rattle.pm_model.specs.IsPlan.{is_command}
use Rattle.pm_model.specs.Lawful.{IsFinished, IsLawful}
use Rattle.pm_model.specs.LineOf.{is_line_of}
use Rattle.pm_laws.proofs.stacks.PlanLaw.{command_lawful}
use Rattle.pm_book.specs.Pages.{Pages}
use Rattle.pm_cmd_top.specs.Gathering.{IsFinishedRun}

-- the lines of a book of the plan, in order, whose run is finished
pub closed_run : (plan : Plan) (p : Pages) (lines : List Line) → p.plan ≡ plan → IsFinished p.plan p.lines → reverse lines ≡ p.lines → IsLawful p.plan p.lines
    → list_all (is_line_of p.plan) p.lines ≡ true → IsFinishedRun plan lines
closed_run plan p lines plan_is finished lines_are lawful of_plan =
    subst (λ (q : Plan). IsFinishedRun q lines) plan_is
    (record {
      lawful = subst (λ (h : List Line). IsLawful p.plan h) (sym lines_are) lawful;
      finished = subst (λ (h : List Line). IsFinished p.plan h) (sym lines_are) finished;
      of_plan = subst (λ (h : List Line). list_all (is_line_of p.plan) h ≡ true) (sym lines_are) of_plan;
    })

-- each command of a script is one over the plan's devices
pub script_lawful : (plan : Plan) (c n : ℕ) (row : CallerRow) → slice_get plan.callers c ≡ Some row → length plan.devices ≡ n → AllPass (is_command n) row.script
script_lawful plan c n row at same i d within =
    subst (λ (k : ℕ). is_command k (get_or row.script i d) ≡ true) same (command_lawful plan c i row (get_or row.script i d) at (slice_get-get_or row.script i d within))
