use Rattle.std.proofs.Common.{ap, ◌∙◌}
use Rattle.pm_model.specs.PlanRows.{ms_of}
use Rattle.pm_hands.proofs.StepLemmas.{begins}
use Rattle.pm_hands.proofs.callback.try_step.Goals as goal

pub returns-in-Begun-clause-ok : goal.returns-in-Begun-clause-ok
returns-in-Begun-clause-ok c =
    begins c.args.book.now c.step.new.self c.args.actor c.args.now c.in-Begun.dev c.in-Begun.cb c.in-Begun.nth c.callback_ms.result c.in_ok-dev.field-0 c.in-Begun.is
    c.in_ok-dev.ensures.answer c.in_ok-dev.ensures.writes
    (c.callback_ms.ensures ∙ ap (λ plan. ms_of plan c.in-Begun.cb c.in-Begun.dev) c.plan.ensures)
