use Rattle.std.proofs.Common.{[], subst, ◌∙◌}
use Rattle.std.proofs.lemmas.Result.{IfOk-weaker}
use Rattle.pm_model.specs.FirstBad.{StandsFor}
use Rattle.pm_model.specs.Lawful.{IsLawful}
use Rattle.pm_audit.proofs.loading.load_trace.Goals as goal

pub returns-in-Ok-clause-lawful : goal.returns-in-Ok-clause-lawful
returns-in-Ok-clause-lawful c =
    IfOk-weaker c.book.result _ _ (λ book loaded.
    subst (λ plan. IsLawful plan book.lines) (c.feed.ensures.plan ∙ c.in-Ok.ensures.plan) (loaded c.args.bytes.now (c.feed.ensures.stands [] c.in-Ok.ensures.stands)).lawful) c.book.ensures.loaded

pub returns-in-Ok-clause-stands : goal.returns-in-Ok-clause-stands
returns-in-Ok-clause-stands c =
    IfOk-weaker c.book.result _ _ (λ book loaded.
    subst (λ plan. StandsFor plan c.args.bytes.now book.lines) (c.feed.ensures.plan ∙ c.in-Ok.ensures.plan) (loaded c.args.bytes.now (c.feed.ensures.stands [] c.in-Ok.ensures.stands)).stands) c.book.ensures.loaded

pub returns-in-Ok-clause-plan : goal.returns-in-Ok-clause-plan
returns-in-Ok-clause-plan c =
    IfOk-weaker c.book.result _ _ (λ book loaded. (loaded c.args.bytes.now (c.feed.ensures.stands [] c.in-Ok.ensures.stands)).plan_is ∙ c.feed.ensures.plan ∙ c.in-Ok.ensures.plan) c.book.ensures.loaded
