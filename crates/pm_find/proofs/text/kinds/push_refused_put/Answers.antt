use Rattle.std.proofs.Common.{◌∙◌, ◌++◌, ap, w32}
use Rattle.std.proofs.lemmas.Int.{to_z-of_z}
use Rattle.pm_find.specs.declared.findings.Kind.TheVariants as kind
use Rattle.pm_find.specs.text.Texts.{kind_text}
use Rattle.pm_find.proofs.text.TextLemmas.{more}
use Rattle.pm_find.proofs.text.kinds.push_refused_put.Goals as goal

pub returns : goal.returns
returns c =
    more _ _ _ _ _
    (c.in_ok-push_answer.ensures
    ∙ ap (λ z. c.args.text.now.items ++ kind_text c.args.plan.now (kind.Refused c.args.actor c.args.helper c.args.dev z)) (to_z-of_z w32 c.args.code c.ranges.code))
    c.in_ok-push.ensures
