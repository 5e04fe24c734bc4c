-- By the first bad line, and by the rest.
use Rattle.std.proofs.Common.{◌∙◌, ◌+◌, ap, is_some, subst, sym}
use Rattle.pm_model.specs.NoWhy as model
use Rattle.pm_model.specs.Verdict.{IsVerdict, No}
use Rattle.pm_audit.proofs.Telling.{end_bad, end_cut, not_empty, whole_of}
use Rattle.pm_audit.proofs.auditor.Auditor.first_bad.Goals as goal

pub returns-in-Some-clause-some : goal.returns-in-Some-clause-some
returns-in-Some-clause-some g c = λ b says. end_bad g.T.LineTaker.StandsFor c.args.self.now b c.in-Some.bad (sym c.in-Some.is) says

pub returns-then-is_empty-clause-none : goal.returns-then-is_empty-clause-none
returns-then-is_empty-clause-none g c = λ b says.
    let none = ap (λ o. is_some o) c.in_default.is in
    whole_of g.T.LineTaker.StandsFor c.args.self.now b none (c.is_empty.ensures.0 c.if-is_empty.true) says

pub returns-clause-some : goal.returns-clause-some
returns-clause-some g c = λ b says.
    let a = c.args.self.now in
    let none = ap (λ o. is_some o) c.in_default.is in
    let cut = end_cut g.T.LineTaker.StandsFor a b none (not_empty a.rest c.is_empty.result c.is_empty.ensures c.if-is_empty.false) says in
    subst (λ n. IsVerdict a.reader.judge.plan b (No (n + 1) model.Cut)) (sym (c.from.ensures ∙ c.lines.ensures)) cut
