use Rattle.std.proofs.Common.{List, subst}
use Rattle.std.specs.Result.{IfErr}
use Rattle.pm_desk.specs.Closing.{IsFault}
use Rattle.pm_desk.specs.Desks.{Counter}
use Rattle.pm_desk.specs.Slips.{Slip}
use Rattle.pm_desk.proofs.desk.Desk.close.Goals as goal

pub returns-clause-err : goal.returns-clause-err
returns-clause-err c =
    subst (λ (d : Counter). IfErr c.compared.result (IsFault d.plan c.args.passes.items)) c.self.view_is
    (subst (λ (l : List Slip). IfErr c.compared.result (IsFault c.self.inside.plan l)) c.deref.ensures.value c.compared.ensures.err)
