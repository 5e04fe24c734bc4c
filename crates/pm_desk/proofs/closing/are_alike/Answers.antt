use Rattle.std.proofs.Common.{subst}
use Rattle.pm_islands.specs.Blank.{IsBlank}
use Rattle.pm_desk.proofs.CloseLemmas.{blank_alike}
use Rattle.pm_desk.proofs.closing.are_alike.Goals as goal

pub returns : goal.returns
returns c = λ is. blank_alike c.args.plan.now c.args.empty.now (subst (IsBlank c.args.plan.now) (c.same.ensures.0 is) c.in_ok-blank.ensures)
