-- By what is offered.
use Rattle.std.proofs.Common.{refl}
use Rattle.pm_outcomes.proofs.paths.RunLemmas.{none}
use Rattle.pm_outcomes.proofs.paths.run.Run.line.Goals as goal

pub returns-then-not-offered-clause-none : goal.returns-then-not-offered-clause-none
returns-then-not-offered-clause-none c = λ _ line by at.
    none c.args.plan.now c.args.self.now.state.world c.args.self.now.last c.args.actor c.args.time line by at (λ e. c.if-not-offered.ensures.none refl e)
