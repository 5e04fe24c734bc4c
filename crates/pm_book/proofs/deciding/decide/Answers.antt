-- By the stage at which the line's actor stands.
use Rattle.pm_book.proofs.Answering.{answers_step, answers_time, stands_at}
use Rattle.pm_book.proofs.deciding.decide.Goals as goal

pub written-requires-clause-stands : goal.written-requires-clause-stands
written-requires-clause-stands c = stands_at c.args.plan.now c.args.state.now.world c.args.line.now.actor c.in-Some.stage c.requires.stands c.in-Some.ensures

pub comes-requires-clause-stands : goal.comes-requires-clause-stands
comes-requires-clause-stands c = stands_at c.args.plan.now c.args.state.now.world c.args.line.now.actor c.in-Some.stage c.requires.stands c.in-Some.ensures

pub returns-then-comes-clause-err : goal.returns-then-comes-clause-err
returns-then-comes-clause-err c = λ h same at room.
    answers_time c.args.plan.now c.args.state.now.world c.args.last h c.args.line.now c.in-Some.stage same at room c.in-Some.ensures c.in_default-written.ensures.none (c.comes.ensures.0 c.if-comes.true)

pub returns-clause-err : goal.returns-clause-err
returns-clause-err c = λ h same at room.
    answers_step c.args.plan.now c.args.state.now.world c.args.last h c.args.line.now c.in-Some.stage same at room c.in-Some.ensures (λ come. let told = c.comes.ensures.1 come in cc (told, c.if-comes.false))
