-- By what is offered.
use Rattle.std.proofs.Common.{◌<◌, ◌+◌, length, Some, refl, subst, arith}
use Rattle.pm_model.specs.declared.stage.Move.{Move}
use Rattle.pm_book.specs.Offering.{IsOffer}
use Rattle.pm_outcomes.specs.declared.paths.run.Run.{Run}
use Rattle.pm_outcomes.proofs.paths.RunLemmas.{none, took}
use Rattle.pm_outcomes.proofs.paths.run.Run.step.Goals as goal

pub returns-then-not-offered-clause-none : goal.returns-then-not-offered-clause-none
returns-then-not-offered-clause-none c = λ _ line by at.
    none c.args.plan.now c.args.self.now.state.world c.args.self.now.last c.args.actor c.args.time line by at (λ e. c.if-not-offered.ensures.none refl e)

pub returns-clause-took : goal.returns-clause-took
returns-clause-took c = λ _.
    let old : Run = c.args.self.now in
    let new : Run = record { state = c.go.new.self; last = record { time = c.args.time; actor = Some c.args.actor; code = c.code_of.result }; lines = old.lines + 1 } in
    let k = c.requires.run in
    let few = c.requires.room in
    let same = k.lines in
    let room : length k.list < c.args.plan.now.lines = omega (arith, few, same) in
    let may = subst (λ (m : Move). IsOffer c.args.plan.now old.state.world old.last.time c.args.actor c.args.time m) c.in-Write.is (c.offered.ensures.writes c.if-not-offered.false) in
    took c.args.plan.now old new c.args.actor c.args.time c.in-Write.event c.in-Write.change c.in-Write.next k room c.requires.near may c.go.ensures
    (λ i. record { time = c.args.time; actor = Some c.args.actor; code = c.code_of.ensures i }) refl
