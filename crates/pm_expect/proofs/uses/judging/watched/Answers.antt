use Rattle.std.proofs.Common.{◌∙◌, ap, arith, reverse, subst, sym, take}
use Rattle.pm_book.specs.Replayed.{IsAfter}
use Rattle.pm_device.specs.Parts.{Counters, IsFor}
use Rattle.pm_expect.proofs.verdicts.CallLemmas.{line_at, reverse_more}
use Rattle.pm_model.specs.History.{History}
use Rattle.pm_expect.proofs.uses.WatchLemmas.{known_more, lawful_at, over_watches}
use Rattle.pm_expect.proofs.uses.judging.watched.Goals as goal

pub go-requires-clause-of_plan : goal.go-requires-clause-of_plan
go-requires-clause-of_plan c = line_at c.args.plan.now c.args.lines.now c.loop-line.line-index _ c.loop-line-test.true c.requires.of_plan

pub go-requires-clause-some : goal.go-requires-clause-some
go-requires-clause-some c =
    (reverse (take c.loop-line.line-index c.args.lines.now), lawful_at c.args.plan.now c.args.lines.now c.loop-line.line-index _ c.loop-line-test.true c.requires.lawful, c.loop-line.invariant.after)

pub follow-requires-clause-made_for : goal.follow-requires-clause-made_for
follow-requires-clause-made_for c =
    let h = reverse (take c.loop-line.line-index c.args.lines.now) in
    let after = c.go.ensures h (lawful_at c.args.plan.now c.args.lines.now c.loop-line.line-index _ c.loop-line-test.true c.requires.lawful) c.loop-line.invariant.after in
    subst (λ (x : Counters). IsFor c.args.plan.now x.shape) (sym c.parts.ensures) after.is_of.made_for

pub follow-requires-clause-of_plan : goal.follow-requires-clause-of_plan
follow-requires-clause-of_plan c =
    over_watches c.args.plan.now (reverse (take c.loop-line.line-index c.args.lines.now)) c.args.expected.now c.loop-line.watches.items c.loop-line.invariant.known c.requires.over

pub loop-line-preserved : goal.loop-line-preserved
loop-line-preserved c =
    let plan = c.args.plan.now in
    let lines = c.args.lines.now in
    let i = c.loop-line.line-index in
    let h = reverse (take i lines) in
    let after = c.go.ensures h (lawful_at plan lines i _ c.loop-line-test.true c.requires.lawful) c.loop-line.invariant.after in
    record {
      after = subst (λ (g : History). IsAfter plan c.go.new.self g) (sym (reverse_more lines i _ c.loop-line-test.true)) after;
      number = omega arith;
      known =
          known_more plan lines i _ c.loop-line.number c.parts.result.now.views c.args.expected.now c.loop-line.watches.items c.follow.new.watches.items c.loop-line-test.true c.loop-line.invariant.number
          (ap (λ (x : Counters). x.views) c.parts.ensures ∙ ap (λ w. w.views) after.world_is) c.excused_bonds_lack_nothing.ensures c.requires.lawful c.requires.over c.loop-line.invariant.known c.follow.ensures;
    }
