-- By how far the schedules were gone through.
use Rattle.std.proofs.Common.{◌∙◌, ap, subst}
use Rattle.pm_cmd_lab.specs.order.Failing.{BreakEnds}
use Rattle.pm_cmd_lab.specs.order.Order.{none_ending}
use Rattle.pm_cmd_lab.proofs.order.FailLemmas.{none_ends}
use Rattle.pm_outcomes.specs.text.Reached.{reach_of}
use Rattle.pm_cmd_lab.proofs.order.breaking.none_breaks.Goals as goal

pub returns-in-All : goal.returns-in-All
returns-in-All c =
    let plan = c.args.plan.now in
    let all = c.args.all.now in
    let text = c.in_ok-text.text.items in
    let known_is = c.reach_of-reach.ensures ∙ ap (reach_of all.found.ended) (c.len.ensures ∙ all.found.rounds.ok.0) in
    subst (λ r. BreakEnds c.args._bounds plan c.args.each (none_ending r text)) c.in-All.is
    (none_ends c.args._bounds plan all c.args.each c.requires.found c.firsts_decide.ensures.rounds c.firsts_decide.ensures.all c.reach_of-reach.result text c.requires.none known_is c.in_ok-text.ensures)

pub returns-in-Within : goal.returns-in-Within
returns-in-Within c =
    let plan = c.args.plan.now in
    let all = c.args.all.now in
    let text = c.in_ok-text.text.items in
    let known_is = c.reach_of-reach.ensures ∙ ap (reach_of all.found.ended) (c.len.ensures ∙ all.found.rounds.ok.0) in
    subst (λ r. BreakEnds c.args._bounds plan c.args.each (none_ending r text)) c.in-Within.is
    (none_ends c.args._bounds plan all c.args.each c.requires.found c.firsts_decide.ensures.rounds c.firsts_decide.ensures.all c.reach_of-reach.result text c.requires.none known_is c.in_ok-text.ensures)

pub returns-in-Limit : goal.returns-in-Limit
returns-in-Limit c =
    let plan = c.args.plan.now in
    let all = c.args.all.now in
    let text = c.in_ok-text.text.items in
    let known_is = c.reach_of-reach.ensures ∙ ap (reach_of all.found.ended) (c.len.ensures ∙ all.found.rounds.ok.0) in
    subst (λ r. BreakEnds c.args._bounds plan c.args.each (none_ending r text)) c.in-Limit.is
    (none_ends c.args._bounds plan all c.args.each c.requires.found c.firsts_decide.ensures.rounds c.firsts_decide.ensures.all c.reach_of-reach.result text c.requires.none known_is c.in_ok-text.ensures)
