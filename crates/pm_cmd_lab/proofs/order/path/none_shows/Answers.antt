-- By how far the schedules were gone through.
use Rattle.std.proofs.Common.{◌∙◌, ap, subst}
use Rattle.pm_cmd_lab.specs.order.Order.{ObservationEnds, none_ending}
use Rattle.pm_cmd_lab.proofs.order.ObservationLemmas.{none_ends}
use Rattle.pm_outcomes.specs.text.Reached.{reach_of}
use Rattle.pm_cmd_lab.proofs.order.path.none_shows.Goals as goal

pub returns-in-All : goal.returns-in-All
returns-in-All c =
    let plan = c.args.plan.now in
    let all = c.args.all.now in
    let text = c.in_ok-text.text.items in
    let known_is = c.reach_of-reach.ensures ∙ ap (reach_of all.found.ended) (c.len.ensures ∙ all.found.rounds.ok.0) in
    subst (λ r. ObservationEnds c.args._bounds plan c.args.observation (none_ending r text)) c.in-All.is (none_ends c.args._bounds plan c.args._part.now all c.args.observation c.requires.home c.requires.found c.reach_of-reach.result text c.requires.none known_is c.in_ok-text.ensures)

pub returns-in-Within : goal.returns-in-Within
returns-in-Within c =
    let plan = c.args.plan.now in
    let all = c.args.all.now in
    let text = c.in_ok-text.text.items in
    let known_is = c.reach_of-reach.ensures ∙ ap (reach_of all.found.ended) (c.len.ensures ∙ all.found.rounds.ok.0) in
    subst (λ r. ObservationEnds c.args._bounds plan c.args.observation (none_ending r text)) c.in-Within.is (none_ends c.args._bounds plan c.args._part.now all c.args.observation c.requires.home c.requires.found c.reach_of-reach.result text c.requires.none known_is c.in_ok-text.ensures)

pub returns-in-Limit : goal.returns-in-Limit
returns-in-Limit c =
    let plan = c.args.plan.now in
    let all = c.args.all.now in
    let text = c.in_ok-text.text.items in
    let known_is = c.reach_of-reach.ensures ∙ ap (reach_of all.found.ended) (c.len.ensures ∙ all.found.rounds.ok.0) in
    subst (λ r. ObservationEnds c.args._bounds plan c.args.observation (none_ending r text)) c.in-Limit.is (none_ends c.args._bounds plan c.args._part.now all c.args.observation c.requires.home c.requires.found c.reach_of-reach.result text c.requires.none known_is c.in_ok-text.ensures)
