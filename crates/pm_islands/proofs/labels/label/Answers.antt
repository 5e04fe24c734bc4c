use Rattle.std.proofs.Common.{◌∙◌, ◌<◌, ◌≤◌, arith, length, subst, sym}
use Rattle.pm_islands.proofs.Sharing.{all_shared, caller_shared, four_shared, labels_apart}
use Rattle.pm_islands.proofs.labels.label.Goals as goal

pub join_parents-requires-clause-one_each : goal.join_parents-requires-clause-one_each
join_parents-requires-clause-one_each c = c.label_apart.ensures.one_each ∙ c.requires.one_each

pub join_parents-requires-clause-own_place : goal.join_parents-requires-clause-own_place
join_parents-requires-clause-own_place c = λ k below. c.label_apart.ensures.own_place k (subst (λ n. k < n) (sym c.requires.one_each) below)

pub loop-caller-init : goal.loop-caller-init
loop-caller-init c =
    four_shared c.args.plan.now c.label_apart.new.labels c.join_parents.new.labels c.join_all.new.labels c.join_all-2.new.labels c.join_all-3.new.labels
    (labels_apart c.args.plan.now c.label_apart.new.labels (c.label_apart.ensures.one_each ∙ c.requires.one_each)
    (λ k below. c.label_apart.ensures.own_place k (subst (λ n. k < n) (sym c.requires.one_each) below)))
    c.join_parents.ensures c.join_all.ensures c.join_all-2.ensures c.join_all-3.ensures

pub loop-caller-preserved : goal.loop-caller-preserved
loop-caller-preserved c =
    caller_shared c.args.plan.now c.loop-caller.caller c.loop-caller.labels c.join_all-in-loop-caller.new.labels c.loop-caller.invariant c.join_all-in-loop-caller.ensures

pub returns : goal.returns
returns c =
    let all : length c.args.plan.now.callers ≤ c.loop-caller.caller = omega (arith, c.len-caller-end.ensures, c.loop-caller-test.false) in
    all_shared c.args.plan.now c.loop-caller.caller c.loop-caller.labels all c.loop-caller.invariant
