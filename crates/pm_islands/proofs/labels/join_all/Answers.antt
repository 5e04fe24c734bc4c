use Rattle.std.proofs.Common.{◌≡◌, ◌∙◌, ◌+◌, ◌<◌, arith, subst, sym}
use Rattle.pm_islands.specs.Labels.{Joined}
use Rattle.pm_islands.specs.Places.{rows}
use Rattle.pm_islands.proofs.Sharing.{none_joined, none_more, tied_within, two_more}
use Rattle.pm_islands.proofs.labels.join_all.Goals as goal
use Rattle.pm_islands.proofs.labels.join_all.Goals.{in-Some, in_default}

pub loop-row-init : goal.loop-row-init
loop-row-init c = none_joined c.args.plan.now c.args.tie c.args.labels.now c.requires

pub join-requires-clause-a_in_range : goal.join-requires-clause-a_in_range
join-requires-clause-a_in_range c =
    subst (λ n. c.in-Some.a < n) (sym c.loop-row.invariant.labels.one_each) (tied_within c.args.plan.now c.args.tie c.loop-row.row c.in-Some.a c.in-Some.b c.in-Some.ensures).0

pub join-requires-clause-b_in_range : goal.join-requires-clause-b_in_range
join-requires-clause-b_in_range c =
    subst (λ n. c.in-Some.b < n) (sym c.loop-row.invariant.labels.one_each) (tied_within c.args.plan.now c.args.tie c.loop-row.row c.in-Some.a c.in-Some.b c.in-Some.ensures).1

pub join-requires-clause-no_later : goal.join-requires-clause-no_later
join-requires-clause-no_later c = λ k below. c.loop-row.invariant.labels.no_later k (subst (λ n. k < n) c.loop-row.invariant.labels.one_each below)

pub loop-row-preserved : goal.loop-row-preserved
loop-row-preserved c =
    elim c.match-tied.branch [
      | in-Some w ↦
          subst (Joined c.args.plan.now c.args.tie (c.loop-row.row + 1) c.args.labels.now) (sym (w.labels-is ∙ w.join.ensures))
          (two_more c.args.plan.now c.args.tie c.loop-row.row w.in-Some.a w.in-Some.b c.args.labels.now c.loop-row.labels c.loop-row.invariant w.in-Some.ensures)
      | in_default w ↦
          subst (Joined c.args.plan.now c.args.tie (c.loop-row.row + 1) c.args.labels.now) (sym w.labels-is)
          (none_more c.args.plan.now c.args.tie c.loop-row.row c.args.labels.now c.loop-row.labels c.loop-row.invariant w.in_default.ensures)
    ]

pub returns : goal.returns
returns c =
    let all : c.loop-row.row ≡ rows c.args.plan.now c.args.tie = omega (arith, c.row_count-row-end.ensures) in
    subst (λ n. Joined c.args.plan.now c.args.tie n c.args.labels.now c.loop-row.labels) all c.loop-row.invariant
