use Rattle.std.proofs.Common.{◌≡◌, ◌+◌, ◌<◌, arith, subst, sym}
use Rattle.pm_islands.specs.Labels.{Joined}
use Rattle.pm_islands.specs.Places.{rows}
use Rattle.pm_islands.specs.declared.touching.Tie.TheVariants.{ToParent}
use Rattle.pm_islands.proofs.PartLemmas.{few_nodes}
use Rattle.pm_islands.proofs.Sharing.{ParentsJoined, labels_apart, no_parent, none_joined, parent_more, tied_within}
use Rattle.pm_islands.proofs.labels.join_parents.Goals as goal
use Rattle.pm_islands.proofs.labels.join_parents.Goals.{in-Some, in_default}

pub loop-row-init : goal.loop-row-init
loop-row-init c = record {
  joined = none_joined c.args.plan.now ToParent c.args.labels.now (labels_apart c.args.plan.now c.args.labels.now c.requires.one_each c.requires.own_place);
  own = λ k behind below. c.requires.own_place k below;
}

pub offset_bounds-labels-parent : goal.offset_bounds-labels-parent
offset_bounds-labels-parent c =
    omega (arith, few_nodes c.args.plan.now, (tied_within c.args.plan.now ToParent c.loop-row.row c.in-Some.device c.in-Some.parent c.in-Some.ensures).1)

pub bounds-labels-parent : goal.bounds-labels-parent
bounds-labels-parent c =
    subst (λ n. c.in-Some.parent < n) (sym c.loop-row.invariant.joined.labels.one_each)
    (tied_within c.args.plan.now ToParent c.loop-row.row c.in-Some.device c.in-Some.parent c.in-Some.ensures).1

pub bounds-labels-device : goal.bounds-labels-device
bounds-labels-device c =
    subst (λ n. c.in-Some.device < n) (sym c.loop-row.invariant.joined.labels.one_each)
    (tied_within c.args.plan.now ToParent c.loop-row.row c.in-Some.device c.in-Some.parent c.in-Some.ensures).0

pub loop-row-preserved : goal.loop-row-preserved
loop-row-preserved c =
    elim c.match-tied.branch [
      | in-Some w ↦
          subst (ParentsJoined c.args.plan.now (c.loop-row.row + 1) c.args.labels.now) (sym w.labels-is)
          (parent_more c.args.plan.now c.loop-row.row w.in-Some.device w.in-Some.parent c.args.labels.now c.loop-row.labels c.loop-row.invariant w.in-Some.ensures)
      | in_default w ↦
          subst (ParentsJoined c.args.plan.now (c.loop-row.row + 1) c.args.labels.now) (sym w.labels-is)
          (no_parent c.args.plan.now c.loop-row.row c.args.labels.now c.loop-row.labels c.loop-row.invariant w.in_default.ensures)
    ]

pub returns : goal.returns
returns c =
    let all : c.loop-row.row ≡ rows c.args.plan.now ToParent = omega (arith, c.row_count-row-end.ensures) in
    subst (λ n. Joined c.args.plan.now ToParent n c.args.labels.now c.loop-row.labels) all c.loop-row.invariant.joined
