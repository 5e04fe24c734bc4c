-- By the laws of lawful lists.
use Rattle.std.proofs.Common.{refl}
use Rattle.pm_explore.specs.state.SnapshotOf.{snapshot_of}
use Rattle.pm_outcomes.specs.declared.paths.run.Run.{Run}
use Rattle.pm_outcomes.proofs.paths.StandLemmas.{can_stand_there, stands_at, stood_there}
use Rattle.pm_outcomes.proofs.paths.run.Run.stand_at.Goals as goal

pub fill-requires-clause-can : goal.fill-requires-clause-can
fill-requires-clause-can c =
    let plan = c.args.plan.now in
    let l = c.requires.there in
    can_stand_there plan c.args.self.now (snapshot_of c.args.node.now) c.args.lines c.requires.run l (c.sizes.ensures.entries plan) (c.sizes.ensures.places plan) (c.due_moments.ensures.busy plan)
    (c.delays_are_bounded.ensures plan) (c.stacks_are_shallow.ensures plan) (c.lines_are_bounded.ensures plan l.list l.lawful)

pub returns-clause-run : goal.returns-clause-run
returns-clause-run c =
    let plan = c.args.plan.now in
    let node = c.args.node.now in
    let l = c.requires.there in
    let new : Run = record { state = c.fill.new.state; last = record { time = node.time; actor = node.last; code = node.code }; lines = c.args.lines } in
    let can = can_stand_there plan c.args.self.now (snapshot_of node) c.args.lines c.requires.run l (c.sizes.ensures.entries plan) (c.sizes.ensures.places plan) (c.due_moments.ensures.busy plan)
    (c.delays_are_bounded.ensures plan) (c.stacks_are_shallow.ensures plan) (c.lines_are_bounded.ensures plan l.list l.lawful) in
    stood_there plan c.args.self.now new node c.args.lines c.requires.run l can c.fill.ensures refl refl

pub returns-clause-stands : goal.returns-clause-stands
returns-clause-stands c =
    let node = c.args.node.now in
    let new : Run = record { state = c.fill.new.state; last = record { time = node.time; actor = node.last; code = node.code }; lines = c.args.lines } in
    stands_at c.args.self.now.state new node c.args.lines c.fill.ensures refl refl
