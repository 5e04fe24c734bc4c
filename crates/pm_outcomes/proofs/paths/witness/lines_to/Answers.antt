-- By the places of the path.
use Rattle.std.proofs.Common.{◌≡◌, ◌-◌, map, ◌∙◌, ap, Some, arith, get_or, length, sym}
use Rattle.std.proofs.lemmas.List.{length-map}
use Rattle.pm_explore.specs.schedule.Snapshots.{Follows, start_snapshot}
use Rattle.pm_explore.specs.state.SnapshotOf.{snapshot_of}
use Rattle.pm_outcomes.specs.paths.Runs.{snapshot_of_run}
use Rattle.pm_outcomes.proofs.paths.PathLemmas.{arrives, is_found, link_of, node_is, place_within, starts, step_to, path_ends, path_first, path_some}
use Rattle.pm_outcomes.proofs.paths.WitnessLemmas.{few_spent, no_lines, one_more, order_there, spent_first, spent_more}
use Rattle.pm_outcomes.proofs.paths.witness.lines_to.Goals as goal

pub overflow_sub-left : goal.overflow_sub-left
overflow_sub-left c = path_some c.args.tree.now.parents.items c.args.at c.args.path.now c.requires.path

pub loop-left-init : goal.loop-left-init
loop-left-init c =
    let plan = c.args.plan.now in
    let keys = c.args.tree.now.nodes.keys in
    let parents = c.args.tree.now.parents.items in
    let path = c.args.path.now in
    let some = path_some parents c.args.at path c.requires.path in
    let inside = c.requires.within in
    let none = c.in_ok-run.ensures.lines in
    record {
      within = omega (arith, some);
      run = c.in_ok-run.ensures.run;
      here = starts (Follows c.args.pace plan) (start_snapshot plan) (map snapshot_of keys) parents c.args.at path (snapshot_of_run c.in_ok-run.run') c.requires.tree c.requires.path (omega (arith, inside, length-map keys snapshot_of)) c.in_ok-run.ensures.snapshot;
      count = omega (arith, some, none);
      are = no_lines c.args.pace plan c.in_ok-run.run' c.new-lines.result.items c.new-lines.ensures.items c.in_ok-run.ensures.snapshot c.in_ok-run.ensures.lines;
      spent = spent_first c.args.pace plan (map snapshot_of keys) parents (get_or path (length path - 1) 0) c.new-lines.result.items c.new-lines.ensures.items (path_ends parents c.args.at path c.requires.path);
    }

pub loop-left-preserved : goal.loop-left-preserved
loop-left-preserved c =
    let plan = c.args.plan.now in
    let i = c.loop-left.invariant in
    let within = i.within in
    let before = i.count in
    let more = c.follow_by-line.ensures.lines in
    let some = c.loop-left-test.true in
    let points = map snapshot_of c.args.tree.now.nodes.keys in
    let parents = c.args.tree.now.parents.items in
    let path = c.args.path.now in
    let there = node_is snapshot_of c.args.tree.now.nodes.keys (get_or path (c.loop-left.left - 1) 0) c.in-Some.node.now c.in-Some.ensures.key ∙ ap Some (sym c.follow_by-line.ensures.snapshot) in
    record {
      within = omega (arith, within, some);
      run = c.follow_by-line.ensures.run;
      here = there;
      count = omega (arith, before, more, some);
      are = one_more c.args.pace plan c.loop-left.run c.follow_by-line.new.run c.loop-left.lines.items c.push.new.self.items c.follow_by-line.result i.are c.follow_by-line.ensures.line more c.in_ok-push.ensures.items;
      spent =
          spent_more c.args.pace plan points parents (get_or path c.loop-left.left 0) (get_or path (c.loop-left.left - 1) 0) c.loop-left.run c.follow_by-line.new.run c.loop-left.lines.items c.push.new.self.items c.follow_by-line.result
          (link_of (Follows c.args.pace plan) (start_snapshot plan) points parents c.args.at path c.loop-left.left c.requires.path some within) i.here there i.are c.follow_by-line.ensures.line (c.lines_are_by_one.ensures plan (snapshot_of_run c.loop-left.run)) c.in_ok-push.ensures.items
          i.spent;
    }

pub follow_by-line-requires-clause-follows : goal.follow_by-line-requires-clause-follows
follow_by-line-requires-clause-follows c =
    let plan = c.args.plan.now in
    let keys = c.args.tree.now.nodes.keys in
    let i = c.loop-left.invariant in
    step_to (Follows c.args.pace plan) (start_snapshot plan) (map snapshot_of keys) c.args.tree.now.parents.items c.args.at c.args.path.now c.loop-left.left (snapshot_of_run c.loop-left.run) (snapshot_of c.in-Some.node.now) c.requires.tree c.requires.path c.loop-left-test.true i.within
    i.here (node_is snapshot_of keys _ c.in-Some.node.now c.in-Some.ensures.key)

pub unreachable-requires : goal.unreachable-requires
unreachable-requires c =
    let plan = c.args.plan.now in
    let keys = c.args.tree.now.nodes.keys in
    let inside = place_within (Follows c.args.pace plan) (start_snapshot plan) (map snapshot_of keys) c.args.tree.now.parents.items c.args.at c.args.path.now c.loop-left.left c.requires.tree c.requires.path c.loop-left-test.true c.loop-left.invariant.within in
    is_found keys _ (omega (arith, inside, length-map keys snapshot_of)) c.in_default.ensures.key

pub returns-clause-order : goal.returns-clause-order
returns-clause-order c =
    let plan = c.args.plan.now in
    let snapshots = map snapshot_of c.args.tree.now.nodes.keys in
    let i = c.loop-left.invariant in
    let count = i.count in
    let room = c.requires.room in
    let here = arrives (Follows c.args.pace plan) (start_snapshot plan) snapshots c.args.tree.now.parents.items c.args.at c.args.path.now c.loop-left.left (snapshot_of_run c.loop-left.run) c.requires.path c.loop-left-test.false i.here in
    order_there c.args.pace plan snapshots c.args.at c.loop-left.run c.loop-left.lines.items (c.schedules_are_lawful.ensures c.args.pace plan) i.are (omega (arith, count, room)) here

pub returns-clause-few : goal.returns-clause-few
returns-clause-few c =
    let path = c.args.path.now in
    let left = c.loop-left-test.false in
    let first : c.loop-left.left ≡ 0 = omega (arith, left) in
    let front : get_or path c.loop-left.left 0 ≡ c.args.at = ap (λ n. get_or path n 0) first ∙ path_first c.args.tree.now.parents.items c.args.at path c.requires.path in
    few_spent c.args.pace c.args.plan.now (map snapshot_of c.args.tree.now.nodes.keys) c.args.tree.now.parents.items (get_or path c.loop-left.left 0) c.args.at c.loop-left.lines.items front c.loop-left.invariant.spent
