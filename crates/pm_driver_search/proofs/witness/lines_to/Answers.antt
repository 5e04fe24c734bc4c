-- By the places of the path.
use Rattle.std.proofs.Common.{◌≡◌, ◌-◌, map, ◌∙◌, ap, arith, get_or, length, subst}
use Rattle.std.proofs.lemmas.List.{length-map}
use Rattle.pm_driver_rules.specs.GoingOn.{driver_of}
use Rattle.pm_driver_rules.specs.Nodes.{driver_snapshot_of}
use Rattle.pm_driver_search.specs.Witness.{IsWitness}
use Rattle.pm_driver_search.proofs.PathLemmas.{child_within, is_found, link_of, node_is, path_ends, path_first, path_some}
use Rattle.pm_driver_search.proofs.WitnessLemmas.{first_witness, next_witness}
use Rattle.pm_driver_search.proofs.witness.lines_to.Goals as goal

pub overflow_sub-left : goal.overflow_sub-left
overflow_sub-left c = path_some c.args.tree.now.parents.items c.args.at c.args.path.now c.requires.path

pub loop-left-init : goal.loop-left-init
loop-left-init c =
    let going = c.args.going.now in
    let keys = c.args.tree.now.nodes.keys in
    let parents = c.args.tree.now.parents.items in
    let path = c.args.path.now in
    let some = path_some parents c.args.at path c.requires.path in
    let inside = c.requires.within in
    record {
      within = omega (arith, some);
      run = c.requires.run;
      here = first_witness going.pace (driver_of going.rules.now) going.most (map driver_snapshot_of keys) parents (get_or path (length path - 1) 0) c.new-lines.result.items c.requires.tree (omega (arith, inside, length-map keys driver_snapshot_of)) (path_ends parents c.args.at path c.requires.path) c.new-lines.ensures.items;
    }

pub loop-left-preserved : goal.loop-left-preserved
loop-left-preserved c =
    let going = c.args.going.now in
    let keys = c.args.tree.now.nodes.keys in
    let parents = c.args.tree.now.parents.items in
    let path = c.args.path.now in
    let i = c.loop-left.invariant in
    let within = i.within in
    let some = c.loop-left-test.true in
    record {
      within = omega (arith, within, some);
      run = c.line_between.ensures.run;
      here =
          next_witness going.pace (driver_of going.rules.now) going.most (map driver_snapshot_of keys) parents (get_or path c.loop-left.left 0) (get_or path (c.loop-left.left - 1) 0) (driver_snapshot_of c.in-Some.from.now) (driver_snapshot_of c.in-Some-get_index.to.now)
          c.loop-left.lines.items c.push.new.self.items c.in_ok-line.line c.requires.tree (link_of parents c.args.at path c.loop-left.left c.requires.path some within)
          (node_is driver_snapshot_of keys (get_or path c.loop-left.left 0) c.in-Some.from.now c.in-Some.ensures.key) (node_is driver_snapshot_of keys (get_or path (c.loop-left.left - 1) 0) c.in-Some-get_index.to.now c.in-Some-get_index.ensures.key)
          c.in_ok-line.ensures.line i.here c.in_ok-push.ensures.items;
    }

pub unreachable-requires : goal.unreachable-requires
unreachable-requires c =
    let keys = c.args.tree.now.nodes.keys in
    let parents = c.args.tree.now.parents.items in
    let path = c.args.path.now in
    let some = c.loop-left-test.true in
    let within = c.loop-left.invariant.within in
    let link = link_of parents c.args.at path c.loop-left.left c.requires.path some within in
    let down = c.requires.tree.down (get_or path (c.loop-left.left - 1) 0) (get_or path c.loop-left.left 0) link.later link.is in
    let child = child_within parents c.args.at path c.loop-left.left c.requires.path some within in
    let each = c.requires.tree.each in
    is_found keys (get_or path c.loop-left.left 0) (omega (arith, down, child, each, length-map keys driver_snapshot_of)) c.in_default.ensures.key

pub unreachable-requires-in_default-get_index : goal.unreachable-requires-in_default-get_index
unreachable-requires-in_default-get_index c =
    let keys = c.args.tree.now.nodes.keys in
    let parents = c.args.tree.now.parents.items in
    let path = c.args.path.now in
    let child = child_within parents c.args.at path c.loop-left.left c.requires.path c.loop-left-test.true c.loop-left.invariant.within in
    let each = c.requires.tree.each in
    is_found keys (get_or path (c.loop-left.left - 1) 0) (omega (arith, child, each, length-map keys driver_snapshot_of)) c.in_default-get_index.ensures.key

pub returns : goal.returns
returns c =
    let going = c.args.going.now in
    let path = c.args.path.now in
    let left = c.loop-left-test.false in
    let first : c.loop-left.left ≡ 0 = omega (arith, left) in
    let front : get_or path c.loop-left.left 0 ≡ c.args.at = ap (λ n. get_or path n 0) first ∙ path_first c.args.tree.now.parents.items c.args.at path c.requires.path in
    subst (λ n. IsWitness going.pace (driver_of going.rules.now) going.most (map driver_snapshot_of c.args.tree.now.nodes.keys) c.args.tree.now.parents.items n c.loop-left.lines.items) front c.loop-left.invariant.here
