use Rattle.std.proofs.Common.{◌∙◌, map, sym, arith}
use Rattle.std.proofs.lemmas.List.{length-map}
use Rattle.pm_driver_rules.specs.Nodes.{driver_snapshot_of}
use Rattle.pm_driver_find.proofs.ToldLemmas.{node_at, unseen_all, unseen_more}
use Rattle.pm_driver_find.proofs.firsts.first_seen.Goals as goal

pub loop-place-preserved : goal.loop-place-preserved
loop-place-preserved c =
    let keys = c.args.tree.now.nodes.keys in
    unseen_more c.args.examined.now (map driver_snapshot_of keys) c.loop-place.place c.args.sight (driver_snapshot_of c.in-Some.node.now) c.loop-place.invariant (node_at driver_snapshot_of keys c.loop-place.place c.in-Some.node.now c.in-Some.ensures.key) (sym c.is_seen.ensures ∙ c.if-is_seen.false)

pub returns-clause-none : goal.returns-clause-none
returns-clause-none c = λ _.
    let keys = c.args.tree.now.nodes.keys in
    let past = c.loop-place-test.false in
    let many = c.len-place-end.ensures.len in
    unseen_all c.args.examined.now (map driver_snapshot_of keys) c.loop-place.place c.args.sight (omega (arith, past, many, length-map keys driver_snapshot_of)) c.loop-place.invariant
