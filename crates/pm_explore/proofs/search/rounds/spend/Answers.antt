use Rattle.std.proofs.Common.{◌≡◌, ◌+◌, ◌<◌, ◌≤◌, true, length, map, arith}
use Rattle.std.proofs.lemmas.List.{length-map}
use Rattle.pm_explore.specs.search.Growing.{IsKept}
use Rattle.pm_explore.proofs.search.Leading.{led_dear, led_more}
use Rattle.pm_explore.proofs.search.Lists.{Grows-map, Grows-refl, kept_at, kept_on, some_within}
use Rattle.pm_explore.proofs.search.Reaching.{spread_next}
use Rattle.pm_explore.proofs.search.rounds.spend.Goals as goal

pub loop-at-init : goal.loop-at-init
loop-at-init g c =
    let f = g.G.Graph.point c.args.graph.now in
    let first = map f c.args.tree.now.nodes.keys in
    record {
      ready = c.requires.ready;
      tree = c.requires.tree;
      room = c.requires.room;
      within = c.requires.within;
      spread = c.requires.spread;
      points = Grows-refl (λ y. Unit {0}) first;
      parents = Grows-refl (λ y. Unit {0}) c.args.tree.now.parents.items;
      led = λ k l. led_more (g.G.Graph.Follows c.args.graph.now) first c.args.tree.now.parents.items k (k + 1) (omega arith) l;
    }

pub loop-at-preserved : goal.loop-at-preserved
loop-at-preserved g c =
    let f = g.G.Graph.point c.args.graph.now in
    let F = g.G.Graph.Follows c.args.graph.now in
    let start = g.G.Graph.start c.args.graph.now in
    let first = map f c.args.tree.now.nodes.keys in
    let old = map f c.loop-at.tree.nodes.keys in
    let new = map f c.spread.new.tree.nodes.keys in
    let olds = c.loop-at.tree.parents.items in
    let news = c.spread.new.tree.parents.items in
    let inv = c.loop-at.invariant in
    let early : c.loop-at.at < length first = omega (arith, c.loop-at-test.true, c.len-end.ensures.len, length-map c.args.tree.now.nodes.keys f) in
    let lt : c.loop-at.at < length old = omega (arith, early, inv.points.longer) in
    let p = some_within old c.loop-at.at lt in
    let kept : IsKept old new = Grows-map (F true p.0) (λ y. Unit {0}) old new (λ y s. tt) (c.spread.ensures.points p.0 p.1) in
    record {
      ready = c.spread.ensures.ready;
      tree = c.spread.ensures.tree;
      room = c.spread.ensures.room;
      within = omega (arith, early);
      spread = spread_next F true c.loop-at.at old new kept lt inv.spread c.in_ok-spread.ensures.spread;
      points = kept_on (F true p.0) first old new inv.points (c.spread.ensures.points p.0 p.1);
      parents = kept_on (λ y. y ≡ c.loop-at.at) c.args.tree.now.parents.items olds news inv.parents c.spread.ensures.parents;
      led = λ k l. led_dear F start first old new c.args.tree.now.parents.items olds news k c.loop-at.at inv.tree c.spread.ensures.tree inv.points inv.parents early c.spread.ensures.points c.spread.ensures.parents l (inv.led k l);
    }

pub returns-in_err-spread-clause-points : goal.returns-in_err-spread-clause-points
returns-in_err-spread-clause-points g c =
    let f = g.G.Graph.point c.args.graph.now in
    let first = map f c.args.tree.now.nodes.keys in
    let old = map f c.loop-at.tree.nodes.keys in
    let early : c.loop-at.at < length first = omega (arith, c.loop-at-test.true, c.len-end.ensures.len, length-map c.args.tree.now.nodes.keys f) in
    let lt : c.loop-at.at < length old = omega (arith, early, c.loop-at.invariant.points.longer) in
    kept_at (g.G.Graph.Follows c.args.graph.now true) first old (map f c.spread.new.tree.nodes.keys) c.loop-at.at lt c.loop-at.invariant.points c.spread.ensures.points

pub returns-in_err-spread-clause-parents : goal.returns-in_err-spread-clause-parents
returns-in_err-spread-clause-parents g c = kept_on (λ y. y ≡ c.loop-at.at) c.args.tree.now.parents.items c.loop-at.tree.parents.items c.spread.new.tree.parents.items c.loop-at.invariant.parents c.spread.ensures.parents

pub returns-in_err-spread-clause-led : goal.returns-in_err-spread-clause-led
returns-in_err-spread-clause-led g c k l =
    let f = g.G.Graph.point c.args.graph.now in
    let F = g.G.Graph.Follows c.args.graph.now in
    let start = g.G.Graph.start c.args.graph.now in
    let first = map f c.args.tree.now.nodes.keys in
    let old = map f c.loop-at.tree.nodes.keys in
    let new = map f c.spread.new.tree.nodes.keys in
    let olds = c.loop-at.tree.parents.items in
    let news = c.spread.new.tree.parents.items in
    let inv = c.loop-at.invariant in
    let early : c.loop-at.at < length first = omega (arith, c.loop-at-test.true, c.len-end.ensures.len, length-map c.args.tree.now.nodes.keys f) in
    let lt : c.loop-at.at < length old = omega (arith, early, inv.points.longer) in
    led_dear F start first old new c.args.tree.now.parents.items olds news k c.loop-at.at inv.tree c.spread.ensures.tree inv.points inv.parents early c.spread.ensures.points c.spread.ensures.parents l (inv.led k l)
