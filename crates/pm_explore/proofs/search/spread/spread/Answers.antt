use Rattle.std.proofs.Common.{◌≡◌, ◌<◌, ◌∙◌, ◌++◌, ◌∷◌, [], ap, arith, inr, length, map, sym}
use Rattle.std.proofs.lemmas.List.{length-map, map-append}
use Rattle.std.specs.List.{list_any}
use Rattle.pm_explore.proofs.search.Lists.{Grows-map, Grows-refl, Grows-same, some_within}
use Rattle.pm_explore.proofs.search.Putting.{Has, putting-first, putting-has, putting-last, putting-next}
use Rattle.pm_explore.proofs.search.TreeLemmas.{parents_adds, room_kept, tree_adds, tree_same}
use Rattle.pm_explore.proofs.search.spread.spread.Goals as goal

pub loop-node-init : goal.loop-node-init
loop-node-init g c =
    let f = g.G.Graph.point c.args.graph.now in
    record {
      putting = putting-first (map f c.in_ok-next.next.items) (map f c.args.tree.now.nodes.keys);
      tree = c.requires.tree;
      room = c.requires.room;
      parents = Grows-refl (λ parent. parent ≡ c.args.at) c.args.tree.now.parents.items;
    }

pub loop-node-preserved : goal.loop-node-preserved
loop-node-preserved g c =
    let f = g.G.Graph.point c.args.graph.now in
    let F = g.G.Graph.Follows c.args.graph.now in
    let first = map f c.args.tree.now.nodes.keys in
    let old = map f c.loop-node.tree.nodes.keys in
    let new = map f c.add.new.tree.nodes.keys in
    let all = map f c.in_ok-next.next.items in
    let left = map f c.loop-node.next.items in
    let rest = map f c.pop.new.self.items in
    let x = f c.in-Some.node in
    let inv = c.loop-node.invariant in
    let is : left ≡ rest ++ x ∷ [] = ap (map f) c.in-Some.ensures.items ∙ map-append f c.pop.new.self.items (c.in-Some.node ∷ []) in
    let within : c.args.at < length first = omega (arith, c.requires.within, length-map c.args.tree.now.nodes.keys f) in
    let p = some_within first c.args.at within in
    let has = putting-has all left rest first old x inv.putting is in
    let follows = (c.in_ok-next.ensures.all p.0 p.1).sound has.0 x has.1 in
    record {
      putting = putting-next all left rest first old c.loop-node.tree.parents.items x c.args.at new c.add.new.tree.parents.items inv.putting is c.in_ok-add.ensures.added;
      room = room_kept c.args.limit c.loop-node.tree.nodes.keys c.add.new.tree.nodes.keys c.in-Some.node (list_any (g.N.PartialEq.eq c.in-Some.node) c.loop-node.tree.nodes.keys) (sym c.lacks_room.ensures ∙ c.if-lacks_room.false) inv.room c.in_ok-add.ensures.nodes;
      tree = tree_adds F (g.G.Graph.start c.args.graph.now) old c.loop-node.tree.parents.items x c.args.at p.0 c.args.spends new c.add.new.tree.parents.items inv.tree (inv.putting.grows.kept c.args.at p.0 p.1) follows c.in_ok-add.ensures.added;
      parents = parents_adds c.args.tree.now.parents.items old c.loop-node.tree.parents.items x c.args.at new c.add.new.tree.parents.items inv.parents c.in_ok-add.ensures.added;
    }

pub returns-in_err-add-clause-tree : goal.returns-in_err-add-clause-tree
returns-in_err-add-clause-tree g c =
    tree_same (g.G.Graph.Follows c.args.graph.now) (g.G.Graph.start c.args.graph.now) (g.G.Graph.point c.args.graph.now) c.loop-node.tree.nodes.keys c.add.new.tree.nodes.keys c.loop-node.tree.parents.items c.add.new.tree.parents.items
    c.in_err-add.ensures.same_nodes c.in_err-add.ensures.same_parents c.loop-node.invariant.tree

pub returns-in_err-add-clause-points : goal.returns-in_err-add-clause-points
returns-in_err-add-clause-points g c p h =
    let f = g.G.Graph.point c.args.graph.now in
    let F = g.G.Graph.Follows c.args.graph.now c.args.spends p in
    let first = map f c.args.tree.now.nodes.keys in
    Grows-same F f first c.loop-node.tree.nodes.keys c.add.new.tree.nodes.keys c.in_err-add.ensures.same_nodes
    (Grows-map (Has (map f c.in_ok-next.next.items)) F first (map f c.loop-node.tree.nodes.keys) (λ q has. (c.in_ok-next.ensures.all p h).sound has.0 q has.1) c.loop-node.invariant.putting.grows)

pub returns-clause-points : goal.returns-clause-points
returns-clause-points g c p h =
    let f = g.G.Graph.point c.args.graph.now in
    let F = g.G.Graph.Follows c.args.graph.now c.args.spends p in
    Grows-map (Has (map f c.in_ok-next.next.items)) F (map f c.args.tree.now.nodes.keys) (map f c.loop-node.tree.nodes.keys) (λ q has. (c.in_ok-next.ensures.all p h).sound has.0 q has.1) c.loop-node.invariant.putting.grows

pub returns-clause-spread : goal.returns-clause-spread
returns-clause-spread g c p h q f' =
    let f = g.G.Graph.point c.args.graph.now in
    let a = (c.in_ok-next.ensures.all p h).complete q f' in
    putting-last (map f c.in_ok-next.next.items) (map f c.loop-node.next.items) (map f c.args.tree.now.nodes.keys) (map f c.loop-node.tree.nodes.keys) c.loop-node.invariant.putting
    (omega (arith, c.in_default.ensures.cases, length-map c.loop-node.next.items f)) q (a.place, a.there)

pub add-requires : goal.add-requires
add-requires g c =
    let f = g.G.Graph.point c.args.graph.now in
    let inv = c.loop-node.invariant in
    let each = inv.tree.each in
    let longer = inv.putting.grows.longer in
    record { follows = inr (omega (arith, c.requires.within, each, longer, length-map c.args.tree.now.nodes.keys f)) }
