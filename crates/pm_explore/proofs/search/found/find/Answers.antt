use Rattle.std.proofs.Common.{◌≡◌, ℕ, ◌+◌, false, [], ◌∷◌, ◌++◌, Some, length, map, min, slice_get, ap, arith, inl, refl, sym, ◌∙◌, subst}
use Rattle.std.proofs.lemmas.List.{length-map}
use Rattle.pm_explore.specs.search.Exact.{AreExact, IsAmong}
use Rattle.pm_explore.specs.search.Growing.{AreSpread, IsKept, IsLed}
use Rattle.pm_explore.specs.search.Trees.{AreLed}
use Rattle.pm_explore.proofs.search.Lists.{Grows-trans, IsAmong-grows}
use Rattle.pm_explore.proofs.search.Leading.{led_more}
use Rattle.pm_explore.proofs.search.Reaching.{Round, exacts_kept, led_begins, led_none, leds_kept, no_exact, no_led, round_begins, round_goes_on, round_ends, round_whole, spread_kept}
use Rattle.pm_explore.proofs.search.TreeLemmas.{first_adds, tree_begins, tree_none}
use Rattle.pm_explore.proofs.search.found.find.Goals as goal

pub returns-in_err-add-clause-tree : goal.returns-in_err-add-clause-tree
returns-in_err-add-clause-tree g c =
    let f = g.G.Graph.point c.args.graph.now in
    tree_none (g.G.Graph.Follows c.args.graph.now) (g.G.Graph.start c.args.graph.now) (map f c.add.new.tree.nodes.keys) c.add.new.tree.parents.items
    (ap (map f) (c.in_err-add.ensures.same_nodes ∙ c.requires.no_nodes)) (c.in_err-add.ensures.same_parents ∙ c.requires.no_parents)

pub returns-in_err-add-clause-rounds : goal.returns-in_err-add-clause-rounds
returns-in_err-add-clause-rounds g c =
    no_exact (g.G.Graph.Follows c.args.graph.now) (g.G.Graph.start c.args.graph.now) (map (g.G.Graph.point c.args.graph.now) c.add.new.tree.nodes.keys) c.args.rounds.now.items c.requires.no_rounds

pub returns-in_err-add-clause-led : goal.returns-in_err-add-clause-led
returns-in_err-add-clause-led g c =
    no_led (g.G.Graph.Follows c.args.graph.now) (g.G.Graph.start c.args.graph.now) (map (g.G.Graph.point c.args.graph.now) c.add.new.tree.nodes.keys) c.add.new.tree.parents.items c.args.rounds.now.items c.requires.no_rounds

pub settle-requires-clause-tree : goal.settle-requires-clause-tree
settle-requires-clause-tree g c =
    let f = g.G.Graph.point c.args.graph.now in
    let new = map f c.add.new.tree.nodes.keys in
    let e = first_adds (map f c.args.tree.now.nodes.keys) c.args.tree.now.parents.items (f c.args.start) new c.add.new.tree.parents.items c.in_ok-add.ensures.added (ap (map f) c.requires.no_nodes) c.requires.no_parents in
    tree_begins (g.G.Graph.Follows c.args.graph.now) (g.G.Graph.start c.args.graph.now) new c.add.new.tree.parents.items (e.0 ∙ ap (λ s. s ∷ []) c.requires.start) e.1

pub returns-in_err-settle-clause-rounds : goal.returns-in_err-settle-clause-rounds
returns-in_err-settle-clause-rounds g c =
    no_exact (g.G.Graph.Follows c.args.graph.now) (g.G.Graph.start c.args.graph.now) (map (g.G.Graph.point c.args.graph.now) c.settle.new.tree.nodes.keys) c.args.rounds.now.items c.requires.no_rounds

pub returns-in_err-settle-clause-led : goal.returns-in_err-settle-clause-led
returns-in_err-settle-clause-led g c =
    no_led (g.G.Graph.Follows c.args.graph.now) (g.G.Graph.start c.args.graph.now) (map (g.G.Graph.point c.args.graph.now) c.settle.new.tree.nodes.keys) c.settle.new.tree.parents.items c.args.rounds.now.items c.requires.no_rounds

pub returns-in_err-push-clause-rounds : goal.returns-in_err-push-clause-rounds
returns-in_err-push-clause-rounds g c =
    no_exact (g.G.Graph.Follows c.args.graph.now) (g.G.Graph.start c.args.graph.now) (map (g.G.Graph.point c.args.graph.now) c.settle.new.tree.nodes.keys) c.push.new.self.items (c.in_err-push.ensures.items ∙ c.requires.no_rounds)

pub returns-in_err-push-clause-led : goal.returns-in_err-push-clause-led
returns-in_err-push-clause-led g c =
    no_led (g.G.Graph.Follows c.args.graph.now) (g.G.Graph.start c.args.graph.now) (map (g.G.Graph.point c.args.graph.now) c.settle.new.tree.nodes.keys) c.settle.new.tree.parents.items c.push.new.self.items
    (c.in_err-push.ensures.items ∙ c.requires.no_rounds)

pub loop-k-init : goal.loop-k-init
loop-k-init g c =
    let f = g.G.Graph.point c.args.graph.now in
    let F = g.G.Graph.Follows c.args.graph.now in
    let start = g.G.Graph.start c.args.graph.now in
    let alone = map f c.add.new.tree.nodes.keys in
    let all = map f c.settle.new.tree.nodes.keys in
    let e = first_adds (map f c.args.tree.now.nodes.keys) c.args.tree.now.parents.items (f c.args.start) alone c.add.new.tree.parents.items c.in_ok-add.ensures.added (ap (map f) c.requires.no_nodes) c.requires.no_parents in
    let is : alone ≡ start ∷ [] = e.0 ∙ ap (λ s. s ∷ []) c.requires.start in
    let among : IsAmong (start ∷ []) 1 start = record { place = 0; below = omega arith; there = refl } in
    let first : IsAmong alone (length alone) start = subst (λ l. IsAmong l (length l) start) (sym is) among in
    let led : IsLed F 0 alone c.add.new.tree.parents.items = led_begins F start alone c.add.new.tree.parents.items is e.1 in
    let ends : c.push.new.self.items ≡ length all ∷ [] = c.in_ok-push.ensures.items ∙ ap (λ l. l ++ c.len.result ∷ []) c.requires.no_rounds ∙ ap (λ n. n ∷ []) (c.len.ensures.len ∙ sym (length-map c.settle.new.tree.nodes.keys f)) in
    record {
      ready = c.settle.ensures.ready;
      room = c.settle.ensures.room;
      round =
          round_begins F start all c.settle.new.tree.parents.items c.push.new.self.items c.settle.ensures.tree (IsAmong-grows (λ y. Unit {0}) alone all start c.settle.ensures.points first) (c.settle.ensures.led 0 led) c.in_ok-settle.ensures.spread ends;
    }

pub returns-in_err-spend-clause-rounds : goal.returns-in_err-spend-clause-rounds
returns-in_err-spend-clause-rounds g c =
    let f = g.G.Graph.point c.args.graph.now in
    exacts_kept (g.G.Graph.Follows c.args.graph.now) (g.G.Graph.start c.args.graph.now) (map f c.loop-k.tree.nodes.keys) (map f c.spend.new.tree.nodes.keys) c.loop-k.rounds.items c.spend.ensures.points c.loop-k.invariant.round.exact

pub returns-in_err-spend-clause-led : goal.returns-in_err-spend-clause-led
returns-in_err-spend-clause-led g c =
    let f = g.G.Graph.point c.args.graph.now in
    leds_kept (g.G.Graph.Follows c.args.graph.now) (g.G.Graph.start c.args.graph.now) (map f c.loop-k.tree.nodes.keys) (map f c.spend.new.tree.nodes.keys) c.loop-k.tree.parents.items c.spend.new.tree.parents.items c.loop-k.rounds.items c.spend.ensures.points c.spend.ensures.parents c.loop-k.invariant.round.ways

pub returns-then-len-end-clause-rounds : goal.returns-then-len-end-clause-rounds
returns-then-len-end-clause-rounds g c =
    let f = g.G.Graph.point c.args.graph.now in
    exacts_kept (g.G.Graph.Follows c.args.graph.now) (g.G.Graph.start c.args.graph.now) (map f c.loop-k.tree.nodes.keys) (map f c.spend.new.tree.nodes.keys) c.loop-k.rounds.items c.spend.ensures.points c.loop-k.invariant.round.exact

pub returns-then-len-end-clause-led : goal.returns-then-len-end-clause-led
returns-then-len-end-clause-led g c =
    let f = g.G.Graph.point c.args.graph.now in
    leds_kept (g.G.Graph.Follows c.args.graph.now) (g.G.Graph.start c.args.graph.now) (map f c.loop-k.tree.nodes.keys) (map f c.spend.new.tree.nodes.keys) c.loop-k.tree.parents.items c.spend.new.tree.parents.items c.loop-k.rounds.items c.spend.ensures.points c.spend.ensures.parents c.loop-k.invariant.round.ways

pub returns-then-len-end-clause-whole : goal.returns-then-len-end-clause-whole
returns-then-len-end-clause-whole g c is =
    let f = g.G.Graph.point c.args.graph.now in
    let old = map f c.loop-k.tree.nodes.keys in
    let mid = map f c.spend.new.tree.nodes.keys in
    let same : length mid ≡ length old = length-map c.spend.new.tree.nodes.keys f ∙ sym c.len-in-loop-k.ensures.len ∙ c.if-len-end.true ∙ c.len-end.ensures.len ∙ sym (length-map c.loop-k.tree.nodes.keys f) in
    round_whole (g.G.Graph.Follows c.args.graph.now) (g.G.Graph.start c.args.graph.now) c.loop-k.k old mid c.loop-k.tree.parents.items c.spend.new.tree.parents.items c.loop-k.spent c.loop-k.rounds.items
    c.loop-k.invariant.round c.spend.ensures.points c.spend.ensures.tree (c.spend.ensures.led c.loop-k.k c.loop-k.invariant.round.led) c.in_ok-spend.ensures.spread same

pub returns-then-len-end-clause-last : goal.returns-then-len-end-clause-last
returns-then-len-end-clause-last g c is =
    let f = g.G.Graph.point c.args.graph.now in
    let old = map f c.loop-k.tree.nodes.keys in
    let mid = map f c.spend.new.tree.nodes.keys in
    let same : length mid ≡ length old = length-map c.spend.new.tree.nodes.keys f ∙ sym c.len-in-loop-k.ensures.len ∙ c.if-len-end.true ∙ c.len-end.ensures.len ∙ sym (length-map c.loop-k.tree.nodes.keys f) in
    round_ends (g.G.Graph.Follows c.args.graph.now) (g.G.Graph.start c.args.graph.now) c.loop-k.k old mid c.loop-k.tree.parents.items c.loop-k.spent c.loop-k.rounds.items c.loop-k.invariant.round same

pub settle-requires-in-loop-k-clause-spread : goal.settle-requires-in-loop-k-clause-spread
settle-requires-in-loop-k-clause-spread g c =
    let f = g.G.Graph.point c.args.graph.now in
    let F = g.G.Graph.Follows c.args.graph.now in
    let old = map f c.loop-k.tree.nodes.keys in
    let mid = map f c.spend.new.tree.nodes.keys in
    let end : c.len-end.result ≡ length old = c.len-end.ensures.len ∙ sym (length-map c.loop-k.tree.nodes.keys f) in
    subst (λ n. AreSpread F false n mid) (sym end) (spread_kept F false (length old) old mid c.spend.ensures.points (omega arith) c.loop-k.invariant.round.free)

pub settle-requires-in-loop-k-clause-within : goal.settle-requires-in-loop-k-clause-within
settle-requires-in-loop-k-clause-within g c =
    let f = g.G.Graph.point c.args.graph.now in
    omega (arith, c.len-end.ensures.len, length-map c.loop-k.tree.nodes.keys f, c.spend.ensures.points.longer)

pub returns-in_err-settle-2-clause-rounds : goal.returns-in_err-settle-2-clause-rounds
returns-in_err-settle-2-clause-rounds g c =
    let f = g.G.Graph.point c.args.graph.now in
    let F = g.G.Graph.Follows c.args.graph.now in
    let start = g.G.Graph.start c.args.graph.now in
    let old = map f c.loop-k.tree.nodes.keys in
    let mid = map f c.spend.new.tree.nodes.keys in
    let new = map f c.settle-in-loop-k.new.tree.nodes.keys in
    exacts_kept F start mid new c.loop-k.rounds.items c.settle-in-loop-k.ensures.points (exacts_kept F start old mid c.loop-k.rounds.items c.spend.ensures.points c.loop-k.invariant.round.exact)

pub returns-in_err-settle-2-clause-led : goal.returns-in_err-settle-2-clause-led
returns-in_err-settle-2-clause-led g c =
    let f = g.G.Graph.point c.args.graph.now in
    let F = g.G.Graph.Follows c.args.graph.now in
    let start = g.G.Graph.start c.args.graph.now in
    let old = map f c.loop-k.tree.nodes.keys in
    let mid = map f c.spend.new.tree.nodes.keys in
    let new = map f c.settle-in-loop-k.new.tree.nodes.keys in
    let mids = c.spend.new.tree.parents.items in
    leds_kept F start mid new mids c.settle-in-loop-k.new.tree.parents.items c.loop-k.rounds.items c.settle-in-loop-k.ensures.points c.settle-in-loop-k.ensures.parents
    (leds_kept F start old mid c.loop-k.tree.parents.items mids c.loop-k.rounds.items c.spend.ensures.points c.spend.ensures.parents c.loop-k.invariant.round.ways)

pub returns-in_err-push-2-clause-rounds : goal.returns-in_err-push-2-clause-rounds
returns-in_err-push-2-clause-rounds g c =
    let f = g.G.Graph.point c.args.graph.now in
    let F = g.G.Graph.Follows c.args.graph.now in
    let start = g.G.Graph.start c.args.graph.now in
    let old = map f c.loop-k.tree.nodes.keys in
    let mid = map f c.spend.new.tree.nodes.keys in
    let new = map f c.settle-in-loop-k.new.tree.nodes.keys in
    subst (AreExact F start new) (sym c.in_err-push-2.ensures.items)
    (exacts_kept F start mid new c.loop-k.rounds.items c.settle-in-loop-k.ensures.points (exacts_kept F start old mid c.loop-k.rounds.items c.spend.ensures.points c.loop-k.invariant.round.exact))

pub returns-in_err-push-2-clause-led : goal.returns-in_err-push-2-clause-led
returns-in_err-push-2-clause-led g c =
    let f = g.G.Graph.point c.args.graph.now in
    let F = g.G.Graph.Follows c.args.graph.now in
    let start = g.G.Graph.start c.args.graph.now in
    let old = map f c.loop-k.tree.nodes.keys in
    let mid = map f c.spend.new.tree.nodes.keys in
    let new = map f c.settle-in-loop-k.new.tree.nodes.keys in
    let mids = c.spend.new.tree.parents.items in
    let news = c.settle-in-loop-k.new.tree.parents.items in
    subst (AreLed F new news) (sym c.in_err-push-2.ensures.items)
    (leds_kept F start mid new mids news c.loop-k.rounds.items c.settle-in-loop-k.ensures.points c.settle-in-loop-k.ensures.parents
    (leds_kept F start old mid c.loop-k.tree.parents.items mids c.loop-k.rounds.items c.spend.ensures.points c.spend.ensures.parents c.loop-k.invariant.round.ways))

pub loop-k-preserved : goal.loop-k-preserved
loop-k-preserved g c =
    let f = g.G.Graph.point c.args.graph.now in
    let F = g.G.Graph.Follows c.args.graph.now in
    let start = g.G.Graph.start c.args.graph.now in
    let old = map f c.loop-k.tree.nodes.keys in
    let mid = map f c.spend.new.tree.nodes.keys in
    let new = map f c.settle-in-loop-k.new.tree.nodes.keys in
    let news = c.settle-in-loop-k.new.tree.parents.items in
    let end : c.len-end.result ≡ length old = c.len-end.ensures.len ∙ sym (length-map c.loop-k.tree.nodes.keys f) in
    let ends : c.push-in-loop-k.new.self.items ≡ c.loop-k.rounds.items ++ length new ∷ [] =
    c.in_ok-push-2.ensures.items ∙ ap (λ n. c.loop-k.rounds.items ++ n ∷ []) (c.len-in-loop-k-2.ensures.len ∙ sym (length-map c.settle-in-loop-k.new.tree.nodes.keys f)) in
    let led = c.settle-in-loop-k.ensures.led (c.loop-k.k + 1) (c.spend.ensures.led c.loop-k.k c.loop-k.invariant.round.led) in
    record {
      ready = c.settle-in-loop-k.ensures.ready;
      room = c.settle-in-loop-k.ensures.room;
      round = subst (λ n. Round F start (c.loop-k.k + 1) new news n c.push-in-loop-k.new.self.items) (sym end) (round_goes_on F start c.loop-k.k old mid new c.loop-k.tree.parents.items c.spend.new.tree.parents.items news c.loop-k.spent c.loop-k.rounds.items c.push-in-loop-k.new.self.items c.loop-k.invariant.round c.spend.ensures.points c.spend.ensures.parents c.in_ok-spend.ensures.spread c.settle-in-loop-k.ensures.tree c.settle-in-loop-k.ensures.points c.settle-in-loop-k.ensures.parents led c.in_ok-settle-2.ensures.spread ends);
    }

-- no more steps spend than were asked for, nor than rounds are complete
pub returns-in_err-add-clause-near : goal.returns-in_err-add-clause-near
returns-in_err-add-clause-near g c =
    let f = g.G.Graph.point c.args.graph.now in
    led_none (g.G.Graph.Follows c.args.graph.now) (g.G.Graph.start c.args.graph.now) (min c.args.most (length c.args.rounds.now.items)) (map f c.add.new.tree.nodes.keys) c.add.new.tree.parents.items (ap (map f) (c.in_err-add.ensures.same_nodes ∙ c.requires.no_nodes))

pub returns-in_err-settle-clause-near : goal.returns-in_err-settle-clause-near
returns-in_err-settle-clause-near g c =
    let f = g.G.Graph.point c.args.graph.now in
    let F = g.G.Graph.Follows c.args.graph.now in
    let start = g.G.Graph.start c.args.graph.now in
    let alone = map f c.add.new.tree.nodes.keys in
    let e = first_adds (map f c.args.tree.now.nodes.keys) c.args.tree.now.parents.items (f c.args.start) alone c.add.new.tree.parents.items c.in_ok-add.ensures.added (ap (map f) c.requires.no_nodes) c.requires.no_parents in
    let led = led_begins F start alone c.add.new.tree.parents.items (e.0 ∙ ap (λ s. s ∷ []) c.requires.start) e.1 in
    led_more F (map f c.settle.new.tree.nodes.keys) c.settle.new.tree.parents.items 0 (min c.args.most (length c.args.rounds.now.items)) (omega arith) (c.settle.ensures.led 0 led)

pub returns-in_err-push-clause-near : goal.returns-in_err-push-clause-near
returns-in_err-push-clause-near g c =
    let f = g.G.Graph.point c.args.graph.now in
    let F = g.G.Graph.Follows c.args.graph.now in
    let start = g.G.Graph.start c.args.graph.now in
    let alone = map f c.add.new.tree.nodes.keys in
    let e = first_adds (map f c.args.tree.now.nodes.keys) c.args.tree.now.parents.items (f c.args.start) alone c.add.new.tree.parents.items c.in_ok-add.ensures.added (ap (map f) c.requires.no_nodes) c.requires.no_parents in
    let led = led_begins F start alone c.add.new.tree.parents.items (e.0 ∙ ap (λ s. s ∷ []) c.requires.start) e.1 in
    led_more F (map f c.settle.new.tree.nodes.keys) c.settle.new.tree.parents.items 0 (min c.args.most (length c.push.new.self.items)) (omega arith) (c.settle.ensures.led 0 led)

pub returns-in_err-spend-clause-near : goal.returns-in_err-spend-clause-near
returns-in_err-spend-clause-near g c =
    let f = g.G.Graph.point c.args.graph.now in
    let round = c.loop-k.invariant.round in
    led_more (g.G.Graph.Follows c.args.graph.now) (map f c.spend.new.tree.nodes.keys) c.spend.new.tree.parents.items (c.loop-k.k + 1) (min c.args.most (length c.loop-k.rounds.items)) (let many = round.count in omega (arith, many, c.loop-k-test.true)) (c.spend.ensures.led c.loop-k.k round.led)

pub returns-then-len-end-clause-near : goal.returns-then-len-end-clause-near
returns-then-len-end-clause-near g c =
    let f = g.G.Graph.point c.args.graph.now in
    let round = c.loop-k.invariant.round in
    led_more (g.G.Graph.Follows c.args.graph.now) (map f c.spend.new.tree.nodes.keys) c.spend.new.tree.parents.items (c.loop-k.k + 1) (min c.args.most (length c.loop-k.rounds.items)) (let many = round.count in omega (arith, many, c.loop-k-test.true)) (c.spend.ensures.led c.loop-k.k round.led)

pub returns-in_err-settle-2-clause-near : goal.returns-in_err-settle-2-clause-near
returns-in_err-settle-2-clause-near g c =
    let f = g.G.Graph.point c.args.graph.now in
    let round = c.loop-k.invariant.round in
    led_more (g.G.Graph.Follows c.args.graph.now) (map f c.settle-in-loop-k.new.tree.nodes.keys) c.settle-in-loop-k.new.tree.parents.items (c.loop-k.k + 1) (min c.args.most (length c.loop-k.rounds.items)) (let many = round.count in omega (arith, many, c.loop-k-test.true))
    (c.settle-in-loop-k.ensures.led (c.loop-k.k + 1) (c.spend.ensures.led c.loop-k.k round.led))

pub returns-in_err-push-2-clause-near : goal.returns-in_err-push-2-clause-near
returns-in_err-push-2-clause-near g c =
    let f = g.G.Graph.point c.args.graph.now in
    let round = c.loop-k.invariant.round in
    led_more (g.G.Graph.Follows c.args.graph.now) (map f c.settle-in-loop-k.new.tree.nodes.keys) c.settle-in-loop-k.new.tree.parents.items (c.loop-k.k + 1) (min c.args.most (length c.push-in-loop-k.new.self.items))
    (let many = round.count in omega (arith, many, ap length c.in_err-push-2.ensures.items, c.loop-k-test.true)) (c.settle-in-loop-k.ensures.led (c.loop-k.k + 1) (c.spend.ensures.led c.loop-k.k round.led))

pub returns-clause-near : goal.returns-clause-near
returns-clause-near g c =
    let f = g.G.Graph.point c.args.graph.now in
    let round = c.loop-k.invariant.round in
    led_more (g.G.Graph.Follows c.args.graph.now) (map f c.loop-k.tree.nodes.keys) c.loop-k.tree.parents.items c.loop-k.k (min c.args.most (length c.loop-k.rounds.items)) (let many = round.count in omega (arith, many)) round.led

-- the last round has all
pub returns-clause-end : goal.returns-clause-end
returns-clause-end g c is =
    let old = map (g.G.Graph.point c.args.graph.now) c.loop-k.tree.nodes.keys in
    round_ends (g.G.Graph.Follows c.args.graph.now) (g.G.Graph.start c.args.graph.now) c.loop-k.k old old c.loop-k.tree.parents.items c.loop-k.spent c.loop-k.rounds.items c.loop-k.invariant.round refl

-- nor more rounds than were asked for
pub returns-in_err-spend-clause-few : goal.returns-in_err-spend-clause-few
returns-in_err-spend-clause-few g c = let many = c.loop-k.invariant.round.count in omega (arith, many, c.loop-k-test.true)

pub returns-then-len-end-clause-few : goal.returns-then-len-end-clause-few
returns-then-len-end-clause-few g c = let many = c.loop-k.invariant.round.count in omega (arith, many, c.loop-k-test.true)

pub returns-in_err-settle-2-clause-few : goal.returns-in_err-settle-2-clause-few
returns-in_err-settle-2-clause-few g c = let many = c.loop-k.invariant.round.count in omega (arith, many, c.loop-k-test.true)

pub returns-in_err-push-2-clause-few : goal.returns-in_err-push-2-clause-few
returns-in_err-push-2-clause-few g c = let many = c.loop-k.invariant.round.count in omega (arith, many, ap length c.in_err-push-2.ensures.items, c.loop-k-test.true)

pub returns-clause-few : goal.returns-clause-few
returns-clause-few g c = let many = c.loop-k.invariant.round.count in omega (arith, many)

pub add-requires : goal.add-requires
add-requires g c = record { follows = inl c.requires.no_parents }

pub settle-requires-clause-room : goal.settle-requires-clause-room
settle-requires-clause-room g c =
    let f = g.G.Graph.point c.args.graph.now in
    let new = map f c.add.new.tree.nodes.keys in
    let e = first_adds (map f c.args.tree.now.nodes.keys) c.args.tree.now.parents.items (f c.args.start) new c.add.new.tree.parents.items c.in_ok-add.ensures.added (ap (map f) c.requires.no_nodes) c.requires.no_parents in
    let one : length new ≡ 1 = ap length e.0 in
    omega (arith, one, length-map c.add.new.tree.nodes.keys f)

pub returns-in_err-add-clause-room : goal.returns-in_err-add-clause-room
returns-in_err-add-clause-room g c = let none = ap length (c.in_err-add.ensures.same_nodes ∙ c.requires.no_nodes) in omega (arith, none)
