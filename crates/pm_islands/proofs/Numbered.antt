-- Shared labels number the islands.
use Rattle.std.proofs.Common.{ℕ, zero, suc, ◌≡◌, ◌+◌, ◌<◌, Bool, true, false, List, [], ◌∷◌, Option, Some, None, drop, length, map, nat_lt, slice_get, slice_index_or, take, unwrap_or, if◌then◌else◌, refl, sym, ap, subst, arith, inl, inr, ◌∙◌}
use Rattle.std.proofs.lemmas.Bool.{cases_lt, cond-true, cond-false, false_from_ne_true, le-ltb, lt-ltb, ltb-false, ltb-true}
use Rattle.std.proofs.lemmas.List.{get_or-drop, get_or-map, get_or-take, get_or_past, length-drop, length-map, length-take-le}
use Rattle.std.proofs.lemmas.Option.{cond_some, unwrap_or-slice_get}
use Rattle.pm_base.specs.declared.ActorId.{ActorId}
use Rattle.pm_base.specs.declared.ActorId.TheVariants.{Caller, Work, Timer}
use Rattle.pm_model.specs.declared.plan.Plan.{Plan}
use Rattle.pm_model.specs.Islands.{Connected, IsLabelling, Node, Numbering, comes_before, island_of, the_caller, the_device, the_domain}
use Rattle.pm_islands.specs.Labels.{AreLabels, AreShared, label_at, label_of}
use Rattle.pm_islands.specs.Numbers.{AreIslands, AreNumbers, NodeNumbers, actor_in, island_in}
use Rattle.pm_islands.specs.Places.{has_node, node_at, nodes, place}
use Rattle.pm_islands.specs.Ranks.{is_among, number_of, of_callers, rank}
use Rattle.pm_islands.proofs.NodeOrder.{is_order, is_placed, order_is, stands_at, stands_there}
use Rattle.pm_laws.proofs.islands.OneNumbering.{one_number}
use Rattle.pm_islands.proofs.Ranking.{each_among, has_rank, one_rank, ranks_less, ranks_rise, stands}
use Rattle.pm_islands.proofs.Ties.{has_tie, ties_touch}
use Rattle.pm_laws.proofs.islands.Walks.{goes_back, goes_further}

-- how many islands there are
abbrev count_by : Plan → List ℕ → ℕ
count_by plan labels = rank (of_callers plan labels) (nodes plan)

-- the number of a node
abbrev island_by : Plan → List ℕ → Node → ℕ
island_by plan labels a =
    if has_node plan a then unwrap_or (number_of (of_callers plan labels) (label_of plan labels a)) (count_by plan labels) else count_by plan labels

-- a node with a number of an island has the label of a caller
record IsNumbered (plan : Plan) (labels : List ℕ) (a : Node) : Type 0 where
  pub has : has_node plan a ≡ true
  pub among : is_among (of_callers plan labels) (label_of plan labels a) ≡ true
  pub is : island_by plan labels a ≡ rank (of_callers plan labels) (label_of plan labels a)

is_numbered : (plan : Plan) (labels : List ℕ) (a : Node) → has_node plan a ≡ true → is_among (of_callers plan labels) (label_of plan labels a) ≡ true → IsNumbered plan labels a
is_numbered plan labels a has among = record {
  has = has;
  among = among;
  is = cond-true _ _ _ has ∙ ap (λ o. unwrap_or o (count_by plan labels)) (cond-true _ _ _ among);
}

numbered : (plan : Plan) (labels : List ℕ) (a : Node) → island_by plan labels a < count_by plan labels → IsNumbered plan labels a
numbered plan labels a below = go (has_node plan a) refl (is_among (of_callers plan labels) (label_of plan labels a)) refl below
  where
    go : (b : Bool) → has_node plan a ≡ b → (d : Bool) → is_among (of_callers plan labels) (label_of plan labels a) ≡ d
        → (if b then unwrap_or (if d then Some (rank (of_callers plan labels) (label_of plan labels a)) else None) (count_by plan labels) else count_by plan labels) < count_by plan labels
        → IsNumbered plan labels a
    go true has true among below = is_numbered plan labels a has among
    go true has false among below = absurd (omega (arith, below))
    go false has d among below = absurd (omega (arith, below))

-- the callers' labels
pub callers_each : (plan : Plan) (labels : List ℕ) → length labels ≡ nodes plan → length (of_callers plan labels) ≡ length plan.callers
callers_each plan labels one_each =
    length-take-le (length plan.callers) (drop (length plan.devices) labels) (omega (arith, length-drop (length plan.devices) labels, one_each))

caller_label : (plan : Plan) (labels : List ℕ) (c : ℕ) → c < length plan.callers → slice_index_or (of_callers plan labels) c 0 ≡ label_of plan labels (the_caller c)
caller_label plan labels c below =
    get_or-take (length plan.callers) (drop (length plan.devices) labels) c 0 below ∙ get_or-drop (length plan.devices) labels c 0

caller_among : (plan : Plan) (labels : List ℕ) (c : ℕ) → length labels ≡ nodes plan → c < length plan.callers → IsNumbered plan labels (the_caller c)
caller_among plan labels c one_each below =
    is_numbered plan labels (the_caller c) (lt-ltb c (length plan.callers) below)
    (subst (λ x. is_among (of_callers plan labels) x ≡ true) (caller_label plan labels c below)
    (each_among (of_callers plan labels) c (subst (λ n. c < n) (sym (callers_each plan labels one_each)) below)))

-- a label of a caller is the place of a node, whose label it is
record IsFirst (plan : Plan) (labels : List ℕ) (x : ℕ) : Type 0 where
  pub below : x < nodes plan
  pub own : label_at labels x ≡ x
  pub caller : ℕ
  pub caller_below : caller < length plan.callers
  pub caller_is : label_of plan labels (the_caller caller) ≡ x

is_first : (plan : Plan) (labels : List ℕ) (x : ℕ) → AreLabels plan labels → is_among (of_callers plan labels) x ≡ true → IsFirst plan labels x
is_first plan labels x are among =
    let it = stands (of_callers plan labels) x among in
    let c_below : it.place < length plan.callers = omega (arith, it.below, callers_each plan labels are.one_each) in
    let at : label_of plan labels (the_caller it.place) ≡ x = sym (caller_label plan labels it.place c_below) ∙ it.is in
    let placed : length plan.devices + it.place < nodes plan = omega (arith, c_below) in
    record {
      below = omega (arith, at, placed, are.no_later (length plan.devices + it.place) placed);
      own = subst (λ y. label_at labels y ≡ y) at (are.first (length plan.devices + it.place) placed);
      caller = it.place;
      caller_below = c_below;
      caller_is = at;
    }

-- a caller's label has a number of an island
label_below : (plan : Plan) (labels : List ℕ) (x : ℕ) → AreLabels plan labels → is_among (of_callers plan labels) x ≡ true → rank (of_callers plan labels) x < count_by plan labels
label_below plan labels x are among = ranks_less (of_callers plan labels) x (nodes plan) among (is_first plan labels x are among).below

-- the first node of an island
record IsFirstOf (plan : Plan) (labels : List ℕ) (n x : ℕ) : Type 0 where
  pub among : is_among (of_callers plan labels) x ≡ true
  pub is : rank (of_callers plan labels) x ≡ n

record FirstOf (plan : Plan) (labels : List ℕ) (n : ℕ) : Type 0 where
  pub at : ℕ
  pub is : n < count_by plan labels → IsFirstOf plan labels n at

first_of_island : (plan : Plan) (labels : List ℕ) (n : ℕ) → FirstOf plan labels n
first_of_island plan labels n =
    elim (cases_lt n (count_by plan labels)) [
      | inl below ↦ let it = has_rank (of_callers plan labels) (nodes plan) n below in record { at = it.number; is = λ _. record { among = it.among; is = it.is } }
      | inr past ↦ record { at = 0; is = λ below. absurd (omega (arith, past, below)) }
    ]

first_at : Plan → List ℕ → ℕ → ℕ
first_at plan labels n = (first_of_island plan labels n).at

is_first_of : (plan : Plan) (labels : List ℕ) (n : ℕ) → n < count_by plan labels → IsFirstOf plan labels n (first_at plan labels n)
unfolding first_at
is_first_of plan labels n below = (first_of_island plan labels n).is below

pub numbering_by : (plan : Plan) (labels : List ℕ) → AreShared plan labels → Numbering plan (count_by plan labels)
numbering_by plan labels all = record {
  island = island_by plan labels;
  shared = shared;
  finest = finest;
  callers = callers;
  has_caller = has_caller;
  first = λ n. node_at plan (first_at plan labels n);
  is_own = is_own;
  is_least = is_least;
  in_order = in_order;
}
  where
    same_label : (a b : Node) → has_node plan a ≡ true → has_node plan b ≡ true → label_of plan labels a ≡ label_of plan labels b → island_by plan labels a ≡ island_by plan labels b
    same_label a b a_has b_has same =
        cond-true _ _ _ a_has ∙ ap (λ x. unwrap_or (number_of (of_callers plan labels) x) (count_by plan labels)) same ∙ sym (cond-true _ _ _ b_has)

    shared : IsLabelling plan (island_by plan labels)
    shared a b touches =
        let it = has_tie plan a b touches in
        let are = ties_touch plan it.tie it.row (a, b) it.is in
        same_label a b are.first are.second (all.joins it.tie (it.row + 1) it.row a b (omega arith) it.is)

    finest : (a b : Node) → island_by plan labels a < count_by plan labels → island_by plan labels a ≡ island_by plan labels b → Connected plan a b
    finest a b below same =
        let one = numbered plan labels a below in
        let other = numbered plan labels b (subst (λ n. n < count_by plan labels) same below) in
        let label : label_of plan labels a ≡ label_of plan labels b =
        one_rank (of_callers plan labels) (label_of plan labels a) (label_of plan labels b) one.among other.among (sym one.is ∙ same ∙ other.is) in
        let there : Connected plan a (node_at plan (label_of plan labels a)) =
        subst (λ x. Connected plan x (node_at plan (label_of plan labels a))) (stands_there plan a one.has) (all.are.connected (place plan a) (is_placed plan a one.has)) in
        let back : Connected plan b (node_at plan (label_of plan labels b)) =
        subst (λ x. Connected plan x (node_at plan (label_of plan labels b))) (stands_there plan b other.has) (all.are.connected (place plan b) (is_placed plan b other.has)) in
        goes_further plan a (node_at plan (label_of plan labels b)) b (subst (λ x. Connected plan a (node_at plan x)) label there)
        (goes_back plan b (node_at plan (label_of plan labels b)) back)

    callers : (c : ℕ) → c < length plan.callers → island_by plan labels (the_caller c) < count_by plan labels
    callers c below =
        let it = caller_among plan labels c all.are.one_each below in
        subst (λ n. n < count_by plan labels) (sym it.is) (label_below plan labels (label_of plan labels (the_caller c)) all.are it.among)

    has_caller : (n : ℕ) → n < count_by plan labels → (c : ℕ) × (c < length plan.callers) × (island_by plan labels (the_caller c) ≡ n)
    has_caller n below =
        let it = is_first_of plan labels n below in
        let root = is_first plan labels (first_at plan labels n) all.are it.among in
        let at = caller_among plan labels root.caller all.are.one_each root.caller_below in
        (root.caller, root.caller_below, at.is ∙ ap (rank (of_callers plan labels)) root.caller_is ∙ it.is)

    -- the node at a caller's label has its number
    own_number : (x : ℕ) → is_among (of_callers plan labels) x ≡ true → IsNumbered plan labels (node_at plan x)
    own_number x among =
        let root = is_first plan labels x all.are among in
        let there = stands_at plan x root.below in
        let own : label_of plan labels (node_at plan x) ≡ x = ap (label_at labels) there.at ∙ root.own in
        is_numbered plan labels (node_at plan x) there.has (subst (λ y. is_among (of_callers plan labels) y ≡ true) (sym own) among)

    own_label : (x : ℕ) → is_among (of_callers plan labels) x ≡ true → label_of plan labels (node_at plan x) ≡ x
    own_label x among =
        let root = is_first plan labels x all.are among in ap (label_at labels) (stands_at plan x root.below).at ∙ root.own

    is_own : (n : ℕ) → n < count_by plan labels → island_by plan labels (node_at plan (first_at plan labels n)) ≡ n
    is_own n below =
        let it = is_first_of plan labels n below in
        (own_number (first_at plan labels n) it.among).is ∙ ap (rank (of_callers plan labels)) (own_label (first_at plan labels n) it.among) ∙ it.is

    is_least : (a : Node) → island_by plan labels a < count_by plan labels → comes_before a (node_at plan (first_at plan labels (island_by plan labels a))) ≡ false
    is_least a below =
        let one = numbered plan labels a below in
        let it = is_first_of plan labels (island_by plan labels a) below in
        let x = first_at plan labels (island_by plan labels a) in
        let same : first_at plan labels (island_by plan labels a) ≡ label_of plan labels a =
        one_rank (of_callers plan labels) (first_at plan labels (island_by plan labels a)) (label_of plan labels a) it.among one.among (it.is ∙ one.is) in
        let there = stands_at plan x (is_first plan labels x all.are it.among).below in
        false_from_ne_true _ (λ before.
        absurd (omega (arith, is_order plan a (node_at plan x) one.has there.has before, there.at, same, all.are.no_later (place plan a) (is_placed plan a one.has))))

    in_order : (m n : ℕ) → m < n → n < count_by plan labels → comes_before (node_at plan (first_at plan labels m)) (node_at plan (first_at plan labels n)) ≡ true
    in_order m n less below =
        let one = is_first_of plan labels m (omega arith) in
        let other = is_first_of plan labels n below in
        let x = first_at plan labels m in
        let y = first_at plan labels n in
        let here = stands_at plan x (is_first plan labels x all.are one.among).below in
        let there = stands_at plan y (is_first plan labels y all.are other.among).below in
        order_is plan (node_at plan x) (node_at plan y) here.has there.has
        (elim (cases_lt x y) [
          | inl rises ↦ omega (arith, here.at, there.at, rises)
          | inr falls ↦ absurd (omega (arith, ranks_rise (of_callers plan labels) y x falls, one.is, other.is))
        ])

-- what is shown of numbers
shown : (o : Option ℕ) (count : ℕ) → ((n : ℕ) → o ≡ Some n → n < count) → (if nat_lt (unwrap_or o count) count then Some (unwrap_or o count) else None) ≡ o
shown None count below = cond-false _ _ _ (le-ltb count count (omega arith))
shown (Some n) count below = cond-true _ _ _ (lt-ltb n count (below n refl))

mapped_below : (f : ℕ → Option ℕ) (count : ℕ) → ((x n : ℕ) → f x ≡ Some n → n < count) → (xs : List ℕ) (k n : ℕ) → slice_index_or (map f xs) k None ≡ Some n → n < count
mapped_below f count below [] k n is = absurd (cc)
mapped_below f count below (x ∷ xs) zero n is = below x n is
mapped_below f count below (x ∷ xs) (suc k) n is = mapped_below f count below xs k n is

ranked_below : (f : ℕ → ℕ) (count : ℕ) (xs : List ℕ) → ((k : ℕ) → k < length xs → f (slice_index_or xs k 0) < count) → (k n : ℕ) → slice_get (map f xs) k ≡ Some n → n < count
ranked_below f count [] below k n is = absurd (cc)
ranked_below f count (x ∷ xs) below zero n is = let same : f x ≡ n = cc in subst (λ m. m < count) same (below 0 (omega arith))
ranked_below f count (x ∷ xs) below (suc k) n is = ranked_below f count xs (λ j j_below. below (suc j) (omega (arith, j_below))) k n is

-- the numbers that labels give
numbers_by : Plan → List ℕ → NodeNumbers
numbers_by plan labels = record {
  count = count_by plan labels;
  devices = map (number_of (of_callers plan labels)) (take (length plan.devices) labels);
  callers = map (rank (of_callers plan labels)) (of_callers plan labels);
  domains = map (number_of (of_callers plan labels)) (drop (length plan.callers) (drop (length plan.devices) labels));
}

-- a caller's number
pub caller_number : (plan : Plan) (labels : List ℕ) (c d : ℕ) → length labels ≡ nodes plan → c < length plan.callers
    → slice_index_or (map (rank (of_callers plan labels)) (of_callers plan labels)) c d ≡ island_by plan labels (the_caller c)
caller_number plan labels c d one_each below =
    get_or-map (rank (of_callers plan labels)) (of_callers plan labels) c 0 d (subst (λ n. c < n) (sym (callers_each plan labels one_each)) below)
    ∙ ap (rank (of_callers plan labels)) (caller_label plan labels c below) ∙ sym (caller_among plan labels c one_each below).is

past : {A : Type 0} (f : ℕ → A) (xs : List ℕ) (n k : ℕ) (d : A) → length xs ≡ n → nat_lt k n ≡ false → slice_index_or (map f xs) k d ≡ d
past f xs n k d each above = get_or_past (map f xs) k d (omega (arith, length-map xs f, each, ltb-false k n above))

nodes_by : (plan : Plan) (labels : List ℕ) → length labels ≡ nodes plan → (a : Node) → island_by plan labels a ≡ island_in (numbers_by plan labels) a
unfolding numbers_by
nodes_by plan labels one_each (the_device d) = go (nat_lt d (length plan.devices)) refl
  where
    each : length (take (length plan.devices) labels) ≡ length plan.devices
    each = length-take-le (length plan.devices) labels (omega (arith, one_each))

    go : (b : Bool) → nat_lt d (length plan.devices) ≡ b
        → (if b then unwrap_or (number_of (of_callers plan labels) (label_at labels d)) (count_by plan labels) else count_by plan labels)
        ≡ unwrap_or (slice_index_or (map (number_of (of_callers plan labels)) (take (length plan.devices) labels)) d None) (count_by plan labels)
    go true is =
        let below = ltb-true d (length plan.devices) is in
        ap (λ o. unwrap_or o (count_by plan labels))
        (sym (get_or-map (number_of (of_callers plan labels)) (take (length plan.devices) labels) d 0 None (omega (arith, each, below))
        ∙ ap (number_of (of_callers plan labels)) (get_or-take (length plan.devices) labels d 0 below)))
    go false is = ap (λ o. unwrap_or o (count_by plan labels)) (sym (past (number_of (of_callers plan labels)) (take (length plan.devices) labels) (length plan.devices) d None each is))
nodes_by plan labels one_each (the_caller c) =
    elim (cases_lt c (length plan.callers)) [
      | inl below ↦ sym (caller_number plan labels c (count_by plan labels) one_each below)
      | inr above ↦
          let no = le-ltb c (length plan.callers) above in
          cond-false _ _ _ no
          ∙ sym (past (rank (of_callers plan labels)) (of_callers plan labels) (length plan.callers) c (count_by plan labels) (callers_each plan labels one_each) no)
    ]
nodes_by plan labels one_each (the_domain o) = go (nat_lt o (length plan.domains)) refl
  where
    each : length (drop (length plan.callers) (drop (length plan.devices) labels)) ≡ length plan.domains
    each = omega (arith, length-drop (length plan.callers) (drop (length plan.devices) labels), length-drop (length plan.devices) labels, one_each)

    plus : (a b c : ℕ) → a + (b + c) ≡ a + b + c
    plus a b c = omega arith

    at : slice_index_or (drop (length plan.callers) (drop (length plan.devices) labels)) o 0 ≡ label_of plan labels (the_domain o)
    at =
        get_or-drop (length plan.callers) (drop (length plan.devices) labels) o 0 ∙ get_or-drop (length plan.devices) labels (length plan.callers + o) 0
        ∙ ap (label_at labels) (plus (length plan.devices) (length plan.callers) o)

    go : (b : Bool) → nat_lt o (length plan.domains) ≡ b
        → (if b then unwrap_or (number_of (of_callers plan labels) (label_of plan labels (the_domain o))) (count_by plan labels) else count_by plan labels)
        ≡ unwrap_or (slice_index_or (map (number_of (of_callers plan labels)) (drop (length plan.callers) (drop (length plan.devices) labels))) o None) (count_by plan labels)
    go true is =
        let below = ltb-true o (length plan.domains) is in
        ap (λ x. unwrap_or x (count_by plan labels))
        (sym (get_or-map (number_of (of_callers plan labels)) (drop (length plan.callers) (drop (length plan.devices) labels)) o 0 None (omega (arith, each, below))
        ∙ ap (number_of (of_callers plan labels)) at))
    go false is =
        ap (λ x. unwrap_or x (count_by plan labels))
        (sym (past (number_of (of_callers plan labels)) (drop (length plan.callers) (drop (length plan.devices) labels)) (length plan.domains) o None each is))

number_below : (plan : Plan) (labels : List ℕ) → AreLabels plan labels → (x n : ℕ) → number_of (of_callers plan labels) x ≡ Some n → n < count_by plan labels
number_below plan labels are x n is =
    let it = cond_some (is_among (of_callers plan labels) x) (rank (of_callers plan labels) x) n is in
    subst (λ m. m < count_by plan labels) it.1 (label_below plan labels x are it.0)

islands_by : (plan : Plan) (labels : List ℕ) → AreShared plan labels → AreIslands plan (numbers_by plan labels)
unfolding numbers_by numbering_by
islands_by plan labels all = record {
  numbering = numbering_by plan labels all;
  nodes = nodes_by plan labels all.are.one_each;
  callers = length-map (of_callers plan labels) (rank (of_callers plan labels)) ∙ callers_each plan labels all.are.one_each;
  actors = actors;
}
  where
    device : (d : ℕ) → (if nat_lt (island_by plan labels (the_device d)) (count_by plan labels) then Some (island_by plan labels (the_device d)) else None)
        ≡ slice_index_or (map (number_of (of_callers plan labels)) (take (length plan.devices) labels)) d None
    device d =
        ap (λ n. if nat_lt n (count_by plan labels) then Some n else None) (nodes_by plan labels all.are.one_each (the_device d))
        ∙ shown (slice_index_or (map (number_of (of_callers plan labels)) (take (length plan.devices) labels)) d None) (count_by plan labels)
        (mapped_below (number_of (of_callers plan labels)) (count_by plan labels) (number_below plan labels all.are) (take (length plan.devices) labels) d)

    among : (k : ℕ) → k < length (of_callers plan labels) → rank (of_callers plan labels) (slice_index_or (of_callers plan labels) k 0) < count_by plan labels
    among k below = label_below plan labels (slice_index_or (of_callers plan labels) k 0) all.are (each_among (of_callers plan labels) k below)

    actors : (a : ActorId) → island_of (numbering_by plan labels all) a ≡ actor_in (numbers_by plan labels) a
    actors (Work d) = device d
    actors (Timer d) = device d
    actors (Caller c) =
        ap (λ n. if nat_lt n (count_by plan labels) then Some n else None)
        (nodes_by plan labels all.are.one_each (the_caller c)
        ∙ sym (unwrap_or-slice_get (map (rank (of_callers plan labels)) (of_callers plan labels)) c (count_by plan labels)))
        ∙ shown (slice_get (map (rank (of_callers plan labels)) (of_callers plan labels)) c) (count_by plan labels)
        (ranked_below (rank (of_callers plan labels)) (count_by plan labels) (of_callers plan labels) among c)

-- numbers that are these
pub are_islands : (plan : Plan) (labels devices others callers domains : List ℕ) (numbers : NodeNumbers) → AreShared plan labels
    → devices ≡ take (length plan.devices) labels → others ≡ drop (length plan.devices) labels
    → callers ≡ take (length plan.callers) others → domains ≡ drop (length plan.callers) others
    → numbers.count ≡ rank callers (length labels) → numbers.devices ≡ map (number_of callers) devices
    → numbers.callers ≡ map (rank callers) callers → numbers.domains ≡ map (number_of callers) domains → AreIslands plan numbers
unfolding numbers_by
are_islands plan labels devices others callers domains numbers all d o c p count_is devices_are callers_are domains_are =
    subst (AreIslands plan) (sym same) (islands_by plan labels all)
  where
    of : callers ≡ of_callers plan labels
    of = c ∙ ap (take (length plan.callers)) o

    rest : domains ≡ drop (length plan.callers) (drop (length plan.devices) labels)
    rest = p ∙ ap (drop (length plan.callers)) o

    count_same : numbers.count ≡ count_by plan labels
    count_same = count_is ∙ ap (λ l. rank l (length labels)) of ∙ ap (rank (of_callers plan labels)) all.are.one_each

    devices_same : numbers.devices ≡ map (number_of (of_callers plan labels)) (take (length plan.devices) labels)
    devices_same = devices_are ∙ ap (λ l. map (number_of l) devices) of ∙ ap (map (number_of (of_callers plan labels))) d

    callers_same : numbers.callers ≡ map (rank (of_callers plan labels)) (of_callers plan labels)
    callers_same = callers_are ∙ ap (λ l. map (rank l) l) of

    domains_same : numbers.domains ≡ map (number_of (of_callers plan labels)) (drop (length plan.callers) (drop (length plan.devices) labels))
    domains_same = domains_are ∙ ap (λ l. map (number_of l) domains) of ∙ ap (map (number_of (of_callers plan labels))) rest

    same : numbers ≡ numbers_by plan labels
    same = λ i. record { count = count_same i; devices = devices_same i; callers = callers_same i; domains = domains_same i }

pub numbering_is : (plan : Plan) (labels callers : List ℕ) (n count : ℕ) → AreShared plan labels → callers ≡ of_callers plan labels → n ≡ length labels → count ≡ rank callers n → Numbering plan count
numbering_is plan labels callers n count all of each is =
    subst (Numbering plan) (sym (is ∙ ap (λ l. rank l n) of ∙ ap (rank (of_callers plan labels)) (each ∙ all.are.one_each))) (numbering_by plan labels all)

-- by any numbering, callers have these numbers
pub caller_numbers : (plan : Plan) (labels callers numbers : List ℕ) → AreShared plan labels → callers ≡ of_callers plan labels → numbers ≡ map (rank callers) callers
    → (count : ℕ) (k : Numbering plan count) → AreNumbers plan k.island numbers
unfolding numbering_by
caller_numbers plan labels callers numbers all of are count k = record { shared = k.shared; each = each }
  where
    each : (c : ℕ) → c < length plan.callers → k.island (the_caller c) ≡ slice_index_or numbers c 0
    each c below =
        one_number plan (count_by plan labels) count (numbering_by plan labels all) k (the_caller c) ((numbering_by plan labels all).callers c below)
        ∙ sym (caller_number plan labels c 0 all.are.one_each below) ∙ ap (λ l. slice_index_or (map (rank l) l) c 0) (sym of) ∙ ap (λ l. slice_index_or l c 0) (sym are)
