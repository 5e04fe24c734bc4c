-- How labels come to be shared by all nodes that touch, one kind of tie after another.
use Rattle.std.proofs.Common.{ℕ, ◌≡◌, ◌+◌, ◌<◌, ◌≤◌, true, List, Option, Some, None, length, refl, sym, ap, subst, arith, inl, inr, ◌∙◌}
use Rattle.std.proofs.Math.ListN.{set}
use Rattle.std.proofs.lemmas.Bool.{cases_order}
use Rattle.std.proofs.lemmas.List.{get_or-set_other}
use Rattle.std.proofs.lemmas.Option.{option_and_then_some, slice_get_within, some_pair_parts}
use Rattle.std.specs.Prelude.{slice_get}
use Rattle.pm_model.specs.declared.plan.Plan.{Plan}
use Rattle.pm_model.specs.Islands.{Connected, Node, along, here, touch}
use Rattle.pm_islands.specs.declared.touching.Tie.{Tie}
use Rattle.pm_islands.specs.declared.touching.Tie.TheVariants.{OfCaller, OfDomains, ToDomain, ToParent, ToSupplier}
use Rattle.pm_islands.specs.Labels.{AreLabels, AreShared, Joined, Joins, Keeps, joined, label_at, label_of}
use Rattle.pm_islands.specs.Places.{has_node, node_at, nodes, place, places, rows, tied}
use Rattle.pm_islands.proofs.Joining.{IsJoin, joins_alone, joins_two}
use Rattle.pm_islands.proofs.NodeOrder.{is_placed, stands_there}
use Rattle.pm_islands.proofs.Ties.{earlier_parent, ties_touch, ties_within}

-- before anything is joined each node has its own label
pub labels_apart : (plan : Plan) (labels : List ℕ) → length labels ≡ nodes plan → ((k : ℕ) → k < nodes plan → label_at labels k ≡ k) → AreLabels plan labels
labels_apart plan labels one_each own = record {
  one_each = one_each;
  no_later = λ i below. omega (arith, own i below);
  first = λ i below. ap (label_at labels) (own i below);
  connected = λ i below. subst (λ k. Connected plan (node_at plan i) (node_at plan k)) (sym (own i below)) (here (node_at plan i));
}

-- the nodes that a row ties, and where they stand
record TiedAt (plan : Plan) (tie : Tie) (n a b : ℕ) : Type 0 where
  pub one : Node
  pub other : Node
  pub is : tied plan tie n ≡ Some (one, other)
  pub one_at : place plan one ≡ a
  pub other_at : place plan other ≡ b
  pub touches : touch plan one other ≡ true
  pub one_of : has_node plan one ≡ true
  pub other_of : has_node plan other ≡ true

tied_at : (plan : Plan) (tie : Tie) (n a b : ℕ) → Some (a, b) ≡ places plan (tied plan tie n) → TiedAt plan tie n a b
tied_at plan tie n a b found = go (tied plan tie n) refl found
  where
    go : (o : Option (Node × Node)) → tied plan tie n ≡ o → Some (a, b) ≡ places plan o → TiedAt plan tie n a b
    go None at is = absurd (cc)
    go (Some p) at is =
        let same = some_pair_parts a (place plan p.0) b (place plan p.1) is in
        let are = ties_touch plan tie n p at in
        record {
          one = p.0;
          other = p.1;
          is = at;
          one_at = sym same.0;
          other_at = sym same.1;
          touches = are.touches;
          one_of = are.first;
          other_of = are.second;
        }

-- they stand in the row
pub tied_within : (plan : Plan) (tie : Tie) (n a b : ℕ) → Some (a, b) ≡ places plan (tied plan tie n) → (a < nodes plan) × (b < nodes plan)
tied_within plan tie n a b found =
    let it = tied_at plan tie n a b found in
    (subst (λ k. k < nodes plan) it.one_at (is_placed plan it.one it.one_of), subst (λ k. k < nodes plan) it.other_at (is_placed plan it.other it.other_of))

connects : (plan : Plan) (a b : Node) → has_node plan a ≡ true → has_node plan b ≡ true → touch plan a b ≡ true → Connected plan (node_at plan (place plan a)) (node_at plan (place plan b))
connects plan a b a_of b_of touches =
    subst (λ x. Connected plan x (node_at plan (place plan b))) (sym (stands_there plan a a_of))
    (subst (λ y. Connected plan a y) (sym (stands_there plan b b_of)) (along a b b touches (here b)))

-- what was joined stays joined
still_joins : (plan : Plan) (tie : Tie) (n : ℕ) (old new : List ℕ) → Joins plan tie n old → Keeps plan old new → Joins plan tie n new
still_joins plan tie n old new joins keeps k a b below is =
    let are = ties_touch plan tie k (a, b) is in
    keeps (place plan a) (place plan b) (is_placed plan a are.first) (is_placed plan b are.second) (joins k a b below is)

-- no row yet
pub none_joined : (plan : Plan) (tie : Tie) (labels : List ℕ) → AreLabels plan labels → Joined plan tie 0 labels labels
none_joined plan tie labels are = record { labels = are; keeps = λ i j i_below j_below same. same; joins = λ k a b below is. absurd (omega arith) }

-- one row more, where it ties nothing
pub none_more : (plan : Plan) (tie : Tie) (n : ℕ) (old new : List ℕ) → Joined plan tie n old new → None ≡ places plan (tied plan tie n) → Joined plan tie (n + 1) old new
none_more plan tie n old new so_far none = record {
  labels = so_far.labels;
  keeps = so_far.keeps;
  joins = λ k a b below is.
      elim (cases_order k n) [
        | inl same ↦ absurd (ties_none (tied plan tie n) none (ap (tied plan tie) (sym same) ∙ is))
        | inr (inl less) ↦ so_far.joins k a b less is
        | inr (inr more) ↦ absurd (omega (arith, below, more))
      ];
}
  where
    ties_none : {p : Node × Node} (o : Option (Node × Node)) → None ≡ places plan o → o ≡ Some p → ⊥
    ties_none None none some = cc
    ties_none (Some q) none some = cc

-- and where it ties two
pub two_more : (plan : Plan) (tie : Tie) (n a b : ℕ) (old mid : List ℕ) → Joined plan tie n old mid → Some (a, b) ≡ places plan (tied plan tie n)
    → Joined plan tie (n + 1) old (joined a b mid)
two_more plan tie n a b old mid so_far found = record {
  labels = join.are;
  keeps = λ i j i_below j_below same. join.keeps i j i_below j_below (so_far.keeps i j i_below j_below same);
  joins = λ k x y below is.
      elim (cases_order k n) [
        | inl same ↦ shares x y (ap (tied plan tie) (sym same) ∙ is)
        | inr (inl less) ↦ still_joins plan tie n mid (joined a b mid) so_far.joins join.keeps k x y less is
        | inr (inr more) ↦ absurd (omega (arith, below, more))
      ];
}
  where
    it : TiedAt plan tie n a b
    it = tied_at plan tie n a b found

    within : (a < nodes plan) × (b < nodes plan)
    within = tied_within plan tie n a b found

    walk : Connected plan (node_at plan a) (node_at plan b)
    walk =
        subst (λ k. Connected plan (node_at plan k) (node_at plan b)) it.one_at
        (subst (λ k. Connected plan (node_at plan (place plan it.one)) (node_at plan k)) it.other_at (connects plan it.one it.other it.one_of it.other_of it.touches))

    join : IsJoin plan mid (joined a b mid) a b
    join = joins_two plan mid a b so_far.labels within.0 within.1 walk

    shares : (x y : Node) → tied plan tie n ≡ Some (x, y) → label_of plan (joined a b mid) x ≡ label_of plan (joined a b mid) y
    shares x y is =
        let same = some_pair_parts it.one x it.other y (sym it.is ∙ is) in
        let x_at : place plan x ≡ a = ap (place plan) (sym same.0) ∙ it.one_at in
        let y_at : place plan y ≡ b = ap (place plan) (sym same.1) ∙ it.other_at in
        ap (label_at (joined a b mid)) x_at ∙ join.shares ∙ sym (ap (label_at (joined a b mid)) y_at)

-- the first n devices have been joined to their parents, and the nodes behind them still have labels of their own
pub record ParentsJoined (plan : Plan) (n : ℕ) (old new : List ℕ) : Type 0 where
  pub joined : Joined plan ToParent n old new
  pub own : (k : ℕ) → n ≤ k → k < nodes plan → label_at new k ≡ k

-- a parent and its device stand in the row, the parent first
pub parent_within : (plan : Plan) (n a b : ℕ) → Some (a, b) ≡ places plan (tied plan ToParent n) → (a ≡ n) × ((b < n) × (n < nodes plan))
parent_within plan n a b found =
    let it = tied_at plan ToParent n a b found in
    let are = earlier_parent plan n (it.one, it.other) it.is in
    let at : a ≡ n = sym it.one_at ∙ are.0 in
    (at, (subst (λ k. k < n) it.other_at are.1, subst (λ k. k < nodes plan) at (tied_within plan ToParent n a b found).0))

-- one device more
pub parent_more : (plan : Plan) (n a b : ℕ) (old mid : List ℕ) → ParentsJoined plan n old mid → Some (a, b) ≡ places plan (tied plan ToParent n)
    → ParentsJoined plan (n + 1) old (set mid a (label_at mid b))
parent_more plan n a b old mid so_far found = record {
  joined = subst (Joined plan ToParent (n + 1) old) (sym same) (two_more plan ToParent n a b old mid so_far.joined found);
  own = λ k behind below. get_or-set_other mid a k (label_at mid b) 0 (λ e. absurd (omega (arith, behind, e, stands.0))) ∙ so_far.own k (omega (arith, behind)) below;
}
  where
    stands : (a ≡ n) × ((b < n) × (n < nodes plan))
    stands = parent_within plan n a b found

    same : set mid a (label_at mid b) ≡ joined a b mid
    same =
        joins_alone plan mid a b so_far.joined.labels (omega (arith, stands.0, stands.1.0)) (omega (arith, stands.0, stands.1.1))
        (λ k behind below. so_far.own k (omega (arith, behind, stands.0)) below)

-- and where it has no parent
pub no_parent : (plan : Plan) (n : ℕ) (old new : List ℕ) → ParentsJoined plan n old new → None ≡ places plan (tied plan ToParent n) → ParentsJoined plan (n + 1) old new
no_parent plan n old new so_far none = record {
  joined = none_more plan ToParent n old new so_far.joined none;
  own = λ k behind below. so_far.own k (omega (arith, behind)) below;
}

-- the order in which ties are gone over
abbrev pub phase : Tie → ℕ
phase ToParent = 0
phase ToDomain = 1
phase ToSupplier = 2
phase OfDomains = 3
phase (OfCaller c) = 4 + c

-- labels are shared by what ties of the first n phases tie
pub record SharedTo (plan : Plan) (n : ℕ) (labels : List ℕ) : Type 0 where
  pub are : AreLabels plan labels
  pub joins : (tie : Tie) (k : ℕ) → phase tie < n → Joins plan tie k labels

one_phase : (t u : Tie) → phase t ≡ phase u → t ≡ u
one_phase ToParent ToParent e = refl
one_phase ToDomain ToDomain e = refl
one_phase ToSupplier ToSupplier e = refl
one_phase OfDomains OfDomains e = refl
one_phase (OfCaller c) (OfCaller d) e = ap OfCaller (omega (arith, e))
one_phase ToParent ToDomain e = absurd (omega arith)
one_phase ToParent ToSupplier e = absurd (omega arith)
one_phase ToParent OfDomains e = absurd (omega arith)
one_phase ToParent (OfCaller d) e = absurd (omega arith)
one_phase ToDomain ToParent e = absurd (omega arith)
one_phase ToDomain ToSupplier e = absurd (omega arith)
one_phase ToDomain OfDomains e = absurd (omega arith)
one_phase ToDomain (OfCaller d) e = absurd (omega arith)
one_phase ToSupplier ToParent e = absurd (omega arith)
one_phase ToSupplier ToDomain e = absurd (omega arith)
one_phase ToSupplier OfDomains e = absurd (omega arith)
one_phase ToSupplier (OfCaller d) e = absurd (omega arith)
one_phase OfDomains ToParent e = absurd (omega arith)
one_phase OfDomains ToDomain e = absurd (omega arith)
one_phase OfDomains ToSupplier e = absurd (omega arith)
one_phase OfDomains (OfCaller d) e = absurd (omega arith)
one_phase (OfCaller c) ToParent e = absurd (omega arith)
one_phase (OfCaller c) ToDomain e = absurd (omega arith)
one_phase (OfCaller c) ToSupplier e = absurd (omega arith)
one_phase (OfCaller c) OfDomains e = absurd (omega arith)

pub none_shared : (plan : Plan) (labels : List ℕ) → AreLabels plan labels → SharedTo plan 0 labels
none_shared plan labels are = record { are = are; joins = λ tie k below. absurd (omega (arith, below)) }

-- one phase more
shared_more : (plan : Plan) (tie : Tie) (n : ℕ) (old new : List ℕ) → phase tie ≡ n → SharedTo plan n old → Joined plan tie (rows plan tie) old new → SharedTo plan (n + 1) new
shared_more plan tie n old new at so_far more = record {
  are = more.labels;
  joins = λ other k below.
      elim (cases_order (phase other) n) [
        | inl same ↦ subst (λ t. Joins plan t k new) (one_phase tie other (at ∙ sym same)) (λ i a b i_below is. more.joins i a b (ties_within plan tie i (a, b) is) is)
        | inr (inl less) ↦ still_joins plan other k old new (so_far.joins other k less) more.keeps
        | inr (inr later) ↦ absurd (omega (arith, below, later))
      ];
}

pub four_shared : (plan : Plan) (start one two three four : List ℕ) → AreLabels plan start
    → Joined plan ToParent (rows plan ToParent) start one → Joined plan ToDomain (rows plan ToDomain) one two
    → Joined plan ToSupplier (rows plan ToSupplier) two three → Joined plan OfDomains (rows plan OfDomains) three four → SharedTo plan 4 four
four_shared plan start one two three four are first second third last =
    shared_more plan OfDomains 3 three four refl
    (shared_more plan ToSupplier 2 two three refl
    (shared_more plan ToDomain 1 one two refl
    (shared_more plan ToParent 0 start one refl (none_shared plan start are) first) second) third) last

pub caller_shared : (plan : Plan) (c : ℕ) (old new : List ℕ) → SharedTo plan (4 + c) old → Joined plan (OfCaller c) (rows plan (OfCaller c)) old new
    → SharedTo plan (4 + (c + 1)) new
caller_shared plan c old new so_far more = subst (λ n. SharedTo plan n new) (omega arith) (shared_more plan (OfCaller c) (4 + c) old new refl so_far more)

-- all phases
pub all_shared : (plan : Plan) (n : ℕ) (labels : List ℕ) → length plan.callers ≤ n → SharedTo plan (4 + n) labels → AreShared plan labels
all_shared plan n labels all so_far = record { are = so_far.are; joins = joins }
  where
    joins : (tie : Tie) (k : ℕ) → Joins plan tie k labels
    joins ToParent k = so_far.joins ToParent k (omega arith)
    joins ToDomain k = so_far.joins ToDomain k (omega arith)
    joins ToSupplier k = so_far.joins ToSupplier k (omega arith)
    joins OfDomains k = so_far.joins OfDomains k (omega arith)
    joins (OfCaller c) k = λ i a b below is.
        option_and_then_some _ (slice_get plan.callers c) (a, b) is (λ row at gives.
        so_far.joins (OfCaller c) k (omega (arith, slice_get_within plan.callers c row at, all)) i a b below is)
