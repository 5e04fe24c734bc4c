-- Labels stay labels where two nodes that touch are joined, and then the two share theirs.
use Rattle.std.proofs.Common.{ℕ, ◌≡◌, ◌≢◌, ◌<◌, ◌≤◌, Bool, true, false, List, [], ◌∷◌, ◌++◌, ◌-◌, drop, length, max, min, nat_eq, take, if◌then◌else◌, refl, sym, ap, subst, arith, inl, inr, ◌∙◌, ◌⊎◌}
use Rattle.std.proofs.Math.ListN.{get_or, set}
use Rattle.std.proofs.lemmas.Bool.{cases_lt, cases_order, eq-eqb, eqb-true}
use Rattle.std.proofs.lemmas.List.{ext_get_or, get_or-map, get_or-set_other, get_or-set_same, get_or-take, length-drop, length-map, length-set, length-take, map-append, take-append-drop, take_all}
use Rattle.std.proofs.lemmas.Slice.{take-put_mid}
use borrow.Rule.Slice.PartMut.{put_mid, same_len_mid}
use Rattle.pm_model.specs.declared.plan.Plan.{Plan}
use Rattle.pm_model.specs.Islands.{Connected}
use Rattle.pm_islands.specs.Labels.{AreLabels, Keeps, joined, label_at, put_for, relabelled}
use Rattle.pm_islands.specs.Places.{node_at, nodes}
use Rattle.pm_laws.proofs.islands.Walks.{goes_back, goes_further}

puts : (from to x : ℕ) → ((x ≡ from) × (put_for from to x ≡ to)) ⊎ (put_for from to x ≡ x)
puts from to x = go (nat_eq x from) refl
  where
    go : (b : Bool) → nat_eq x from ≡ b → ((x ≡ from) × ((if b then to else x) ≡ to)) ⊎ ((if b then to else x) ≡ x)
    go true is = inl (eqb-true x from is, refl)
    go false is = inr refl

put_from : (from to : ℕ) → put_for from to from ≡ to
put_from from to = rw (eq-eqb from from refl) refl

put_to : (from to : ℕ) → put_for from to to ≡ to
put_to from to = elim (puts from to to) [ inl p ↦ p.1 | inr e ↦ e ]

put_same : (from x : ℕ) → put_for from from x ≡ x
put_same from x = elim (puts from from x) [ inl p ↦ p.1 ∙ sym p.0 | inr e ↦ e ]

pub relabelled_same : (from to : ℕ) (labels : List ℕ) → from ≡ to → relabelled from to labels ≡ labels
relabelled_same from to [] same = refl
relabelled_same from to (x ∷ labels) same =
    ap (λ y. y ∷ relabelled from to labels) (ap (λ t. put_for from t x) (sym same) ∙ put_same from x) ∙ ap (λ l. x ∷ l) (relabelled_same from to labels same)

at_new : (from to : ℕ) (labels : List ℕ) (i : ℕ) → i < length labels → label_at (relabelled from to labels) i ≡ put_for from to (label_at labels i)
at_new from to labels i below = get_or-map (put_for from to) labels i 0 0 below

-- where no label stands before the place that it names, one is put for another behind that place alone
pub relabelled_behind : (labels new : List ℕ) (from to : ℕ) → from ≤ length labels → ((k : ℕ) → k < length labels → label_at labels k ≤ k)
    → new ≡ relabelled from to (take (length labels - from) (drop from labels)) → put_mid from (length labels - from) labels new ≡ relabelled from to labels
relabelled_behind labels new from to within no_later is =
    sym (take_all (length labels) (put_mid from (length labels - from) labels new) (omega (arith, same_len_mid from (length labels - from) labels new (omega (arith, as_long, ap length rest, length-drop from labels)))))
    ∙ take-put_mid from (length labels - from) labels new (length labels) (omega (arith, as_long, within)) within
    ∙ ap (λ back. take from labels ++ back) new_is ∙ ap (λ front. front ++ relabelled from to (drop from labels)) before
    ∙ sym (map-append (put_for from to) (take from labels) (drop from labels)) ∙ ap (relabelled from to) (take-append-drop from labels)
  where
    rest : take (length labels - from) (drop from labels) ≡ drop from labels
    rest = take_all (length labels - from) (drop from labels) (omega (arith, length-drop from labels))

    new_is : new ≡ relabelled from to (drop from labels)
    new_is = is ∙ ap (relabelled from to) rest

    as_long : length new ≡ length labels - from
    as_long = ap length new_is ∙ length-map (drop from labels) (put_for from to) ∙ length-drop from labels

    short : length (take from labels) ≡ from
    short = grind (arith, length-take)

    same : (i : ℕ) → i < length (take from labels) → get_or (take from labels) i 0 ≡ get_or (relabelled from to (take from labels)) i 0
    same i below =
        let i_below : i < from = subst (λ n. i < n) short below in
        let at : label_at (take from labels) i ≡ label_at labels i = get_or-take from labels i 0 i_below in
        sym
        (at_new from to (take from labels) i below
        ∙ elim (puts from to (label_at (take from labels) i)) [ inl p ↦ absurd (omega (arith, p.0, at, no_later i (omega (arith, i_below, within)), i_below)) | inr e ↦ e ])

    before : take from labels ≡ relabelled from to (take from labels)
    before = ext_get_or 0 (take from labels) (relabelled from to (take from labels)) (sym (length-map (take from labels) (put_for from to))) same

-- one label put for another, of a node that is connected with the other's
relabels : (plan : Plan) (labels : List ℕ) (from to : ℕ) → AreLabels plan labels → to ≤ from → label_at labels to ≡ to → Connected plan (node_at plan from) (node_at plan to)
    → AreLabels plan (relabelled from to labels)
relabels plan labels from to are less first walk = record {
  one_each = length-map labels (put_for from to) ∙ are.one_each;
  no_later = no_later;
  first = firsts;
  connected = λ i below. subst (λ x. Connected plan (node_at plan i) (node_at plan x)) (sym (new i below)) (connects i below);
}
  where
    within : (i : ℕ) → i < nodes plan → i < length labels
    within i below = subst (λ n. i < n) (sym are.one_each) below

    new : (i : ℕ) → i < nodes plan → label_at (relabelled from to labels) i ≡ put_for from to (label_at labels i)
    new i below = at_new from to labels i (within i below)

    lower : (x i : ℕ) → x ≤ i → put_for from to x ≤ i
    lower x i within = elim (puts from to x) [ inl p ↦ omega (arith, p.0, p.1) | inr e ↦ omega (arith, e) ]

    no_later : (i : ℕ) → i < nodes plan → label_at (relabelled from to labels) i ≤ i
    no_later i below = subst (λ x. x ≤ i) (sym (new i below)) (lower (label_at labels i) i (are.no_later i below))

    still_first : (i : ℕ) → i < nodes plan → put_for from to (label_at labels (put_for from to (label_at labels i))) ≡ put_for from to (label_at labels i)
    still_first i below =
        elim (puts from to (label_at labels i)) [
          | inl p ↦ ap (λ x. put_for from to (label_at labels x)) p.1 ∙ ap (put_for from to) first ∙ put_to from to ∙ sym p.1
          | inr e ↦ ap (λ x. put_for from to (label_at labels x)) e ∙ ap (put_for from to) (are.first i below)
        ]

    firsts : (i : ℕ) → i < nodes plan → label_at (relabelled from to labels) (label_at (relabelled from to labels) i) ≡ label_at (relabelled from to labels) i
    firsts i below =
        let x = put_for from to (label_at labels i) in
        let x_below : put_for from to (label_at labels i) < nodes plan = omega (arith, lower (label_at labels i) i (are.no_later i below), below) in
        ap (label_at (relabelled from to labels)) (new i below) ∙ new x x_below ∙ still_first i below ∙ sym (new i below)

    connects : (i : ℕ) → i < nodes plan → Connected plan (node_at plan i) (node_at plan (put_for from to (label_at labels i)))
    connects i below =
        elim (puts from to (label_at labels i)) [
          | inl p ↦
              subst (λ x. Connected plan (node_at plan i) (node_at plan x)) (sym p.1)
              (goes_further plan (node_at plan i) (node_at plan from) (node_at plan to)
              (subst (λ x. Connected plan (node_at plan i) (node_at plan x)) p.0 (are.connected i below)) walk)
          | inr e ↦ subst (λ x. Connected plan (node_at plan i) (node_at plan x)) (sym e) (are.connected i below)
        ]

-- two places of which the nodes are connected are joined
pub record IsJoin (plan : Plan) (labels new : List ℕ) (a b : ℕ) : Type 0 where
  pub are : AreLabels plan new
  pub keeps : Keeps plan labels new
  pub shares : label_at new a ≡ label_at new b

keeps_labels : (plan : Plan) (labels : List ℕ) (from to : ℕ) → length labels ≡ nodes plan → Keeps plan labels (relabelled from to labels)
keeps_labels plan labels from to one_each i j i_below j_below same =
    at_new from to labels i (omega arith) ∙ ap (put_for from to) same ∙ sym (at_new from to labels j (omega arith))

-- the lower of two labels is put for the higher
by_order : (plan : Plan) (labels : List ℕ) (a b : ℕ) → AreLabels plan labels → a < nodes plan → b < nodes plan → Connected plan (node_at plan a) (node_at plan b)
    → label_at labels a ≤ label_at labels b → IsJoin plan labels (relabelled (label_at labels b) (label_at labels a) labels) a b
by_order plan labels a b are a_below b_below walk less = record {
  are =
      relabels plan labels (label_at labels b) (label_at labels a) are less (are.first a a_below)
      (goes_further plan (node_at plan (label_at labels b)) (node_at plan b) (node_at plan (label_at labels a))
      (goes_back plan (node_at plan b) (node_at plan (label_at labels b)) (are.connected b b_below))
      (goes_further plan (node_at plan b) (node_at plan a) (node_at plan (label_at labels a))
      (goes_back plan (node_at plan a) (node_at plan b) walk) (are.connected a a_below)));
  keeps = keeps_labels plan labels (label_at labels b) (label_at labels a) are.one_each;
  shares =
      at_new (label_at labels b) (label_at labels a) labels a (subst (λ n. a < n) (sym are.one_each) a_below)
      ∙ put_to (label_at labels b) (label_at labels a) ∙ sym (put_from (label_at labels b) (label_at labels a))
      ∙ sym (at_new (label_at labels b) (label_at labels a) labels b (subst (λ n. b < n) (sym are.one_each) b_below));
}

highest : (x y : ℕ) → x ≤ y → max x y ≡ y
highest x y less = omega arith

lowest : (x y : ℕ) → x ≤ y → min x y ≡ x
lowest x y less = omega arith

highest_first : (x y : ℕ) → y ≤ x → max x y ≡ x
highest_first x y less = omega arith

lowest_last : (x y : ℕ) → y ≤ x → min x y ≡ y
lowest_last x y less = omega arith

by_two : (labels : List ℕ) (from to high low : ℕ) → high ≡ from → low ≡ to → relabelled from to labels ≡ relabelled high low labels
by_two labels from to high low f t = ap (λ x. relabelled x to labels) (sym f) ∙ ap (λ x. relabelled high x labels) (sym t)

pub joins_two : (plan : Plan) (labels : List ℕ) (a b : ℕ) → AreLabels plan labels → a < nodes plan → b < nodes plan → Connected plan (node_at plan a) (node_at plan b)
    → IsJoin plan labels (joined a b labels) a b
joins_two plan labels a b are a_below b_below walk =
    elim (cases_lt (label_at labels a) (label_at labels b)) [
      | inl less ↦
          let within : label_at labels a ≤ label_at labels b = omega arith in
          subst (λ new. IsJoin plan labels new a b)
          (by_two labels (label_at labels b) (label_at labels a) (max (label_at labels a) (label_at labels b)) (min (label_at labels a) (label_at labels b))
          (highest (label_at labels a) (label_at labels b) within) (lowest (label_at labels a) (label_at labels b) within))
          (by_order plan labels a b are a_below b_below walk within)
      | inr within ↦
          let join = by_order plan labels b a are b_below a_below (goes_back plan (node_at plan a) (node_at plan b) walk) within in
          subst (λ new. IsJoin plan labels new a b)
          (by_two labels (label_at labels a) (label_at labels b) (max (label_at labels a) (label_at labels b)) (min (label_at labels a) (label_at labels b))
          (highest_first (label_at labels a) (label_at labels b) within) (lowest_last (label_at labels a) (label_at labels b) within))
          (record { are = join.are; keeps = join.keeps; shares = sym join.shares })
    ]

-- a label that one place alone has: another put for it changes this place
alone : (labels : List ℕ) (from to : ℕ) → from < length labels → label_at labels from ≡ from
    → ((k : ℕ) → k < length labels → k ≢ from → label_at labels k ≢ from) → set labels from to ≡ relabelled from to labels
alone labels from to within own others =
    ext_get_or 0 (set labels from to) (relabelled from to labels) (length-set labels from to ∙ sym (length-map labels (put_for from to))) (λ i below. at i (subst (λ n. i < n) (length-set labels from to) below))
  where
    at : (i : ℕ) → i < length labels → get_or (set labels from to) i 0 ≡ get_or (relabelled from to labels) i 0
    at i below =
        elim (cases_order i from) [
          | inl same ↦
              subst (λ k. get_or (set labels from to) k 0 ≡ get_or (relabelled from to labels) k 0) (sym same)
              (get_or-set_same labels from to 0 within ∙ sym (at_new from to labels from within ∙ ap (put_for from to) own ∙ put_from from to))
          | inr (inl less) ↦ elsewhere i below (λ same. absurd (omega (arith, less, same)))
          | inr (inr more) ↦ elsewhere i below (λ same. absurd (omega (arith, more, same)))
        ]
      where
        elsewhere : (k : ℕ) → k < length labels → k ≢ from → get_or (set labels from to) k 0 ≡ get_or (relabelled from to labels) k 0
        elsewhere k k_below differs =
            get_or-set_other labels from k to 0 differs
            ∙ sym (at_new from to labels k k_below ∙ elim (puts from to (label_at labels k)) [ inl p ↦ absurd (others k k_below differs p.0) | inr e ↦ e ])

-- so a node with a label of its own is joined to one that stands earlier by that place alone
pub joins_alone : (plan : Plan) (labels : List ℕ) (a b : ℕ) → AreLabels plan labels → b < a → a < nodes plan → ((k : ℕ) → a ≤ k → k < nodes plan → label_at labels k ≡ k)
    → set labels a (label_at labels b) ≡ joined a b labels
joins_alone plan labels a b are less a_below own =
    alone labels a (label_at labels b) (within a a_below) (own a (omega arith) a_below) others
    ∙ by_two labels a (label_at labels b) (max (label_at labels a) (label_at labels b)) (min (label_at labels a) (label_at labels b))
    (highest_first (label_at labels a) (label_at labels b) lower ∙ is_own) (lowest_last (label_at labels a) (label_at labels b) lower)
  where
    within : (i : ℕ) → i < nodes plan → i < length labels
    within i below = subst (λ n. i < n) (sym are.one_each) below

    is_own : label_at labels a ≡ a
    is_own = own a (omega arith) a_below

    lower : label_at labels b ≤ label_at labels a
    lower = omega (arith, are.no_later b (omega arith), is_own)

    others : (k : ℕ) → k < length labels → k ≢ a → label_at labels k ≢ a
    others k below differs same =
        let k_below : k < nodes plan = subst (λ n. k < n) are.one_each below in
        elim (cases_order k a) [
          | inl is ↦ differs is
          | inr (inl earlier) ↦ absurd (omega (arith, are.no_later k k_below, same, earlier))
          | inr (inr later) ↦ absurd (omega (arith, own k (omega arith) k_below, same, later))
        ]
