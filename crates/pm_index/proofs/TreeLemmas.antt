-- A tree while one leaf is put anew, and what its nodes say of the leaves under them.
use Rattle.std.proofs.Common.{◌≡◌, ◌≢◌, ◌+◌, ◌*◌, ◌-◌, ◌/◌, ◌%◌, ◌^◌, ◌<◌, ◌≤◌, ◌⊎◌, ℕ, zero, suc, List, drop, length, get_or, replicate, set, sym, refl, ap, ◌∙◌, subst, inl, inr, min, add-one, arith}
use Rattle.std.proofs.lemmas.Bool.{cases_lt}
use Rattle.std.proofs.lemmas.List.{get_or-drop, get_or-replicate, length-replicate, set-get_or}
use Rattle.std.proofs.lemmas.Nat.{pow-add, pow_pos}
use Rattle.std.proofs.Math.Nat.{mul-le-mul_right, pow-suc}
use Rattle.std.proofs.Math.Pow.{pow_mono}
use Rattle.pm_index.specs.Tree.{AreKept, HoldsLesser, NoneUnder, first_leaf}

-- each inner node but this one holds the lesser of the two under it
abbrev pub AreKeptBut : ℕ → List ℕ → Type 0
AreKeptBut node nodes = (i : ℕ) → 0 < i → 2 * i + 1 < length nodes → i ≢ node → HoldsLesser nodes i

-- a power of two below another has a lesser exponent
pub below_power : (k m n : ℕ) → 2 ^ k ≤ n → n < 2 ^ m → k < m
below_power k m n above below =
    elim (cases_lt k m) [ inl less ↦ less | inr more ↦ absurd (omega (arith, pow_mono more)) ]

-- where the leaves under a node begin
pub first_leaf-zero : (n : ℕ) → first_leaf n 0 ≡ n
unfolding first_leaf
first_leaf-zero n = omega arith

pub first_leaf-left : (n l : ℕ) → first_leaf (2 * n) l ≡ first_leaf n (suc l)
unfolding first_leaf
first_leaf-left n l = omega (arith, ap (λ p. n * p) (pow-suc 2 l))

pub first_leaf-end : (n l : ℕ) → first_leaf (2 * n + 1 + 1) l ≡ first_leaf (n + 1) (suc l)
unfolding first_leaf
first_leaf-end n l = omega (arith, ap (λ p. n * p) (pow-suc 2 l), pow-suc 2 l)

pub first_leaf-more : (n l : ℕ) → first_leaf n l < first_leaf (n + 1) l
unfolding first_leaf
first_leaf-more n l = omega (arith, pow_pos l)

pub first_leaf-le : (m n l : ℕ) → m ≤ n → first_leaf m l ≤ first_leaf n l
unfolding first_leaf
first_leaf-le m n l less = mul-le-mul_right (2 ^ l) less

pub node_le_leaf : (n l : ℕ) → n ≤ first_leaf n l
unfolding first_leaf
node_le_leaf n l = grind (arith, pow_pos l)

-- the leaves, and their end, below the top node
pub leaves_end : (l : ℕ) → first_leaf 2 l ≡ 2 * first_leaf 1 l
unfolding first_leaf
leaves_end l = omega arith

pub some_leaves : (l : ℕ) → 0 < first_leaf 1 l
unfolding first_leaf
some_leaves l = omega (arith, pow_pos l)

pub one_leaf : (n : ℕ) → n ≤ 1 → n ≤ first_leaf 1 0
unfolding first_leaf
one_leaf n few = omega arith

pub enough_leaves : (n l : ℕ) → n - 1 < 2 * 2 ^ l → n ≤ first_leaf 1 (l + 1)
unfolding first_leaf
enough_leaves n l few = omega (arith, pow-suc 2 l, ap (λ k. 2 ^ k) (add-one l))

-- the lesser is one of the two
pub one_of_two : (x y : ℕ) → (min x y ≡ x) ⊎ (min x y ≡ y)
one_of_two x y =
    elim (cases_lt y x) [ inl less ↦ inr (omega arith) | inr more ↦ inl (omega arith) ]

-- where a node holds no less than the bound, no leaf under it does
pub none_under : (nodes : List ℕ) (bound : ℕ) → AreKept nodes → (l n : ℕ) → 0 < n → first_leaf (n + 1) l ≤ length nodes → bound ≤ get_or nodes n 0 → NoneUnder nodes bound (first_leaf n l) (first_leaf (n + 1) l)
none_under nodes bound kept zero n above in_range none = λ j low high.
    let at : n ≡ j = omega (arith, first_leaf-zero n, first_leaf-zero (n + 1)) in
    subst (λ (k : ℕ). bound ≤ get_or nodes k 0) at none
none_under nodes bound kept (suc l) n above in_range none = λ j low high.
    let inner : 2 * n + 1 < length nodes = omega (arith, first_leaf-end n l, node_le_leaf (2 * n + 1 + 1) l) in
    let least = kept n above inner in
    elim (cases_lt j (first_leaf (2 * n + 1) l)) [
      | inl left ↦ none_under nodes bound kept l (2 * n) (omega arith) (omega (arith, first_leaf-more (2 * n + 1) l, first_leaf-end n l)) (omega arith) j (omega (arith, first_leaf-left n l)) left
      | inr right ↦ none_under nodes bound kept l (2 * n + 1) (omega arith) (omega (arith, first_leaf-end n l)) (omega arith) j right (omega (arith, first_leaf-end n l))
    ]

-- what a node holds, some leaf under it does
pub some_under : (nodes : List ℕ) → AreKept nodes → (l n : ℕ) → 0 < n → first_leaf (n + 1) l ≤ length nodes → (j : ℕ) × (first_leaf n l ≤ j) × (j < first_leaf (n + 1) l) × (get_or nodes j 0 ≡ get_or nodes n 0)
some_under nodes kept zero n above in_range = (n, omega (arith, first_leaf-zero n), omega (arith, first_leaf-zero (n + 1)), refl)
some_under nodes kept (suc l) n above in_range =
    let inner : 2 * n + 1 < length nodes = omega (arith, first_leaf-end n l, node_le_leaf (2 * n + 1 + 1) l) in
    elim (one_of_two (get_or nodes (2 * n) 0) (get_or nodes (2 * n + 1) 0)) [
      | inl left ↦
          let s = some_under nodes kept l (2 * n) (omega arith) (omega (arith, first_leaf-more (2 * n + 1) l, first_leaf-end n l)) in
          (s.0, omega (arith, first_leaf-left n l), omega (arith, first_leaf-more (2 * n + 1) l, first_leaf-end n l), s.3 ∙ sym (kept n above inner ∙ left))
      | inr right ↦
          let s = some_under nodes kept l (2 * n + 1) (omega arith) (omega (arith, first_leaf-end n l)) in
          (s.0, omega (arith, first_leaf-left n l, first_leaf-more (2 * n) l), omega (arith, first_leaf-end n l), s.3 ∙ sym (kept n above inner ∙ right))
    ]

-- a tree that holds the same everywhere
pub same_kept : (n x : ℕ) → AreKept (replicate n x)
same_kept n x = λ i above inner.
    let len = length-replicate n x in
    let at = get_or-replicate n i x 0 (omega arith) in
    let left = get_or-replicate n (2 * i) x 0 (omega arith) in
    let right = get_or-replicate n (2 * i + 1) x 0 (omega arith) in
    omega arith

-- a descent, from a node that holds less than the bound, to one so many levels above the leaves
pub record Descent (nodes : List ℕ) (bound node levels at level : ℕ) : Type 0 where
  pub above : 0 < at
  pub starts : first_leaf node levels ≤ first_leaf at level
  pub ends : first_leaf (at + 1) level ≤ first_leaf (node + 1) levels
  pub under : get_or nodes at 0 < bound
  pub first : NoneUnder nodes bound (first_leaf node levels) (first_leaf at level)

module _ (nodes : List ℕ) (bound node levels at level : ℕ) (kept : AreKept nodes) (in_range : first_leaf (node + 1) levels ≤ length nodes) (some : 0 < level) (d : Descent nodes bound node levels at level) where
  back : suc (level - 1) ≡ level
  back = omega arith

  begins : first_leaf (2 * at) (level - 1) ≡ first_leaf at level
  begins = first_leaf-left at (level - 1) ∙ ap (first_leaf at) back

  ends_at : first_leaf (2 * at + 1 + 1) (level - 1) ≡ first_leaf (at + 1) level
  ends_at = first_leaf-end at (level - 1) ∙ ap (first_leaf (at + 1)) back

  pub descent_inner : 2 * at + 1 < length nodes
  descent_inner = omega (arith, d.ends, ends_at, node_le_leaf (2 * at + 1 + 1) (level - 1))

  pub descent_left : get_or nodes (2 * at) 0 < bound → Descent nodes bound node levels (2 * at) (level - 1)
  descent_left under = record {
    above = omega (arith, d.above);
    starts = omega (arith, d.starts, begins);
    ends = omega (arith, d.ends, ends_at, first_leaf-more (2 * at + 1) (level - 1));
    under = under;
    first = λ j low high. d.first j low (omega (arith, begins));
  }

  pub descent_right : bound ≤ get_or nodes (2 * at) 0 → Descent nodes bound node levels (2 * at + 1) (level - 1)
  descent_right not_left =
      let least = kept at d.above descent_inner in
      let none = none_under nodes bound kept (level - 1) (2 * at) (omega (arith, d.above)) (omega (arith, in_range, d.ends, ends_at, first_leaf-more (2 * at + 1) (level - 1))) not_left in
      record {
        above = omega arith;
        starts = omega (arith, d.starts, begins, first_leaf-more (2 * at) (level - 1));
        ends = omega (arith, d.ends, ends_at);
        under = omega (arith, d.under);
        first = λ j low high. elim (cases_lt j (first_leaf (2 * at) (level - 1))) [
          | inl before ↦ d.first j low (omega (arith, begins))
          | inr left ↦ none j left high
        ];
      }

-- the same where the node to the left goes by another name
pub descent_step_left : (nodes : List ℕ) (bound node levels at level left : ℕ) → left ≡ 2 * at → AreKept nodes → first_leaf (node + 1) levels ≤ length nodes → 0 < level → Descent nodes bound node levels at level → get_or nodes left 0 < bound → Descent nodes bound node levels left (level - 1)
descent_step_left nodes bound node levels at level left same kept in_range some d under =
    subst (λ (n : ℕ). Descent nodes bound node levels n (level - 1)) (sym same) (descent_left nodes bound node levels at level kept in_range some d (subst (λ (n : ℕ). get_or nodes n 0 < bound) same under))

pub descent_step_right : (nodes : List ℕ) (bound node levels at level left : ℕ) → left ≡ 2 * at → AreKept nodes → first_leaf (node + 1) levels ≤ length nodes → 0 < level → Descent nodes bound node levels at level → bound ≤ get_or nodes left 0 → Descent nodes bound node levels (left + 1) (level - 1)
descent_step_right nodes bound node levels at level left same kept in_range some d not_left =
    subst (λ (n : ℕ). Descent nodes bound node levels (n + 1) (level - 1)) (sym same) (descent_right nodes bound node levels at level kept in_range some d (subst (λ (n : ℕ). bound ≤ get_or nodes n 0) same not_left))

pub descent_begins : (nodes : List ℕ) (bound node levels : ℕ) → 0 < node → get_or nodes node 0 < bound → Descent nodes bound node levels node levels
descent_begins nodes bound node levels above under = record {
  above = above;
  starts = omega arith;
  ends = omega arith;
  under = under;
  first = λ j low high. absurd (omega arith);
}

-- a leaf at which a descent ends
pub descent_found : (nodes : List ℕ) (bound node levels at level : ℕ) → level ≡ 0 → Descent nodes bound node levels at level → (first_leaf node levels ≤ at) × (at < first_leaf (node + 1) levels) × (get_or nodes at 0 < bound)
descent_found nodes bound node levels at level none d =
    (omega (arith, d.starts, ap (first_leaf at) none, first_leaf-zero at), omega (arith, d.ends, ap (first_leaf (at + 1)) none, first_leaf-zero (at + 1)), d.under)

pub descent_first : (nodes : List ℕ) (bound node levels at level : ℕ) → level ≡ 0 → Descent nodes bound node levels at level → NoneUnder nodes bound (first_leaf node levels) at
descent_first nodes bound node levels at level none d = λ j low high. d.first j low (omega (arith, ap (first_leaf at) none, first_leaf-zero at))

pub one_less : (levels level : ℕ) → level < levels → suc (levels - (level + 1)) ≡ levels - level
one_less levels level less = omega arith

-- a climb by one level, from a leaf: no leaf from it on, under the node, holds less than the bound
pub record Climb (nodes : List ℕ) (bound from levels node level : ℕ) : Type 0 where
  pub above : first_leaf 1 (levels - level) ≤ node
  pub below : node < 2 * first_leaf 1 (levels - level)
  pub reach : from < first_leaf (node + 1) level
  pub none : NoneUnder nodes bound from (first_leaf (node + 1) level)

-- a leaf below the end of a level's nodes is one of the tree's
pub level_end : (levels level node : ℕ) → level ≤ levels → node < 2 * first_leaf 1 (levels - level) → first_leaf (node + 1) level ≤ 2 * first_leaf 1 levels
unfolding first_leaf
level_end levels level node some below =
    let back : levels - level + level ≡ levels = omega arith in
    let whole : 2 ^ (levels - level) * 2 ^ level ≡ 2 ^ levels = sym (pow-add 2 (levels - level) level) ∙ ap (λ k. 2 ^ k) back in
    let fits : (node + 1) * 2 ^ level ≤ 2 * 2 ^ (levels - level) * 2 ^ level = mul-le-mul_right (2 ^ level) (omega arith) in
    omega arith

pub level_up : (levels level : ℕ) → level < levels → first_leaf 1 (levels - level) ≡ 2 * first_leaf 1 (levels - (level + 1))
unfolding first_leaf
level_up levels level less = omega (arith, ap (λ k. 2 ^ k) (one_less levels level less), pow-suc 2 (levels - (level + 1)))

pub climb_begins : (nodes : List ℕ) (bound from levels : ℕ) → first_leaf 1 levels ≤ from → from < 2 * first_leaf 1 levels → bound ≤ get_or nodes from 0 → Climb nodes bound from levels from 0
climb_begins nodes bound from levels above below not_it =
    let all : levels - 0 ≡ levels = omega arith in
    record {
      above = omega (arith, ap (first_leaf 1) all);
      below = omega (arith, ap (first_leaf 1) all);
      reach = omega (arith, first_leaf-zero (from + 1));
      none = λ j low high. let at : from ≡ j = omega (arith, first_leaf-zero (from + 1)) in subst (λ (k : ℕ). bound ≤ get_or nodes k 0) at not_it;
    }

module _ (nodes : List ℕ) (bound from levels node level : ℕ) (halves : length nodes ≡ 2 * first_leaf 1 levels) (kept : AreKept nodes) (less : level < levels) (c : Climb nodes bound from levels node level) where
  climb_above : first_leaf 1 (levels - (level + 1)) ≤ node / 2
  climb_above = omega (arith, c.above, level_up levels level less)

  climb_below : node / 2 < 2 * first_leaf 1 (levels - (level + 1))
  climb_below = omega (arith, c.below, level_up levels level less)

  -- the node to the right of a left one ends where the node above them does
  sibling_ends : node % 2 ≡ 0 → first_leaf (node + 1 + 1) level ≡ first_leaf (node / 2 + 1) (level + 1)
  sibling_ends left =
      let half : node ≡ 2 * (node / 2) = omega arith in
      ap (λ n. first_leaf (n + 1 + 1) level) half ∙ first_leaf-end (node / 2) level ∙ ap (first_leaf (node / 2 + 1)) (sym (add-one level))

  pub sibling_in_range : node % 2 ≡ 0 → first_leaf (node + 1 + 1) level ≤ length nodes
  sibling_in_range left = omega (arith, sibling_ends left, halves, level_end levels (level + 1) (node / 2) (omega arith) climb_below)

  pub sibling_is_node : node % 2 ≡ 0 → node + 1 < length nodes
  sibling_is_node left = omega (arith, sibling_in_range left, node_le_leaf (node + 1 + 1) level)

  pub climb_right : node % 2 ≢ 0 → Climb nodes bound from levels (node / 2) (level + 1)
  climb_right right =
      let half : node + 1 ≡ 2 * (node / 2) + 1 + 1 = omega arith in
      let ends : first_leaf (node + 1) level ≡ first_leaf (node / 2 + 1) (level + 1) = ap (λ n. first_leaf n level) half ∙ first_leaf-end (node / 2) level ∙ ap (first_leaf (node / 2 + 1)) (sym (add-one level)) in
      record {
        above = climb_above;
        below = climb_below;
        reach = omega (arith, c.reach);
        none = λ j low high. c.none j low (omega arith);
      }

  pub climb_left : node % 2 ≡ 0 → bound ≤ get_or nodes (node + 1) 0 → Climb nodes bound from levels (node / 2) (level + 1)
  climb_left left not_there =
      let none = none_under nodes bound kept level (node + 1) (omega arith) (sibling_in_range left) not_there in
      record {
        above = climb_above;
        below = climb_below;
        reach = omega (arith, c.reach, sibling_ends left, first_leaf-more (node + 1) level);
        none = λ j low high. elim (cases_lt j (first_leaf (node + 1) level)) [
          | inl before ↦ c.none j low before
          | inr there ↦ none j there (omega (arith, sibling_ends left))
        ];
      }

-- at the top node the climb has looked at all leaves
pub climb_ends : (nodes : List ℕ) (bound from levels node level : ℕ) → level ≡ levels → length nodes ≡ 2 * first_leaf 1 levels → Climb nodes bound from levels node level → NoneUnder nodes bound from (length nodes)
climb_ends nodes bound from levels node level all halves c =
    let top : levels - level ≡ 0 = omega arith in
    let one : node + 1 ≡ 2 = omega (arith, c.above, c.below, ap (first_leaf 1) top, first_leaf-zero 1) in
    let end : first_leaf (node + 1) level ≡ length nodes = ap (λ n. first_leaf n level) one ∙ ap (first_leaf 2) all ∙ leaves_end levels ∙ sym halves in
    λ j low high. c.none j low (omega arith)

-- a descent that ends where it should finds the first leaf of all
pub first_of_both : (nodes : List ℕ) (bound from start leaf : ℕ) → NoneUnder nodes bound from start → NoneUnder nodes bound start leaf → NoneUnder nodes bound from leaf
first_of_both nodes bound from start leaf before under = λ j low high.
    elim (cases_lt j start) [ inl early ↦ before j low early | inr late ↦ under j late high ]

-- a leaf that is put as it was
pub set_as_is : (nodes : List ℕ) (leaves leaf key : ℕ) → get_or nodes (leaves + leaf) 0 ≡ key → drop leaves nodes ≡ set (drop leaves nodes) leaf key
set_as_is nodes leaves leaf key same =
    sym (ap (set (drop leaves nodes) leaf) (sym (get_or-drop leaves nodes leaf 0 ∙ same)) ∙ set-get_or (drop leaves nodes) leaf 0)
