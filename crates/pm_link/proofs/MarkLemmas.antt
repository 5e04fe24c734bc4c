-- The marks of links, before any line and after one link changed.
use Rattle.std.proofs.Common.{◌≡◌, ◌≢◌, ℕ, ◌+◌, ◌<◌, ◌≤◌, Bool, true, false, not, ◌&&◌, List, map, replicate, length, get_or, set, refl, sym, ap, ◌∙◌, inl, inr, arith}
use Rattle.std.proofs.lemmas.Bool.{cases_eq}
use Rattle.std.proofs.lemmas.Grind.{get_or-set_at}
use Rattle.std.proofs.lemmas.List.{get_or_default, get_or-map, get_or-set_other, length-map, length-replicate, length-set, same_lists}
use Rattle.pm_index.proofs.MarkLemmas.{get_or_replicate_same}
use Rattle.pm_model.specs.declared.rows.LinkRow.{LinkRow}
use Rattle.pm_link.specs.declared.marks.Marks.{Marks}
use Rattle.pm_link.specs.Links.{bit_at, no_link, row_at}
use Rattle.pm_link.specs.LinkOrder.{AreRanks, IsLinkOrder}
use Rattle.pm_link.specs.Marked.{AreMarks, IsSized, is_live, is_live_at, noted, starts_live}
use Rattle.pm_link.proofs.OrderLemmas.{below_rows, rank_holds, ranks_apart}

-- two tests that agree on each link of the order mark the same
same_marks : (rows : List LinkRow) (order : List ℕ) (f g : ℕ → Bool) → IsLinkOrder rows order → ((link : ℕ) → link < length rows → f link ≡ g link) → map f order ≡ map g order
same_marks rows order f g is same =
    same_lists (map f order) (map g order) (length-map order f ∙ sym (length-map order g)) (λ k d below.
    let lt : k < length order = omega (arith, length-map order f) in
    get_or-map f order k 0 d lt ∙ same (get_or order k 0) (below_rows rows order is k 0 lt) ∙ sym (get_or-map g order k 0 d lt))

-- no mark at all
no_marks : (order : List ℕ) (f : ℕ → Bool) → ((k : ℕ) → k < length order → f (get_or order k 0) ≡ false) → replicate (length order) false ≡ map f order
no_marks order f none =
    same_lists (replicate (length order) false) (map f order) (length-replicate (length order) false ∙ sym (length-map order f)) (λ k d below.
    let lt : k < length order = omega (arith, length-replicate (length order) false) in
    get_or_default (replicate (length order) false) k d false below ∙ get_or_replicate_same (length order) k false ∙ sym (get_or-map f order k 0 d lt ∙ none k lt))

-- no link is held before any line
free_at_first : (rows : List LinkRow) (link : ℕ) → link < length rows → bit_at (map (λ row. false) rows) link ≡ false
free_at_first rows link below = get_or-map (λ row. false) rows link no_link false below

-- and those are live that are not added later
live_at_first : (rows : List LinkRow) (link : ℕ) → link < length rows → starts_live rows link ≡ is_live_at rows (map (λ row. not row.later) rows) link
live_at_first rows link below = ap (is_live (row_at rows link)) (sym (get_or-map (λ (row : LinkRow). not row.later) rows link no_link false below))

and_no : (x : Bool) → x && false ≡ false
and_no true = refl
and_no false = refl

and_yes : (x : Bool) → x && true ≡ x
and_yes true = refl
and_yes false = refl

pub fresh_marks : (rows : List LinkRow) (order : List ℕ) (marks : Marks) → IsLinkOrder rows order → marks.held ≡ replicate (length order) false → marks.live ≡ map (starts_live rows) order → marks.live_held ≡ replicate (length order) false → marks.live_free ≡ map (starts_live rows) order → AreMarks rows order (map (λ row. false) rows) (map (λ row. not row.later) rows) marks
fresh_marks rows order marks is held live live_held live_free =
    let present : List Bool = map (λ (row : LinkRow). not row.later) rows in
    let free : List Bool = map (λ row. false) rows in
    record {
      of_held = held ∙ no_marks order (bit_at free) (λ k lt. free_at_first rows (get_or order k 0) (below_rows rows order is k 0 lt));
      of_live = live ∙ same_marks rows order (starts_live rows) (is_live_at rows present) is (live_at_first rows);
      of_live_held = live_held ∙ no_marks order (λ link. is_live_at rows present link && bit_at free link) (λ k lt.
          ap (λ b. is_live_at rows present (get_or order k 0) && b) (free_at_first rows (get_or order k 0) (below_rows rows order is k 0 lt)) ∙ and_no _);
      of_live_free = live_free ∙ same_marks rows order (starts_live rows) (λ link. is_live_at rows present link && not (bit_at free link)) is (λ link below.
          live_at_first rows link below ∙ sym (ap (λ b. is_live_at rows present link && not b) (free_at_first rows link below) ∙ and_yes _));
    }

-- a list with a mark for each link that passes, up to a place of the order
pub record AreMarkedUpTo (test : ℕ → Bool) (order : List ℕ) (rank : ℕ) (marks : List Bool) : Type 0 where
  pub count_is : length marks ≡ length order
  pub before : (k : ℕ) → k < rank → get_or marks k false ≡ test (get_or order k 0)
  pub after : (k : ℕ) → rank ≤ k → get_or marks k false ≡ false

pub none_up_to : (test : ℕ → Bool) (order : List ℕ) → AreMarkedUpTo test order 0 (replicate (length order) false)
none_up_to test order = record {
  count_is = length-replicate (length order) false;
  before = λ k lt. absurd (omega arith);
  after = λ k le. get_or_replicate_same (length order) k false;
}

pub put_up_to : (test : ℕ → Bool) (order : List ℕ) (rank : ℕ) (marks : List Bool) → rank < length order → test (get_or order rank 0) ≡ true → AreMarkedUpTo test order rank marks → AreMarkedUpTo test order (rank + 1) (set marks rank true)
put_up_to test order rank marks lt pass are = record {
  count_is = length-set marks rank true ∙ are.count_is;
  before = λ k before.
      elim (cases_eq k rank) [
        | inl at ↦ get_or-set_at marks rank k true false at (omega (arith, are.count_is)) ∙ sym (ap (λ i. test (get_or order i 0)) at ∙ pass)
        | inr other ↦ get_or-set_other marks rank k true false other ∙ are.before k (omega arith)
      ];
  after = λ k le. get_or-set_other marks rank k true false (omega arith) ∙ are.after k (omega arith);
}

pub skip_up_to : (test : ℕ → Bool) (order : List ℕ) (rank : ℕ) (marks : List Bool) → test (get_or order rank 0) ≡ false → AreMarkedUpTo test order rank marks → AreMarkedUpTo test order (rank + 1) marks
skip_up_to test order rank marks fail are = record {
  count_is = are.count_is;
  before = λ k before.
      elim (cases_eq k rank) [
        | inl at ↦ are.after k (omega arith) ∙ sym (ap (λ i. test (get_or order i 0)) at ∙ fail)
        | inr other ↦ are.before k (omega arith)
      ];
  after = λ k le. are.after k (omega arith);
}

pub marked_all : (test : ℕ → Bool) (order : List ℕ) (marks : List Bool) → AreMarkedUpTo test order (length order) marks → marks ≡ map test order
marked_all test order marks are =
    same_lists marks (map test order) (are.count_is ∙ sym (length-map order test)) (λ k d below.
    let lt : k < length order = omega (arith, are.count_is) in
    get_or_default marks k d false below ∙ are.before k lt ∙ sym (get_or-map test order k 0 d lt))

-- one link is marked anew
noted_in : (rows : List LinkRow) (order : List ℕ) (list : List Bool) (passes next : ℕ → Bool) (r link : ℕ) → IsLinkOrder rows order → list ≡ map passes order → r < length order → get_or order r 0 ≡ link → ((k : ℕ) → k ≢ link → next k ≡ passes k) → set list r (next link) ≡ map next order
noted_in rows order list passes next r link is marks lt at others =
    let len : length (map passes order) ≡ length order = length-map order passes in
    let len_set : length (set (map passes order) r (next link)) ≡ length order = length-set (map passes order) r (next link) ∙ len in
    ap (λ ms. set ms r (next link)) marks
    ∙ same_lists (set (map passes order) r (next link)) (map next order) (len_set ∙ sym (length-map order next)) (λ k d below.
    let lt_k : k < length order = omega (arith, len_set) in
    elim (cases_eq k r) [
      | inl same ↦ get_or-set_at (map passes order) r k (next link) d same (omega (arith, len)) ∙ sym (get_or-map next order k 0 d lt_k ∙ ap (λ i. next (get_or order i 0)) same ∙ ap next at)
      | inr other ↦
          get_or-set_other (map passes order) r k (next link) d other
          ∙ get_or-map passes order k 0 d lt_k
          ∙ sym (get_or-map next order k 0 d lt_k ∙ others (get_or order k 0) (λ same. ranks_apart rows order is k r lt_k lt other (same ∙ sym at)))
    ])

-- after a link became held or free, or present or absent
pub noted_marks : (rows : List LinkRow) (order ranks : List ℕ) (held present held' present' : List Bool) (marks : Marks) (link : ℕ) → IsLinkOrder rows order → AreRanks order ranks → link < length rows → ((k : ℕ) → k ≢ link → bit_at held' k ≡ bit_at held k) → ((k : ℕ) → k ≢ link → bit_at present' k ≡ bit_at present k) → AreMarks rows order held present marks
    → AreMarks rows order held' present' (noted marks (get_or ranks link 0) (is_live_at rows present' link) (bit_at held' link))
noted_marks rows order ranks held present held' present' marks link is ranked below same_held same_present are =
    let r = get_or ranks link 0 in
    let (lt, at) = rank_holds rows order ranks is ranked link below in
    let live : (k : ℕ) → k ≢ link → is_live_at rows present' k ≡ is_live_at rows present k = λ k other. ap (is_live (row_at rows k)) (same_present k other) in
    record {
      of_held = noted_in rows order marks.held (bit_at held) (bit_at held') r link is are.of_held lt at same_held;
      of_live = noted_in rows order marks.live (is_live_at rows present) (is_live_at rows present') r link is are.of_live lt at live;
      of_live_held = noted_in rows order marks.live_held (λ l. is_live_at rows present l && bit_at held l) (λ l. is_live_at rows present' l && bit_at held' l) r link is are.of_live_held lt at (λ k other.
          ap (λ b. b && bit_at held' k) (live k other) ∙ ap (λ b. is_live_at rows present k && b) (same_held k other));
      of_live_free = noted_in rows order marks.live_free (λ l. is_live_at rows present l && not (bit_at held l)) (λ l. is_live_at rows present' l && not (bit_at held' l)) r link is are.of_live_free lt at (λ k other.
          ap (λ b. b && not (bit_at held' k)) (live k other) ∙ ap (λ b. is_live_at rows present k && not b) (same_held k other));
    }

-- there is a mark for each link
pub sized_marks : (rows : List LinkRow) (order : List ℕ) (held present : List Bool) (marks : Marks) → AreMarks rows order held present marks → IsSized (length order) marks
sized_marks rows order held present marks are = record {
  held = ap length are.of_held ∙ length-map order (bit_at held);
  live = ap length are.of_live ∙ length-map order (is_live_at rows present);
  live_held = ap length are.of_live_held ∙ length-map order (λ l. is_live_at rows present l && bit_at held l);
  live_free = ap length are.of_live_free ∙ length-map order (λ l. is_live_at rows present l && not (bit_at held l));
}

-- the place of a link is the place of a mark
pub rank_in_marks : (rows : List LinkRow) (order ranks : List ℕ) (held present : List Bool) (marks : Marks) (link : ℕ) → IsLinkOrder rows order → AreRanks order ranks → link < length rows → AreMarks rows order held present marks → get_or ranks link 0 < length marks.held
rank_in_marks rows order ranks held present marks link is ranked below are =
    let sized = sized_marks rows order held present marks are in
    omega (arith, (rank_holds rows order ranks is ranked link below).0, sized.held)

-- the same marks by other names of the place and of what is noted
pub noted_as : (rows : List LinkRow) (order : List ℕ) (held present : List Bool) (marks after : Marks) (r r' : ℕ) (l l' h h' : Bool) → after ≡ noted marks r l h → r ≡ r' → l ≡ l' → h ≡ h' → AreMarks rows order held present (noted marks r' l' h') → AreMarks rows order held present after
noted_as rows order held present marks after r r' l l' h h' is rank live hold are = rw (is, rank, live, hold) are
