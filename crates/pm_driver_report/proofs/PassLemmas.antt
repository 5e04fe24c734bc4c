-- What was gone through, put together.
use Rattle.std.proofs.Common.{ℕ, ◌≡◌, ◌∙◌, ◌<◌, ◌≤◌, ◌-◌, drop, get_or, take, arith, List, [], ◌∷◌, ◌++◌, OnOk, IfOk, Result, Ok, Err, ap, append-nil, append_assoc, length, refl, subst, sym}
use Rattle.std.proofs.lemmas.List.{take_all}
use Rattle.pm_base.specs.declared.errors.NoMemory.{NoMemory}
use Rattle.pm_driver_find.specs.declared.examined.ExaminedDriver.{ExaminedDriver}
use Rattle.pm_driver_report.specs.Passes.{AddsPasses, AreThrough, IsPassOf, eager_part, eager_parts, none_asked, none_left, one_through, states_for}
use Rattle.pm_driver_report.specs.declared.passes.DriverPass.{DriverPass}
use Rattle.pm_driver_report.specs.declared.passes.PassAsked.{PassAsked}

-- nothing is asked for
pub none_is_asked : (E : ExaminedDriver) (most left : ℕ) (asked : List PassAsked) (passes : List DriverPass) → asked ≡ [] → AddsPasses E most left asked passes passes
none_is_asked E most left asked passes none = record { added = []; are = sym (append-nil passes); through = subst (λ (l : List PassAsked). AreThrough E most left l []) (sym none) (none_asked left) }

-- or nothing is left
pub none_is_left : (E : ExaminedDriver) (most left : ℕ) (asked : List PassAsked) (passes : List DriverPass) → left ≡ 0 → AddsPasses E most left asked passes passes
none_is_left E most left asked passes none = record { added = []; are = sym (append-nil passes); through = subst (λ n. AreThrough E most n asked []) (sym none) (none_left asked) }

-- one pass, and those behind it
pub one_is_through : (E : ExaminedDriver) (most left rest : ℕ) (first : PassAsked) (asked : List PassAsked) (pass : DriverPass) (old one new : List DriverPass) → 0 < left → IsPassOf E first most (states_for first left) pass → one ≡ old ++ pass ∷ []
    → rest ≡ left - length pass.all.found.tree.nodes.keys → AddsPasses E most rest asked one new → AddsPasses E most left (first ∷ asked) old new
one_is_through E most left rest first asked pass old one new some is pushed behind more = record {
  added = pass ∷ more.added;
  are = more.are ∙ ap (λ l. l ++ more.added) pushed ∙ append_assoc old (pass ∷ []) more.added;
  through = one_through left first asked pass more.added some is (subst (λ n. AreThrough E most n asked more.added) behind more.through);
}

-- the first of a list, which has some, and those behind it
pub nil_below : {A : Type 0} (xs : List A) → length xs < 1 → xs ≡ []
nil_below [] lt = refl
nil_below (x ∷ xs) lt = absurd (omega (arith, lt))

pub one_behind : (E : ExaminedDriver) (most left rest states : ℕ) (d : PassAsked) (all : List PassAsked) (pass : DriverPass) (old one new : List DriverPass) → 1 ≤ length all → 0 < left → IsPassOf E (get_or all 0 d) most states pass → states ≡ states_for (get_or all 0 d) left
    → one ≡ old ++ pass ∷ [] → rest ≡ left - length pass.all.found.tree.nodes.keys → AddsPasses E most rest (take (length all - 1) (drop 1 all)) one new → AddsPasses E most left all old new
one_behind E most left rest states d [] pass old one new many some is by pushed behind more = absurd (omega (arith, many))
one_behind E most left rest states d (first ∷ asked) pass old one new many some is by pushed behind more =
    let less : length (first ∷ asked) - 1 ≡ length asked = omega arith in
    let others : take (length (first ∷ asked) - 1) (drop 1 (first ∷ asked)) ≡ asked = ap (λ n. take n asked) less ∙ take_all (length asked) asked (omega arith) in
    one_is_through E most left rest first asked pass old one new some (subst (λ n. IsPassOf E first most n pass) by is) pushed behind (subst (λ (l : List PassAsked). AddsPasses E most rest l one new) others more)
