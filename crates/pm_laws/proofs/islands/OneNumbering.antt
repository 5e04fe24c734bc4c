-- A plan has one numbering of its islands.
use Rattle.std.proofs.Common.{ℕ, zero, suc, ◌≡◌, ◌∙◌, ◌<◌, ◌≤◌, true, false, nat_lt, sym, ap, subst, inl, inr, arith}
use Rattle.std.proofs.lemmas.Bool.{cases_order, false≢true, ltb-true}
use Rattle.pm_model.specs.declared.plan.Plan.{Plan}
use Rattle.pm_model.specs.Islands.{Node, Numbering, comes_before, the_caller, the_device, the_domain}
use Rattle.pm_laws.proofs.islands.Walks.{keeps_number}

-- the order of nodes is total and strict
not_less : (a b : ℕ) → nat_lt a b ≡ false → b ≤ a
not_less a b above = grind arith

level : (a b : ℕ) → nat_lt a b ≡ false → nat_lt b a ≡ false → a ≡ b
level a b here there =
    let up = not_less a b here in
    let down = not_less b a there in
    omega arith

one_node : (a b : Node) → comes_before a b ≡ false → comes_before b a ≡ false → a ≡ b
one_node (the_device a) (the_device b) here there = ap the_device (level a b here there)
one_node (the_caller a) (the_caller b) here there = ap the_caller (level a b here there)
one_node (the_domain a) (the_domain b) here there = ap the_domain (level a b here there)
one_node (the_device a) (the_caller b) here there = absurd (false≢true (sym here))
one_node (the_device a) (the_domain b) here there = absurd (false≢true (sym here))
one_node (the_caller a) (the_device b) here there = absurd (false≢true (sym there))
one_node (the_caller a) (the_domain b) here there = absurd (false≢true (sym here))
one_node (the_domain a) (the_device b) here there = absurd (false≢true (sym there))
one_node (the_domain a) (the_caller b) here there = absurd (false≢true (sym there))

both_less : (a b : ℕ) → nat_lt a b ≡ true → nat_lt b a ≡ true → ⊥
both_less a b here there =
    let up = ltb-true a b here in
    let down = ltb-true b a there in
    omega arith

one_way : (a b : Node) → comes_before a b ≡ true → comes_before b a ≡ true → ⊥
one_way (the_device a) (the_device b) here there = both_less a b here there
one_way (the_caller a) (the_caller b) here there = both_less a b here there
one_way (the_domain a) (the_domain b) here there = both_less a b here there
one_way (the_device a) (the_caller b) here there = false≢true there
one_way (the_device a) (the_domain b) here there = false≢true there
one_way (the_caller a) (the_device b) here there = false≢true here
one_way (the_caller a) (the_domain b) here there = false≢true there
one_way (the_domain a) (the_device b) here there = false≢true here
one_way (the_domain a) (the_caller b) here there = false≢true here

-- what is one island by one numbering is one by another
stays_together :
    (plan : Plan) (m n : ℕ) (k : Numbering plan m) (l : Numbering plan n) (a b : Node)
    → k.island a < m → k.island a ≡ k.island b → l.island a ≡ l.island b
stays_together plan m n k l a b below same = keeps_number plan l.island l.shared a b (k.finest a b below same)

is_island :
    (plan : Plan) (m n : ℕ) (k : Numbering plan m) (l : Numbering plan n) (a : Node) → k.island a < m → l.island a < n
is_island plan m n k l a below =
    let caller = k.has_caller (k.island a) below in
    let same : l.island a ≡ l.island (the_caller caller.0) =
    stays_together plan m n k l a (the_caller caller.0) below (sym caller.2) in
    subst (λ x. x < n) (sym same) (l.callers caller.0 caller.1)

first_below :
    (plan : Plan) (m : ℕ) (k : Numbering plan m) (i : ℕ) → i < m → k.island (k.first i) < m
first_below plan m k i below = subst (λ x. x < m) (sym (k.is_own i below)) below

-- and it has one first node
same_first :
    (plan : Plan) (m n : ℕ) (k : Numbering plan m) (l : Numbering plan n) (i : ℕ)
    → i < m → k.first i ≡ l.first (l.island (k.first i))
same_first plan m n k l i below =
    let j = l.island (k.first i) in
    let here : k.island (k.first i) < m = first_below plan m k i below in
    let there : j < n = is_island plan m n k l (k.first i) here in
    let own : l.island (k.first i) ≡ l.island (l.first j) = sym (l.is_own j there) in
    let back : k.island (l.first j) ≡ i = sym (stays_together plan n m l k (k.first i) (l.first j) there own) ∙ k.is_own i below in
    let inside : k.island (l.first j) < m = subst (λ x. x < m) (sym back) below in
    let not_mine : comes_before (l.first j) (k.first i) ≡ false =
    subst (λ x. comes_before (l.first j) (k.first x) ≡ false) back (k.is_least (l.first j) inside) in
    one_node (k.first i) (l.first j) (l.is_least (k.first i) there) not_mine

-- numbers rise with numbers
rises :
    (plan : Plan) (m n : ℕ) (k : Numbering plan m) (l : Numbering plan n) (i j : ℕ)
    → i < j → j < m → l.island (k.first i) < l.island (k.first j)
rises plan m n k l i j less below =
    elim (cases_order x y) [
      | inl same ↦
          absurd (one_way (l.first x) (l.first x) (subst (λ z. comes_before (l.first x) (l.first z) ≡ true) (sym same) earlier)
          (subst (λ z. comes_before (l.first x) (l.first z) ≡ true) (sym same) earlier))
      | inr (inl rise) ↦ rise
      | inr (inr fall) ↦ absurd (one_way (l.first x) (l.first y) earlier (l.in_order y x fall x_below))
    ]
  where
    x : ℕ
    x = l.island (k.first i)

    y : ℕ
    y = l.island (k.first j)

    i_below : i < m
    i_below = omega arith

    x_below : l.island (k.first i) < n
    x_below = is_island plan m n k l (k.first i) (first_below plan m k i i_below)

    earlier : comes_before (l.first (l.island (k.first i))) (l.first (l.island (k.first j))) ≡ true
    earlier =
        subst (λ a. comes_before a (l.first (l.island (k.first j))) ≡ true) (same_first plan m n k l i i_below)
        (subst (λ b. comes_before (k.first i) b ≡ true) (same_first plan m n k l j below) (k.in_order i j less below))

at_least :
    (plan : Plan) (m n : ℕ) (k : Numbering plan m) (l : Numbering plan n) (i : ℕ) → i < m → i ≤ l.island (k.first i)
at_least plan m n k l zero below = omega arith
at_least plan m n k l (suc i) below =
    let earlier : i ≤ l.island (k.first i) = at_least plan m n k l i (omega arith) in
    let rise : l.island (k.first i) < l.island (k.first (suc i)) = rises plan m n k l i (suc i) (omega arith) below in
    omega arith

one_first :
    (plan : Plan) (m n : ℕ) (k : Numbering plan m) (l : Numbering plan n) (i : ℕ) → i < m → l.island (k.first i) ≡ i
one_first plan m n k l i below =
    let j = l.island (k.first i) in
    let there : j < n = is_island plan m n k l (k.first i) (first_below plan m k i below) in
    let up : i ≤ j = at_least plan m n k l i below in
    let further : j ≤ k.island (l.first j) = at_least plan n m l k j there in
    let back : k.island (l.first j) ≡ i = ap k.island (sym (same_first plan m n k l i below)) ∙ k.is_own i below in
    omega arith

pub one_number :
    (plan : Plan) (m n : ℕ) (k : Numbering plan m) (l : Numbering plan n) (a : Node) → k.island a < m → l.island a ≡ k.island a
one_number plan m n k l a below =
    stays_together plan m n k l a (k.first (k.island a)) below (sym (k.is_own (k.island a) below))
    ∙ one_first plan m n k l (k.island a) below

fits : (plan : Plan) (m n : ℕ) (k : Numbering plan m) (l : Numbering plan n) → m ≤ n
fits plan zero n k l = omega arith
fits plan (suc m) n k l =
    let last : m < suc m = omega arith in
    let up : m ≤ l.island (k.first m) = at_least plan (suc m) n k l m last in
    let below : l.island (k.first m) < n = is_island plan (suc m) n k l (k.first m) (first_below plan (suc m) k m last) in
    omega arith

pub one_count : (plan : Plan) (m n : ℕ) → Numbering plan m → Numbering plan n → m ≡ n
one_count plan m n k l =
    let up : m ≤ n = fits plan m n k l in
    let down : n ≤ m = fits plan n m l k in
    omega arith
