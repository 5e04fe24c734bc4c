-- How many open gets of a reason there are, where one is opened or closed.
use Rattle.std.proofs.Common.{ℕ, ◌≡◌, ◌+◌, ◌<◌, Bool, true, false, cond, not, List, [], ◌∷◌, ◌++◌, length, if◌then◌else◌, ap, refl, sym, ◌∙◌, arith}
use Rattle.std.specs.List.{count_by}
use Rattle.std.proofs.lemmas.Bool.{eqb-true}
use Rattle.std.proofs.lemmas.Grind.{common_steps}
use Rattle.std.proofs.lemmas.List.Sums.{sum_by-append, sum_by-cons}
use Rattle.pm_base.specs.declared.DevId.{DevId}
use Rattle.pm_base.specs.declared.Why.{Why}
use Rattle.pm_base.specs.declared.Why.TheVariants as why
use Rattle.pm_model.specs.Counted.{is_same}
use Rattle.pm_laws.specs.counts.Sums.{one}
use Rattle.pm_why.specs.declared.gets.Count.{Count}
use Rattle.pm_why.specs.OpenGets.{is_why, is_for, without, without_earliest}

pub same_device : (c d : DevId) → is_same c d ≡ true → c ≡ d
same_device c d same = ap (λ n. let x : DevId = record { 0 = n } in x) (sym (eqb-true d.0 c.0 same))

pub same_self : (d : DevId) → is_same d d ≡ true
same_self d = grind (arith, common_steps)

-- reasons that are the same are equal
pub same_why : (a b : Why) → is_why a b ≡ true → a ≡ b
same_why why.Caller why.Caller same = refl
same_why why.Control why.Control same = refl
same_why why.Forbid why.Forbid same = refl
same_why why.Delay why.Delay same = refl
same_why (why.Child c) (why.Child d) same = ap why.Child (same_device c d same)
same_why (why.Link c) (why.Link d) same = ap why.Link (same_device c d same)
same_why _ _ same = cc

pub why_self : (a : Why) → is_why a a ≡ true
why_self (why.Child c) = same_self c
why_self (why.Link c) = same_self c
why_self _ = refl

-- how many of a list are for a reason
abbrev pub number : Why → List Count → ℕ
number w counts = count_by (is_for w) counts

pub number_cons : (w : Why) (count : Count) (counts : List Count) → number w (count ∷ counts) ≡ one (is_for w count) + number w counts
number_cons w count counts = sum_by-cons (λ (x : Count). cond (is_for w x) 1 0) count counts

pub number_opened : (w : Why) (counts : List Count) (count : Count) → number w (counts ++ count ∷ []) ≡ number w counts + one (is_for w count)
number_opened w counts count = omega (arith, sum_by-append (λ (x : Count). cond (is_for w x) 1 0) counts (count ∷ []), number_cons w count [])

-- the earliest for reason r is closed
pub number_closed : (w r : Why) (counts : List Count) → (is_why w r ≡ true → 0 < number w counts)
    → number w (without_earliest r counts) + one (is_why w r) ≡ number w counts
number_closed w r [] some = none (is_why w r) some
  where
    none : (b : Bool) → (b ≡ true → 0 < 0) → 0 + one b ≡ 0
    none true some = absurd (let never = some refl in omega arith)
    none false some = refl
number_closed w r (count ∷ counts) some = go (is_for r count) refl (number_closed w r counts)
  where
    go : (b : Bool) → is_for r count ≡ b
        → ((is_why w r ≡ true → 0 < number w counts) → number w (without_earliest r counts) + one (is_why w r) ≡ number w counts)
        → number w (if b then counts else count ∷ without_earliest r counts) + one (is_why w r) ≡ number w (count ∷ counts)
    go true e rest =
        let same : r ≡ count.why = same_why r count.why e in
        let alike : one (is_why w r) ≡ one (is_for w count) = ap (λ x. one (is_why w x)) same in
        omega (arith, number_cons w count counts)
    go false e rest =
        let later : is_why w r ≡ true → 0 < number w counts = λ is.
        let same : w ≡ r = same_why w r is in
        let other : one (is_for w count) ≡ 0 = ap (λ x. one (is_for x count)) same ∙ ap one e in
        omega (arith, some is, number_cons w count counts)
        in
        omega (arith, number_cons w count (without_earliest r counts), number_cons w count counts, rest later)

-- those of reason r are closed
pub number_freed : (w r : Why) (counts : List Count) → number w (without r counts) ≡ (if is_why w r then 0 else number w counts)
number_freed w r counts = go (is_why w r) refl counts
  where
    here : (b : Bool) → is_why w r ≡ b → (count : Count) (rest : List Count)
        → number w (without r rest) ≡ (if b then 0 else number w rest) → number w (without r (count ∷ rest)) ≡ (if b then 0 else number w (count ∷ rest))
    here b e count rest before = step (is_for r count) refl b e before
      where
        step : (k : Bool) → is_for r count ≡ k → (b : Bool) → is_why w r ≡ b → number w (without r rest) ≡ (if b then 0 else number w rest)
            → number w (if not k then count ∷ without r rest else without r rest) ≡ (if b then 0 else number w (count ∷ rest))
        step true k true e before = before
        step true k false e before =
            let same : r ≡ count.why = same_why r count.why k in
            let other : one (is_for w count) ≡ 0 = ap (λ x. one (is_why w x)) (sym same) ∙ ap one e in
            omega (arith, number_cons w count rest)
        step false k true e before =
            let same : w ≡ r = same_why w r e in
            let other : one (is_for w count) ≡ 0 = ap (λ x. one (is_for x count)) same ∙ ap one k in
            omega (arith, number_cons w count (without r rest))
        step false k false e before = omega (arith, number_cons w count (without r rest), number_cons w count rest)

    go : (b : Bool) → is_why w r ≡ b → (counts : List Count) → number w (without r counts) ≡ (if b then 0 else number w counts)
    go true e [] = refl
    go false e [] = refl
    go b e (count ∷ rest) = here b e count rest (go b e rest)

-- and how many there are in all
pub length_closed : (r : Why) (counts : List Count) → 0 < number r counts → length (without_earliest r counts) + 1 ≡ length counts
length_closed r [] some = absurd (omega arith)
length_closed r (count ∷ counts) some = go (is_for r count) refl (length_closed r counts)
  where
    go : (b : Bool) → is_for r count ≡ b → (0 < number r counts → length (without_earliest r counts) + 1 ≡ length counts)
        → length (if b then counts else count ∷ without_earliest r counts) + 1 ≡ length (count ∷ counts)
    go true e rest = omega arith
    go false e rest =
        let other : one (is_for r count) ≡ 0 = ap one e in
        omega (arith, rest (omega (arith, some, number_cons r count counts)))

pub length_freed : (r : Why) (counts : List Count) → length (without r counts) + number r counts ≡ length counts
length_freed r [] = refl
length_freed r (count ∷ counts) = go (is_for r count) refl (length_freed r counts)
  where
    go : (b : Bool) → is_for r count ≡ b → length (without r counts) + number r counts ≡ length counts
        → length (if not b then count ∷ without r counts else without r counts) + number r (count ∷ counts) ≡ length (count ∷ counts)
    go true e rest = let it : one (is_for r count) ≡ 1 = ap one e in omega (arith, number_cons r count counts)
    go false e rest = let it : one (is_for r count) ≡ 0 = ap one e in omega (arith, number_cons r count counts)
