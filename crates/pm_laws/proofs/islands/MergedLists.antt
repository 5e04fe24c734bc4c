-- The merge of the islands' lawful lists, cut to the plan's lines, is lawful, and finished where all are and nothing is cut.
use Rattle.std.proofs.Common.{ℕ, zero, suc, ◌≡◌, ◌+◌, ◌<◌, ◌≤◌, Bool, true, false, cond, List, [], ◌∷◌, ◌++◌, Some, nat_eq, nat_le, length, take, drop, reverse, if◌then◌else◌, refl, sym, subst, ◌∙◌, ap, arith}
use Rattle.std.specs.Prelude.{slice_get}
use Rattle.std.specs.List.{list_all, filter}
use Rattle.std.proofs.lemmas.Bool.{and_from, and_parts, eqb-true}
use Rattle.std.proofs.lemmas.List.{reverse-append, reverse-reverse, take-append-drop, append-nil, length-reverse, length-take, take_all}
use Rattle.std.proofs.lemmas.List.Elements.{filter-append}
use Rattle.std.proofs.lemmas.List.Folds.{list_all-append}
use Rattle.std.proofs.lemmas.Option.{slice_get_within}
use Rattle.pm_base.specs.declared.ActorId.{ActorId}
use Rattle.pm_base.specs.declared.ActorId.TheVariants.{Caller, Work, Timer}
use Rattle.pm_model.specs.declared.event.Line.{Line}
use Rattle.pm_model.specs.declared.plan.Plan.{Plan}
use Rattle.pm_model.specs.declared.rows.CallerRow.{CallerRow}
use Rattle.pm_laws.specs.islands.Apart.{IsFinishedOn, IsInTime, MergeIsFinished, MergeIsLawful}
use Rattle.pm_model.specs.Islands.{merged, the_caller}
use Rattle.pm_model.specs.Lawful.{IsFinished, IsLawful, last_time}
use Rattle.pm_laws.proofs.stacks.Tests.{same_self}
use Rattle.pm_laws.proofs.islands.Finishing.{finishes, starts_finished}
use Rattle.pm_laws.proofs.islands.Isles.{Labelled, callers_in, home, is_home, isle, only_own_scripts, own_of, part, part_is, same_length, same_scripts}
use Rattle.pm_laws.proofs.islands.AlikeLists.{alike_get}
use Rattle.pm_laws.proofs.islands.Whole.{Meets, merges}
use Rattle.pm_laws.proofs.islands.OwnActors.{only_own}
use Rattle.pm_laws.proofs.islands.Region.{Island, is_actor_of}
use Rattle.pm_laws.proofs.islands.Standing.{lawful_on}
use Rattle.pm_laws.proofs.islands.MergeOrder.{AreOf, is_rising, list_of, list_of_is, merged_own, merged_rises, no_later}

abbrev line_home : {plan : Plan} → Labelled plan → Line → ℕ
line_home p x = home p x.actor

reversed : (x : Line) (xs : List Line) → reverse (x ∷ xs) ≡ reverse xs ++ (x ∷ [])
reversed x xs = reverse-append (x ∷ []) xs

filter_reverse : (p : Line → Bool) (xs : List Line) → filter p (reverse xs) ≡ reverse (filter p xs)
filter_reverse p [] = refl
filter_reverse p (x ∷ xs) = ap (filter p) (reversed x xs) ∙ filter-append p (reverse xs) (x ∷ []) ∙ go (p x) (filter_reverse p xs)
  where
    go : (b : Bool) → filter p (reverse xs) ≡ reverse (filter p xs) → filter p (reverse xs) ++ cond b (x ∷ []) [] ≡ reverse (cond b (x ∷ filter p xs) (filter p xs))
    go true e = ap (λ l. l ++ (x ∷ [])) e ∙ sym (reversed x (filter p xs))
    go false e = append-nil _ ∙ e

lawful_rest : (q : Plan) (a b : List Line) → IsLawful q (a ++ b) → IsLawful q b
lawful_rest q [] b l = l
lawful_rest q (x ∷ a) b l = lawful_rest q a b l.2

le_is : (a b : ℕ) → a ≤ b → nat_le a b ≡ true
le_is a b e = grind arith

le_le : (a b c : ℕ) → a ≤ b → b ≤ c → a ≤ c
le_le a b c x y = omega arith

le_of : (a b : ℕ) → nat_le a b ≡ true → a ≤ b
le_of a b e = grind arith

falls_end : (g : List Line) (x : Line) → IsInTime g → list_all (λ y. nat_le x.time y.time) g ≡ true → IsInTime (g ++ (x ∷ []))
falls_end [] x f all = (omega arith, tt)
falls_end (y ∷ []) x f all = (le_of x.time y.time (and_parts _ _ all).0, (omega arith, tt))
falls_end (y ∷ z ∷ g) x f all = (f.0, falls_end (z ∷ g) x f.1 (and_parts _ _ all).1)

all_reverse : (p : Line → Bool) (xs : List Line) → list_all p xs ≡ true → list_all p (reverse xs) ≡ true
all_reverse p [] e = refl
all_reverse p (x ∷ xs) e =
    let h = and_parts (p x) (list_all p xs) e in
    subst (λ l. list_all p l ≡ true) (sym (reversed x xs)) (list_all-append p (reverse xs) (x ∷ []) ∙ and_from _ _ (all_reverse p xs h.1) (rw h.0 refl))

rising_falls : (xs : List Line) → is_rising xs ≡ true → IsInTime (reverse xs)
rising_falls [] r = tt
rising_falls (x ∷ xs) r =
    let h = and_parts _ _ r in
    subst (λ l. IsInTime l) (sym (reversed x xs)) (falls_end (reverse xs) x (rising_falls xs h.1) (all_reverse (λ y. nat_le x.time y.time) xs h.0))

all_take : (p : Line → Bool) (n : ℕ) (xs : List Line) → list_all p xs ≡ true → list_all p (take n xs) ≡ true
all_take p zero xs e = refl
all_take p (suc n) [] e = refl
all_take p (suc n) (x ∷ xs) e = let h = and_parts (p x) (list_all p xs) e in rw (h.0, all_take p n xs h.1) refl

rising_take : (n : ℕ) (xs : List Line) → is_rising xs ≡ true → is_rising (take n xs) ≡ true
rising_take zero xs r = refl
rising_take (suc n) [] r = refl
rising_take (suc n) (x ∷ xs) r = let h = and_parts _ _ r in rw (all_take (λ y. nat_le x.time y.time) n xs h.0, rising_take n xs h.1) refl

-- the lists are of the islands, in order, and each is lawful for its part
pub record OfIslands (plan : Plan) (p : Labelled plan) (lists : List (List Line)) : Type 0 where
  pub are : AreOf (line_home p) 0 lists
  pub lawful : (k : ℕ) → IsLawful (part p k) (reverse (list_of k 0 lists))

-- the lines of an island in the whole merge
own_merged : (plan : Plan) (p : Labelled plan) (k : ℕ) (lists : List (List Line)) → AreOf (line_home p) 0 lists → own_of p k (reverse (merged lists)) ≡ reverse (list_of k 0 lists)
own_merged plan p k lists are = filter_reverse (λ x. nat_eq (line_home p x) k) (merged lists) ∙ ap reverse (merged_own (line_home p) k 0 lists are)

-- and in the merge that is cut
own_lawful : (plan : Plan) (p : Labelled plan) (k : ℕ) (lists : List (List Line)) → OfIslands plan p lists
    → IsLawful (part p k) (own_of p k (reverse (take plan.lines (merged lists))))
own_lawful plan p k lists l =
    let m = merged lists in
    let cut = reverse (take plan.lines m) in
    let gone = reverse (drop plan.lines m) in
    let whole : reverse m ≡ gone ++ cut = ap reverse (sym (take-append-drop plan.lines m)) ∙ reverse-append (take plan.lines m) (drop plan.lines m) in
    let split : own_of p k (reverse m) ≡ own_of p k gone ++ own_of p k cut = ap (own_of p k) whole ∙ filter-append (λ x. nat_eq (line_home p x) k) gone cut in
    lawful_rest (part p k) (own_of p k gone) (own_of p k cut) (subst (λ x. IsLawful (part p k) x) (sym (own_merged plan p k lists l.are) ∙ split) (l.lawful k))

merge_of : (plan : Plan) (p : Labelled plan) (lists : List (List Line)) → OfIslands plan p lists
    → IsLawful plan (reverse (take plan.lines (merged lists))) × Meets p (reverse (take plan.lines (merged lists)))
merge_of plan p lists l =
    let m = merged lists in
    let size : length (reverse (take plan.lines m)) ≤ plan.lines = grind (arith, length-reverse (take plan.lines m), length-take plan.lines m) in
    merges plan p (reverse (take plan.lines m)) (rising_falls (take plan.lines m) (rising_take plan.lines m (merged_rises lists))) size (λ k. own_lawful plan p k lists l)

-- an island in its own plan
in_part : (plan : Plan) (p : Labelled plan) (i : ℕ) → Island (part p i)
in_part plan p i = record {
  region = record {
    inside = (isle p i).region.inside;
    domains = (isle p i).region.domains;
    parents = (isle p i).region.parents;
    attached = (isle p i).region.attached;
    above = (isle p i).region.above;
    linked = (isle p i).region.linked;
  };
  callers = (isle p i).callers;
  scripts = λ c row n command mine at is takes.
      (isle p i).scripts c row n command mine (sym (alike_get (isle p i).callers (callers_in p i) plan.callers c (same_scripts p i) mine) ∙ at) is takes;
}

-- the lines of a lawful list of a part are of the island's actors
all_home : (plan : Plan) (p : Labelled plan) → (i : ℕ) (h : List Line) → IsLawful (part p i) h → list_all (λ x. nat_eq (line_home p x) i) h ≡ true
unfolding in_part isle
all_home plan p i h lawful =
    let alone = only_own (part p i) (in_part plan p i) (λ c row out at. only_own_scripts p i c row out at) h lawful in
    go h alone.all
  where
    actor : (a : ActorId) → is_actor_of (in_part plan p i) a ≡ is_actor_of (isle p i) a
    actor (Caller c) = refl
    actor (Work d) = refl
    actor (Timer d) = refl

    go : (h : List Line) → list_all (λ x. is_actor_of (in_part plan p i) x.actor) h ≡ true → list_all (λ x. nat_eq (line_home p x) i) h ≡ true
    go [] e = refl
    go (x ∷ h) e =
        let f = and_parts (is_actor_of (in_part plan p i) x.actor) _ e in
        let here : nat_eq (line_home p x) i ≡ true = sym (is_home p i x.actor) ∙ sym (actor x.actor) ∙ f.0 in
        rw (here, go h f.1) refl

-- a lawful list, in order, rises
earlier : (t : ℕ) (q : Plan) (h : List Line) → IsLawful q h → last_time h ≤ t → list_all (λ x. nat_le x.time t) h ≡ true
earlier t q [] l e = refl
earlier t q (x ∷ h) l e = rw (le_is x.time t e, earlier t q h l.2 (le_le _ _ _ l.0.in_time e)) refl

rising_end : (xs : List Line) (x : Line) → is_rising xs ≡ true → list_all (λ y. nat_le y.time x.time) xs ≡ true → is_rising (xs ++ (x ∷ [])) ≡ true
rising_end [] x r e = refl
rising_end (y ∷ xs) x r e =
    let f = and_parts (no_later y.time xs) (is_rising xs) r in
    let g = and_parts (nat_le y.time x.time) (list_all (λ y. nat_le y.time x.time) xs) e in
    rw (list_all-append (λ z. nat_le y.time z.time) xs (x ∷ []) ∙ and_from _ _ f.0 (rw g.0 refl), rising_end xs x f.1 g.1) refl

lawful_rises : (q : Plan) (h : List Line) → IsLawful q h → is_rising (reverse h) ≡ true
lawful_rises q [] l = refl
lawful_rises q (x ∷ h) l =
    subst (λ y. is_rising y ≡ true) (sym (reversed x h))
    (rising_end (reverse h) x (lawful_rises q h l.2) (all_reverse (λ y. nat_le y.time x.time) h (earlier x.time q h l.2 l.0.in_time)))

past : (k n : ℕ) (lists : List (List Line)) → k < n → list_of k n lists ≡ []
past k n [] below = refl
past k n (lines ∷ lists) below = rw (apart n k below) (past k (n + 1) lists (omega (arith, below)))
  where
    apart : (n k : ℕ) → k < n → nat_eq n k ≡ false
    apart n k below = grind arith

-- what holds of each list
each_list : (home : Line → ℕ) (n : ℕ) (lists : List (List Line)) → ((k : ℕ) → (list_all (λ x. nat_eq (home x) k) (list_of k n lists) ≡ true) × (is_rising (list_of k n lists) ≡ true)) → AreOf home n lists
each_list home n [] each = tt
each_list home n (lines ∷ lists) each = (head (each n).0, head_rises (each n).1, each_list home (n + 1) lists (λ k. tail k (nat_eq n k) refl (each k)))
  where
    head : list_all (λ x. nat_eq (home x) n) (if nat_eq n n then lines else list_of n (n + 1) lists) ≡ true → list_all (λ x. nat_eq (home x) n) lines ≡ true
    head e = subst (λ b. list_all (λ x. nat_eq (home x) n) (if b then lines else list_of n (n + 1) lists) ≡ true) (same_self n) e

    head_rises : is_rising (if nat_eq n n then lines else list_of n (n + 1) lists) ≡ true → is_rising lines ≡ true
    head_rises e = subst (λ b. is_rising (if b then lines else list_of n (n + 1) lists) ≡ true) (same_self n) e

    tail : (k : ℕ) (b : Bool) → nat_eq n k ≡ b
        → (list_all (λ x. nat_eq (home x) k) (if nat_eq n k then lines else list_of k (n + 1) lists) ≡ true) × (is_rising (if nat_eq n k then lines else list_of k (n + 1) lists) ≡ true)
        → (list_all (λ x. nat_eq (home x) k) (list_of k (n + 1) lists) ≡ true) × (is_rising (list_of k (n + 1) lists) ≡ true)
    tail k false e x =
        subst (λ b. (list_all (λ x. nat_eq (home x) k) (if b then lines else list_of k (n + 1) lists) ≡ true) × (is_rising (if b then lines else list_of k (n + 1) lists) ≡ true)) e x
    tail k true e x =
        let same : n ≡ k = eqb-true n k e in
        let none : list_of k (n + 1) lists ≡ [] = past k (n + 1) lists (omega (arith, same)) in
        (rw none refl, rw none refl)

lists_of : (plan : Plan) (p : Labelled plan) (lists : List (List Line)) → ((k : ℕ) → IsLawful (part p k) (reverse (list_of k 0 lists))) → OfIslands plan p lists
lists_of plan p lists lawful = record { are = each_list (line_home p) 0 lists (λ k. (its k, rises k)); lawful = lawful }
  where
    its : (k : ℕ) → list_all (λ x. nat_eq (line_home p x) k) (list_of k 0 lists) ≡ true
    its k = subst (λ l. list_all (λ x. nat_eq (line_home p x) k) l ≡ true) (reverse-reverse (list_of k 0 lists))
        (all_reverse (λ x. nat_eq (line_home p x) k) (reverse (list_of k 0 lists)) (all_home plan p k (reverse (list_of k 0 lists)) (lawful k)))

    rises : (k : ℕ) → is_rising (list_of k 0 lists) ≡ true
    rises k = subst (λ l. is_rising l ≡ true) (reverse-reverse (list_of k 0 lists)) (lawful_rises (part p k) (reverse (list_of k 0 lists)) (lawful k))

none_before : (j k : ℕ) → k ≡ 0 + j → j ≡ k
none_before j k e = omega (arith, e)

pub merge_is_lawful : (plan : Plan) → MergeIsLawful plan
merge_is_lawful plan island lists shared each = (merge_of plan p lists (lists_of plan p lists lawful)).0
  where
    p : Labelled plan
    p = record { island = island; shared = shared }

    lawful : (k : ℕ) → IsLawful (part p k) (reverse (list_of k 0 lists))
    lawful k = list_of_is (λ l. IsLawful (part p k) (reverse l)) k 0 lists (λ _. tt)
        (λ j lines at is. subst (λ n. IsLawful (part p n) (reverse lines)) (none_before j k at) (lawful_on p j (reverse lines) (each j lines is)))

-- an island without a list has no caller, and is finished from the start
unlisted_finished : (plan : Plan) (p : Labelled plan) (k : ℕ) → ((c : ℕ) → c < length plan.callers → p.island (the_caller c) < k) → IsFinished (part p k) []
unlisted_finished plan p k below = starts_finished (part p k) (λ c row at. only_own_scripts p k c row (apart c row at) at)
  where
    differ : (n k : ℕ) → n < k → nat_eq n k ≡ false
    differ n k lt = grind arith

    apart : (c : ℕ) (row : CallerRow) → slice_get (callers_in p k) c ≡ Some row → nat_eq (p.island (the_caller c)) k ≡ false
    apart c row at =
        let within = slice_get_within (callers_in p k) c row at in
        let same = same_length (λ c. nat_eq (p.island (the_caller c)) k) plan.callers in
        differ (p.island (the_caller c)) k (below c (omega (arith, within, same)))

pub merge_is_finished : (plan : Plan) → MergeIsFinished plan
merge_is_finished plan island lists shared each listed room = finishes plan p cut (merge_of plan p lists all).1 done
  where
    p : Labelled plan
    p = record { island = island; shared = shared }

    cut : List Line
    cut = reverse (take plan.lines (merged lists))

    passes : (k : ℕ) → IsLawful (part p k) (reverse (list_of k 0 lists)) × IsFinished (part p k) (reverse (list_of k 0 lists))
    passes k = list_of_is (λ l. IsLawful (part p k) (reverse l) × IsFinished (part p k) (reverse l)) k 0 lists
        (λ past. (tt, unlisted_finished plan p k (λ c lt. let own = listed c lt in let f = past k (omega arith) in omega (arith, own, f))))
        (λ j lines at is. subst (λ n. IsLawful (part p n) (reverse lines) × IsFinished (part p n) (reverse lines)) (none_before j k at) (found j lines (each j lines is)))
      where
        found : (j : ℕ) (lines : List Line) → IsFinishedOn plan island j (reverse lines) → IsLawful (part p j) (reverse lines) × IsFinished (part p j) (reverse lines)
        found j lines on = subst (λ q. IsLawful q (reverse lines) × IsFinished q (reverse lines)) (part_is p j on.0 on.1) (on.2, on.3)

    all : OfIslands plan p lists
    all = lists_of plan p lists (λ k. (passes k).0)

    done : (k : ℕ) → IsFinished (part p k) (own_of p k cut)
    done k =
        let same : own_of p k cut ≡ reverse (list_of k 0 lists) =
        ap (λ l. own_of p k (reverse l)) (take_all plan.lines (merged lists) room) ∙ own_merged plan p k lists all.are in
        subst (λ l. IsFinished (part p k) l) (sym same) (passes k).1
