-- The books of all islands, finished and merged, are a finished run of the plan.
use Rattle.std.proofs.Common.{◌≡◌, ◌+◌, ◌<◌, ◌≤◌, ◌^◌, ◌⊎◌, ℕ, zero, suc, Bool, true, false, List, [], ◌∷◌, ◌++◌, Option, Some, None, Result, Ok, Err, IfOk, IfSome, length, nat_le, option_map, reverse, slice_get, take, refl, sym, ap, subst, arith, inl, inr, ◌∙◌, ⊎_elim, if◌then◌else◌}
use Rattle.std.specs.List.{list_all}
use Rattle.std.proofs.lemmas.Bool.{and_from, and_parts, le-leb, leb-true}
use Rattle.std.proofs.lemmas.List.{length-map, reverse-append, reverse-reverse}
use Rattle.std.proofs.lemmas.List.Folds.{list_all-append}
use Rattle.std.proofs.lemmas.List.Elements.{All-cons}
use Rattle.std.proofs.lemmas.Option.{same_Some, slice_get-map}
use Rattle.pm_model.specs.declared.event.Line.{Line}
use Rattle.pm_model.specs.declared.plan.Plan.{Plan}
use Rattle.pm_model.specs.History.{History}
use Rattle.pm_model.specs.Islands.{Numbering, merge_in, merged, put_in}
use Rattle.pm_model.specs.Lawful.{IsFinished, IsLawful, last_time}
use Rattle.pm_model.specs.LineOf.{is_line_of}
use Rattle.pm_laws.specs.islands.Apart.{EachPasses, IsFinishedOn, IsInTime, MergeIsFinished, MergeIsLawful}
use Rattle.pm_book.specs.Pages.{Pages}
use Rattle.pm_islands.specs.Next.{AreInTime}
use Rattle.pm_cmd_top.specs.Gathering.{EachIsWhole, IsFinishedRun, lists}

-- a list is the one whose reverse is known
pub reverse_back : (h lines : List Line) → reverse lines ≡ h → lines ≡ reverse h
reverse_back h lines is = sym (reverse-reverse lines) ∙ ap reverse is

-- one more item
pub get_more : (xs : List Pages) (x : Pages) (n : ℕ) (p : Pages) → slice_get (xs ++ x ∷ []) n ≡ Some p → (slice_get xs n ≡ Some p) ⊎ ((n ≡ length xs) × (x ≡ p))
get_more [] x zero p e = inr (refl, same_Some x p e)
get_more [] x (suc n) p e = cc e
get_more (y ∷ ys) x zero p e = inl e
get_more (y ∷ ys) x (suc n) p e = ⊎_elim (λ there. inl there) (λ (last : (n ≡ length ys) × (x ≡ p)). inr (ap suc last.0, last.1)) (get_more ys x n p e)

-- times don't fall in a lawful list
lawful_in_time : (plan : Plan) (h : History) → IsLawful plan h → IsInTime h
lawful_in_time plan [] lawful = tt
lawful_in_time plan (line ∷ h) lawful = (lawful.0.in_time, lawful_in_time plan h lawful.2)

pub lists_in_time : (books : List Pages) → ((n : ℕ) (p : Pages) → slice_get books n ≡ Some p → IsLawful p.plan p.lines) → AreInTime (lists books)
lists_in_time [] each = λ k d below. absurd (omega (arith, below))
lists_in_time (b ∷ bs) each =
    All-cons (λ l. IsInTime (reverse l)) (reverse b.lines) (lists bs) (subst (λ l. IsInTime l) (sym (reverse-reverse b.lines)) (lawful_in_time b.plan b.lines (each 0 b refl)))
    (lists_in_time bs (λ n p at. each (suc n) p at))

-- a beginning that is shorter than it may be is the whole
take_short : (n : ℕ) (xs : List Line) → length (take (suc n) xs) ≤ n → take (suc n) xs ≡ xs
take_short n [] le = refl
take_short zero (x ∷ xs) le = absurd (omega (arith, le))
take_short (suc n) (x ∷ xs) le = ap (λ l. x ∷ l) (take_short n xs (omega (arith, le)))

pub take_whole : (n : ℕ) (xs lines : List Line) → lines ≡ take (n + 1) xs → length lines ≤ n → lines ≡ xs
take_whole n xs lines is le =
    let plus : n + 1 ≡ suc n = omega arith in
    let same : lines ≡ take (suc n) xs = is ∙ ap (λ m. take m xs) plus in
    same ∙ take_short n xs (subst (λ l. length l ≤ n) same le)

take_all : (n : ℕ) (xs : List Line) → length xs ≤ n → take n xs ≡ xs
take_all zero [] le = refl
take_all (suc n) [] le = refl
take_all zero (x ∷ xs) le = absurd (omega (arith, le))
take_all (suc n) (x ∷ xs) le = ap (λ l. x ∷ l) (take_all n xs (omega (arith, le)))

-- each list is finished on its island
each_finished : (plan : Plan) (count : ℕ) (k : Numbering plan count) (books : List Pages) → EachIsWhole plan books → EachPasses (IsFinishedOn plan k.island) (lists books)
each_finished plan count k books all n lines at = go (slice_get books n) refl (sym (slice_get-map (λ (p : Pages). reverse p.lines) books n) ∙ at)
  where
    go : (o : Option Pages) → slice_get books n ≡ o → option_map (λ (p : Pages). reverse p.lines) o ≡ Some lines → IsFinishedOn plan k.island n (reverse lines)
    go None there is = cc is
    go (Some p) there is =
        let whole = all n p there in
        let same : p.lines ≡ reverse lines = sym (reverse-reverse p.lines) ∙ ap reverse (same_Some (reverse p.lines) lines is) in
        (p.plan, whole.part count k, subst (λ h. IsLawful p.plan h) same whole.lawful, subst (λ h. IsFinished p.plan h) same whole.finished)

gathers_lawful : (plan : Plan) (count : ℕ) (k : Numbering plan count) (books : List Pages) (lines : List Line) → MergeIsLawful plan → EachIsWhole plan books
    → lines ≡ merged (lists books) → length lines ≤ plan.lines → IsLawful plan (reverse lines)
gathers_lawful plan count k books lines law all is few =
    let whole = take_all plan.lines (merged (lists books)) (subst (λ l. length l ≤ plan.lines) is few) in
    subst (λ l. IsLawful plan (reverse l)) (whole ∙ sym is)
    (law k.island (lists books) k.shared (λ n l at. let f = each_finished plan count k books all n l at in (f.0, f.1, f.2)))

gathers_finished : (plan : Plan) (count : ℕ) (k : Numbering plan count) (books : List Pages) (lines : List Line) → MergeIsFinished plan → EachIsWhole plan books → length books ≡ count
    → lines ≡ merged (lists books) → length lines ≤ plan.lines → IsFinished plan (reverse lines)
gathers_finished plan count k books lines law all one_each is few =
    let few' = subst (λ l. length l ≤ plan.lines) is few in
    let whole = take_all plan.lines (merged (lists books)) few' in
    let as_many : length (lists books) ≡ count = length-map books (λ (p : Pages). reverse p.lines) ∙ one_each in
    subst (λ l. IsFinished plan (reverse l)) (whole ∙ sym is)
    (law k.island (lists books) k.shared (each_finished plan count k books all) (λ c below. let in_range = k.callers c below in omega (arith, as_many, in_range)) few')

-- no line of a lawful list is later than its last
lawful_below : (t : ℕ) (q : Plan) (h : History) → IsLawful q h → last_time h ≤ t → list_all (λ (x : Line). nat_le x.time t) h ≡ true
lawful_below t q [] lawful le = refl
lawful_below t q (x ∷ h) lawful le =
    let before = lawful.0.in_time in
    and_from _ _ (le-leb x.time t le) (lawful_below t q h lawful.2 (omega (arith, before, le)))

-- what all lines of some lists are, those of their merge are
all_put_in : (p : Line → Bool) (x : Line) (ys : List Line) → p x ≡ true → list_all p ys ≡ true → list_all p (put_in x ys) ≡ true
all_put_in p x [] its all = and_from _ _ its refl
all_put_in p x (y ∷ ys) its all = let parts = and_parts (p y) (list_all p ys) all in go (nat_le x.time y.time) parts.0 (all_put_in p x ys its parts.1)
  where
    go : (b : Bool) → p y ≡ true → list_all p (put_in x ys) ≡ true → list_all p (if b then x ∷ y ∷ ys else y ∷ put_in x ys) ≡ true
    go true first rest = and_from _ _ its all
    go false first rest = and_from _ _ first rest

all_merge_in : (p : Line → Bool) (xs rest : List Line) → list_all p xs ≡ true → list_all p rest ≡ true → list_all p (merge_in xs rest) ≡ true
all_merge_in p [] rest xs_all all = all
all_merge_in p (x ∷ xs) rest xs_all all = let parts = and_parts (p x) (list_all p xs) xs_all in all_put_in p x (merge_in xs rest) parts.0 (all_merge_in p xs rest parts.1 all)

all_reverse : (p : Line → Bool) (xs : List Line) → list_all p xs ≡ true → list_all p (reverse xs) ≡ true
all_reverse p [] all = refl
all_reverse p (x ∷ xs) all =
    let parts = and_parts (p x) (list_all p xs) all in
    subst (λ l. list_all p l ≡ true) (sym (reverse-append (x ∷ []) xs)) (list_all-append p (reverse xs) (x ∷ []) ∙ and_from _ _ (all_reverse p xs parts.1) (and_from _ _ parts.0 refl))

all_merged : (t : ℕ) (books : List Pages) → ((n : ℕ) (p : Pages) → slice_get books n ≡ Some p → IsLawful p.plan p.lines × (last_time p.lines ≤ t))
    → list_all (λ (x : Line). nat_le x.time t) (merged (lists books)) ≡ true
all_merged t [] each = refl
all_merged t (b ∷ bs) each =
    let first = each 0 b refl in
    all_merge_in (λ (x : Line). nat_le x.time t) (reverse b.lines) (merged (lists bs)) (all_reverse (λ (x : Line). nat_le x.time t) b.lines (lawful_below t b.plan b.lines first.0 first.1))
    (all_merged t bs (λ n p at. each (suc n) p at))

last_below : (t : ℕ) (h : List Line) → list_all (λ (x : Line). nat_le x.time t) h ≡ true → last_time h ≤ t
last_below t [] all = omega arith
last_below t (x ∷ h) all = leb-true x.time t (and_parts (nat_le x.time t) _ all).0

gathers_in_time : (plan : Plan) (books : List Pages) (lines : List Line) → EachIsWhole plan books → lines ≡ merged (lists books) → last_time (reverse lines) < 2 ^ 63
gathers_in_time plan books lines all is =
    let each : (n : ℕ) (p : Pages) → slice_get books n ≡ Some p → IsLawful p.plan p.lines × (last_time p.lines ≤ 2 ^ 62) = λ n p at. let whole = all n p at in (whole.lawful, whole.in_time) in
    let le = last_below (2 ^ 62) (reverse lines)
    (all_reverse (λ (x : Line). nat_le x.time (2 ^ 62)) lines (subst (λ l. list_all (λ (x : Line). nat_le x.time (2 ^ 62)) l ≡ true) (sym is) (all_merged (2 ^ 62) books each))) in
    omega (arith, le)

-- each lawful list whose last line isn't later than 2^63 has texts
abbrev pub AllOfPlan : Type 0
AllOfPlan = (plan : Plan) (h : History) → IsLawful plan h → last_time h < 2 ^ 63 → list_all (is_line_of plan) h ≡ true

pub gathers : (plan : Plan) (count : ℕ) (k : Numbering plan count) (books : List Pages) (lines : List Line) → MergeIsLawful plan → MergeIsFinished plan → AllOfPlan → EachIsWhole plan books
    → length books ≡ count → length lines ≤ plan.lines → lines ≡ merged (lists books) → IsFinishedRun plan lines
gathers plan count k books lines law ends told all one_each few is =
    let lawful = gathers_lawful plan count k books lines law all is few in
    record {
      lawful = lawful;
      finished = gathers_finished plan count k books lines ends all one_each is few;
      of_plan = told plan (reverse lines) lawful (gathers_in_time plan books lines all is);
    }

-- what holds of the lines, where there are some
pub where_some : {V E : Type 0} (P Q R : V → Type 0) (r : Result (Option V) E) → ((v : V) → P v → Q v → R v) → IfOk r (λ o. IfSome o P) → IfOk r (λ o. IfSome o Q) → IfOk r (λ o. IfSome o R)
where_some P Q R (Ok (Some v)) f p q = f v p q
where_some P Q R (Ok None) f p q = tt
where_some P Q R (Err e) f p q = tt
