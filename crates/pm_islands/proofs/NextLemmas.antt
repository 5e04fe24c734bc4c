-- The next line of a merge is the first line of the list at the next place.
use Rattle.std.proofs.Common.{ℕ, zero, suc, ◌≡◌, Bool, true, false, List, [], ◌∷◌, ◌++◌, Option, Some, None, Bor, length, map, nat_le, reverse, slice_index_or, refl, sym, subst, ◌∙◌, ap, arith}
use Rattle.std.specs.Prelude.{◌≤◌, ◌<◌, nat_lt, slice_get, slice_set, All, if◌then◌else◌}
use Rattle.std.specs.List.{list_all}
use Rattle.std.proofs.lemmas.Bool.{and_parts}
use Rattle.std.proofs.lemmas.List.{map-set, reverse-append}
use Rattle.std.proofs.lemmas.List.Elements.{All-cons}
use Rattle.std.proofs.lemmas.Option.{same_Some}
use Rattle.pm_model.specs.declared.event.Line.{Line}
use Rattle.pm_laws.specs.islands.Apart.{IsInTime}
use Rattle.pm_model.specs.Islands.{put_in, merge_in, merged}
use Rattle.pm_laws.proofs.islands.MergeOrder.{is_rising, no_later, merged_rises}
use Rattle.pm_islands.specs.Next.{AreInTime, earlier, moved, next}

put_passes : (p : Line → Bool) (x : Line) (ys : List Line) → p x ≡ true → list_all p ys ≡ true → list_all p (put_in x ys) ≡ true
put_passes p x [] is all = rw is refl
put_passes p x (y ∷ ys) is all = let h = and_parts (p y) (list_all p ys) all in go (nat_le x.time y.time) h.0 (put_passes p x ys is h.1)
  where
    go : (b : Bool) → p y ≡ true → list_all p (put_in x ys) ≡ true → list_all p (if b then x ∷ y ∷ ys else y ∷ put_in x ys) ≡ true
    go true first rest = rw is all
    go false first rest = rw first rest

merge_passes : (p : Line → Bool) (xs ys : List Line) → list_all p xs ≡ true → list_all p ys ≡ true → list_all p (merge_in xs ys) ≡ true
merge_passes p [] ys all others = others
merge_passes p (x ∷ xs) ys all others =
    let h = and_parts (p x) (list_all p xs) all in put_passes p x (merge_in xs ys) h.0 (merge_passes p xs ys h.1 others)

put_first : (x : Line) (ys : List Line) → no_later x.time ys ≡ true → put_in x ys ≡ x ∷ ys
put_first x [] all = refl
put_first x (y ∷ ys) all = rw (and_parts (nat_le x.time y.time) (no_later x.time ys) all).0 refl

-- the first line of a list is the first of the merge, where no other is earlier
own_first : (x : Line) (xs ys : List Line) → no_later x.time xs ≡ true → no_later x.time ys ≡ true → merge_in (x ∷ xs) ys ≡ x ∷ merge_in xs ys
own_first x xs ys all others = put_first x (merge_in xs ys) (merge_passes (λ y. nat_le x.time y.time) xs ys all others)

not_le : (a b : ℕ) → nat_lt b a ≡ true → nat_le a b ≡ false
not_le a b less = grind arith

-- or else an earlier line of the rest is
other_first : (xs : List Line) (y : Line) (ys : List Line) → list_all (λ x. nat_lt y.time x.time) xs ≡ true → merge_in xs (y ∷ ys) ≡ y ∷ merge_in xs ys
other_first [] y ys all = refl
other_first (x ∷ xs) y ys all =
    let h = and_parts (nat_lt y.time x.time) (list_all (λ x. nat_lt y.time x.time) xs) all in
    let late = not_le x.time y.time h.0 in
    ap (λ m. put_in x m) (other_first xs y ys h.1) ∙ rw late refl

lt_le : (a b c : ℕ) → nat_lt a b ≡ true → nat_le b c ≡ true → nat_lt a c ≡ true
lt_le a b c less within = grind arith

le_le : (a b c : ℕ) → nat_le a b ≡ true → nat_le b c ≡ true → nat_le a c ≡ true
le_le a b c one two = grind arith

all_later : (s t : ℕ) (xs : List Line) → nat_lt s t ≡ true → no_later t xs ≡ true → list_all (λ x. nat_lt s x.time) xs ≡ true
all_later s t [] less all = refl
all_later s t (x ∷ xs) less all =
    let h = and_parts (nat_le t x.time) (no_later t xs) all in rw (lt_le s t x.time less h.0) (all_later s t xs less h.1)

still_later : (s t : ℕ) (xs : List Line) → nat_le s t ≡ true → no_later t xs ≡ true → no_later s xs ≡ true
still_later s t [] within all = refl
still_later s t (x ∷ xs) within all =
    let h = and_parts (nat_le t x.time) (no_later t xs) all in rw (le_le s t x.time within h.0) (still_later s t xs within h.1)

not_lt : (a b : ℕ) → nat_lt a b ≡ false → nat_le b a ≡ true
not_lt a b more = grind arith

-- a line at the next place, with which the merge begins
pub record IsNext (lists : List (List Line)) (place time : ℕ) : Type 0 where
  pub first : Line
  pub rest : List Line
  pub at : slice_get lists place ≡ Some (first ∷ rest)
  pub at_time : first.time ≡ time
  pub merges : merged lists ≡ first ∷ merged (slice_set lists place rest)

no_place : (o : Option (ℕ × ℕ)) → moved o ≡ None → o ≡ None
no_place None is = refl
no_place (Some p) is = absurd (cc)

pub none_next : (lists : List (List Line)) → next lists ≡ None → merged lists ≡ []
none_next [] none = refl
none_next ([] ∷ lists) none = none_next lists (no_place (next lists) none)
none_next ((x ∷ xs) ∷ lists) none = absurd (cc)

is_next : (lists : List (List Line)) → list_all is_rising lists ≡ true → (p : ℕ × ℕ) → next lists ≡ Some p → IsNext lists p.0 p.1
is_next [] rising p is = absurd (cc)
is_next ([] ∷ lists) rising p is = go (next lists) refl (is_next lists rising)
  where
    go : (o : Option (ℕ × ℕ)) → next lists ≡ o → ((q : ℕ × ℕ) → next lists ≡ Some q → IsNext lists q.0 q.1) → IsNext ([] ∷ lists) p.0 p.1
    go None e later = let none : None ≡ Some p = subst (λ o. moved o ≡ Some p) e is in absurd (cc)
    go (Some q) e later =
        let k = later q e in
        let same : (suc q.0, q.1) ≡ p = let h : Some (suc q.0, q.1) ≡ Some p = subst (λ o. moved o ≡ Some p) e is in same_Some (suc q.0, q.1) p h in
        subst (λ r. IsNext ([] ∷ lists) r.0 r.1) same (record { first = k.first; rest = k.rest; at = k.at; at_time = k.at_time; merges = k.merges })
is_next ((x ∷ xs) ∷ lists) rising p is =
    let parts = and_parts (is_rising (x ∷ xs)) (list_all is_rising lists) rising in
    go (and_parts (no_later x.time xs) (is_rising xs) parts.0).0 (next lists) refl (is_next lists parts.1)
  where
    fit : (q : ℕ × ℕ) → earlier x.time (next lists) ≡ q → IsNext ((x ∷ xs) ∷ lists) q.0 q.1 → IsNext ((x ∷ xs) ∷ lists) p.0 p.1
    fit q e k = let same : q ≡ p = same_Some q p (ap Some (sym e) ∙ is) in subst (λ r. IsNext ((x ∷ xs) ∷ lists) r.0 r.1) same k

    own : no_later x.time xs ≡ true → no_later x.time (merged lists) ≡ true → IsNext ((x ∷ xs) ∷ lists) 0 x.time
    own behind others = record { first = x; rest = xs; at = refl; at_time = refl; merges = own_first x xs (merged lists) behind others }

    go : no_later x.time xs ≡ true → (o : Option (ℕ × ℕ)) → next lists ≡ o → ((q : ℕ × ℕ) → next lists ≡ Some q → IsNext lists q.0 q.1) → IsNext ((x ∷ xs) ∷ lists) p.0 p.1
    go behind None e later = fit (0, x.time) (rw e refl) (own behind (rw (none_next lists e) refl))
    go behind (Some q) e later = choose (nat_lt q.1 x.time) refl (later q e)
      where
        choose : (b : Bool) → nat_lt q.1 x.time ≡ b → IsNext lists q.0 q.1 → IsNext ((x ∷ xs) ∷ lists) p.0 p.1
        choose true less k =
            let before : nat_lt k.first.time x.time ≡ true = rw k.at_time less in
            fit (suc q.0, q.1) (rw (e, less) refl) (record {
              first = k.first;
              rest = k.rest;
              at = k.at;
              at_time = k.at_time;
              merges =
                  ap (λ m. merge_in (x ∷ xs) m) k.merges
                  ∙ other_first (x ∷ xs) k.first (merged (slice_set lists q.0 k.rest)) (rw before (all_later k.first.time x.time xs before behind));
            })
        choose false more k =
            let within : nat_le x.time k.first.time ≡ true = not_lt k.first.time x.time (rw k.at_time more) in
            let rises : is_rising (k.first ∷ merged (slice_set lists q.0 k.rest)) ≡ true = subst (λ m. is_rising m ≡ true) k.merges (merged_rises lists) in
            let after = (and_parts (no_later k.first.time (merged (slice_set lists q.0 k.rest))) _ rises).0 in
            fit (0, x.time) (rw (e, more) refl) (own behind (subst (λ m. no_later x.time m ≡ true) (sym k.merges)
            (rw within (still_later x.time k.first.time (merged (slice_set lists q.0 k.rest)) within after))))

-- lines in order rise where their times don't fall
reversed : (x : Line) (xs : List Line) → reverse (x ∷ xs) ≡ reverse xs ++ (x ∷ [])
reversed x xs = reverse-append (x ∷ []) xs

all_append : (p : Line → Bool) (xs ys : List Line) → list_all p (xs ++ ys) ≡ true → (list_all p xs ≡ true) × (list_all p ys ≡ true)
all_append p [] ys all = (refl, all)
all_append p (x ∷ xs) ys all =
    let h = and_parts (p x) (list_all p (xs ++ ys)) all in let k = all_append p xs ys h.1 in (rw h.0 k.0, k.1)

all_reversed : (p : Line → Bool) (xs : List Line) → list_all p (reverse xs) ≡ true → list_all p xs ≡ true
all_reversed p [] all = refl
all_reversed p (x ∷ xs) all =
    let k = all_append p (reverse xs) (x ∷ []) (subst (λ l. list_all p l ≡ true) (reversed x xs) all) in
    rw (and_parts (p x) true k.1).0 (all_reversed p xs k.0)

is_le : (a b : ℕ) → a ≤ b → nat_le a b ≡ true
is_le a b within = grind arith

falls : (g : List Line) (x : Line) → IsInTime (g ++ x ∷ []) → IsInTime g × (no_later x.time g ≡ true)
falls [] x timely = (tt, refl)
falls (y ∷ []) x timely = ((omega arith, tt), rw (is_le x.time y.time timely.0) refl)
falls (y ∷ z ∷ g) x timely =
    let k = falls (z ∷ g) x timely.1 in
    let h = and_parts (nat_le x.time z.time) (no_later x.time g) k.1 in
    ((timely.0, k.0), rw (le_le x.time z.time y.time h.0 (is_le z.time y.time timely.0)) k.1)

rises : (lines : List Line) → IsInTime (reverse lines) → is_rising lines ≡ true
rises [] timely = refl
rises (x ∷ xs) timely =
    let k = falls (reverse xs) x (subst IsInTime (reversed x xs) timely) in
    rw (all_reversed (λ y. nat_le x.time y.time) xs k.1) (rises xs k.0)

front : {A : Type 0} (P : A → Type 0) (x : A) (xs : List A) → All P (x ∷ xs) → P x
front P x xs all = all 0 x (omega arith)

others : {A : Type 0} (P : A → Type 0) (x : A) (xs : List A) → All P (x ∷ xs) → All P xs
others P x xs all k d below = all (suc k) d (omega (arith, below))

all_rise : (lists : List (List Line)) → AreInTime lists → list_all is_rising lists ≡ true
all_rise [] timely = refl
all_rise (xs ∷ lists) timely =
    rw (rises xs (front (λ l. IsInTime (reverse l)) xs lists timely)) (all_rise lists (others (λ l. IsInTime (reverse l)) xs lists timely))

-- what is left of the lists is in time
pub still_in_time : (lists : List (List Line)) (place : ℕ) (first : Line) (rest : List Line) → AreInTime lists → slice_get lists place ≡ Some (first ∷ rest)
    → AreInTime (slice_set lists place rest)
still_in_time [] place first rest timely at = absurd (cc)
still_in_time (xs ∷ lists) zero first rest timely at =
    let same : xs ≡ first ∷ rest = cc in
    let own : IsInTime (reverse (first ∷ rest)) = subst (λ l. IsInTime (reverse l)) same (front (λ l. IsInTime (reverse l)) xs lists timely) in
    All-cons (λ l. IsInTime (reverse l)) rest lists (falls (reverse rest) first (subst IsInTime (reversed first rest) own)).0
    (others (λ l. IsInTime (reverse l)) xs lists timely)
still_in_time (xs ∷ lists) (suc place) first rest timely at =
    All-cons (λ l. IsInTime (reverse l)) xs (slice_set lists place rest) (front (λ l. IsInTime (reverse l)) xs lists timely)
    (still_in_time lists place first rest (others (λ l. IsInTime (reverse l)) xs lists timely) at)

pub next_of : (lists : List (List Line)) (p : ℕ × ℕ) → AreInTime lists → next lists ≡ Some p → IsNext lists p.0 p.1
next_of lists p timely is = is_next lists (all_rise lists timely) p is

-- what slices hold
abbrev pub held : List (Bor (List Line)) → List (List Line)
held slices = map (λ slice. slice.now) slices

held_at : (slices : List (Bor (List Line))) (place : ℕ) (slice : Bor (List Line)) → place < length slices → slice ≡ slice_index_or slices place slice
    → slice_get (held slices) place ≡ Some slice.now
held_at [] place slice below is = absurd (omega (arith, below))
held_at (x ∷ slices) zero slice below is = ap (λ s. Some s.now) (sym is)
held_at (x ∷ slices) (suc place) slice below is = held_at slices place slice (omega (arith, below)) is

-- the list at the next place isn't empty
pub not_empty : (slices : List (Bor (List Line))) (place time : ℕ) (slice : Bor (List Line)) → AreInTime (held slices) → next (held slices) ≡ Some (place, time)
    → place < length slices → slice ≡ slice_index_or slices place slice → slice.now ≡ [] → ⊥
not_empty slices place time slice timely next below is none =
    let k = next_of (held slices) (place, time) timely next in
    let e : k.first ∷ k.rest ≡ [] = same_Some (k.first ∷ k.rest) slice.now (sym k.at ∙ held_at slices place slice below is) ∙ none in cc

-- its first line is the first of the merge, and the merge of what is left follows
pub record Taken (slices others : List (Bor (List Line))) (line : Line) : Type 0 where
  pub merges : merged (held slices) ≡ line ∷ merged (held others)
  pub in_time : AreInTime (held others)

pub taken : (slices : List (Bor (List Line))) (place time : ℕ) (slice rest : Bor (List Line)) (line : Line) → AreInTime (held slices) → next (held slices) ≡ Some (place, time)
    → place < length slices → slice ≡ slice_index_or slices place slice → slice.now ≡ line ∷ rest.now → Taken slices (slice_set slices place rest) line
taken slices place time slice rest line timely next below is parts =
    let k = next_of (held slices) (place, time) timely next in
    let e : k.first ∷ k.rest ≡ line ∷ rest.now = same_Some (k.first ∷ k.rest) slice.now (sym k.at ∙ held_at slices place slice below is) ∙ parts in
    let first : k.first ≡ line = cc in
    let behind : k.rest ≡ rest.now = cc in
    let set : held (slice_set slices place rest) ≡ slice_set (held slices) place rest.now = map-set (λ s. s.now) slices place rest in
    record {
      merges =
          k.merges ∙ ap (λ x. x ∷ merged (slice_set (held slices) place k.rest)) first
          ∙ ap (λ l. line ∷ merged (slice_set (held slices) place l)) behind ∙ ap (λ m. line ∷ merged m) (sym set);
      in_time = subst AreInTime (sym set) (subst (λ l. AreInTime (slice_set (held slices) place l)) behind (still_in_time (held slices) place k.first k.rest timely k.at));
    }

-- three lists of one line each
pub three_in_time : (a b c : Line) → AreInTime ((a ∷ []) ∷ (b ∷ []) ∷ (c ∷ []) ∷ [])
three_in_time a b c =
    All-cons (λ l. IsInTime (reverse l)) (a ∷ []) ((b ∷ []) ∷ (c ∷ []) ∷ []) (omega arith, tt)
    (All-cons (λ l. IsInTime (reverse l)) (b ∷ []) ((c ∷ []) ∷ []) (omega arith, tt)
    (All-cons (λ l. IsInTime (reverse l)) (c ∷ []) [] (omega arith, tt) (λ k d below. absurd (omega (arith, below)))))
