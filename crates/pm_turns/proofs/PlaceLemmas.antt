-- The first of a round, by places.
use Rattle.std.proofs.Common.{◌≡◌, ◌+◌, ◌*◌, ◌-◌, ◌<◌, ◌≤◌, ◌⊎◌, ℕ, zero, suc, Bool, true, false, cond, List, [], ◌∷◌, ◌++◌, Option, Some, None, find, option_map, IfNone, IfSome, refl, ap, sym, ◌∙◌, subst, arith, inl, inr, min}
use Rattle.std.proofs.lemmas.Bool.{cases_lt, true≢false}
use Rattle.std.specs.List.{filter_map, cons_option}
use Rattle.std.specs.Option.{option_or, option_map_or}
use Rattle.pm_base.specs.declared.ActorId.{ActorId}
use Rattle.pm_model.specs.Serial.{least}
use Rattle.pm_index.specs.Moments.{NoneWithin, moment_of}
use Rattle.pm_index.specs.Moments as moments
use Rattle.pm_state.specs.Seats.{actor_at}
use Rattle.pm_turns.specs.Seats.{AreMoments, IsFirst, Seating, round_of, span}
use Rattle.pm_laws.specs.turns.Wakes.{first_awake, is_within, or_least, turn_by}

find_joined : {X : Type 0} (p : X → Bool) (xs ys : List X) → find p (xs ++ ys) ≡ option_or (find p xs) (find p ys)
find_joined p [] ys = refl
find_joined p (x ∷ xs) ys = go (p x) (find_joined p xs ys)
  where
    go : (b : Bool) → find p (xs ++ ys) ≡ option_or (find p xs) (find p ys) → cond b (Some x) (find p (xs ++ ys)) ≡ option_or (cond b (Some x) (find p xs)) (find p ys)
    go true rest = refl
    go false rest = rest

pub span_none : (p : ActorId → Bool) (f : ℕ → ActorId) (i n : ℕ) → ((j : ℕ) → i ≤ j → j < i + n → p (f j) ≡ false) → find p (span f i n) ≡ None
span_none p f i zero none = refl
span_none p f i (suc n) none =
    let head : p (f i) ≡ false = none i (omega arith) (omega arith) in
    rw head (span_none p f (i + 1) n (λ j low high. none j (omega (arith, low)) (omega (arith, high))))

pub span_found : (p : ActorId → Bool) (f : ℕ → ActorId) (i n k : ℕ) → i ≤ k → k < i + n → p (f k) ≡ true → ((j : ℕ) → i ≤ j → j < k → p (f j) ≡ false)
    → find p (span f i n) ≡ Some (f k)
span_found p f i zero k low high hit before = absurd (omega (arith, low, high))
span_found p f i (suc n) k low high hit before = go (p (f i)) refl (λ further. span_found p f (i + 1) n k further (omega (arith, high)) hit (λ j from below. before j (omega (arith, from)) below))
  where
    go : (b : Bool) → p (f i) ≡ b → (i + 1 ≤ k → find p (span f (i + 1) n) ≡ Some (f k)) → find p (span f i (suc n)) ≡ Some (f k)
    go true e rest =
        let same : i ≡ k = elim (cases_lt i k) [
          | inl under ↦ absurd (true≢false (sym e ∙ before i (omega arith) under))
          | inr over ↦ omega (arith, low, over)
        ] in
        rw e (ap (λ x. Some (f x)) same)
    go false e rest =
        let further : i + 1 ≤ k = elim (cases_lt i k) [
          | inl under ↦ omega (arith, under)
          | inr over ↦ let same : k ≡ i = omega (arith, low, over) in absurd (true≢false (sym hit ∙ ap (λ x. p (f x)) same ∙ e))
        ] in
        rw e (rest further)

-- the test of a place is that of its actor
tests_alike : (wake : ActorId → Option ℕ) (s : Seating) (t i : ℕ) → AreMoments wake s → i < s.callers + 2 * s.devices
    → moments.is_within t (moment_of s.moments i) ≡ is_within t (wake (actor_at s.callers s.devices i))
tests_alike wake s t i are below = go (moment_of s.moments i) ∙ ap (is_within t) (are i below)
  where
    go : (o : Option ℕ) → moments.is_within t o ≡ is_within t o
    go None = refl
    go (Some m) = refl

pub found_is : (wake : ActorId → Option ℕ) (s : Seating) (t i : ℕ) → s.seat ≤ s.callers + s.devices → AreMoments wake s → IsFirst s t i
    → Some (actor_at s.callers s.devices i) ≡ first_awake wake (round_of s) t
found_is wake s t i begins are is = go is.first
  where
    p : ActorId → Bool
    p a = is_within t (wake a)

    f : ℕ → ActorId
    f = actor_at s.callers s.devices

    row : ℕ
    row = s.callers + s.devices

    hit : p (f i) ≡ true
    hit = sym (tests_alike wake s t i are is.below) ∙ is.within

    miss : (low high : ℕ) → NoneWithin s.moments t low high → (j : ℕ) → low ≤ j → j < high → j < s.callers + 2 * s.devices → p (f j) ≡ false
    miss low high none j from to below = sym (tests_alike wake s t j are below) ∙ none j from to

    one : List ActorId
    one = span f s.seat (row - s.seat)

    two : List ActorId
    two = span f 0 s.seat

    three : List ActorId
    three = span f row s.devices

    go : ((s.seat ≤ i) × (i < row) × NoneWithin s.moments t s.seat i) ⊎ (NoneWithin s.moments t s.seat row × NoneWithin s.moments t 0 i) → Some (f i) ≡ find p (one ++ (two ++ three))
    go (inl a) =
        let first : find p one ≡ Some (f i) = span_found p f s.seat (row - s.seat) i a.0 (omega (arith, a.1, begins)) hit (λ j from to. miss s.seat i a.2 j from to (omega (arith, to, is.below))) in
        sym (find_joined p one (two ++ three) ∙ ap (λ o. option_or o (find p (two ++ three))) first)
    go (inr b) =
        let no_first : find p one ≡ None = span_none p f s.seat (row - s.seat) (λ j from to. miss s.seat row b.0 j from (omega (arith, to, begins, from)) (omega (arith, to, begins, from))) in
        let rest : find p (one ++ (two ++ three)) ≡ find p (two ++ three) = find_joined p one (two ++ three) ∙ ap (λ o. option_or o (find p (two ++ three))) no_first in
        elim (cases_lt i s.seat) [
          | inl under ↦
              let second : find p two ≡ Some (f i) = span_found p f 0 s.seat i (omega arith) (omega (arith, under)) hit (λ j from to. miss 0 i b.1 j from to (omega (arith, to, is.below))) in
              sym (rest ∙ find_joined p two three ∙ ap (λ o. option_or o (find p three)) second)
          | inr over ↦
              elim (cases_lt i row) [
                | inl inside ↦ absurd (true≢false (sym is.within ∙ b.0 i over inside))
                | inr outside ↦
                    let no_second : find p two ≡ None = span_none p f 0 s.seat (λ j from to. miss 0 i b.1 j from (omega (arith, to, over)) (omega (arith, to, over, is.below))) in
                    let third : find p three ≡ Some (f i) = span_found p f row s.devices i outside (omega (arith, is.below)) hit (λ j from to. miss 0 i b.1 j (omega arith) to (omega (arith, to, is.below))) in
                    sym (rest ∙ find_joined p two three ∙ ap (λ o. option_or o (find p three)) no_second ∙ third)
              ]
        ]

pub missing_is : (wake : ActorId → Option ℕ) (s : Seating) (t : ℕ) → s.seat ≤ s.callers + s.devices → AreMoments wake s → NoneWithin s.moments t 0 (s.callers + 2 * s.devices)
    → None ≡ first_awake wake (round_of s) t
missing_is wake s t begins are none =
    sym (find_joined p one (two ++ three) ∙ ap (λ o. option_or o (find p (two ++ three))) (span_none p f s.seat (row - s.seat) (λ j from to. miss j (omega (arith, to, begins, from))))
    ∙ find_joined p two three ∙ ap (λ o. option_or o (find p three)) (span_none p f 0 s.seat (λ j from to. miss j (omega (arith, to, begins))))
    ∙ span_none p f row s.devices (λ j from to. miss j (omega (arith, to))))
  where
    p : ActorId → Bool
    p a = is_within t (wake a)

    f : ℕ → ActorId
    f = actor_at s.callers s.devices

    row : ℕ
    row = s.callers + s.devices

    miss : (j : ℕ) → j < s.callers + 2 * s.devices → p (f j) ≡ false
    miss j below = sym (tests_alike wake s t j are below) ∙ none j (omega arith) below

    one : List ActorId
    one = span f s.seat (row - s.seat)

    two : List ActorId
    two = span f 0 s.seat

    three : List ActorId
    three = span f row s.devices

-- so the first seat, if there is one, is that of the first actor
pub first_is : (wake : ActorId → Option ℕ) (s : Seating) (t : ℕ) (r : Option ℕ) → s.seat ≤ s.callers + s.devices → AreMoments wake s → IfSome r (IsFirst s t)
    → IfNone r (NoneWithin s.moments t 0 (s.callers + 2 * s.devices)) → option_map (actor_at s.callers s.devices) r ≡ first_awake wake (round_of s) t
first_is wake s t None begins are found missing = missing_is wake s t begins are missing
first_is wake s t (Some i) begins are found missing = found_is wake s t i begins are found

pub below_first : (s : Seating) (t : ℕ) (r : Option ℕ) → IfSome r (IsFirst s t) → IfSome r (λ i. i < s.callers + 2 * s.devices)
below_first s t None found = tt
below_first s t (Some i) found = found.below

-- the least moment
abbrev Above : (ActorId → Option ℕ) → ℕ → List ActorId → Type 0
Above wake m [] = Unit {0}
Above wake m (x ∷ xs) = ((k : ℕ) → wake x ≡ Some k → m ≤ k) × Above wake m xs

abbrev Has : (ActorId → Option ℕ) → ℕ → List ActorId → Type 0
Has wake m [] = ⊥
Has wake m (x ∷ xs) = (wake x ≡ Some m) ⊎ Has wake m xs

least_above : (wake : ActorId → Option ℕ) (m : ℕ) (xs : List ActorId) → Above wake m xs → (k : ℕ) → least (filter_map wake xs) ≡ Some k → m ≤ k
least_above wake m [] above k e = cc
least_above wake m (x ∷ xs) above k e = go (wake x) refl (least (filter_map wake xs)) refl e (least_above wake m xs above.1)
  where
    go : (o : Option ℕ) → wake x ≡ o → (r : Option ℕ) → least (filter_map wake xs) ≡ r → least (cons_option (wake x) (filter_map wake xs)) ≡ Some k
        → ((k : ℕ) → least (filter_map wake xs) ≡ Some k → m ≤ k) → m ≤ k
    go None w r l e rest = rest k (subst (λ o. least (cons_option o (filter_map wake xs)) ≡ Some k) w e)
    go (Some n) w None l e rest =
        let it : Some n ≡ Some k = subst (λ r. Some (option_map_or (min n) r n) ≡ Some k) l (subst (λ o. least (cons_option o (filter_map wake xs)) ≡ Some k) w e) in
        let same : n ≡ k = cc in
        above.0 k (w ∙ it)
    go (Some n) w (Some q) l e rest =
        let it : Some (min n q) ≡ Some k = subst (λ r. Some (option_map_or (min n) r n) ≡ Some k) l (subst (λ o. least (cons_option o (filter_map wake xs)) ≡ Some k) w e) in
        let same : min n q ≡ k = cc in
        omega (arith, same, above.0 n w, rest q l)

least_has : (wake : ActorId → Option ℕ) (m : ℕ) (xs : List ActorId) → Above wake m xs → Has wake m xs → least (filter_map wake xs) ≡ Some m
least_has wake m [] above has = elim has [ ]
least_has wake m (x ∷ xs) above (inl here) = rw here (go (least (filter_map wake xs)) refl)
  where
    go : (r : Option ℕ) → least (filter_map wake xs) ≡ r → Some (option_map_or (min m) (least (filter_map wake xs)) m) ≡ Some m
    go None l = rw l refl
    go (Some q) l = let low : m ≤ q = least_above wake m xs above.1 q l in let same : min m q ≡ m = omega (arith, low) in rw (l, same) refl
least_has wake m (x ∷ xs) above (inr there) = go (wake x) refl (least_has wake m xs above.1 there)
  where
    go : (o : Option ℕ) → wake x ≡ o → least (filter_map wake xs) ≡ Some m → least (cons_option (wake x) (filter_map wake xs)) ≡ Some m
    go None w rest = rw w rest
    go (Some n) w rest = let low : m ≤ n = above.0 n w in let same : min n m ≡ m = omega (arith, low) in rw (w, rest, same) refl

above_span : (wake : ActorId → Option ℕ) (m : ℕ) (f : ℕ → ActorId) (i n : ℕ) → ((j k : ℕ) → j < i + n → wake (f j) ≡ Some k → m ≤ k) → Above wake m (span f i n)
above_span wake m f i zero low = tt
above_span wake m f i (suc n) low = (λ k e. low i k (omega arith) e, above_span wake m f (i + 1) n (λ j k below e. low j k (omega (arith, below)) e))

above_joined : (wake : ActorId → Option ℕ) (m : ℕ) (xs ys : List ActorId) → Above wake m xs → Above wake m ys → Above wake m (xs ++ ys)
above_joined wake m [] ys p q = q
above_joined wake m (x ∷ xs) ys p q = (p.0, above_joined wake m xs ys p.1 q)

has_span : (wake : ActorId → Option ℕ) (m : ℕ) (f : ℕ → ActorId) (i n k : ℕ) → i ≤ k → k < i + n → wake (f k) ≡ Some m → Has wake m (span f i n)
has_span wake m f i zero k from below e = absurd (omega (arith, from, below))
has_span wake m f i (suc n) k from below e =
    elim (cases_lt i k) [
      | inl under ↦ inr (has_span wake m f (i + 1) n k (omega (arith, under)) (omega (arith, below)) e)
      | inr over ↦ let same : k ≡ i = omega (arith, from, over) in inl (subst (λ x. wake (f x) ≡ Some m) same e)
    ]

has_left : (wake : ActorId → Option ℕ) (m : ℕ) (xs ys : List ActorId) → Has wake m xs → Has wake m (xs ++ ys)
has_left wake m [] ys p = elim p [ ]
has_left wake m (x ∷ xs) ys (inl p) = inl p
has_left wake m (x ∷ xs) ys (inr p) = inr (has_left wake m xs ys p)

has_right : (wake : ActorId → Option ℕ) (m : ℕ) (xs ys : List ActorId) → Has wake m ys → Has wake m (xs ++ ys)
has_right wake m [] ys p = p
has_right wake m (x ∷ xs) ys p = inr (has_right wake m xs ys p)

pub least_is : (wake : ActorId → Option ℕ) (s : Seating) (m i : ℕ) → s.seat ≤ s.callers + s.devices → AreMoments wake s → i < s.callers + 2 * s.devices
    → moment_of s.moments i ≡ Some m → ((i other : ℕ) → moment_of s.moments i ≡ Some other → m ≤ other) → least (filter_map wake (round_of s)) ≡ Some m
least_is wake s m i begins are below here low = least_has wake m (one ++ (two ++ three)) above has
  where
    f : ℕ → ActorId
    f = actor_at s.callers s.devices

    row : ℕ
    row = s.callers + s.devices

    one : List ActorId
    one = span f s.seat (row - s.seat)

    two : List ActorId
    two = span f 0 s.seat

    three : List ActorId
    three = span f row s.devices

    each : (j k : ℕ) → j < s.callers + 2 * s.devices → wake (f j) ≡ Some k → m ≤ k
    each j k within e = low j k (are j within ∙ e)

    above : Above wake m (one ++ (two ++ three))
    above = above_joined wake m one (two ++ three) (above_span wake m f s.seat (row - s.seat) (λ j k to e. each j k (omega (arith, to, begins)) e))
        (above_joined wake m two three (above_span wake m f 0 s.seat (λ j k to e. each j k (omega (arith, to, begins)) e)) (above_span wake m f row s.devices (λ j k to e. each j k (omega (arith, to)) e)))

    wakes_here : wake (f i) ≡ Some m
    wakes_here = sym (are i below) ∙ here

    has : Has wake m (one ++ (two ++ three))
    has = elim (cases_lt i s.seat) [
      | inl under ↦ has_right wake m one (two ++ three) (has_left wake m two three (has_span wake m f 0 s.seat i (omega arith) (omega (arith, under)) wakes_here))
      | inr over ↦
          elim (cases_lt i row) [
            | inl inside ↦ has_left wake m one (two ++ three) (has_span wake m f s.seat (row - s.seat) i over (omega (arith, inside, begins)) wakes_here)
            | inr outside ↦ has_right wake m one (two ++ three) (has_right wake m two three (has_span wake m f row s.devices i outside (omega (arith, below)) wakes_here))
          ]
    ]

none_span : (wake : ActorId → Option ℕ) (f : ℕ → ActorId) (i n : ℕ) (ys : List ActorId) → ((j : ℕ) → j < i + n → wake (f j) ≡ None) → filter_map wake (span f i n ++ ys) ≡ filter_map wake ys
none_span wake f i zero ys none = refl
none_span wake f i (suc n) ys none = rw (none i (omega arith)) (none_span wake f (i + 1) n ys (λ j below. none j (omega (arith, below))))

none_all : (wake : ActorId → Option ℕ) (f : ℕ → ActorId) (i n : ℕ) → ((j : ℕ) → j < i + n → wake (f j) ≡ None) → filter_map wake (span f i n) ≡ []
none_all wake f i zero none = refl
none_all wake f i (suc n) none = rw (none i (omega arith)) (none_all wake f (i + 1) n (λ j below. none j (omega (arith, below))))

pub none_is : (wake : ActorId → Option ℕ) (s : Seating) → s.seat ≤ s.callers + s.devices → AreMoments wake s
    → ((i : ℕ) → moment_of s.moments i ≡ None) → least (filter_map wake (round_of s)) ≡ None
none_is wake s begins are none = ap least (none_span wake f s.seat (row - s.seat) _ (λ j to. rest j (omega (arith, to, begins))) ∙ none_span wake f 0 s.seat _ (λ j to. rest j (omega (arith, to, begins))) ∙ none_all wake f row s.devices (λ j to. rest j (omega (arith, to))))
  where
    f : ℕ → ActorId
    f = actor_at s.callers s.devices

    row : ℕ
    row = s.callers + s.devices

    rest : (j : ℕ) → j < s.callers + 2 * s.devices → wake (f j) ≡ None
    rest j below = sym (are j below) ∙ none j

-- the turn, now or later or never
pub turn_now : (wake : ActorId → Option ℕ) (round : List ActorId) (t : ℕ) (a : ActorId) → Some a ≡ first_awake wake round t → Some (a, t) ≡ turn_by wake round t
turn_now wake round t a e = ap (or_least wake round t) e

pub turn_later : (wake : ActorId → Option ℕ) (round : List ActorId) (t m : ℕ) (a : ActorId) → None ≡ first_awake wake round t → least (filter_map wake round) ≡ Some m
    → Some a ≡ first_awake wake round m → Some (a, m) ≡ turn_by wake round t
turn_later wake round t m a none low e =
    let at : ActorId → ActorId × ℕ = λ actor. (actor, m) in
    let later : or_least wake round t None ≡ option_map at (first_awake wake round m) = rw low refl in
    ap (option_map at) e ∙ sym later ∙ ap (or_least wake round t) none

pub turn_lost : (wake : ActorId → Option ℕ) (round : List ActorId) (t m : ℕ) → None ≡ first_awake wake round t → least (filter_map wake round) ≡ Some m
    → None ≡ first_awake wake round m → None ≡ turn_by wake round t
turn_lost wake round t m none low e =
    let at : ActorId → ActorId × ℕ = λ actor. (actor, m) in
    let later : or_least wake round t None ≡ option_map at (first_awake wake round m) = rw low refl in
    ap (option_map at) e ∙ sym later ∙ ap (or_least wake round t) none

pub turn_never : (wake : ActorId → Option ℕ) (round : List ActorId) (t : ℕ) → None ≡ first_awake wake round t → least (filter_map wake round) ≡ None → None ≡ turn_by wake round t
turn_never wake round t none low =
    let later : or_least wake round t None ≡ None = rw low refl in
    sym later ∙ ap (or_least wake round t) none
