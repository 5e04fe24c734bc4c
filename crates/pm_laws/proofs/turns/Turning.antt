-- The next turn by the moments alone.
use Rattle.std.proofs.Common.{ℕ, ◌≡◌, ◌<◌, ◌≤◌, Bool, true, false, ◌&&◌, List, [], ◌∷◌, Option, Some, None, cond, find, is_none, min, nat_le, option_map, if◌then◌else◌, ap, refl, sym, ◌∙◌, arith, inl, inr}
use Rattle.std.specs.List.{cons_option, filter_map, list_all}
use Rattle.std.specs.Option.{option_and_then, option_map_or}
use Rattle.std.proofs.lemmas.Bool.{cases_lt}
use Rattle.std.proofs.lemmas.Bool.Decides.{nat_tests}
use Rattle.std.proofs.lemmas.Option.{same_Some}
use Rattle.pm_base.specs.declared.ActorId.{ActorId}
use Rattle.pm_model.specs.declared.plan.Plan.{Plan}
use Rattle.pm_model.specs.History.{History}
use Rattle.pm_model.specs.Lawful.{last_time}
use Rattle.pm_model.specs.Serial.{least, least_due, next_turn, or_later, round, turn_at}
use Rattle.pm_model.specs.World.{world}
use Rattle.pm_laws.specs.turns.Wakes.{after, first_awake, is_within, or_least, turn_by, wakes}
use Rattle.pm_laws.proofs.turns.Waking.{actor_timed}

-- tests that answer alike find the same
find_alike : {A : Type 0} (p q : A → Bool) → ((x : A) → p x ≡ q x) → (xs : List A) → find p xs ≡ find q xs
find_alike p q same [] = refl
find_alike p q same (x ∷ xs) = rw (same x, find_alike p q same xs) refl

turn_is : (plan : Plan) (h : History) (t : ℕ) → turn_at plan h t ≡ first_awake (wakes plan (world plan h)) (round plan h) t
turn_is plan h t = find_alike _ _ (λ a. (actor_timed plan (world plan h) t a).0) (round plan h)

-- where none is awake at t, the moments after t are all there are
all_after : {A : Type 0} (wake late : A → Option ℕ) (t : ℕ) → ((x : A) → late x ≡ after t (wake x)) → (xs : List A) → first_awake wake xs t ≡ None
    → filter_map late xs ≡ filter_map wake xs
all_after wake late t same [] none = refl
all_after {A} wake late t same (x ∷ xs) none = go (is_within t (wake x)) refl none (all_after wake late t same xs)
  where
    go : (b : Bool) → is_within t (wake x) ≡ b → cond b (Some x) (first_awake wake xs t) ≡ None
        → (first_awake wake xs t ≡ None → filter_map late xs ≡ filter_map wake xs) → filter_map late (x ∷ xs) ≡ filter_map wake (x ∷ xs)
    go true is none rest = cc
    go false is none rest = let here : late x ≡ wake x = same x ∙ ap (λ b. if b then None else wake x) is in rw (here, rest none) refl

due_is : (plan : Plan) (h : History) → first_awake (wakes plan (world plan h)) (round plan h) (last_time h) ≡ None
    → least_due plan h ≡ least (filter_map (wakes plan (world plan h)) (round plan h))
due_is plan h none = ap least (all_after _ _ (last_time h) (λ a. (actor_timed plan (world plan h) (last_time h) a).1) (round plan h) none)

pub next_is : (plan : Plan) (h : History) → next_turn plan h ≡ turn_by (wakes plan (world plan h)) (round plan h) (last_time h)
next_is plan h = ap (or_later plan h) (turn_is plan h (last_time h)) ∙ go (first_awake wake (round plan h) (last_time h)) refl
  where
    wake : ActorId → Option ℕ
    wake = wakes plan (world plan h)

    at : ℕ → ActorId → ActorId × ℕ
    at t a = (a, t)

    later : (o : Option ℕ)
        → option_and_then (λ t. option_map (at t) (turn_at plan h t)) o ≡ option_and_then (λ t. option_map (at t) (first_awake wake (round plan h) t)) o
    later None = refl
    later (Some t) = ap (option_map (at t)) (turn_is plan h t)

    go : (o : Option ActorId) → first_awake wake (round plan h) (last_time h) ≡ o → or_later plan h o ≡ or_least wake (round plan h) (last_time h) o
    go (Some a) is = refl
    go None is = later (least_due plan h) ∙ ap (option_and_then (λ t. option_map (at t) (first_awake wake (round plan h) t))) (due_is plan h is)

-- what is found passes the test
find_passes : {A : Type 0} (test : A → Bool) (xs : List A) (x : A) → find test xs ≡ Some x → test x ≡ true
find_passes test [] x found = cc
find_passes {A} test (y ∷ xs) x found = go (test y) refl found (find_passes test xs x)
  where
    go : (b : Bool) → test y ≡ b → cond b (Some y) (find test xs) ≡ Some x → (find test xs ≡ Some x → test x ≡ true) → test x ≡ true
    go true is found rest = ap test (sym (same_Some y x found)) ∙ is
    go false is found rest = rest found

-- whose turn it is may write then
pub turn_awake : {A : Type 0} (wake : A → Option ℕ) (xs : List A) (t : ℕ) (turn : A × ℕ) → turn_by wake xs t ≡ Some turn → is_within turn.1 (wake turn.0) ≡ true
turn_awake {A} wake xs t turn is = now (first_awake wake xs t) refl is
  where
    found : (m : ℕ) (a : A) → first_awake wake xs m ≡ Some a → (a, m) ≡ turn → is_within turn.1 (wake turn.0) ≡ true
    found m a is same = ap (λ (x : A × ℕ). is_within x.1 (wake x.0)) (sym same) ∙ find_passes (λ a. is_within m (wake a)) xs a is

    at : (m : ℕ) (o : Option A) → first_awake wake xs m ≡ o → option_map (λ a. (a, m)) o ≡ Some turn → is_within turn.1 (wake turn.0) ≡ true
    at m None is e = cc
    at m (Some a) is e = found m a is (same_Some (a, m) turn e)

    later : (o : Option ℕ) → option_and_then (λ m. option_map (λ a. (a, m)) (first_awake wake xs m)) o ≡ Some turn → is_within turn.1 (wake turn.0) ≡ true
    later None e = cc
    later (Some m) e = at m (first_awake wake xs m) refl e

    now : (o : Option A) → first_awake wake xs t ≡ o → or_least wake xs t o ≡ Some turn → is_within turn.1 (wake turn.0) ≡ true
    now (Some a) is e = found t a is (same_Some (a, t) turn e)
    now None is e = later (least (filter_map wake xs)) e

-- where there is no least moment there is none
none_wakes : {A : Type 0} (wake : A → Option ℕ) (xs : List A) → least (filter_map wake xs) ≡ None → list_all (λ x. is_none (wake x)) xs ≡ true
none_wakes wake [] none = refl
none_wakes wake (x ∷ xs) none = go (wake x) none (none_wakes wake xs)
  where
    go : (o : Option ℕ) → least (cons_option o (filter_map wake xs)) ≡ None → (least (filter_map wake xs) ≡ None → list_all (λ x. is_none (wake x)) xs ≡ true)
        → is_none o && list_all (λ x. is_none (wake x)) xs ≡ true
    go None none rest = rest none
    go (Some m) none rest = cc

-- someone may write at the least moment
least_awake : {A : Type 0} (wake : A → Option ℕ) (xs : List A) (m : ℕ) → least (filter_map wake xs) ≡ Some m → first_awake wake xs m ≡ None → ⊥
least_awake wake [] m is none = cc
least_awake {A} wake (x ∷ xs) m is none = go (wake x) is none (least_awake wake xs)
  where
    here : (k : ℕ) → k ≤ m → cond (nat_le k m) (Some x) (first_awake wake xs m) ≡ None → ⊥
    here k le none = let come : nat_le k m ≡ true = grind (arith, nat_tests) in let found : Some x ≡ None = rw come at none in cc

    later : (k q : ℕ) → q < k → q ≡ m → cond (nat_le k m) (Some x) (first_awake wake xs m) ≡ None → first_awake wake xs q ≡ None
    later k q lt same none =
        let not_yet : nat_le k m ≡ false = grind (arith, nat_tests) in
        let further : first_awake wake xs m ≡ None = rw not_yet at none in rw same further

    least_of : (k : ℕ) (o : Option ℕ) → least (filter_map wake xs) ≡ o → Some (option_map_or (min k) o k) ≡ Some m
        → cond (nat_le k m) (Some x) (first_awake wake xs m) ≡ None → ((q : ℕ) → least (filter_map wake xs) ≡ Some q → first_awake wake xs q ≡ None → ⊥) → ⊥
    least_of k None is e none rest = let same = same_Some k m e in here k (omega arith) none
    least_of k (Some q) is e none rest =
        let same = same_Some (min k q) m e in
        elim (cases_lt q k) [
          | inl lt ↦ let least_is : q ≡ m = omega arith in rest q is (later k q lt least_is none)
          | inr le ↦ here k (omega arith) none
        ]

    go : (o : Option ℕ) → least (cons_option o (filter_map wake xs)) ≡ Some m → cond (is_within m o) (Some x) (first_awake wake xs m) ≡ None
        → ((q : ℕ) → least (filter_map wake xs) ≡ Some q → first_awake wake xs q ≡ None → ⊥) → ⊥
    go None is none rest = rest m is none
    go (Some k) is none rest = least_of k (least (filter_map wake xs)) refl is none rest

-- where it is nobody's turn nobody may ever write
pub no_turn : {A : Type 0} (wake : A → Option ℕ) (xs : List A) (t : ℕ) → turn_by wake xs t ≡ None → list_all (λ x. is_none (wake x)) xs ≡ true
no_turn {A} wake xs t is = now (first_awake wake xs t) is
  where
    at : ℕ → A → A × ℕ
    at m a = (a, m)

    then_at : (m : ℕ) (o : Option A) → first_awake wake xs m ≡ o → least (filter_map wake xs) ≡ Some m → option_map (at m) o ≡ None
        → list_all (λ x. is_none (wake x)) xs ≡ true
    then_at m None none is e = absurd (least_awake wake xs m is none)
    then_at m (Some a) none is e = cc

    later : (o : Option ℕ) → least (filter_map wake xs) ≡ o → option_and_then (λ m. option_map (at m) (first_awake wake xs m)) o ≡ None
        → list_all (λ x. is_none (wake x)) xs ≡ true
    later None is e = none_wakes wake xs is
    later (Some m) is e = then_at m (first_awake wake xs m) refl is e

    now : (o : Option A) → or_least wake xs t o ≡ None → list_all (λ x. is_none (wake x)) xs ≡ true
    now (Some a) e = cc
    now None e = later (least (filter_map wake xs)) refl e
