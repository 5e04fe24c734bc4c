-- The marks of those who wait, and the seats of actors.
use Rattle.std.proofs.Common.{◌≡◌, ◌≢◌, ◌+◌, ◌-◌, ◌*◌, ◌<◌, ℕ, zero, suc, Bool, true, false, List, [], ◌∷◌, length, nat_lt, replicate, slice_index_or, slice_set, ap, refl, sym, ◌∙◌, subst, arith, inl, inr}
use Rattle.std.proofs.lemmas.Bool.{cases_lt, false≢true}
use Rattle.std.proofs.lemmas.Bool.Decides.{nat_tests}
use Rattle.std.proofs.lemmas.List.{get_or-set_other, get_or-set_same, length-replicate, length-set}
use Rattle.pm_base.specs.declared.ActorId.{ActorId}
use Rattle.pm_base.specs.declared.ActorId.TheVariants.{Caller, Work, Timer}
use Rattle.pm_index.specs.Marks.{NoneMarked, is_marked}
use Rattle.pm_laws.specs.turns.Told.{is_actor}
use Rattle.pm_laws.proofs.turns.Telling.{is_itself}
use Rattle.pm_state.specs.Seats.{actor_at}
use Rattle.pm_turns.specs.Seats.{IsSeated, Seating, place_of}
use Rattle.pm_turns.specs.Turning.{AreQueues}

-- the actor at a seat has that seat
pub at_seat : (s : Seating) (i : ℕ) → i < s.callers + 2 * s.devices
    → IsSeated s (actor_at s.callers s.devices i) × (place_of s (actor_at s.callers s.devices i) ≡ i)
at_seat s i below =
    elim (cases_lt i s.callers) [
      | inl low ↦ let e : nat_lt i s.callers ≡ true = grind (arith, nat_tests) in rw e (low, refl)
      | inr over ↦
          let e : nat_lt i s.callers ≡ false = grind (arith, nat_tests) in
          elim (cases_lt i (s.callers + s.devices)) [
            | inl work ↦ let f : nat_lt i (s.callers + s.devices) ≡ true = grind (arith, nat_tests) in rw (e, f) (omega (arith, over, work), omega (arith, over))
            | inr timer ↦ let f : nat_lt i (s.callers + s.devices) ≡ false = grind (arith, nat_tests) in rw (e, f) (omega (arith, timer, below), omega (arith, timer))
          ]
    ]

-- and who has a seat sits there
pub at_place : (s : Seating) (a : ActorId) → IsSeated s a → actor_at s.callers s.devices (place_of s a) ≡ a
at_place s (Caller c) is = let e : nat_lt c s.callers ≡ true = grind (arith, nat_tests) in rw e refl
at_place s (Work d) is =
    let e : nat_lt (s.callers + d) s.callers ≡ false = grind (arith, nat_tests) in
    let f : nat_lt (s.callers + d) (s.callers + s.devices) ≡ true = grind (arith, nat_tests) in
    let g : s.callers + d - s.callers ≡ d = omega arith in
    rw (e, f) (ap (λ n. Work n) g)
at_place s (Timer d) is =
    let e : nat_lt (s.callers + s.devices + d) s.callers ≡ false = grind (arith, nat_tests) in
    let f : nat_lt (s.callers + s.devices + d) (s.callers + s.devices) ≡ false = grind (arith, nat_tests) in
    let g : s.callers + s.devices + d - (s.callers + s.devices) ≡ d = omega arith in
    rw (e, f) (ap (λ n. Timer n) g)

pub place_below : (s : Seating) (a : ActorId) → IsSeated s a → place_of s a < s.callers + 2 * s.devices
place_below s (Caller c) is = omega (arith, is)
place_below s (Work d) is = omega (arith, is)
place_below s (Timer d) is = omega (arith, is)

pub place_kept : (s s' : Seating) (a : ActorId) → s'.callers ≡ s.callers → s'.devices ≡ s.devices → place_of s' a ≡ place_of s a
place_kept s s' (Caller c) callers devices = refl
place_kept s s' (Work d) callers devices = ap (λ n. n + d) callers
place_kept s s' (Timer d) callers devices = ap (λ n. n + s'.devices + d) callers ∙ ap (λ n. s.callers + n + d) devices

-- two actors have two seats
pub places_apart : (s : Seating) (a b : ActorId) → IsSeated s a → IsSeated s b → is_actor a b ≡ false → place_of s a ≢ place_of s b
places_apart s a b p q other same =
    let one : a ≡ b = sym (at_place s a p) ∙ ap (actor_at s.callers s.devices) same ∙ at_place s b q in
    false≢true (sym other ∙ ap (is_actor a) (sym one) ∙ is_itself a)

-- nothing is marked in an empty list
pub none_in_nothing : (i j : ℕ) → NoneMarked [] i j
none_in_nothing i j k low high = refl

-- a mark at one seat of one device is set
pub marks_others : (qs : List (List Bool)) (d i e j : ℕ) (b : Bool) → j ≢ i → is_marked (slice_index_or qs e []) j ≡ true
    → is_marked (slice_index_or (slice_set qs d (slice_set (slice_index_or qs d []) i b)) e []) j ≡ true
marks_others [] d i e j b other is = is
marks_others (q ∷ qs) zero i zero j b other is = get_or-set_other q i j b false other ∙ is
marks_others (q ∷ qs) zero i (suc e) j b other is = is
marks_others (q ∷ qs) (suc d) i zero j b other is = is
marks_others (q ∷ qs) (suc d) i (suc e) j b other is = marks_others qs d i e j b other is

-- a mark that isn't set can be taken away
unmarked_set : (q : List Bool) (i : ℕ) → is_marked q i ≡ false → slice_set q i false ≡ q
unmarked_set [] i is = refl
unmarked_set (b ∷ q) zero is = ap (λ c. c ∷ q) (sym is)
unmarked_set (b ∷ q) (suc i) is = ap (λ l. b ∷ l) (unmarked_set q i is)

pub unmarked_kept : (q : List Bool) (i : ℕ) → NoneMarked q 0 (length q) → i < length q → q ≡ slice_set q i false
unmarked_kept q i none within = sym (unmarked_set q i (none i (omega arith) within))

set_true : (q : List Bool) (i j : ℕ) → is_marked q j ≡ true → is_marked (slice_set q i true) j ≡ true
set_true [] i j is = is
set_true (b ∷ q) zero zero is = refl
set_true (b ∷ q) zero (suc j) is = is
set_true (b ∷ q) (suc i) zero is = is
set_true (b ∷ q) (suc i) (suc j) is = set_true q i j is

pub marks_kept : (qs : List (List Bool)) (d i e j : ℕ) → is_marked (slice_index_or qs e []) j ≡ true
    → is_marked (slice_index_or (slice_set qs d (slice_set (slice_index_or qs d []) i true)) e []) j ≡ true
marks_kept [] d i e j is = is
marks_kept (q ∷ qs) zero i zero j is = set_true q i j is
marks_kept (q ∷ qs) zero i (suc e) j is = is
marks_kept (q ∷ qs) (suc d) i zero j is = is
marks_kept (q ∷ qs) (suc d) i (suc e) j is = marks_kept qs d i e j is

pub mark_set : (qs : List (List Bool)) (d i : ℕ) → d < length qs → i < length (slice_index_or qs d [])
    → is_marked (slice_index_or (slice_set qs d (slice_set (slice_index_or qs d []) i true)) d []) i ≡ true
mark_set [] d i less within = absurd (omega (arith, less))
mark_set (q ∷ qs) zero i less within = get_or-set_same q i true false within
mark_set (q ∷ qs) (suc d) i less within = mark_set qs d i (omega (arith, less)) within

-- each device has as many marks as before
set_lengths : (qs : List (List Bool)) (d i e : ℕ) (b : Bool) → length (slice_index_or (slice_set qs d (slice_set (slice_index_or qs d []) i b)) e []) ≡ length (slice_index_or qs e [])
set_lengths [] d i e b = refl
set_lengths (q ∷ qs) zero i zero b = length-set q i b
set_lengths (q ∷ qs) zero i (suc e) b = refl
set_lengths (q ∷ qs) (suc d) i zero b = refl
set_lengths (q ∷ qs) (suc d) i (suc e) b = set_lengths qs d i e b

pub queues_set : (s : Seating) (qs : List (List Bool)) (d i : ℕ) (b : Bool) → AreQueues s qs → AreQueues s (slice_set qs d (slice_set (slice_index_or qs d []) i b))
queues_set s qs d i b are = record { each = length-set qs d (slice_set (slice_index_or qs d []) i b) ∙ are.each; marks = λ e within. set_lengths qs d i e b ∙ are.marks e within }

get_replicated : (n : ℕ) (q : List Bool) (d : ℕ) → d < n → slice_index_or (replicate n q) d [] ≡ q
get_replicated zero q d less = absurd (omega (arith, less))
get_replicated (suc n) q zero less = refl
get_replicated (suc n) q (suc d) less = get_replicated n q d (omega (arith, less))

pub queues_none : (s : Seating) (qs : List (List Bool)) (n : ℕ) → n ≡ s.callers + 2 * s.devices → qs ≡ replicate s.devices (replicate n false) → AreQueues s qs
queues_none s qs n seats same = subst (λ (l : List (List Bool)). AreQueues s l) (sym same) (record {
  each = length-replicate s.devices (replicate n false);
  marks = λ d within. ap length (get_replicated s.devices (replicate n false) d within) ∙ length-replicate n false ∙ seats;
})
