-- What is told of the snapshots of a search is told of the schedules that stand there.
use Rattle.std.proofs.Common.{ℕ, zero, suc, ◌≡◌, ◌+◌, ◌<◌, ◌≤◌, ◌⊎◌, inl, inr, Bool, true, false, List, [], ◌∷◌, ◌++◌, length, map, option_map, get_or, Some, slice_get, refl, sym, subst, ◌∙◌, ap, arith}
use Rattle.std.proofs.lemmas.Bool.{cases_lt}
use Rattle.std.proofs.lemmas.Option.{slice_get-get_or, slice_get-map, slice_get_within}
use Rattle.pm_explore.specs.declared.schedule.Pace.{Pace}
use Rattle.pm_driver_orders.specs.Drivers.{Driver}
use Rattle.pm_driver_orders.specs.DriverSchedules.{driver_snapshot}
use Rattle.pm_driver_orders.specs.DriverSnapshots.{DriverSnapshot}
use Rattle.pm_driver_search.specs.Found.{AreOfDriverSchedules}
use Rattle.pm_driver_find.specs.declared.examined.ExaminedDriver.{ExaminedDriver}
use Rattle.pm_driver_find.specs.declared.firsts.DriverFinding.{DriverFinding}
use Rattle.pm_driver_find.specs.declared.sights.DriverSight.{DriverSight}
use Rattle.pm_driver_find.specs.Sights.{is_seen}
use Rattle.pm_driver_find.specs.Told.{AreFirstSeen, AreToldExactly, IsFirstSeen, IsShownWithin, IsToldBefore, IsUnseen}

some_is : {A : Type 0} (x y : A) → Some x ≡ Some y → x ≡ y
some_is x y is = cc is

apart : {A : Type 0} (b : Bool) → b ≡ true → b ≡ false → A
apart b is isnt = let k : true ≡ false = sym is ∙ isnt in cc k

told_sound : (E : ExaminedDriver) (pace : Pace) (D : Driver) (most k : ℕ) (snapshots : List DriverSnapshot) (bound : ℕ) (sights : List DriverSight) (told : List DriverFinding) → AreOfDriverSchedules pace D most k snapshots bound → AreFirstSeen E snapshots sights (length sights) told
    → (x : DriverSight) → IsToldBefore told bound x → IsShownWithin E pace D most k x
told_sound E pace D most k snapshots bound sights told orders firsts x is =
    let f = is.finding in
    let first = firsts.sound is.index f is.there in
    let order = orders.sound f.place first.where_it_stands is.few first.there in
    record {
      turns = order.0;
      order = order.1;
      few = order.2;
      shows = subst (λ (y : DriverSight). is_seen E (driver_snapshot D order.0) y ≡ true) is.of_it (ap (λ (s : DriverSnapshot). is_seen E s f.sight) order.3 ∙ first.shows);
    }

-- a finding has no later place than a snapshot that shows it
early_finding : (E : ExaminedDriver) (snapshots : List DriverSnapshot) (x : DriverSight) (f : DriverFinding) (s : DriverSnapshot) (p : ℕ) → IsFirstSeen E snapshots f.sight f.place → f.sight ≡ x → slice_get snapshots p ≡ Some s → is_seen E s x ≡ true → f.place ≤ p
early_finding E snapshots x f s p first same there shows = elim (cases_lt p f.place) [
  | inl early ↦ apart (is_seen E s x) shows (subst (λ (y : DriverSight). is_seen E s y ≡ false) same (first.unseen p s early there))
  | inr late ↦ late
]

told_complete : (E : ExaminedDriver) (pace : Pace) (D : Driver) (most k : ℕ) (snapshots : List DriverSnapshot) (bound : ℕ) (sights : List DriverSight) (told : List DriverFinding) → AreOfDriverSchedules pace D most k snapshots bound → AreFirstSeen E snapshots sights (length sights) told
    → (i : ℕ) (x : DriverSight) → slice_get sights i ≡ Some x → IsShownWithin E pace D most k x → IsToldBefore told bound x
told_complete E pace D most k snapshots bound sights told orders firsts i x at shown =
    let s = driver_snapshot D shown.turns in
    let among = orders.complete shown.turns shown.order shown.few in
    elim (firsts.complete i x (slice_get_within sights i x at) at) [
      | inl is ↦
          let no_later = early_finding E snapshots x is.1 s among.place (firsts.sound is.0 is.1 is.2) is.3 among.there shown.shows in
          let below = among.below in
          record { index = is.0; finding = is.1; there = is.2; of_it = is.3; few = omega (arith, no_later, below) }
      | inr none ↦ apart (is_seen E s x) shown.shows (none (suc among.place) among.place s (omega arith) among.there)
    ]

pub told_exactly : (E : ExaminedDriver) (pace : Pace) (D : Driver) (most k : ℕ) (snapshots : List DriverSnapshot) (bound : ℕ) (sights : List DriverSight) (told : List DriverFinding) → AreOfDriverSchedules pace D most k snapshots bound → AreFirstSeen E snapshots sights (length sights) told
    → AreToldExactly E pace D most k bound sights told
told_exactly E pace D most k snapshots bound sights told orders firsts = record { sound = told_sound E pace D most k snapshots bound sights told orders firsts; complete = told_complete E pace D most k snapshots bound sights told orders firsts }

-- one more node that doesn't show it
pub unseen_more : (E : ExaminedDriver) (snapshots : List DriverSnapshot) (n : ℕ) (x : DriverSight) (s : DriverSnapshot) → IsUnseen E snapshots n x → slice_get snapshots n ≡ Some s → is_seen E s x ≡ false → IsUnseen E snapshots (n + 1) x
unseen_more E snapshots n x s before at not i t lt there = elim (cases_lt i n) [
  | inl early ↦ before i t early there
  | inr late ↦ let same : i ≡ n = omega (arith, lt, late) in let it : s ≡ t = some_is s t (sym at ∙ sym (ap (slice_get snapshots) same) ∙ there) in subst (λ (z : DriverSnapshot). is_seen E z x ≡ false) it not
]

pub unseen_all : (E : ExaminedDriver) (snapshots : List DriverSnapshot) (n : ℕ) (x : DriverSight) → length snapshots ≤ n → IsUnseen E snapshots n x → (m : ℕ) → IsUnseen E snapshots m x
unseen_all E snapshots n x all before m i t lt there = before i t (let within = slice_get_within snapshots i t there in omega (arith, all, within)) there

pub node_at : {N P : Type 0} (f : N → P) (nodes : List N) (i : ℕ) (n : N) → Some n ≡ slice_get nodes i → slice_get (map f nodes) i ≡ Some (f n)
node_at f nodes i n is = slice_get-map f nodes i ∙ ap (option_map f) (sym is)

-- the first sights
pub none_first : (E : ExaminedDriver) (snapshots : List DriverSnapshot) (sights : List DriverSight) (told : List DriverFinding) → told ≡ [] → AreFirstSeen E snapshots sights 0 told
none_first E snapshots sights told none = record {
  sound = λ i f is. (let gone : slice_get [] i ≡ Some f = sym (ap (λ l. slice_get l i) none) ∙ is in cc gone);
  complete = λ i x lt at. absurd (omega (arith, lt));
}

last_or : (told : List DriverFinding) (g : DriverFinding) (i : ℕ) (f : DriverFinding) → slice_get (told ++ g ∷ []) i ≡ Some f → (slice_get told i ≡ Some f) ⊎ (g ≡ f)
last_or [] g zero f is = inr (some_is g f is)
last_or [] g (suc i) f is = cc is
last_or (h ∷ told) g zero f is = inl is
last_or (h ∷ told) g (suc i) f is = last_or told g i f is

still_there : (told : List DriverFinding) (g : DriverFinding) (i : ℕ) (f : DriverFinding) → slice_get told i ≡ Some f → slice_get (told ++ g ∷ []) i ≡ Some f
still_there [] g i f is = cc is
still_there (h ∷ told) g zero f is = is
still_there (h ∷ told) g (suc i) f is = still_there told g i f is

at_end : (told : List DriverFinding) (g : DriverFinding) → slice_get (told ++ g ∷ []) (length told) ≡ Some g
at_end [] g = refl
at_end (h ∷ told) g = at_end told g

pub seen_more : (E : ExaminedDriver) (snapshots : List DriverSnapshot) (sights : List DriverSight) (n : ℕ) (d : DriverSight) (told pushed : List DriverFinding) (place : ℕ) → n < length sights → AreFirstSeen E snapshots sights n told → IsFirstSeen E snapshots (get_or sights n d) place
    → pushed ≡ told ++ record { sight = get_or sights n d; place = place } ∷ [] → AreFirstSeen E snapshots sights (n + 1) pushed
seen_more E snapshots sights n d told pushed place within before first more = subst (AreFirstSeen E snapshots sights (n + 1)) (sym more) (record {
  sound = λ i f is. elim (last_or told g i f is) [ inl old ↦ before.sound i f old | inr new ↦ subst (λ (h : DriverFinding). IsFirstSeen E snapshots h.sight h.place) new first ];
  complete = λ i x lt at. elim (cases_lt i n) [
    | inl early ↦ elim (before.complete i x early at) [ inl is ↦ inl (is.0, is.1, still_there told g is.0 is.1 is.2, is.3) | inr none ↦ inr none ]
    | inr late ↦ inl (length told, g, at_end told g, it i x lt late at)
  ];
})
  where
    g : DriverFinding
    g = record { sight = get_or sights n d; place = place }

    it : (i : ℕ) (x : DriverSight) → i < n + 1 → n ≤ i → slice_get sights i ≡ Some x → get_or sights n d ≡ x
    it i x lt late at = let same : n ≡ i = omega (arith, lt, late) in some_is (get_or sights n d) x (sym (slice_get-get_or sights n d within) ∙ ap (slice_get sights) same ∙ at)

pub unseen_next : (E : ExaminedDriver) (snapshots : List DriverSnapshot) (sights : List DriverSight) (n : ℕ) (d : DriverSight) (told : List DriverFinding) → n < length sights → AreFirstSeen E snapshots sights n told → ((m : ℕ) → IsUnseen E snapshots m (get_or sights n d)) → AreFirstSeen E snapshots sights (n + 1) told
unseen_next E snapshots sights n d told within before none = record {
  sound = before.sound;
  complete = λ i x lt at. elim (cases_lt i n) [
    | inl early ↦ before.complete i x early at
    | inr late ↦ inr (subst (λ (y : DriverSight). (m : ℕ) → IsUnseen E snapshots m y) (it i x lt late at) none)
  ];
}
  where
    it : (i : ℕ) (x : DriverSight) → i < n + 1 → n ≤ i → slice_get sights i ≡ Some x → get_or sights n d ≡ x
    it i x lt late at = let same : n ≡ i = omega (arith, lt, late) in some_is (get_or sights n d) x (sym (slice_get-get_or sights n d within) ∙ ap (slice_get sights) same ∙ at)

pub first_is : (E : ExaminedDriver) (snapshots : List DriverSnapshot) (x : DriverSight) (at : ℕ) (s : DriverSnapshot) → slice_get snapshots at ≡ Some s → is_seen E s x ≡ true → IsUnseen E snapshots at x → IsFirstSeen E snapshots x at
first_is E snapshots x at s there shows before = record { where_it_stands = s; there = there; shows = shows; unseen = before }
