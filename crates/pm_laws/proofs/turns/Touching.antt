-- Which moments a line moves.
use Rattle.std.proofs.Common.{ℕ, zero, suc, ◌≡◌, ◌⊎◌, Bool, true, false, ◌||◌, List, [], ◌∷◌, Option, Some, None, map, nat_eq, slice_index_or, ap, refl, sym, ◌∙◌, subst, arith, inl, inr}
use Rattle.std.specs.Option.{option_and_then, option_map_or}
use Rattle.std.proofs.lemmas.Bool.{false≢true}
use Rattle.std.proofs.lemmas.Bool.Decides.{nat_tests}
use Rattle.pm_base.specs.declared.ActorId.{ActorId}
use Rattle.pm_base.specs.declared.ActorId.TheVariants.{Caller, Work, Timer}
use Rattle.pm_base.specs.declared.Armed.{Armed}
use Rattle.pm_base.specs.declared.DevId.{DevId}
use Rattle.pm_model.specs.declared.event.Event.{Event}
use Rattle.pm_model.specs.declared.event.Line.{Line}
use Rattle.pm_model.specs.declared.plan.Plan.{Plan}
use Rattle.pm_model.specs.declared.stage.Stage.{Stage}
use Rattle.pm_model.specs.History.{History}
use Rattle.pm_model.specs.Lawful.{IsLawful}
use Rattle.pm_model.specs.Views.{fresh_pending}
use Rattle.pm_model.specs.World.{place, ready, start, top, world}
use Rattle.pm_laws.specs.turns.Wakes.{wakes, wakes_at}
use Rattle.pm_laws.specs.turns.Looks.{IsApart, IsSpared, device_at, device_in, looks_by, stirs}
use Rattle.pm_laws.specs.turns.Told.{IsShown, is_actor, reaches_any, told_wait, top_looks, touches, touches_any, waits_for}
use Rattle.pm_laws.proofs.turns.Frames.{wakes_frame}
use Rattle.pm_laws.proofs.turns.Resting.{wakes_calm}
use Rattle.pm_laws.proofs.turns.Telling.{all_shown, is_itself, other_actor}

third : (a b c : Bool) → c ≡ true → a || b || c ≡ true
third true b c e = refl
third false true c e = refl
third false false c e = e

second : (a b c : Bool) → b ≡ true → a || b || c ≡ true
second true b c e = refl
second false true c e = refl
second false false c e = cc

first : (a b c : Bool) → a ≡ true → a || b || c ≡ true
first true b c e = refl
first false b c e = cc

-- whoever looks at a device is touched by it
looks_touched : (h : History) (b : ActorId) (l : List Stage) (x : DevId) → looks_by b l ≡ Some x → IsShown (told_wait b h) l → touches x.0 h b ≡ true
looks_touched h (Caller c) [] x e shown = cc
looks_touched h (Work d) [] x e shown =
    let same : d ≡ x.0 = ap (λ (o : Option DevId). option_map_or (λ y. y.0) o d) e in
    first (is_actor (Work d) (Work x.0)) (is_actor (Work d) (Timer x.0)) (option_map_or (λ y. nat_eq y.0 x.0) (told_wait (Work d) h) false)
    (subst (λ n. is_actor (Work d) (Work n) ≡ true) same (is_itself (Work d)))
looks_touched h (Timer d) [] x e shown =
    let same : d ≡ x.0 = ap (λ (o : Option DevId). option_map_or (λ y. y.0) o d) e in
    second (is_actor (Timer d) (Work x.0)) (is_actor (Timer d) (Timer x.0)) (option_map_or (λ y. nat_eq y.0 x.0) (told_wait (Timer d) h) false)
    (subst (λ n. is_actor (Timer d) (Timer n) ≡ true) same (is_itself (Timer d)))
looks_touched h b (s ∷ rest) x e shown =
    let told : told_wait b h ≡ Some x = sym shown.0 ∙ e in
    let same : nat_eq x.0 x.0 ≡ true = grind (arith, nat_tests) in
    third (is_actor b (Work x.0)) (is_actor b (Timer x.0)) (option_map_or (λ y. nat_eq y.0 x.0) (told_wait b h) false)
    (ap (λ (o : Option DevId). option_map_or (λ y. nat_eq y.0 x.0) o false) told ∙ same)

apart_from : (o : Option DevId) (h : History) (b : ActorId) (x : DevId) → touches x.0 h b ≡ true → touches_any o h b ≡ false → IsApart o x
apart_from None h b x hit miss = tt
apart_from (Some d) h b x hit miss = λ same. absurd (false≢true (sym miss ∙ ap (λ n. touches n h b) (sym same) ∙ hit))

spared : (h : History) (b : ActorId) (l : List Stage) (s : Stage) (e : Event) → IsShown (told_wait b h) l → touches_any (device_at s) h b ≡ false
    → touches_any (device_in e) h b ≡ false → IsSpared (looks_by b l) s e
spared h b l s e shown p q = go (looks_by b l) refl
  where
    go : (o : Option DevId) → looks_by b l ≡ o → IsSpared o s e
    go None is = tt
    go (Some x) is = let hit = looks_touched h b l x is shown in (apart_from (device_at s) h b x hit p, apart_from (device_in e) h b x hit q)

pub only_touched : (plan : Plan) (h : History) (line : Line) (lawful : IsLawful plan (line ∷ h)) (b : ActorId) → is_actor b line.actor ≡ false
    → touches_any (device_at lawful.0.stage) h b ≡ false → touches_any (device_in line.event) h b ≡ false
    → wakes plan (world plan (line ∷ h)) b ≡ wakes plan (world plan h) b
only_touched plan h line lawful b other p q =
    wakes_frame plan h line lawful.0 b (other_actor b line.actor other)
    (spared h b (place (world plan h) b) lawful.0.stage line.event (all_shown plan h lawful.2 b) p q)

-- where a line stirs no work item and no timer it moves the moments of those alone who wait for its devices
waits_apart : (o : Option DevId) (h : History) (b : ActorId) (x : DevId) → waits_for x.0 h b ≡ true → reaches_any false o h b ≡ false → IsApart o x
waits_apart None h b x hit miss = tt
waits_apart (Some d) h b x hit miss = λ same. absurd (false≢true (sym miss ∙ ap (λ n. waits_for n h b) (sym same) ∙ hit))

looks_waits : (h : History) (b : ActorId) (x : DevId) → told_wait b h ≡ Some x → waits_for x.0 h b ≡ true
looks_waits h b x told =
    let same : nat_eq x.0 x.0 ≡ true = grind (arith, nat_tests) in
    ap (λ (o : Option DevId). option_map_or (λ y. nat_eq y.0 x.0) o false) told ∙ same

waits_spared : (h : History) (b : ActorId) (l : List Stage) (s : Stage) (e : Event) → IsShown (told_wait b h) l → reaches_any false (device_at s) h b ≡ false
    → reaches_any false (device_in e) h b ≡ false → IsSpared (top_looks l) s e
waits_spared h b l s e shown p q = go (top_looks l) refl
  where
    go : (o : Option DevId) → top_looks l ≡ o → IsSpared o s e
    go None is = tt
    go (Some x) is = let hit = looks_waits h b x (sym shown.0 ∙ is) in (waits_apart (device_at s) h b x hit p, waits_apart (device_in e) h b x hit q)

pub only_reached : (plan : Plan) (h : History) (line : Line) (lawful : IsLawful plan (line ∷ h)) (b : ActorId) (stirred : Bool) → stirs line.event lawful.0.change ≡ stirred
    → is_actor b line.actor ≡ false → reaches_any stirred (device_at lawful.0.stage) h b ≡ false → reaches_any stirred (device_in line.event) h b ≡ false
    → wakes plan (world plan (line ∷ h)) b ≡ wakes plan (world plan h) b
only_reached plan h line lawful b true is other p q = only_touched plan h line lawful b other p q
only_reached plan h line lawful b false is other p q =
    wakes_calm plan h line lawful.0 b (other_actor b line.actor other) is
    (waits_spared h b (place (world plan h) b) lawful.0.stage line.event (all_shown plan h lawful.2 b) p q)

pub settled : (plan : Plan) (h : History) (line : Line) (lawful : IsLawful plan (line ∷ h)) (before after : ActorId → Option ℕ) (a : ActorId)
    → before a ≡ wakes plan (world plan h) a
    → (after a ≡ wakes plan (world plan (line ∷ h)) a)
    ⊎ ((after a ≡ before a) × (is_actor a line.actor ≡ false) × (touches_any (device_at lawful.0.stage) h a ≡ false) × (touches_any (device_in line.event) h a ≡ false))
    → after a ≡ wakes plan (world plan (line ∷ h)) a
settled plan h line lawful before after a was (inl anew) = anew
settled plan h line lawful before after a was (inr kept) = kept.0 ∙ was ∙ sym (only_touched plan h line lawful a kept.1 kept.2 kept.3)

-- before any line
constant : {A B : Type 0} (x : B) (rows : List A) (i : ℕ) → slice_index_or (map (λ _. x) rows) i x ≡ x
constant x [] i = refl
constant x (r ∷ rows) zero = refl
constant x (r ∷ rows) (suc i) = constant x rows i

pub work_rests : (plan : Plan) (d : ℕ) → wakes plan (start plan) (Work d) ≡ None
work_rests plan d =
    ap (λ l. option_and_then (wakes_at plan (start plan).views) (top (ready plan (start plan) (Work d)) l)) (constant [] plan.devices d) ∙ rw (constant fresh_pending plan.devices d) refl

pub timer_rests : (plan : Plan) (d : ℕ) → wakes plan (start plan) (Timer d) ≡ None
timer_rests plan d =
    ap (λ l. option_and_then (wakes_at plan (start plan).views) (top (ready plan (start plan) (Timer d)) l)) (constant [] plan.devices d) ∙ rw (constant {B = Option Armed} None plan.devices d) refl
