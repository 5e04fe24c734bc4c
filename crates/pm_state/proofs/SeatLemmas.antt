-- The places of all actors, by the seats in their row.
use Rattle.std.proofs.Common.{ℕ, ◌≡◌, ◌+◌, ◌*◌, ◌-◌, ◌<◌, ◌≤◌, ◌∙◌, Bool, true, false, ◌&&◌, List, [], drop, length, nat_lt, replicate, slice_index_or, slice_set, take, if◌then◌else◌, ap, refl, sym, subst, arith}
use Rattle.std.specs.List.{list_all}
use Rattle.std.proofs.lemmas.Bool.Decides.{nat_tests}
use Rattle.std.proofs.lemmas.List.{drop-drop, drop-replicate, drop-set-add, drop-set-lt, drop-take, get_or-drop, get_or-take, length-drop, length-take-le, take-append-drop, take-replicate, take-set-le, take-take, take_all}
use Rattle.std.proofs.Math.Seq.{take-set-lt}
use Rattle.std.proofs.lemmas.List.Folds.{list_all-append}
use Rattle.pm_base.specs.declared.ActorId.TheVariants.{Caller, Work, Timer}
use Rattle.pm_model.specs.declared.plan.Plan.{Plan}
use Rattle.pm_model.specs.declared.stage.Stage.{Stage}
use Rattle.pm_model.specs.Views.{Views}
use Rattle.pm_model.specs.World.{World, place, with_place}
use Rattle.pm_device.specs.Parts.{Shape}
use Rattle.pm_state.specs.Seats.{AreSeats, actor_at, actor_in, seats, world_of}
use Rattle.pm_state.specs.Standing.{IsOf, Standing}

-- what stands at a seat of the row is the place of who sits there
pub place_at : (v : Views) (c d i : ℕ) (l : List (List Stage)) (called : List ℕ) → place (world_of v c d l called) (actor_at c d i) ≡ slice_index_or l i []
place_at v c d i l called = go (nat_lt i c) refl (nat_lt i (c + d)) refl
  where
    go : (p : Bool) → nat_lt i c ≡ p → (q : Bool) → nat_lt i (c + d) ≡ q
        → place (world_of v c d l called) (if p then Caller i else if q then Work (i - c) else Timer (i - (c + d))) ≡ slice_index_or l i []
    go true e q f = let low : i < c = grind (arith, nat_tests) in get_or-take c l i [] low
    go false e true f =
        let over : c ≤ i = grind (arith, nat_tests) in
        let under : i < c + d = grind (arith, nat_tests) in
        let here : c + (i - c) ≡ i = omega (arith, over) in
        get_or-take d (drop c l) (i - c) [] (omega (arith, over, under)) ∙ get_or-drop c l (i - c) [] ∙ ap (λ n. slice_index_or l n []) here
    go false e false f =
        let over : c + d ≤ i = grind (arith, nat_tests) in
        let here : c + (d + (i - (c + d))) ≡ i = omega (arith, over) in
        get_or-drop d (drop c l) (i - (c + d)) [] ∙ get_or-drop c l (d + (i - (c + d))) [] ∙ ap (λ n. slice_index_or l n []) here

-- and what is put at a seat is put in that place
pub with_place_at : (v : Views) (c d i : ℕ) (l : List (List Stage)) (called : List ℕ) (s : List Stage)
    → world_of v c d (slice_set l i s) called ≡ with_place (world_of v c d l called) (actor_at c d i) s
with_place_at v c d i l called s = go (nat_lt i c) refl (nat_lt i (c + d)) refl
  where
    go : (p : Bool) → nat_lt i c ≡ p → (q : Bool) → nat_lt i (c + d) ≡ q
        → world_of v c d (slice_set l i s) called ≡ with_place (world_of v c d l called) (if p then Caller i else if q then Work (i - c) else Timer (i - (c + d))) s
    go true e q f =
        let low : i < c = grind (arith, nat_tests) in
        let rest = drop-set-lt c l i s low in
        rw (take-set-lt c l i s low, rest) refl
    go false e true f =
        let over : c ≤ i = grind (arith, nat_tests) in
        let under : i < c + d = grind (arith, nat_tests) in
        let here : c + (i - c) ≡ i = omega (arith, over) in
        let within : i - c < d = omega (arith, over, under) in
        let rest = ap (λ n. drop c (slice_set l n s)) (sym here) ∙ drop-set-add c l (i - c) s in
        let works = ap (take d) rest ∙ take-set-lt d (drop c l) (i - c) s within in
        let timers = ap (drop d) rest ∙ drop-set-lt d (drop c l) (i - c) s within in
        rw (take-set-le c l i s over, works, timers) refl
    go false e false f =
        let over : c + d ≤ i = grind (arith, nat_tests) in
        let here : c + (d + (i - (c + d))) ≡ i = omega (arith, over) in
        let first : c ≤ i = omega (arith, over) in
        let beyond : d ≤ d + (i - (c + d)) = omega arith in
        let rest = ap (λ n. drop c (slice_set l n s)) (sym here) ∙ drop-set-add c l (d + (i - (c + d))) s in
        let works = ap (take d) rest ∙ take-set-le d (drop c l) (d + (i - (c + d))) s beyond in
        let timers = ap (drop d) rest ∙ drop-set-add d (drop c l) (i - (c + d)) s in
        rw (take-set-le c l i s first, works, timers) refl

-- a state of a plan has a seat for each of its actors
pub record IsSat (plan : Plan) (c d : ℕ) : Type 0 where
  pub callers : c ≡ length plan.callers
  pub devices : d ≡ length plan.devices

abbrev pub standing_of : Shape → Views → ℕ → ℕ → List (List Stage) → List ℕ → ℕ → Standing
standing_of shape v c d l called room = record { shape = shape; world = world_of v c d l called; room = room }

pub sat : (plan : Plan) (shape : Shape) (v : Views) (c d : ℕ) (l : List (List Stage)) (called : List ℕ) (room : ℕ) (s : Standing) → AreSeats c d l → standing_of shape v c d l called room ≡ s
    → IsOf plan s → IsSat plan c d
sat plan shape v c d l called room s are view is =
    let of : IsOf plan (standing_of shape v c d l called room) = subst (IsOf plan) (sym view) is in
    let one = length-take-le c l (omega (arith, are.each)) in
    let rest = length-drop c l in
    let two = length-take-le d (drop c l) (omega (arith, are.each, rest)) in
    record { callers = sym one ∙ of.callers; devices = sym two ∙ of.works }

-- the stages at a seat are those of who sits there
pub record IsSeatOf (plan : Plan) (l : List (List Stage)) (s : Standing) (seat : ℕ) : Type 0 where
  pub within : seat < length l
  pub stages : slice_index_or l seat [] ≡ place s.world (actor_in plan seat)

pub is_seat : (plan : Plan) (shape : Shape) (v : Views) (c d : ℕ) (l : List (List Stage)) (called : List ℕ) (room : ℕ) (s : Standing) (seat : ℕ) → AreSeats c d l
    → standing_of shape v c d l called room ≡ s → IsOf plan s → seat < seats plan → IsSeatOf plan l s seat
is_seat plan shape v c d l called room s seat are view is below =
    let it = sat plan shape v c d l called room s are view is in
    let sits : actor_at c d seat ≡ actor_in plan seat = ap (λ n. actor_at n d seat) it.callers ∙ ap (λ n. actor_at (length plan.callers) n seat) it.devices in
    record {
      within = omega (arith, below, are.each, it.callers, it.devices);
      stages = sym (place_at v c d seat l called) ∙ ap (place (world_of v c d l called)) sits ∙ ap (λ (x : Standing). place x.world (actor_in plan seat)) view;
    }

-- and others may be put there
pub put_at : (plan : Plan) (shape : Shape) (v : Views) (c d : ℕ) (l : List (List Stage)) (called : List ℕ) (room : ℕ) (s : Standing) (seat : ℕ) (stages : List Stage) → AreSeats c d l
    → standing_of shape v c d l called room ≡ s → IsOf plan s
    → standing_of shape v c d (slice_set l seat stages) called room ≡ record s { world = with_place s.world (actor_in plan seat) stages }
put_at plan shape v c d l called room s seat stages are view is =
    let it = sat plan shape v c d l called room s are view is in
    let sits : actor_at c d seat ≡ actor_in plan seat = ap (λ n. actor_at n d seat) it.callers ∙ ap (λ n. actor_at (length plan.callers) n seat) it.devices in
    ap (λ (w : World). let x : Standing = record { shape = shape; world = w; room = room } in x)
    (with_place_at v c d seat l called stages ∙ ap (λ a. with_place (world_of v c d l called) a stages) sits)
    ∙ ap (λ (x : Standing). let y : Standing = record x { world = with_place x.world (actor_in plan seat) stages } in y) view

-- no place is open where none of callers, of work items and of timers is
pub all_three : (p : List Stage → Bool) (c d : ℕ) (l : List (List Stage))
    → list_all p l ≡ (list_all p (take c l) && list_all p (take d (drop c l)) && list_all p (drop d (drop c l)))
all_three p c d l =
    let two : list_all p (drop c l) ≡ (list_all p (take d (drop c l)) && list_all p (drop d (drop c l))) =
    ap (list_all p) (sym (take-append-drop d (drop c l))) ∙ list_all-append p (take d (drop c l)) (drop d (drop c l)) in
    let one : list_all p l ≡ (list_all p (take c l) && list_all p (drop c l)) = ap (list_all p) (sym (take-append-drop c l)) ∙ list_all-append p (take c l) (drop c l) in
    one ∙ ap (λ b. list_all p (take c l) && b) two ∙ joined (list_all p (take c l)) (list_all p (take d (drop c l))) (list_all p (drop d (drop c l)))
  where
    joined : (x y z : Bool) → (x && (y && z)) ≡ (x && y && z)
    joined true y z = refl
    joined false y z = refl

-- the row once callers, then work items, then timers are filled in
pub three_filled : (c d n m k : ℕ) (callers works timers l1 l2 l3 : List (List Stage)) → n ≡ c → m ≡ d → k ≡ d → length l3 ≡ c + 2 * d
    → take n (drop 0 l1) ≡ callers → take c l2 ≡ take c l1 → take m (drop c l2) ≡ works → take (c + d) l3 ≡ take (c + d) l2 → take k (drop (c + d) l3) ≡ timers
    → (take c l3 ≡ callers) × (take d (drop c l3) ≡ works) × (drop d (drop c l3) ≡ timers)
three_filled c d n m k callers works timers l1 l2 l3 of_callers of_works of_timers long one kept two still three =
    let first : take c l3 ≡ callers =
    sym (take-take c (c + d) l3 (omega arith)) ∙ ap (take c) still ∙ take-take c (c + d) l2 (omega arith) ∙ kept ∙ ap (λ i. take i l1) (sym of_callers) ∙ one in
    let second : take d (drop c l3) ≡ works =
    sym (drop-take c d l3) ∙ ap (drop c) still ∙ drop-take c d l2 ∙ ap (λ i. take i (drop c l2)) (sym of_works) ∙ two in
    let rest : length (drop (c + d) l3) ≤ k = omega (arith, length-drop (c + d) l3, long, of_timers) in
    let third : drop d (drop c l3) ≡ timers = drop-drop d c l3 ∙ sym (take_all k (drop (c + d) l3) rest) ∙ three in
    (first, second, third)

-- the row before any line
pub fresh_row : (v : Views) (c d : ℕ) (called : List ℕ)
    → world_of v c d (replicate (c + 2 * d) []) called ≡ record { views = v; caller_places = replicate c []; work_places = replicate d []; timer_places = replicate d []; called = called }
fresh_row v c d called =
    let none : ℕ → List (List Stage) = λ n. replicate n [] in
    let first : take c (none (c + 2 * d)) ≡ none c = take-replicate c (c + 2 * d) [] (omega arith) in
    let many : c + 2 * d - c ≡ d + d = omega arith in
    let rest : drop c (none (c + 2 * d)) ≡ none (d + d) = drop-replicate c (c + 2 * d) [] ∙ ap none many in
    let works : take d (drop c (none (c + 2 * d))) ≡ none d = ap (take d) rest ∙ take-replicate d (d + d) [] (omega arith) in
    let left : d + d - d ≡ d = omega arith in
    let timers : drop d (drop c (none (c + 2 * d))) ≡ none d = ap (drop d) rest ∙ drop-replicate d (d + d) [] ∙ ap none left in
    rw (first, works, timers) refl
