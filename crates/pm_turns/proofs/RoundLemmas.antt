-- The round of the places is that of the plan.
use Rattle.std.proofs.Common.{◌≡◌, ◌+◌, ◌-◌, ◌<◌, ◌≤◌, ℕ, zero, suc, true, false, List, [], ◌∷◌, ◌++◌, Option, drop, take, length, map, nat_lt, refl, ap, sym, ◌∙◌, arith}
use Rattle.std.specs.List.{enumerate_from}
use Rattle.std.proofs.lemmas.List.{append_assoc}
use Rattle.std.proofs.lemmas.Bool.Decides.{nat_tests}
use Rattle.pm_base.specs.declared.ActorId.{ActorId}
use Rattle.pm_base.specs.declared.ActorId.TheVariants.{Caller, Work, Timer}
use Rattle.pm_model.specs.declared.plan.Plan.{Plan}
use Rattle.pm_model.specs.History.{History}
use Rattle.pm_model.specs.Lawful.{last_time}
use Rattle.pm_model.specs.Serial.{callers_and_works, next_turn, round, seat, timer_actors}
use Rattle.pm_model.specs.World.{world}
use Rattle.pm_state.specs.Seats.{actor_at}
use Rattle.pm_turns.specs.Seats.{Seating, round_of, span}
use Rattle.pm_laws.specs.turns.Wakes.{turn_by, wakes}
use Rattle.pm_laws.proofs.turns.Turning.{next_is}

-- the seats are those of this plan, and the search begins after the last writer
pub record IsRound (plan : Plan) (h : History) (s : Seating) : Type 0 where
  pub callers : s.callers ≡ length plan.callers
  pub devices : s.devices ≡ length plan.devices
  pub seat : s.seat ≡ seat plan h
  pub begins : s.seat ≤ s.callers + s.devices
  pub time : s.time ≡ last_time h

at_caller : (c d i : ℕ) → i < c → actor_at c d i ≡ Caller i
at_caller c d i low = let e : nat_lt i c ≡ true = grind (arith, nat_tests) in rw e refl

at_work : (c d i : ℕ) → i < d → actor_at c d (c + i) ≡ Work i
at_work c d i low =
    let e : nat_lt (c + i) c ≡ false = grind (arith, nat_tests) in
    let f : nat_lt (c + i) (c + d) ≡ true = grind (arith, nat_tests) in
    let g : c + i - c ≡ i = omega arith in
    rw (e, f, g) refl

at_timer : (c d i : ℕ) → actor_at c d (c + d + i) ≡ Timer i
at_timer c d i =
    let e : nat_lt (c + d + i) c ≡ false = grind (arith, nat_tests) in
    let f : nat_lt (c + d + i) (c + d) ≡ false = grind (arith, nat_tests) in
    let g : c + d + i - (c + d) ≡ i = omega arith in
    rw (e, f, g) refl

-- a part of a plan's actors is a span
abbrev numbered : {A : Type 0} → (ℕ → ActorId) → ℕ → List A → List ActorId
numbered kind i rows = map (λ p. kind p.0) (enumerate_from i rows)

numbered_span : {A : Type 0} (kind f : ℕ → ActorId) (base i : ℕ) (rows : List A) → ((j : ℕ) → i ≤ j → j < i + length rows → f (base + j) ≡ kind j)
    → numbered kind i rows ≡ span f (base + i) (length rows)
numbered_span kind f base i [] same = refl
numbered_span kind f base i (x ∷ rows) same =
    let rest : numbered kind (i + 1) rows ≡ span f (base + (i + 1)) (length rows) = numbered_span kind f base (i + 1) rows (λ j low high. same j (omega (arith, low)) (omega (arith, high))) in
    let step : base + (i + 1) ≡ base + i + 1 = omega arith in
    let first : kind i ≡ f (base + i) = sym (same i (omega arith) (omega arith)) in
    rw first (ap (λ l. f (base + i) ∷ l) (rest ∙ ap (λ n. span f n (length rows)) step))

span_joined : (f : ℕ → ActorId) (i m n : ℕ) → span f i (m + n) ≡ span f i m ++ span f (i + m) n
span_joined f i zero n = let e : i + 0 ≡ i = omega arith in let g : 0 + n ≡ n = omega arith in rw (e, g) refl
span_joined f i (suc m) n =
    let e : i + suc m ≡ i + 1 + m = omega arith in
    let g : suc m + n ≡ suc (m + n) = omega arith in
    rw (e, g) (ap (λ l. f i ∷ l) (span_joined f (i + 1) m n))

span_drop : (f : ℕ → ActorId) (i s n : ℕ) → s ≤ n → drop s (span f i n) ≡ span f (i + s) (n - s)
span_drop f i zero n low = let e : i + 0 ≡ i = omega arith in let g : n - 0 ≡ n = omega arith in rw (e, g) refl
span_drop f i (suc s) zero low = absurd (omega (arith, low))
span_drop f i (suc s) (suc n) low =
    let e : i + suc s ≡ i + 1 + s = omega arith in
    let g : suc n - suc s ≡ n - s = omega arith in
    rw (e, g) (span_drop f (i + 1) s n (omega (arith, low)))

span_take : (f : ℕ → ActorId) (i s n : ℕ) → s ≤ n → take s (span f i n) ≡ span f i s
span_take f i zero n low = refl
span_take f i (suc s) zero low = absurd (omega (arith, low))
span_take f i (suc s) (suc n) low = ap (λ l. f i ∷ l) (span_take f (i + 1) s n (omega (arith, low)))

pub round_is : (plan : Plan) (h : History) (s : Seating) → IsRound plan h s → round plan h ≡ round_of s
round_is plan h s is = assembled
  where
    f : ℕ → ActorId
    f = actor_at s.callers s.devices

    callers : numbered (λ i. Caller i) 0 plan.callers ≡ span f 0 s.callers
    callers = numbered_span (λ i. Caller i) f 0 0 plan.callers (λ j low high. let e : 0 + j ≡ j = omega arith in rw e (at_caller s.callers s.devices j (omega (arith, high, is.callers)))) ∙ ap (span f 0) (sym is.callers)

    works : numbered (λ i. Work i) 0 plan.devices ≡ span f (0 + s.callers) s.devices
    works = numbered_span (λ i. Work i) f s.callers 0 plan.devices (λ j low high. at_work s.callers s.devices j (omega (arith, high, is.devices)))
        ∙ ap (λ n. span f n (length plan.devices)) (omega arith) ∙ ap (span f (0 + s.callers)) (sym is.devices)

    clocks : timer_actors plan ≡ span f (s.callers + s.devices) s.devices
    clocks = numbered_span (λ i. Timer i) f (s.callers + s.devices) 0 plan.devices (λ j low high. at_timer s.callers s.devices j)
        ∙ ap (λ n. span f n (length plan.devices)) (omega arith) ∙ ap (span f (s.callers + s.devices)) (sym is.devices)

    all : callers_and_works plan ≡ span f 0 (s.callers + s.devices)
    all = ap (λ l. l ++ numbered (λ i. Work i) 0 plan.devices) callers ∙ ap (λ l. span f 0 s.callers ++ l) works ∙ sym (span_joined f 0 s.callers s.devices)

    dropped : drop s.seat (callers_and_works plan) ≡ span f s.seat (s.callers + s.devices - s.seat)
    dropped = ap (drop s.seat) all ∙ span_drop f 0 s.seat (s.callers + s.devices) is.begins ∙ ap (λ n. span f n (s.callers + s.devices - s.seat)) (omega arith)

    taken : take s.seat (callers_and_works plan) ≡ span f 0 s.seat
    taken = ap (take s.seat) all ∙ span_take f 0 s.seat (s.callers + s.devices) is.begins

    by_seat : round plan h ≡ drop s.seat (callers_and_works plan) ++ take s.seat (callers_and_works plan) ++ timer_actors plan
    by_seat = ap (λ n. drop n (callers_and_works plan) ++ take n (callers_and_works plan) ++ timer_actors plan) (sym is.seat)

    assembled : round plan h ≡ span f s.seat (s.callers + s.devices - s.seat) ++ (span f 0 s.seat ++ span f (s.callers + s.devices) s.devices)
    assembled = by_seat ∙ ap (λ l. l ++ take s.seat (callers_and_works plan) ++ timer_actors plan) dropped
        ∙ ap (λ l. span f s.seat (s.callers + s.devices - s.seat) ++ l ++ timer_actors plan) taken
        ∙ ap (λ l. span f s.seat (s.callers + s.devices - s.seat) ++ span f 0 s.seat ++ l) clocks
        ∙ append_assoc (span f s.seat (s.callers + s.devices - s.seat)) (span f 0 s.seat) (span f (s.callers + s.devices) s.devices)

pub turn_is_next : (plan : Plan) (h : History) (s : Seating) (r : Option (ActorId × ℕ)) → IsRound plan h s → r ≡ turn_by (wakes plan (world plan h)) (round_of s) s.time → r ≡ next_turn plan h
turn_is_next plan h s r is e =
    e ∙ ap (λ l. turn_by (wakes plan (world plan h)) l s.time) (sym (round_is plan h s is)) ∙ ap (turn_by (wakes plan (world plan h)) (round plan h)) is.time ∙ sym (next_is plan h)
