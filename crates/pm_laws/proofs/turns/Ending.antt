-- A run that isn't finished goes on, and one thread goes on with it until it is finished or full.
use Rattle.std.proofs.Common.{ℕ, zero, suc, ◌≡◌, ◌+◌, ◌<◌, ◌≤◌, ◌⊎◌, Bool, true, false, List, [], ◌∷◌, ◌++◌, Option, Some, None, drop, is_none, length, map, take, ap, refl, sym, ◌∙◌, subst, arith, inl, inr}
use Rattle.std.specs.List.{enumerate_from, list_all}
use Rattle.std.specs.Option.{option_and_then, option_map_or}
use Rattle.std.proofs.lemmas.Bool.{and_parts, false≢true}
use Rattle.std.proofs.lemmas.List.{length-reverse, take-append-drop}
use Rattle.std.proofs.lemmas.List.Folds.{list_all-append}
use Rattle.pm_base.specs.declared.ActorId.{ActorId}
use Rattle.pm_base.specs.declared.ActorId.TheVariants.{Caller, Work, Timer}
use Rattle.pm_model.specs.declared.event.Line.{Line}
use Rattle.pm_model.specs.declared.plan.Plan.{Plan}
use Rattle.pm_model.specs.declared.stage.Move.{Move}
use Rattle.pm_model.specs.declared.stage.Move.TheVariants.{Write, Late, Wait}
use Rattle.pm_model.specs.declared.stage.Stage.{Stage}
use Rattle.pm_model.specs.History.{History}
use Rattle.pm_model.specs.Lawful.{IsFinished, IsLawful, Permits, last_time}
use Rattle.pm_model.specs.Promises.{IsNeverStuck}
use Rattle.pm_model.specs.Serial.{callers_and_works, goes_on, move_at, next_line, next_turn, round, seat, serial, timer_actors, writes_line, written}
use Rattle.pm_model.specs.World.{World, stage_at, world}
use Rattle.pm_laws.specs.counts.Sizes.{HasPlaces}
use Rattle.pm_laws.proofs.counts.Finals.{nothing_follows}
use Rattle.pm_laws.proofs.counts.Places.{IsPlaced, is_placed}
use Rattle.pm_laws.proofs.counts.Runs.{Holds, lawful_holds}
use Rattle.pm_laws.proofs.turns.Idling.{one_idle}
use Rattle.pm_model.proofs.SerialLemmas.{permits_next}
use Rattle.pm_laws.specs.turns.Wakes.{wakes, wakes_at}
use Rattle.pm_laws.proofs.turns.Turning.{next_is, no_turn, turn_awake}
use Rattle.pm_laws.proofs.turns.Waking.{actor_timed}
use Rattle.pm_laws.proofs.stacks.Stacks.{stacks_nest}
use Rattle.pm_laws.proofs.turns.Asleep.{none_stands}
use Rattle.pm_laws.proofs.turns.Finishing.{all_rest}

-- a test of all actors of a round is one of each actor of the plan
two_parts : {A : Type 0} (test : A → Bool) (xs ys : List A) → list_all test (xs ++ ys) ≡ true → (list_all test xs ≡ true) × (list_all test ys ≡ true)
two_parts test xs ys all = and_parts _ _ (sym (list_all-append test xs ys) ∙ all)

turned : {A : Type 0} (test : A → Bool) (n : ℕ) (xs : List A) → list_all test (drop n xs ++ take n xs) ≡ true → list_all test xs ≡ true
turned test n xs all =
    let parts = two_parts test (drop n xs) (take n xs) all in
    ap (list_all test) (sym (take-append-drop n xs)) ∙ list_all-append test (take n xs) (drop n xs) ∙ rw (parts.0, parts.1) refl

numbered : {A B : Type 0} (test : B → Bool) (f : ℕ → B) (n : ℕ) (xs : List A) (i : ℕ) → i < length xs
    → list_all test (map (λ p. f p.0) (enumerate_from n xs)) ≡ true → test (f (n + i)) ≡ true
numbered test f n [] i lt all = absurd (omega arith)
numbered test f n (x ∷ xs) zero lt all = let n_is : n + 0 ≡ n = omega arith in ap (λ m. test (f m)) n_is ∙ (and_parts _ _ all).0
numbered test f n (x ∷ xs) (suc i) lt all =
    let n_is : n + suc i ≡ n + 1 + i = omega arith in ap (λ m. test (f m)) n_is ∙ numbered test f (n + 1) xs i (omega arith) (and_parts _ _ all).1

from_zero : {A B : Type 0} (test : B → Bool) (f : ℕ → B) (xs : List A) (i : ℕ) → i < length xs
    → list_all test (map (λ p. f p.0) (enumerate_from 0 xs)) ≡ true → test (f i) ≡ true
from_zero test f xs i lt all = let i_is : i ≡ 0 + i = omega arith in ap (λ m. test (f m)) i_is ∙ numbered test f 0 xs i lt all

each_actor : (plan : Plan) (h : History) (w : World) (test : ActorId → Bool) → HasPlaces plan w → list_all test (round plan h) ≡ true
    → (a : ActorId) → IsPlaced w a → test a ≡ true
each_actor plan h w test sizes all = go
  where
    parts : (list_all test (drop (seat plan h) (callers_and_works plan) ++ take (seat plan h) (callers_and_works plan)) ≡ true) × (list_all test (timer_actors plan) ≡ true)
    parts = two_parts test _ (timer_actors plan) all

    both : (list_all test (map (λ p. Caller p.0) (enumerate_from 0 plan.callers)) ≡ true) × (list_all test (map (λ p. Work p.0) (enumerate_from 0 plan.devices)) ≡ true)
    both = two_parts test _ _ (turned test (seat plan h) (callers_and_works plan) parts.0)

    go : (a : ActorId) → IsPlaced w a → test a ≡ true
    go (Caller c) is = from_zero test (λ n. Caller n) plan.callers c (omega (arith, is, sizes.callers)) both.0
    go (Work d) is = from_zero test (λ n. Work n) plan.devices d (omega (arith, is, sizes.works)) both.1
    go (Timer d) is = from_zero test (λ n. Timer n) plan.devices d (omega (arith, is, sizes.timers)) parts.1

none_is : (o : Option ℕ) → is_none o ≡ true → o ≡ None
none_is None is = refl
none_is (Some m) is = absurd (false≢true is)

-- where it is nobody's turn no actor may ever write
all_asleep : (plan : Plan) (h : History) → Holds plan (world plan h) → next_turn plan h ≡ None → (a : ActorId) → wakes plan (world plan h) a ≡ None
all_asleep plan h holds none a = go (stage_at plan w a) refl
  where
    w : World
    w = world plan h

    rests : list_all (λ a. is_none (wakes plan w a)) (round plan h) ≡ true
    rests = no_turn (wakes plan w) (round plan h) (last_time h) (sym (next_is plan h) ∙ none)

    go : (o : Option Stage) → stage_at plan w a ≡ o → option_and_then (wakes_at plan w.views) (stage_at plan w a) ≡ None
    go None at = ap (option_and_then (wakes_at plan w.views)) at
    go (Some s) at = none_is _ (each_actor plan h w (λ a. is_none (wakes plan w a)) holds.places rests a (is_placed plan w a s holds.entries holds.places at))

pub turn_ends : (plan : Plan) (h : History) → IsLawful plan h → next_turn plan h ≡ None → IsFinished plan h
turn_ends plan h lawful none =
    let holds = lawful_holds plan h lawful in
    all_rest plan (world plan h) (none_stands plan (world plan h) (record {
      entries = holds.entries;
      nested = stacks_nest plan h lawful;
      owners = holds.owners;
      idles = one_idle plan h lawful;
      asleep = all_asleep plan h holds none;
    }))

-- whose turn it is writes a line
wrote : (turn : ActorId × ℕ) (o : Option Move) → option_map_or writes_line o false ≡ true → option_and_then (written turn.0 turn.1) o ≡ None → ⊥
wrote turn None may none = false≢true may
wrote turn (Some (Late at)) may none = false≢true may
wrote turn (Some (Wait d)) may none = false≢true may
wrote turn (Some (Write e change next)) may none = cc

no_line : (plan : Plan) (h : History) → next_line plan h ≡ None → next_turn plan h ≡ None
no_line plan h none = go (next_turn plan h) refl none
  where
    w : World
    w = world plan h

    go : (o : Option (ActorId × ℕ)) → next_turn plan h ≡ o
        → option_and_then (λ turn. option_and_then (written turn.0 turn.1) (move_at plan w turn.1 turn.0)) o ≡ None → o ≡ None
    go None is none = refl
    go (Some turn) is none =
        let awake = turn_awake (wakes plan w) (round plan h) (last_time h) turn (sym (next_is plan h) ∙ is) in
        absurd (wrote turn (move_at plan w turn.1 turn.0) ((actor_timed plan w turn.1 turn.0).0 ∙ awake) none)

pub line_ends : (plan : Plan) (h : History) → IsLawful plan h → next_line plan h ≡ None → IsFinished plan h
line_ends plan h lawful none = turn_ends plan h lawful (no_line plan h none)

pub finished_line : (plan : Plan) (h : History) → IsFinished plan h → next_line plan h ≡ None
finished_line plan h done = go (next_line plan h) refl
  where
    go : (o : Option Line) → next_line plan h ≡ o → o ≡ None
    go None is = refl
    go (Some line) is = absurd (nothing_follows plan h line (permits_next plan h line is) done)

pub finished_turn : (plan : Plan) (h : History) → IsFinished plan h → next_turn plan h ≡ None
finished_turn plan h done = no_line plan h (finished_line plan h done)

pub never_stuck : (plan : Plan) (h : History) → IsLawful plan h → IsNeverStuck plan h
never_stuck plan h lawful room = go (next_line plan h) refl
  where
    go : (o : Option Line) → next_line plan h ≡ o → IsFinished plan h ⊎ ((line : Line) × Permits plan h line)
    go None is = inl (line_ends plan h lawful is)
    go (Some line) is = inr (line, permits_next plan h line is)

-- the run is finished, or each turn has written a line
abbrev IsWhole : Plan → History → ℕ → Type 0
IsWhole plan h n = IsFinished plan h ⊎ (length h ≡ n)

pub goes_to_end : (plan : Plan) (n : ℕ) (h : History) → length h + n ≤ plan.lines → IsLawful plan h → IsWhole plan (goes_on plan n h) (length h + n)
goes_to_end plan zero h fits lawful = inr (omega arith)
goes_to_end plan (suc n) h fits lawful = go (next_line plan h) refl (λ line. goes_to_end plan n (line ∷ h))
  where
    go : (o : Option Line) → next_line plan h ≡ o
        → ((line : Line) → length (line ∷ h) + n ≤ plan.lines → IsLawful plan (line ∷ h) → IsWhole plan (goes_on plan n (line ∷ h)) (length (line ∷ h) + n))
        → IsWhole plan (option_map_or (λ line. goes_on plan n (line ∷ h)) o h) (length h + suc n)
    go None is further = inl (line_ends plan h lawful is)
    go (Some line) is further =
        let same : length (line ∷ h) + n ≡ length h + suc n = omega arith in
        subst (IsWhole plan (goes_on plan n (line ∷ h))) same (further line (omega arith) (permits_next plan h line is, omega arith, lawful))

pub serial_whole : (plan : Plan) → IsFinished plan (goes_on plan plan.lines []) ⊎ (length (serial plan) ≡ plan.lines)
serial_whole plan = elim (goes_to_end plan plan.lines [] (omega arith) tt) [
  | inl done ↦ inl done
  | inr full ↦ inr (length-reverse (goes_on plan plan.lines []) ∙ full ∙ omega arith)
]
