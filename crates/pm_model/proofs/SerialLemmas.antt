-- The lines that serial writes are lawful.
use Rattle.std.proofs.Common.{◌≡◌, ℕ, suc, zero, ◌+◌, ◌<◌, ◌≤◌, Bool, true, false, List, [], ◌∷◌, Option, Some, None, length, min, nat_lt, option_map, refl, ap, subst, arith, if◌then◌else◌}
use Rattle.std.proofs.lemmas.Option.{same_Some}
use Rattle.std.specs.List.{filter_map, cons_option}
use Rattle.std.specs.Option.{option_and_then, option_map_or}
use Rattle.pm_base.specs.declared.ActorId.{ActorId}
use Rattle.pm_model.specs.declared.event.Line.{Line}
use Rattle.pm_model.specs.declared.plan.Plan.{Plan}
use Rattle.pm_model.specs.declared.stage.Move.{Move}
use Rattle.pm_model.specs.declared.stage.Move.TheVariants.{Write, Late, Wait}
use Rattle.pm_model.specs.declared.stage.Stage.{Stage}
use Rattle.pm_model.specs.Lawful.{IsLawful, Permits, last_time}
use Rattle.pm_model.specs.Row.{Row, writes, waits, move_of, timed}
use Rattle.pm_model.specs.Serial.{goes_on, late_moment, least, least_due, move_at, next_line, next_turn, or_later, round, turn_at, written}
use Rattle.pm_model.specs.World.{World, due, move, row, stage_at, world}
use borrow.Author.Tests.{ltb-true}

-- a moment that a row's line only awaits is later
later_by_test :
    (t at moment : ℕ) (r : Row) (b : Bool) → nat_lt t moment ≡ b
    → late_moment (if b then Late moment else move_of r) ≡ Some at → t < at
later_by_test t at moment r true test e = subst (λ (m : ℕ). t < m) (same_Some moment at e) (ltb-true t moment test)
later_by_test t at moment (writes event change next) false test e = cc
later_by_test t at moment (waits d) false test e = cc

later_by_row :
    (plan : Plan) (w : World) (t at : ℕ) (s : Stage) (r : Option Row)
    → option_and_then late_moment (option_map (timed (due plan w.views s) t) r) ≡ Some at → t < at
later_by_row plan w t at s None e = cc
later_by_row plan w t at s (Some r) e =
    later_by_test t at (due plan w.views s) r (nat_lt t (due plan w.views s)) refl e

later_by_stage :
    (plan : Plan) (w : World) (t at : ℕ) (s : Option Stage)
    → option_and_then late_moment (option_and_then (λ x. move plan w.views x t) s) ≡ Some at → t < at
later_by_stage plan w t at None e = cc
later_by_stage plan w t at (Some s) e = later_by_row plan w t at s (row plan w.views s t) e

-- the least of moments that are later is later
least_of_two :
    (t x at : ℕ) (least_other : Option ℕ) → t < x → ((m : ℕ) → least_other ≡ Some m → t < m)
    → Some (option_map_or (min x) least_other x) ≡ Some at → t < at
least_of_two t x at None first others e = let same = same_Some x at e in omega arith
least_of_two t x at (Some y) first others e =
    let same = same_Some (min x y) at e in
    let other : t < y = others y refl in
    omega arith

least_among :
    (f : ActorId → Option ℕ) (t : ℕ) → ((actor : ActorId) (at : ℕ) → f actor ≡ Some at → t < at)
    → (actors : List ActorId) (at : ℕ) → least (filter_map f actors) ≡ Some at → t < at
least_among f t each [] at e = cc
least_among f t each (actor ∷ actors) at e = go (f actor) refl (λ m. least_among f t each actors m) e
  where
    go :
        (o : Option ℕ) → f actor ≡ o → ((m : ℕ) → least (filter_map f actors) ≡ Some m → t < m)
        → least (cons_option o (filter_map f actors)) ≡ Some at → t < at
    go None is others e = others at e
    go (Some x) is others e = least_of_two t x at (least (filter_map f actors)) (each actor x is) others e

-- the moment of the next line isn't before the last line
least_due_later : (plan : Plan) (h : List Line) (at : ℕ) → least_due plan h ≡ Some at → last_time h < at
least_due_later plan h at e =
    least_among (λ actor. option_and_then late_moment (move_at plan (world plan h) (last_time h) actor)) (last_time h)
    (λ actor at e. later_by_stage plan (world plan h) (last_time h) at (stage_at plan (world plan h) actor) e)
    (round plan h) at e

-- nor is that of a turn
in_time :
    (plan : Plan) (h : List Line) (o : Option ActorId) (turn : ActorId × ℕ)
    → or_later plan h o ≡ Some turn → last_time h ≤ turn.1
in_time plan h (Some actor) turn e =
    let same : last_time h ≡ turn.1 = ap (λ (x : ActorId × ℕ). x.1) (same_Some (actor, last_time h) turn e) in
    omega arith
in_time plan h None turn e = go (least_due plan h) refl e
  where
    at :
        (later : ℕ) → last_time h < later → (o : Option ActorId)
        → option_map (λ actor. (actor, later)) o ≡ Some turn → last_time h ≤ turn.1
    at later above None e = cc
    at later above (Some actor) e =
        let same : later ≡ turn.1 = ap (λ (x : ActorId × ℕ). x.1) (same_Some (actor, later) turn e) in
        omega arith

    go :
        (o : Option ℕ) → least_due plan h ≡ o
        → option_and_then (λ later. option_map (λ actor. (actor, later)) (turn_at plan h later)) o ≡ Some turn
        → last_time h ≤ turn.1
    go None is e = cc
    go (Some later) is e = at later (least_due_later plan h later is) (turn_at plan h later) e

-- the line that an actor writes may come next
pub permits_written :
    (plan : Plan) (h : List Line) (actor : ActorId) (t : ℕ) (line : Line) → last_time h ≤ t
    → (s : Option Stage) → stage_at plan (world plan h) actor ≡ s
    → option_and_then (written actor t) (option_and_then (λ x. move plan (world plan h).views x t) s) ≡ Some line
    → Permits plan h line
permits_written plan h actor t line late None stands e = cc
permits_written plan h actor t line late (Some s) stands e = go (move plan (world plan h).views s t) refl e
  where
    go :
        (m : Option Move) → move plan (world plan h).views s t ≡ m
        → option_and_then (written actor t) m ≡ Some line → Permits plan h line
    go None gives e = cc
    go (Some (Late at)) gives e = cc
    go (Some (Wait d)) gives e = cc
    go (Some (Write event change next)) gives e =
        let its_line : Line = record { time = t; actor = actor; event = event } in
        subst (λ (l : Line). Permits plan h l) (same_Some its_line line e)
        (record { stage = s; stands = stands; change = change; next = next; gives = gives; in_time = late })

-- and so may the line of serial's turn
pub permits_next : (plan : Plan) (h : List Line) (line : Line) → next_line plan h ≡ Some line → Permits plan h line
permits_next plan h line e = go (next_turn plan h) refl e
  where
    go :
        (o : Option (ActorId × ℕ)) → next_turn plan h ≡ o
        → option_and_then (λ turn. option_and_then (written turn.0 turn.1) (move_at plan (world plan h) turn.1 turn.0)) o ≡ Some line
        → Permits plan h line
    go None is e = cc
    go (Some turn) is e =
        permits_written plan h turn.0 turn.1 line (in_time plan h (turn_at plan h (last_time h)) turn is)
        (stage_at plan (world plan h) turn.0) refl e

pub goes_on_lawful :
    (plan : Plan) (n : ℕ) (h : List Line) → length h + n ≤ plan.lines
    → IsLawful plan h → IsLawful plan (goes_on plan n h)
goes_on_lawful plan zero h fits lawful = lawful
goes_on_lawful plan (suc n) h fits lawful = go (next_line plan h) refl (λ line. goes_on_lawful plan n (line ∷ h))
  where
    go :
        (o : Option Line) → next_line plan h ≡ o
        → ((line : Line) → length (line ∷ h) + n ≤ plan.lines → IsLawful plan (line ∷ h) → IsLawful plan (goes_on plan n (line ∷ h)))
        → IsLawful plan (option_map_or (λ line. goes_on plan n (line ∷ h)) o h)
    go None is further = lawful
    go (Some line) is further = further line (omega arith) (permits_next plan h line is, omega arith, lawful)

-- each line that serial writes may come after those before it
pub serial_lawful : (plan : Plan) → IsLawful plan (goes_on plan plan.lines [])
serial_lawful plan = goes_on_lawful plan plan.lines [] (omega arith) tt
