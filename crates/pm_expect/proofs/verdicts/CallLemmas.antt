-- The calls of callers, line by line.
use Rattle.std.proofs.Common.{ℕ, ◌≡◌, ◌+◌, ◌^◌, ◌<◌, Bool, true, false, ◌&&◌, ◌++◌, List, [], ◌∷◌, Option, Some, None, drop, get_or, length, nat_eq, nat_lt, replicate, reverse, set, append_assoc, take, unwrap_or, if◌then◌else◌, ap, refl, sym, subst, ◌∙◌, arith}
use Rattle.std.specs.List.{list_all}
use Rattle.std.specs.Option.{option_to_list}
use Rattle.std.proofs.lemmas.Bool.{and_parts, eq-eqb, eqb-false, eqb-true, ltb-true}
use Rattle.std.proofs.lemmas.List.{get_or-replicate, get_or-set_other, get_or-set_same, length-replicate, length-reverse, length-set, length-take-le, reverse-append, take-append-drop, drop_more, take_more}
use Rattle.pm_base.specs.declared.ActorId.{ActorId}
use Rattle.pm_base.specs.declared.ActorId.TheVariants.{Caller, Work, Timer}
use Rattle.pm_model.specs.declared.event.Command.{Command}
use Rattle.pm_model.specs.declared.event.Event.{Event}
use Rattle.pm_model.specs.declared.event.Line.{Line}
use Rattle.pm_model.specs.declared.plan.Plan.{Plan}
use Rattle.pm_model.specs.History.{History}
use Rattle.pm_model.specs.LineOf.{is_actor_of, is_event_of, is_line_of}
use Rattle.pm_model.specs.Promises.{is_actor}
use Rattle.pm_expect.specs.declared.verdicts.calls.Return.{Return}
use Rattle.pm_expect.specs.verdicts.Calls.{AreCalls, call_said, calls_after, open_call, return_by, return_in, returned_at, returned_by, returns}

-- what a line says, or else what was said before
said : {X : Type 0} (o : Option X) (before : X) → (elim o as (λ _. X) [ Some x ↦ x | None ↦ before ]) ≡ unwrap_or o before
said (Some x) before = refl
said None before = refl

call_more : (calls : List (Option Command)) (c : ℕ) (before : Option Command) (actor : ActorId) (o : Option (Option Command)) → c < length calls → get_or calls c None ≡ before
    → get_or (calls_after actor o calls) c None ≡ unwrap_or (if is_actor (Caller c) actor then o else None) before
call_more calls c before (Work d) o within was = was
call_more calls c before (Timer d) o within was = was
call_more calls c before (Caller k) None within was = was ∙ none (nat_eq c k)
  where
    none : (b : Bool) → before ≡ unwrap_or (if b then None else None) before
    none true = refl
    none false = refl
call_more calls c before (Caller k) (Some call) within was = go (nat_eq c k) refl
  where
    go : (b : Bool) → nat_eq c k ≡ b → get_or (set calls k call) c None ≡ unwrap_or (if b then Some call else None) before
    go true same = ap (λ m. get_or (set calls m call) c None) (sym (eqb-true c k same)) ∙ get_or-set_same calls c call None within
    go false other = get_or-set_other calls k c call None (eqb-false c k other) ∙ was

calls_kept : (actor : ActorId) (o : Option (Option Command)) (calls : List (Option Command)) → length (calls_after actor o calls) ≡ length calls
calls_kept (Work d) o calls = refl
calls_kept (Timer d) o calls = refl
calls_kept (Caller k) None calls = refl
calls_kept (Caller k) (Some call) calls = length-set calls k call

-- one line more
pub calls_step : (n : ℕ) (line : Line) (h : History) (calls after : List (Option Command)) → after ≡ calls_after line.actor (call_said line.event) calls → AreCalls n h calls
    → AreCalls n (line ∷ h) after
calls_step n line h calls after is called = subst (AreCalls n (line ∷ h)) (sym is) (record {
  entries = calls_kept line.actor (call_said line.event) calls ∙ called.entries;
  each = λ c within.
      call_more calls c (open_call h c) line.actor (call_said line.event) (omega (arith, called.entries)) (called.each c within)
      ∙ sym (said (if is_actor (Caller c) line.actor then call_said line.event else None) (open_call h c));
})

-- before any line
pub calls_start : (n : ℕ) (calls : List (Option Command)) → calls ≡ replicate n None → AreCalls n [] calls
calls_start n calls is = subst (AreCalls n []) (sym is) (record { entries = length-replicate n None; each = λ c within. get_or-replicate n c None None within })

parts : {X : Type 0} (xs : List X) (n : ℕ) (d : X) → n < length xs → xs ≡ take n xs ++ get_or xs n d ∷ drop (n + 1) xs
parts xs n d within = sym (take-append-drop n xs) ∙ ap (λ ys. take n xs ++ ys) (drop_more xs n d within)

pub reverse_parts : {X : Type 0} (xs : List X) (n : ℕ) (d : X) → n < length xs → reverse xs ≡ reverse (drop (n + 1) xs) ++ get_or xs n d ∷ reverse (take n xs)
reverse_parts xs n d within =
    ap reverse (parts xs n d within) ∙ reverse-append (take n xs) (get_or xs n d ∷ drop (n + 1) xs)
    ∙ ap (λ ys. ys ++ reverse (take n xs)) (reverse-append (get_or xs n d ∷ []) (drop (n + 1) xs)) ∙ append_assoc (reverse (drop (n + 1) xs)) (get_or xs n d ∷ []) (reverse (take n xs))

-- each line is one of the plan's
among : {X : Type 0} (p : X → Bool) (xs ys : List X) (y : X) → list_all p (xs ++ y ∷ ys) ≡ true → p y ≡ true
among p [] ys y all = (and_parts (p y) (list_all p ys) all).0
among p (x ∷ xs) ys y all = among p xs ys y (and_parts (p x) (list_all p (xs ++ y ∷ ys)) all).1

pub line_at : (plan : Plan) (lines : List Line) (i : ℕ) (e : Line) → i < length lines → list_all (is_line_of plan) (reverse lines) ≡ true → is_line_of plan (get_or lines i e) ≡ true
line_at plan lines i e within all =
    among (is_line_of plan) (reverse (drop (i + 1) lines)) (reverse (take i lines)) (get_or lines i e)
    (ap (list_all (is_line_of plan)) (sym (reverse_parts lines i e within)) ∙ all)

actor_of : (plan : Plan) (line : Line) → is_line_of plan line ≡ true → is_actor_of (length plan.devices) (length plan.callers) line.actor ≡ true
actor_of plan line is =
    (and_parts (nat_lt line.time (2 ^ 63)) (is_actor_of (length plan.devices) (length plan.callers) line.actor)
    (and_parts (nat_lt line.time (2 ^ 63) && is_actor_of (length plan.devices) (length plan.callers) line.actor) (is_event_of (length plan.devices) line.event) is).0).1

-- the call of an actor of the plan is known
returned_is : (plan : Plan) (h : History) (calls : List (Option Command)) (actor : ActorId) (number : ℕ) (e : Event) → is_actor_of (length plan.devices) (length plan.callers) actor ≡ true
    → AreCalls (length plan.callers) h calls → returned_by calls actor number e ≡ return_by h actor number e
returned_is plan h calls (Caller c) number e is called = ap (λ x. return_in number x c e) (called.each c (ltb-true c (length plan.callers) is))
returned_is plan h calls (Work d) number e is called = refl
returned_is plan h calls (Timer d) number e is called = refl

pub reverse_more : (lines : List Line) (i : ℕ) (e : Line) → i < length lines → reverse (take (i + 1) lines) ≡ get_or lines i e ∷ reverse (take i lines)
reverse_more lines i e within = ap reverse (take_more lines i e within) ∙ reverse-append (take i lines) (get_or lines i e ∷ [])

numbered : (lines : List Line) (i : ℕ) → i < length lines → length (reverse (take i lines)) ≡ i
numbered lines i within = length-reverse (take i lines) ∙ length-take-le i lines (omega arith)

-- one line more is read
pub calls_more : (n : ℕ) (lines : List Line) (i : ℕ) (e : Line) (calls after : List (Option Command)) → i < length lines
    → ((h : History) → AreCalls n h calls → AreCalls n (get_or lines i e ∷ h) after) → AreCalls n (reverse (take i lines)) calls → AreCalls n (reverse (take (i + 1) lines)) after
calls_more n lines i e calls after within follows called =
    subst (λ h. AreCalls n h after) (sym (reverse_more lines i e within)) (follows (reverse (take i lines)) called)

pub returns_more : (plan : Plan) (lines : List Line) (i number : ℕ) (e : Line) (calls : List (Option Command)) (before after : List Return) → i < length lines
    → list_all (is_line_of plan) (reverse lines) ≡ true → number ≡ i → AreCalls (length plan.callers) (reverse (take i lines)) calls
    → before ≡ returns (reverse (take i lines)) → after ≡ before ++ option_to_list (returned_at calls (number + 1) (get_or lines i e))
    → after ≡ returns (reverse (take (i + 1) lines))
returns_more plan lines i number e calls before after within all same called was is =
    is
    ∙ ap (λ l. l ++ option_to_list (returned_at calls (number + 1) (get_or lines i e))) was
    ∙ ap (λ o. returns (reverse (take i lines)) ++ option_to_list o) returned
    ∙ ap returns (sym (reverse_more lines i e within))
  where
    returned : returned_at calls (number + 1) (get_or lines i e) ≡ return_by (reverse (take i lines)) (get_or lines i e).actor (length (reverse (take i lines)) + 1) (get_or lines i e).event
    returned =
        ap (λ m. returned_at calls (m + 1) (get_or lines i e)) (same ∙ sym (numbered lines i within))
        ∙ returned_is plan (reverse (take i lines)) calls (get_or lines i e).actor (length (reverse (take i lines)) + 1) (get_or lines i e).event
        (actor_of plan (get_or lines i e) (line_at plan lines i e within all)) called
