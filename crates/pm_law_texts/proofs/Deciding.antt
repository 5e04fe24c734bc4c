-- Whether bytes are the text of a line that may come next is decided: by reading them, and by computing the move.
use Rattle.std.proofs.Common.{ℕ, ◌≡◌, ◌<◌, ◌≤◌, ◌^◌, ◌⊎◌, inl, inr, Bool, true, false, ◌&&◌, List, [], ◌∷◌, Option, Some, None, Result, Ok, Err, length, nat_le, nat_lt, ap, refl, subst, ◌∙◌, arith}
use Rattle.std.specs.List.{list_all}
use Rattle.std.specs.Str.{bytes_eq}
use Rattle.std.proofs.lemmas.Bool.{and_parts, ltb-true}
use Rattle.std.proofs.lemmas.Bool.Decides.{nat_tests}
use Rattle.std.proofs.lemmas.Slice.Eq.{bytes_eq-Decides}
use Rattle.pm_lineread.specs.Reading.{line_at}
use Rattle.pm_lineread.proofs.Answered.{distinct1, not_text2, read_text2, from_text1, to_text1}
use Rattle.pm_model.specs.declared.event.Event.{Event}
use Rattle.pm_model.specs.declared.event.Line.{Line}
use Rattle.pm_model.specs.declared.plan.Plan.{Plan}
use Rattle.pm_model.specs.declared.stage.Change.{Change}
use Rattle.pm_model.specs.declared.stage.Move.{Move}
use Rattle.pm_model.specs.declared.stage.Move.TheVariants.{Write, Late, Wait}
use Rattle.pm_model.specs.declared.stage.Stage.{Stage}
use Rattle.pm_model.specs.declared.stage.Then.{Then}
use Rattle.pm_model.specs.FirstBad.{AreLinesOf}
use Rattle.pm_model.specs.Lawful.{Permits, last_time}
use Rattle.pm_model.specs.LineOf.{is_actor_of, is_event_of, is_line_of}
use Rattle.pm_model.specs.NoWhy.{IsPermittedSometime, at_time}
use Rattle.pm_model.specs.Spelling.{line_text}
use Rattle.pm_model.specs.Text.{IsTextBehind, names_of}
use Rattle.pm_model.specs.World.{move, stage_at, world}
use Rattle.pm_law_texts.proofs.Formats.{line_is, one_line}
use Rattle.pm_laws.specs.bounds.Times.{IsPermittedAt, moments}
use Rattle.pm_laws.proofs.bounds.Deciding.{found}
use Rattle.pm_law_texts.specs.Next.{IsNext}

abbrev pub Decided : Type 0 → Type 0
Decided A = A ⊎ (A → ⊥)

-- the last of lines of the plan is earlier than 2^63
pub early : (plan : Plan) (h : List Line) → AreLinesOf plan h → last_time h < 2 ^ 63
early plan [] of_plan = omega arith
early plan (line ∷ h) of_plan =
    let is = (and_parts (is_line_of plan line) (list_all (is_line_of plan) h) of_plan).0 in
    let first = (and_parts (nat_lt line.time (2 ^ 63) && is_actor_of (length plan.devices) (length plan.callers) line.actor) (is_event_of (length plan.devices) line.event) is).0 in
    let time = (and_parts (nat_lt line.time (2 ^ 63)) (is_actor_of (length plan.devices) (length plan.callers) line.actor) first).0 in
    ltb-true line.time (2 ^ 63) time

-- the bytes are some line's text, or no line's
pub spelled_decided :
    (f : Bool) (plan : Plan) (base : ℕ) → base < 2 ^ 63 → (p : List ℕ)
    → ((line : Line) × IsTextBehind f plan base line p) ⊎ ((line : Line) → IsTextBehind f plan base line p → ⊥)
spelled_decided true plan base low p = go (line_at (names_of plan) base p) refl
  where
    go :
        (r : Result Line ℕ) → line_at (names_of plan) base p ≡ r
        → ((line : Line) × IsTextBehind true plan base line p) ⊎ ((line : Line) → IsTextBehind true plan base line p → ⊥)
    go (Ok line) e = inl (line, read_text2 plan base low p line e)
    go (Err left) e = inr (not_text2 plan base low p left e)
spelled_decided false plan base low p = go (line_at (names_of plan) 0 p) refl
  where
    go :
        (r : Result Line ℕ) → line_at (names_of plan) 0 p ≡ r
        → ((line : Line) × IsTextBehind false plan base line p) ⊎ ((line : Line) → IsTextBehind false plan base line p → ⊥)
    go (Ok line) e = inl (line, to_text1 plan line p (read_text2 plan 0 (omega arith) p line e))
    go (Err left) e = inr (λ line spelled. not_text2 plan 0 (omega arith) p left e line (from_text1 plan line p spelled))

-- an event is that of a line of the plan, or isn't: their texts differ
event_decided : (plan : Plan) (line : Line) → is_line_of plan line ≡ true → (e : Event) → Decided (e ≡ line.event)
event_decided plan line is e =
    go (is_line_of plan (record line { event = e })) refl (bytes_eq (line_text (names_of plan) (record line { event = e })) (line_text (names_of plan) line)) refl
  where
    other : e ≡ line.event → record line { event = e } ≡ line
    other same = ap (λ (x : Event). record line { event = x }) same

    go :
        (fits : Bool) → is_line_of plan (record line { event = e }) ≡ fits
        → (same : Bool) → bytes_eq (line_text (names_of plan) (record line { event = e })) (line_text (names_of plan) line) ≡ same
        → Decided (e ≡ line.event)
    go false x b y = inr (λ same. let fit : is_line_of plan (record line { event = e }) ≡ true = ap (λ (l : Line). is_line_of plan l) (other same) ∙ is in cc (x, fit))
    go true x true y =
        let texts = (bytes_eq-Decides (line_text (names_of plan) (record line { event = e })) (line_text (names_of plan) line)).0 y in
        inl (ap (λ (l : Line). l.event) (distinct1 plan (record line { event = e }) line x is texts))
    go true x false y = inr (λ same.
        let texts = (bytes_eq-Decides (line_text (names_of plan) (record line { event = e })) (line_text (names_of plan) line)).1 (ap (λ (l : Line). line_text (names_of plan) l) (other same)) in
        cc (y, texts))

-- a line of the plan may come next at a time, or may not
pub permits_decided : (plan : Plan) (h : List Line) (line : Line) → is_line_of plan line ≡ true → (t : ℕ) → Decided (Permits plan h (at_time line t))
permits_decided plan h line is t = at_stage (stage_at plan (world plan h) line.actor) refl
  where
    at_event :
        (s : Stage) → stage_at plan (world plan h) line.actor ≡ Some s
        → (e : Event) (c : Change) (next : Then) → move plan (world plan h).views s t ≡ Some (Write e c next)
        → Decided (e ≡ line.event) → (late : Bool) → nat_le (last_time h) t ≡ late → Decided (Permits plan h (at_time line t))
    at_event s stands e c next gives (inl same) true late = inl (record {
      stage = s;
      stands = stands;
      change = c;
      next = next;
      gives = gives ∙ ap (λ (x : Event). Some (Write x c next)) same;
      in_time = grind (arith, nat_tests);
    })
    at_event s stands e c next gives (inl same) false late = inr (λ p. let in_time : last_time h ≤ t = p.in_time in grind (arith, nat_tests))
    at_event s stands e c next gives (inr other) b late = inr (λ p.
        let stood : stage_at plan (world plan h) line.actor ≡ Some p.stage = p.stands in
        let one : s ≡ p.stage = cc in
        let moved : move plan (world plan h).views s t ≡ Some (Write line.event p.change p.next) = rw one p.gives in
        let same : e ≡ line.event = cc in
        other same)

    at_move :
        (s : Stage) → stage_at plan (world plan h) line.actor ≡ Some s
        → (m : Option Move) → move plan (world plan h).views s t ≡ m → Decided (Permits plan h (at_time line t))
    at_move s stands None e = inr (λ p.
        let stood : stage_at plan (world plan h) line.actor ≡ Some p.stage = p.stands in
        let one : s ≡ p.stage = cc in
        let moved : move plan (world plan h).views s t ≡ Some (Write line.event p.change p.next) = rw one p.gives in
        cc)
    at_move s stands (Some (Late at)) e = inr (λ p.
        let stood : stage_at plan (world plan h) line.actor ≡ Some p.stage = p.stands in
        let one : s ≡ p.stage = cc in
        let moved : move plan (world plan h).views s t ≡ Some (Write line.event p.change p.next) = rw one p.gives in
        cc)
    at_move s stands (Some (Wait d)) e = inr (λ p.
        let stood : stage_at plan (world plan h) line.actor ≡ Some p.stage = p.stands in
        let one : s ≡ p.stage = cc in
        let moved : move plan (world plan h).views s t ≡ Some (Write line.event p.change p.next) = rw one p.gives in
        cc)
    at_move s stands (Some (Write x c next)) e =
        at_event s stands x c next e (event_decided plan line is x) (nat_le (last_time h) t) refl

    at_stage : (o : Option Stage) → stage_at plan (world plan h) line.actor ≡ o → Decided (Permits plan h (at_time line t))
    at_stage None e = inr (λ p. let stood : stage_at plan (world plan h) line.actor ≡ Some p.stage = p.stands in cc)
    at_stage (Some s) e = at_move s e (move plan (world plan h).views s t) refl

pub next_decided : (f : Bool) (plan : Plan) (h : List Line) (p : List ℕ) → AreLinesOf plan h → Decided (IsNext f plan h p)
next_decided f plan h p of_plan = read (spelled_decided f plan (last_time h) (early plan h of_plan) p)
  where
    permitted : (line : Line) → IsTextBehind f plan (last_time h) line p → Decided (Permits plan h line) → (room : Bool) → nat_lt (length h) plan.lines ≡ room → Decided (IsNext f plan h p)
    permitted line spelled (inl permits) true room = inl (record { line = line; spelled = spelled; permits = permits; room = ltb-true (length h) plan.lines room })
    permitted line spelled (inl permits) false room = inr (λ next. let fits : length h < plan.lines = next.room in grind (arith, nat_tests))
    permitted line spelled (inr never) b room = inr (λ next.
        let same : next.line ≡ line = one_line f plan (last_time h) next.line line p next.spelled spelled in
        never (let P : Line → Type 0 = λ l. Permits plan h l in subst P same next.permits))

    read : ((line : Line) × IsTextBehind f plan (last_time h) line p) ⊎ ((line : Line) → IsTextBehind f plan (last_time h) line p → ⊥) → Decided (IsNext f plan h p)
    read (inl (line, spelled)) = permitted line spelled (permits_decided plan h line (line_is f plan (last_time h) line p spelled) line.time) (nat_lt (length h) plan.lines) refl
    read (inr none) = inr (λ next. none next.line next.spelled)

-- at some time the line may come next, or never: at one of three moments, or at none
pub sometime_decided : (plan : Plan) (h : List Line) (line : Line) → is_line_of plan line ≡ true → Decided (IsPermittedSometime plan h line)
sometime_decided plan h line is = go (tried (moments plan h line))
  where
    tried : (l : List ℕ) → IsPermittedSometime plan h line ⊎ ((t : ℕ) → IsPermittedAt plan h line t l → ⊥)
    tried [] = inr (λ t p. p)
    tried (u ∷ l) =
        elim (permits_decided plan h line is u) as (λ _. IsPermittedSometime plan h line ⊎ ((t : ℕ) → IsPermittedAt plan h line t (u ∷ l) → ⊥)) [
          | inl p ↦ inl (u, p)
          | inr not_now ↦
              elim (tried l) as (λ _. IsPermittedSometime plan h line ⊎ ((t : ℕ) → IsPermittedAt plan h line t (u ∷ l) → ⊥)) [
                | inl some ↦ inl some
                | inr never ↦ inr (λ t p. elim p [
                  | inl now ↦ not_now now.1
                  | inr later ↦ never t later
                ])
              ]
        ]

    go : IsPermittedSometime plan h line ⊎ ((t : ℕ) → IsPermittedAt plan h line t (moments plan h line) → ⊥) → Decided (IsPermittedSometime plan h line)
    go (inl some) = inl some
    go (inr never) = inr (λ some. never some.0 (found plan h line some.0 some.1))
