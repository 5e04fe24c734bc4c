-- The call table gives an actor one event at a time, and no line with another is lawful.
use Rattle.std.proofs.Common.{◌≡◌, ◌∙◌, ℕ, Bool, true, false, not, ◌||◌, List, [], ◌∷◌, ◌++◌, Option, Some, None, length, nat_le, nat_lt, codes, refl, sym, ap}
use Rattle.std.proofs.lemmas.Bool.{lt-leb, le-ltb}
use Rattle.std.proofs.lemmas.Option.{same_Some}
use Rattle.std.proofs.lemmas.Slice.Eq.{bytes_eq-Decides}
use Rattle.std.specs.Option.{option_and_then, option_map_or}
use Rattle.std.specs.Str.{bytes_eq}
use Prim.Native.String.{String}
use Rattle.pm_base.specs.declared.ActorId.{ActorId}
use Rattle.pm_model.specs.declared.event.Event.{Event}
use Rattle.pm_model.specs.declared.event.Line.{Line}
use Rattle.pm_model.specs.declared.plan.Plan.{Plan}
use Rattle.pm_model.specs.declared.stage.Move.{Move}
use Rattle.pm_model.specs.declared.stage.Move.TheVariants.{Write, Late, Wait}
use Rattle.pm_model.specs.declared.stage.Stage.{Stage}
use Rattle.pm_model.specs.Lawful.{IsLawful, Permits, last_time}
use Rattle.pm_model.specs.Serial.{goes_on, move_at}
use Rattle.pm_model.specs.Spelling.{event_text, line_text}
use Rattle.pm_model.specs.World.{move, world}
use Rattle.pm_show_runs.specs.Refusals.{IsRefused}
use Rattle.pm_model.specs.Text.{names_of}

-- the event that a move writes
abbrev event_of : Move → Option Event
event_of (Write event change next) = Some event
event_of (Late at) = None
event_of (Wait d) = None

-- the event that the call table gives an actor at t
abbrev pub event_at : Plan → List Line → ActorId → ℕ → Option Event
event_at plan h actor t = option_and_then event_of (move_at plan (world plan h) t actor)

given_event :
    (plan : Plan) (h : List Line) (line : Line) → Permits plan h line → event_at plan h line.actor line.time ≡ Some line.event
given_event plan h line p =
    ap (λ (s : Option Stage). option_and_then event_of (option_and_then (λ x. move plan (world plan h).views x line.time) s)) p.stands
    ∙ ap (λ (m : Option Move). option_and_then event_of m) p.gives

pub one_event :
    (plan : Plan) (h : List Line) (a b : Line) → Permits plan h a → Permits plan h b
    → a.actor ≡ b.actor → a.time ≡ b.time → a.event ≡ b.event
one_event plan h a b p q actors times =
    let of_a = given_event plan h a p in
    let of_b = given_event plan h b q in
    let at_once : event_at plan h a.actor a.time ≡ event_at plan h b.actor b.time =
    ap (λ (x : ActorId). event_at plan h x a.time) actors ∙ ap (λ (t : ℕ). event_at plan h b.actor t) times in
    same_Some a.event b.event (sym of_a ∙ at_once ∙ of_b)

pub unlawful_tail : (plan : Plan) (h more : List Line) → ¬ IsLawful plan h → ¬ IsLawful plan (more ++ h)
unlawful_tail plan h [] not_lawful lawful = not_lawful lawful
unlawful_tail plan h (line ∷ more) not_lawful lawful = unlawful_tail plan h more not_lawful lawful.2

-- the run is full, the line's time is too early, or the call table gives another event or none
abbrev pub is_unfit : Plan → List Line → Line → Bool
is_unfit plan h line =
    nat_le plan.lines (length h) || nat_lt line.time (last_time h)
    || option_map_or (λ e. not (bytes_eq (event_text (names_of plan) e) (event_text (names_of plan) line.event)))
    (event_at plan h line.actor line.time) true

none_holds :
    (full early : Bool) (given : Option Event) (same : Event → Bool) (e : Event)
    → full ≡ false → early ≡ false → given ≡ Some e → same e ≡ true
    → (full || early || option_map_or (λ x. not (same x)) given true) ≡ true → ⊥
none_holds full early given same e room in_time is_given is_same holds = cc

unfit_is_unlawful : (plan : Plan) (h : List Line) (line : Line) → is_unfit plan h line ≡ true → ¬ IsLawful plan (line ∷ h)
unfit_is_unlawful plan h line unfit lawful =
    none_holds (nat_le plan.lines (length h)) (nat_lt line.time (last_time h)) (event_at plan h line.actor line.time)
    (λ e. bytes_eq (event_text (names_of plan) e) (event_text (names_of plan) line.event)) line.event
    (lt-leb plan.lines (length h) lawful.1) (le-ltb line.time (last_time h) lawful.0.in_time)
    (given_event plan h line lawful.0)
    ((bytes_eq-Decides (event_text (names_of plan) line.event) (event_text (names_of plan) line.event)).1 refl) unfit

-- after the first n lines of the run a line that is unfit is refused
pub refused :
    (plan : Plan) (n : ℕ) (line : Line) (spelled : String) → line_text (names_of plan) line ≡ codes spelled
    → is_unfit plan (goes_on plan n []) line ≡ true → IsRefused plan n line spelled
refused plan n line spelled spelling unfit =
    record { spelling = spelling; unlawful = unfit_is_unlawful plan (goes_on plan n []) line unfit }
