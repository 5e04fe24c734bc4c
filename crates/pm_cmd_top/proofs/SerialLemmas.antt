-- The lines of a run on one thread, written as they come.
use Rattle.std.proofs.Common.{◌≡◌, ◌∙◌, ◌+◌, ◌≤◌, ◌++◌, ℕ, true, List, [], ◌∷◌, Option, Some, None, Err, drop, length, reverse, slice_get, ap, arith, inl, inr, refl, subst, sym}
use Rattle.std.proofs.Math.Seq.{drop-length}
use Rattle.std.proofs.lemmas.List.{drop_more}
use Rattle.std.proofs.lemmas.Option.{get_or_from_slice_get, slice_get_cases, slice_get_within}
use Rattle.std.specs.List.{list_all}
use Rattle.pm_cmd_ends.proofs.OutputLemmas.{each_of_plan, text_is_pieces}
use Rattle.pm_cmd_ends.specs.Coming.{Came, Work}
use Rattle.pm_cmd_ends.specs.Ending.{Failed, Taking, Took, TookPart}
use Rattle.pm_cmd_ends.specs.Pieces.{AreInTime, format_of, header_piece, line_piece, line_pieces}
use Rattle.pm_cmd_ends.specs.Promised.{KeepsPromises}
use Rattle.pm_cmd_ends.specs.declared.ending.Fault.{Fault}
use Rattle.pm_cmd_ends.specs.declared.ending.Fault.TheVariants as fault
use Rattle.pm_cmd_ends.specs.declared.output.Format.{Format}
use Rattle.pm_base.specs.declared.ActorId.{ActorId}
use Rattle.pm_model.specs.declared.event.Event.{Event}
use Rattle.pm_model.specs.declared.event.Line.{Line}
use Rattle.pm_model.specs.declared.plan.Plan.{Plan}
use Rattle.pm_model.specs.FirstBad.{AreLinesOf}
use Rattle.pm_model.specs.History.{History}
use Rattle.pm_model.specs.Lawful.{IsLawful}
use Rattle.pm_model.specs.LineOf.{is_line_of}
use Rattle.pm_model.specs.Serial.{serial}
use Rattle.pm_model.specs.Text.{text}
use Rattle.pm_serial.specs.declared.running.End.{End}
use Rattle.pm_serial.specs.Ends.{IsSerialEnd}
use Rattle.pm_cmd_top.specs.Runs.{IsRun, SerialEnds, ended}
use Rattle.pm_cmd_top.proofs.RunLemmas.{not_wrote, spelled_text, wrote}

-- each of them is a line of the plan
pub each_line : (plan : Plan) (lines : List Line) → list_all (is_line_of plan) (reverse lines) ≡ true → (place : ℕ) (line : Line) → slice_get lines place ≡ Some line → is_line_of plan line ≡ true
each_line plan lines all place line is =
    subst (λ (l : Line). is_line_of plan l ≡ true) (get_or_from_slice_get lines place line line is) (each_of_plan plan lines all place line (slice_get_within lines place line is))

-- the next one, and those behind it
drop_here : (lines : List Line) (place : ℕ) (line : Line) → slice_get lines place ≡ Some line → drop place lines ≡ line ∷ drop (place + 1) lines
drop_here lines place line is =
    drop_more lines place line (slice_get_within lines place line is) ∙ ap (λ (l : Line). l ∷ drop (place + 1) lines) (get_or_from_slice_get lines place line line is)

pub pieces_here : (format : Format) (plan : Plan) (base : ℕ) (lines : List Line) (place : ℕ) (line : Line) (piece : List ℕ) → slice_get lines place ≡ Some line → piece ≡ line_piece format plan base line
    → line_pieces format plan base (drop place lines) ≡ piece ++ line_pieces format plan line.time (drop (place + 1) lines)
pieces_here format plan base lines place line piece there is =
    ap (line_pieces format plan base) (drop_here lines place line there) ∙ ap (λ (p : List ℕ). p ++ line_pieces format plan line.time (drop (place + 1) lines)) (sym is)

pub in_time_here : (base : ℕ) (lines : List Line) (place : ℕ) (line : Line) → slice_get lines place ≡ Some line → AreInTime base (drop place lines)
    → (base ≤ line.time) × AreInTime line.time (drop (place + 1) lines)
in_time_here base lines place line there holds = subst (AreInTime base) (drop_here lines place line there) holds

pub there : (plan here : Plan) (came : ℕ) (line : Line) → here ≡ plan → Some line ≡ slice_get (serial here) came → slice_get (serial plan) came ≡ Some line
there plan here came line same is = ap (λ (q : Plan). slice_get (serial q) came) (sym same) ∙ sym is

-- by whoever is the same
pub by_actor : (o : Option Line) (time : ℕ) (a b : ActorId) (e : Event) → a ≡ b → Some (record { time = time; actor = b; event = e }) ≡ o → Some (record { time = time; actor = a; event = e }) ≡ o
by_actor o time a b e same is = ap (λ x. let line : Line = record { time = time; actor = x; event = e } in Some line) same ∙ is

-- where there is none, all have come
pub all_came : (plan here : Plan) (came : ℕ) → here ≡ plan → None ≡ slice_get (serial here) came → came ≤ length (serial plan) → came ≡ length (serial plan)
all_came plan here came same is within = elim (slice_get_cases (serial plan) came).1 [
  | inl found ↦ let clash : None ≡ Some found.0 = is ∙ ap (λ (q : Plan). slice_get (serial q) came) same ∙ found.2 in cc clash
  | inr past ↦ let le = past.0 in omega (arith, le, within)
]

pub no_pieces : (format : Format) (plan : Plan) (base came : ℕ) (lines : List Line) → came ≡ length lines → line_pieces format plan base (drop came lines) ≡ []
no_pieces format plan base came lines same = ap (λ n. line_pieces format plan base (drop n lines)) same ∙ ap (line_pieces format plan base) (drop-length lines)

-- the text of the run, in the pieces in which it is written
pub text_pieces : (plan spelled here : Plan) (format : Format) → spelled ≡ plan → here ≡ plan → format ≡ format_of plan
    → text plan (serial plan) ≡ header_piece format ++ line_pieces format spelled 0 (serial here)
text_pieces plan spelled here format spelled_is here_is format_is =
    sym (spelled_text plan spelled (serial plan) format spelled_is format_is) ∙ text_is_pieces format spelled (serial plan)
    ∙ ap (λ (q : Plan). header_piece format ++ line_pieces format spelled 0 (serial q)) (sym here_is)

-- the run that one thread makes
pub serial_run : (plan : Plan) (e : End) → IsLawful plan (reverse (serial plan)) → AreLinesOf plan (reverse (serial plan)) → ((p : Plan) (h : History) → IsLawful p h → KeepsPromises p h) → IsSerialEnd plan e → IsRun plan e
serial_run plan e lawful of_plan promises ends = record { lawful = lawful; of_plan = of_plan; promises = promises plan (reverse (serial plan)) lawful; ends = ends }

-- a prefix of its text was written
pub cut_short : (plan : Plan) (work : Work) (f : Fault) (out : Taking) → work ≡ Err f → f ≡ fault.WriteFailed → (e : End) → IsRun plan e → TookPart out (text plan (serial plan)) → Failed out
    → Came (SerialEnds plan) work ⊥ out
cut_short plan work f out is fails e run part failed =
    rw (is, fails) (not_wrote (SerialEnds plan) ⊥ e (text plan (serial plan)) out fault.WriteFailed (record { end_of = e; run = run; is = refl }) (part, failed))

-- or all of it
pub written_whole : (plan : Plan) (work : Work) (out : Taking) (e : End) → work ≡ ended e → IsRun plan e → Took out (text plan (serial plan)) → Came (SerialEnds plan) work ⊥ out
written_whole plan work out e is run took =
    subst (λ (w : Work). Came (SerialEnds plan) w ⊥ out) (sym is) (wrote (SerialEnds plan) ⊥ e (text plan (serial plan)) out (record { end_of = e; run = run; is = refl }) took)
