-- The runs of a plan, and their texts.
use Rattle.std.proofs.Common.{◌≡◌, ◌∙◌, ℕ, true, false, List, Ok, Err, nat_eq, refl, ap, subst, sym}
use Rattle.pm_model.specs.declared.event.Line.{Line}
use Rattle.pm_model.specs.declared.plan.Plan.{Plan}
use Rattle.pm_model.specs.Serial.{serial}
use Rattle.pm_model.specs.Text.{text}
use Rattle.pm_serial.specs.declared.running.End.{End}
use Rattle.pm_serial.specs.declared.running.End.TheVariants as end
use Rattle.pm_cmd_ends.specs.Coming.{Came, Work, Wrote}
use Rattle.pm_cmd_ends.specs.Ending.{AtLimit, Done, Ending, Taking, Took}
use Rattle.pm_cmd_ends.specs.Pieces.{format_of, text_in}
use Rattle.pm_cmd_ends.specs.declared.ending.Fault.{Fault}
use Rattle.pm_cmd_ends.specs.declared.ending.Fault.TheVariants as fault
use Rattle.pm_cmd_ends.specs.declared.output.Format.{Format}
use Rattle.pm_cmd_top.specs.Runs.{IsRun, RunEnds, SerialEnds, cut, ended, run_ending, whole}

-- the run of one thread is one that several may come to
run_as_one : (plan : Plan) (e : End) → IsRun plan e → RunEnds plan (run_ending e (text plan (serial plan)))
run_as_one plan end.Finished run = whole (serial plan) (record { lawful = run.lawful; of_plan = run.of_plan; promises = run.promises; finished = run.ends })
run_as_one plan end.AtLimit run = cut run

pub ends_as_one : (plan : Plan) (ending : Ending) → SerialEnds plan ending → RunEnds plan ending
ends_as_one plan ending ends = subst (RunEnds plan) (sym ends.is) (run_as_one plan ends.end_of ends.run)

-- the text of a run that wasn't written whole
pub not_wrote : (Ends : Ending → Type 0) (Unread : Type 0) (e : End) (bytes : List ℕ) (out : Taking) (f : Fault) → Ends (run_ending e bytes) → Wrote bytes (Err f) out → Came Ends (Err f) Unread out
not_wrote Ends Unread e bytes out (fault.Refused why section item part) ends wrote = absurd wrote
not_wrote Ends Unread e bytes out fault.TraceTooLong ends wrote = absurd wrote
not_wrote Ends Unread e bytes out fault.NoDevice ends wrote = absurd wrote
not_wrote Ends Unread e bytes out (fault.NotLawful line why) ends wrote = absurd wrote
not_wrote Ends Unread e bytes out fault.SaidNo ends wrote = absurd wrote
not_wrote Ends Unread e bytes out fault.ReadFailed ends wrote = absurd wrote
not_wrote Ends Unread end.Finished bytes out fault.WriteFailed ends wrote = (Done bytes, ends, wrote.0, wrote.1)
not_wrote Ends Unread end.AtLimit bytes out fault.WriteFailed ends wrote = (AtLimit bytes, ends, wrote.0, wrote.1)
not_wrote Ends Unread e bytes out fault.AtLimit ends wrote = absurd wrote
not_wrote Ends Unread e bytes out fault.NoMemory ends wrote = wrote

-- the text of a run that was written whole
pub wrote : (Ends : Ending → Type 0) (Unread : Type 0) (e : End) (bytes : List ℕ) (out : Taking) → Ends (run_ending e bytes) → Took out bytes → Came Ends (ended e) Unread out
wrote Ends Unread end.Finished bytes out ends took = (bytes, ends, took)
wrote Ends Unread end.AtLimit bytes out ends took = (bytes, ends, took)

-- the text of a finished run, written or not
pub came_whole : (Ends : Ending → Type 0) (Unread : Type 0) (bytes : List ℕ) (out : Taking) (work : Work) → Ends (Done bytes) → Wrote bytes work out → Came Ends work Unread out
came_whole Ends Unread bytes out (Ok done) ends took = wrote Ends Unread end.Finished bytes out ends took
came_whole Ends Unread bytes out (Err f) ends part = not_wrote Ends Unread end.Finished bytes out f ends part

-- the text in the plan's own format
own_format : (plan : Plan) (lines : List Line) → text_in (format_of plan) plan lines ≡ text plan lines
own_format plan lines =
    elim (nat_eq plan.trace 2) as (λ b. nat_eq plan.trace 2 ≡ b → text_in (format_of plan) plan lines ≡ text plan lines) [
      | true ↦ λ two. rw two refl
      | false ↦ λ one. rw one refl
    ] refl

pub spelled_text : (plan spelled : Plan) (lines : List Line) (format : Format) → spelled ≡ plan → format ≡ format_of plan → text_in format spelled lines ≡ text plan lines
spelled_text plan spelled lines format spelled_is format_is =
    ap (λ (q : Plan). text_in format q lines) spelled_is ∙ ap (λ (f : Format). text_in f plan lines) format_is ∙ own_format plan lines
