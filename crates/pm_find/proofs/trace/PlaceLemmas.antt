-- The place of a command, put together.
use Rattle.std.proofs.Common.{ℕ, ◌≡◌, ◌≤◌, ◌++◌, ◌∙◌, Bool, true, List, [], Option, Some, None, Ok, Err, Result, IfOk, Vec, Global, ap, codes, drop, length, map, subst, sym}
use Rattle.toml_parser.specs.Strings.{quoted, starts_string}
use Rattle.pm_model.specs.declared.event.Command.{Command}
use Rattle.pm_model.specs.declared.event.Line.{Line}
use Rattle.pm_model.specs.declared.plan.Plan.{Plan}
use Rattle.pm_script.specs.Command.{command_of}
use Rattle.pm_spans.specs.source.Lines.{place_text}
use Rattle.pm_find.specs.declared.findings.Finding.{Finding}
use Rattle.pm_find.specs.declared.trace.places.Spoken.{Spoken}
use Rattle.pm_find.specs.trace.PlanPlaces.{IsPlaceOf, ShowsCommand, nowhere, spoken_command, spoken_of, there}

pub shows : (plan : Plan) (text behind : List ℕ) (at : ℕ) (command : Command) (word rest bytes : List ℕ) → at ≤ length text → behind ≡ drop at text → starts_string behind ≡ true
    → quoted behind ≡ Some (word, rest) → bytes ≡ word → command_of (map (λ row. row.name) plan.devices) bytes ≡ Ok command → ShowsCommand plan text at command
shows plan text behind at command word rest bytes within is starts reads same command_is = record {
  within = within;
  starts = ap starts_string (sym is) ∙ starts;
  word = word;
  rest = rest;
  reads = ap quoted (sym is) ∙ reads;
  is = ap (command_of (map (λ row. row.name) plan.devices)) (sym same) ∙ command_is;
}

-- nothing is told
pub told_nowhere : {E : Type 0} (r : Result (Vec ℕ Global) E) (plan : Plan) (lines : List Line) (file text : List ℕ) (found : Finding) → IfOk r (λ told. told.items ≡ [])
    → IfOk r (λ told. IsPlaceOf plan lines file text found told.items)
told_nowhere (Ok told) plan lines file text found is = subst (λ (l : List ℕ). IsPlaceOf plan lines file text found l) (sym is) nowhere
told_nowhere (Err e) plan lines file text found is = tt

-- a place is
pub told_there : {E : Type 0} (r : Result (Vec ℕ Global) E) (plan : Plan) (lines : List Line) (file text : List ℕ) (found : Finding) (spoken : Spoken) (command : Command) (at : ℕ)
    → spoken_of lines found ≡ Some spoken → spoken_command plan spoken ≡ Some command → ShowsCommand plan text at command
    → IfOk r (λ told. told.items ≡ codes " (" ++ (place_text file text at ++ codes ")")) → IfOk r (λ told. IsPlaceOf plan lines file text found told.items)
told_there (Ok told) plan lines file text found spoken command at said is shown told_is =
    subst (λ (l : List ℕ). IsPlaceOf plan lines file text found l) (sym told_is) (there spoken said command is at shown)
told_there (Err e) plan lines file text found spoken command at said is shown told_is = tt
