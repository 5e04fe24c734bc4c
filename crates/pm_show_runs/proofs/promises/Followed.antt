-- A run that is finished was never stuck: each list that it goes on from is followed by a line of it.
use Rattle.std.proofs.Common.{◌≡◌, true, List, [], ◌∷◌, ◌++◌, inl, inr, subst, sym}
use Rattle.pm_model.specs.declared.event.Line.{Line}
use Rattle.pm_model.specs.declared.plan.Plan.{Plan}
use Rattle.pm_model.specs.Lawful.{IsFinished, IsLawful, Permits}
use Rattle.pm_model.specs.Promises.{IsNeverStuck, gets_succeed, is_exclusive, is_kept, is_safe}
use Rattle.pm_model.specs.Serial.{goes_on}
use Rattle.pm_model.proofs.SerialLemmas.{serial_lawful}
use Rattle.pm_show_runs.specs.Words.{run_of}
use Rattle.pm_show_runs.specs.promises.Shown.{KeepsAll}

-- the line after the earlier ones
followed :
    (plan : Plan) (line : Line) (later earlier : List Line)
    → IsLawful plan ((line ∷ later) ++ earlier) → (next : Line) × Permits plan earlier next
followed plan line [] earlier lawful = (line, lawful.0)
followed plan line (below ∷ later) earlier lawful = followed plan below later earlier lawful.2

lawful_goes_on :
    (plan : Plan) (later earlier : List Line) → IsLawful plan (later ++ earlier) → IsFinished plan (later ++ earlier)
    → IsNeverStuck plan earlier
lawful_goes_on plan [] earlier lawful finished = λ room. inl finished
lawful_goes_on plan (line ∷ later) earlier lawful finished = λ room. inr (followed plan line later earlier lawful)

finished_goes_on :
    (plan : Plan) → IsFinished plan (goes_on plan plan.lines []) → (later earlier : List Line)
    → later ++ earlier ≡ goes_on plan plan.lines [] → IsNeverStuck plan earlier
finished_goes_on plan finished later earlier same =
    let lawful : IsLawful plan (later ++ earlier) =
    (let P : List Line → Type 0 = λ h. IsLawful plan h in subst P (sym same) (serial_lawful plan)) in
    let ends : IsFinished plan (later ++ earlier) =
    (let P : List Line → Type 0 = λ h. IsFinished plan h in subst P (sym same) finished) in
    lawful_goes_on plan later earlier lawful ends

-- so the tests are all that is left to compute
pub keeps_all :
    (plan : Plan) → IsFinished plan (run_of plan) → is_safe plan (run_of plan) ≡ true → is_exclusive plan (run_of plan) ≡ true
    → is_kept plan (run_of plan) ≡ true → gets_succeed plan (run_of plan) ≡ true → KeepsAll plan (run_of plan)
keeps_all plan finished safe exclusive kept succeeds = record {
  finished = finished;
  safe = safe;
  exclusive = exclusive;
  kept = kept;
  succeeds = succeeds;
  never_stuck = finished_goes_on plan finished;
}
