-- The derived test of two stages is exact.
use Rattle.std.proofs.Common.{◌≡◌, true, ap, subst}
use Rattle.pm_model.specs.declared.stage.Stage.{Stage}
use Rattle.pm_model.specs.declared.stage.Stage.TheVariants as stage
use Rattle.pm_model.specs.contracts.stage.StageEq.TheImpl.Laws.{laws-law}
use Rattle.pm_model.specs.contracts.stage.StagePartialEq.TheImpl.{eq-value}
use Rattle.pm_explore.proofs.state.IdleStageAlike.{alike as idle_alike}
use Rattle.pm_explore.proofs.state.SuspendStageAlike.{alike as suspend_alike}
use Rattle.pm_explore.proofs.state.ResumeStageAlike.{alike as resume_alike}
use Rattle.pm_explore.proofs.state.HelperStageAlike.{alike as helper_alike}
use Rattle.pm_explore.proofs.state.ControlStageAlike.{alike as control_alike}
use Rattle.pm_explore.proofs.state.AwaitAlike.{alike as await_alike}

pub alike : (a b : Stage) → eq-value.it a b ≡ true → a ≡ b
alike (stage.Idle s) (stage.Idle s') is = ap stage.Idle (idle_alike s s' is)
alike (stage.Idle s) _ is = cc is
alike (stage.Suspend s) (stage.Suspend s') is = ap stage.Suspend (suspend_alike s s' is)
alike (stage.Suspend s) _ is = cc is
alike (stage.Resume s) (stage.Resume s') is = ap stage.Resume (resume_alike s s' is)
alike (stage.Resume s) _ is = cc is
alike (stage.Helper s) (stage.Helper s') is = ap stage.Helper (helper_alike s s' is)
alike (stage.Helper s) _ is = cc is
alike (stage.Control s) (stage.Control s') is = ap stage.Control (control_alike s s' is)
alike (stage.Control s) _ is = cc is
alike (stage.Await s) (stage.Await s') is = ap stage.Await (await_alike s s' is)
alike (stage.Await s) _ is = cc is

pub itself : (a b : Stage) → a ≡ b → eq-value.it a b ≡ true
itself a b is = let P : Stage → Type 0 = λ x. eq-value.it a x ≡ true in subst P is (laws-law.refl a)
