-- Where a resume has found its device Active or made it so, and its get_sync is to return that (this project's own).
use Rattle.std.specs.Prelude.{Bool, true, false, ◌&&◌, ◌||◌, List, [], ◌∷◌, nat_eq}
use Rattle.pm_base.specs.declared.DevId.{DevId}
use Rattle.pm_model.specs.declared.event.Event.TheVariants as event
use Rattle.pm_model.specs.declared.event.Helper.{Helper}
use Rattle.pm_model.specs.declared.event.Helper.TheVariants as helper
use Rattle.pm_model.specs.declared.stage.Await.TheVariants as await
use Rattle.pm_model.specs.declared.stage.HelperStage.TheVariants as at
use Rattle.pm_model.specs.declared.stage.ResumeStage.TheVariants as resume
use Rattle.pm_model.specs.declared.stage.Stage.{Stage}
use Rattle.pm_model.specs.declared.stage.Stage.TheVariants as stage
use Rattle.pm_model.specs.Counted.{is_same}
use Rattle.pm_model.specs.Promises.{got_well}
use Rattle.pm_laws.specs.stacks.Shape.{Call, raises, raising}
use Rattle.pm_laws.specs.safe.Pends.{is_up}

abbrev pub is_get_sync : Helper → Bool
is_get_sync helper.GetSync = true
is_get_sync _ = false

-- R(d, 4): what a get_sync of d calls
abbrev pub is_sync_resume : DevId → Call → Bool
is_sync_resume d (raises e f p) = is_same d e && nat_eq f 4
is_sync_resume d _ = false

-- such a resume of d is done, with d Active, or a get_sync of d is about to return so
abbrev pub answers : DevId → Stage → Bool
answers d (stage.Resume (resume.Idle r)) = is_sync_resume d (raising r)
answers d (stage.Resume (resume.Done r c)) = is_sync_resume d (raising r) && is_up c
answers d (stage.Resume (resume.Parent r c)) = is_sync_resume d (raising r) && is_up c
answers d (stage.Await (await.ResumeIdle r)) = is_sync_resume d (raising r)
answers d (stage.Await (await.ResumePut r c)) = is_sync_resume d (raising r) && is_up c
answers d (stage.Helper (at.Ret h e c)) = got_well d (event.Ret h e c)
answers d _ = false

-- some stage of a stack passes a test
abbrev pub some_of : (Stage → Bool) → List Stage → Bool
some_of test [] = false
some_of test (s ∷ rest) = test s || some_of test rest

-- some stage answers so
abbrev pub is_answered : DevId → List Stage → Bool
is_answered d stack = some_of (answers d) stack
