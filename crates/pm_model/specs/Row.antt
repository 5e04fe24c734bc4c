-- What a row of the call table gives, and the words that its rows are written in (this project's own).
use Rattle.std.specs.Prelude.{ℕ, false, List, [], ◌∷◌, Some, None, ℤ, nat_lt, if◌then◌else◌}
use Rattle.pm_base.specs.declared.Cb.{Cb}
use Rattle.pm_base.specs.declared.DevId.{DevId}
use Rattle.pm_model.specs.declared.event.Event.{Event}
use Rattle.pm_model.specs.declared.event.Event.TheVariants as event
use Rattle.pm_model.specs.declared.event.Helper.{Helper}
use Rattle.pm_model.specs.declared.plan.Plan.{Plan}
use Rattle.pm_model.specs.declared.stage.Await.{Await}
use Rattle.pm_model.specs.declared.stage.Change.{Change}
use Rattle.pm_model.specs.declared.stage.Change.TheVariants.{Same}
use Rattle.pm_model.specs.declared.stage.IdleStage.TheVariants as idle
use Rattle.pm_model.specs.declared.stage.Move.{Move}
use Rattle.pm_model.specs.declared.stage.Move.TheVariants.{Write, Late, Wait}
use Rattle.pm_model.specs.declared.stage.Purpose.{Purpose}
use Rattle.pm_model.specs.declared.stage.ResumeStage.TheVariants as resume
use Rattle.pm_model.specs.declared.stage.Stage.{Stage}
use Rattle.pm_model.specs.declared.stage.Stage.TheVariants as stage
use Rattle.pm_model.specs.declared.stage.SuspendStage.TheVariants as suspend
use Rattle.pm_model.specs.declared.stage.Then.{Then}
use Rattle.pm_model.specs.Views.{Views}
use Rattle.pm_model.specs.ChangeViews.{change_views}
use Rattle.pm_model.specs.Derived.{fields}
use Rattle.pm_model.specs.Events.{by_event}

-- a line's event, the change that the row names beside the event's own, and what takes the stage's place;
-- or the device that is waited for
pub data Row : Type 0 where
  writes : Event → Change → Then → Row
  waits : DevId → Row

abbrev pub move_of : Row → Move
move_of (writes e change next) = Write e change next
move_of (waits d) = Wait d

-- the move at t of a stage whose line is due at a moment
abbrev pub timed : ℕ → ℕ → Row → Move
timed due t row = if nat_lt t due then Late due else move_of row

-- the stage gives way to these stages
abbrev pub pushes : List Stage → Then
pushes stages = record { push = stages; back = None }

abbrev pub goes : Stage → Then
goes s = pushes (s ∷ [])

-- a call, and the stage that awaits its end
abbrev pub calls : Stage → Await → Then
calls s under = pushes (s ∷ stage.Await under ∷ [])

-- the stage ends with a code
abbrev pub back : ℤ → Then
back c = record { push = []; back = Some c }

-- a return line, after which the call ends
abbrev pub call_returns : Cb → DevId → ℤ → Change → Row
call_returns func d c change = writes (event.Return func d c) change (back c)

-- the return line of a helper, after which its actor's place is empty
abbrev pub helper_returns : Helper → DevId → ℤ → Change → Row
helper_returns h d c change = writes (event.Ret h d c) change (back c)

-- the first line of idle, of suspend and of resume, called over these stages
abbrev pub idles : Plan → Views → DevId → ℕ → Change → List Stage → Row
idles plan v d f change under = writes (event.Idle d (fields plan v d f)) change (pushes (stage.Idle (idle.Verdict d f) ∷ under))

abbrev pub suspends : Plan → Views → DevId → ℕ → List Stage → Row
suspends plan v d f under = writes (event.Suspend d (fields plan v d f)) Same (pushes (stage.Suspend (suspend.Verdict d f) ∷ under))

abbrev pub resumes : Plan → Views → DevId → ℕ → Purpose → List Stage → Row
resumes plan v d f purpose under =
    writes (event.Resume d (fields plan v d f)) Same
    (pushes (stage.Resume (resume.Verdict (record { dev = d; flags = f; held = false; purpose = purpose }) false) ∷ under))
