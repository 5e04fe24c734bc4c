-- What is kept of a device while the lines of a run come (this project's own). Lists of lines have the newest line first.
use Rattle.std.specs.Prelude.{ℕ, ◌≡◌, Option, Some, None, IfSome, if◌then◌else◌}
use Rattle.pm_base.specs.declared.DevId.{DevId}
use Rattle.pm_model.specs.declared.event.Event.{Event}
use Rattle.pm_model.specs.History.{History}
use Rattle.pm_why.specs.declared.gets.Found.{Found}
use Rattle.pm_why.specs.declared.kept.Gets.{Gets}
use Rattle.pm_why.specs.OpenGets.{open_after, open_gets}
use Rattle.pm_why.specs.Reasons.{error_line, stores_error}

-- it is what these lines tell of d: its open gets, and the line that stored its error
pub record IsTold (h : History) (d : DevId) (found : Found) : Type 0 where
  pub gets : found.gets.items ≡ open_gets h d
  pub error : found.error_line ≡ error_line h d

-- it has what these lines tell of its device, where it has anything
abbrev pub TellsOf : Gets → History → Type 0
TellsOf g h = IfSome g.found (IsTold h g.dev)

-- one line more, of this number, is told
pub record IsToldMore (d : DevId) (line : ℕ) (event : Event) (old new : Found) : Type 0 where
  pub gets : new.gets.items ≡ open_after d line event old.gets.items
  pub error : new.error_line ≡ (if stores_error d event then line else old.error_line)

-- where something is kept: else nothing is from then on
abbrev pub GoesOn : DevId → ℕ → Event → Option Found → Option Found → Type 0
GoesOn d line event (Some old) (Some new) = IsToldMore d line event old new
GoesOn d line event None (Some new) = ⊥
GoesOn d line event _ None = Unit {0}
