-- What every lawful list of lines keeps (this project's own). Lists have the newest line first.
use Rattle.std.specs.Prelude.{◌≡◌, true, List}
use Rattle.pm_model.specs.declared.event.Line.{Line}
use Rattle.pm_model.specs.declared.plan.Plan.{Plan}
use Rattle.pm_model.specs.Promises.{gets_succeed, is_exclusive, is_kept, is_safe}
use Rattle.pm_laws.specs.gets.Alone.{IsAlone}

-- the promises of a run: it is safe, exclusive and kept, where nothing disturbs its gets succeed, and one call alone resumes
-- each device at most once
unfoldable pub KeepsPromises : Plan → List Line → Type 0
KeepsPromises plan h = (is_safe plan h ≡ true) × (is_exclusive plan h ≡ true) × (is_kept plan h ≡ true) × (gets_succeed plan h ≡ true) × IsAlone plan h
