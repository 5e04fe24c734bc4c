-- What is said of a trace (this project's own).
use Rattle.std.specs.Prelude.{ℕ, List}
use Rattle.pm_model.specs.declared.event.Line.{Line}
use Rattle.pm_model.specs.declared.plan.Plan.{Plan}
use Rattle.pm_model.specs.FirstBad.{IsFirstBad, StandsFor}
use Rattle.pm_model.specs.Lawful.{IsFinished, IsLawful}
use Rattle.pm_model.specs.NoWhy.{IsWhy, NoWhy}

-- it is the text of a lawful list that is finished, or of one that isn't, or its n-th line is the first bad one
pub data Verdict : Type 0 where
  YesFinished YesOpen : Verdict
  No : ℕ → NoWhy → Verdict

abbrev pub IsVerdict : Plan → List ℕ → Verdict → Type 0
IsVerdict plan bytes YesFinished = (h : List Line) × IsLawful plan h × StandsFor plan bytes h × IsFinished plan h
IsVerdict plan bytes YesOpen = (h : List Line) × IsLawful plan h × StandsFor plan bytes h × (IsFinished plan h → ⊥)
IsVerdict plan bytes (No n why) = IsFirstBad plan bytes n × IsWhy plan bytes n why
