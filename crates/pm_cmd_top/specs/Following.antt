-- What is known of a trace whose lines are followed (this project's own). Lists of lines have the newest line first.
use Rattle.std.specs.Prelude.{ℕ, Bool, Option, List}
use Rattle.pm_audit.specs.Readings.{IsFollowing}
use Rattle.pm_book.specs.Judging.{Judged}
use Rattle.pm_model.specs.declared.event.Line.{Line}
use Rattle.pm_model.specs.declared.plan.Plan.{Plan}
use Rattle.pm_model.specs.History.{History}
use Rattle.pm_cmd_top.specs.Traces.{IsLoaded}

-- its file stands for a lawful list, for which the judge stands, and of which the keeper has what is to be kept
pub record IsFollowed {A : Type 0} (Keeps : A → List Line → Type 0) (all : Bool) (told : Option (List ℕ)) (plan : Plan) (judge : Judged) (keeper : A) : Type 0 where
  pub list : History
  pub loaded : IsLoaded all told plan list
  pub following : IsFollowing Keeps judge keeper list
