-- A row of at most two stages as a list, and the list as a row again (this project's own).
use Rattle.std.specs.Prelude.{List, [], ◌∷◌}
use Rattle.pm_model.specs.declared.stage.Stage.{Stage}
use Rattle.pm_model.specs.declared.stage.StageRow.{StageRow}
use Rattle.pm_model.specs.declared.stage.StageRow.TheVariants.{Zero, One, Two}

abbrev pub stages_of : StageRow → List Stage
stages_of Zero = []
stages_of (One a) = a ∷ []
stages_of (Two a b) = a ∷ b ∷ []

abbrev pub row_of : List Stage → StageRow
row_of [] = Zero
row_of (a ∷ []) = One a
row_of (a ∷ b ∷ rest) = Two a b
