-- What is told of a plan that is one (this project's own).
use Rattle.std.specs.Prelude.{ℕ, List, ◌++◌, codes, decimal, length}
use Rattle.pm_model.specs.Spelling.{newline}
use Rattle.pm_model.specs.declared.plan.Plan.{Plan}

-- how much a plan has, with its number of islands
unfoldable pub counts_told : List ℕ → Plan → ℕ → List ℕ
counts_told file plan islands =
    file ++ codes ": devices " ++ decimal (length plan.devices) ++ codes " domains " ++ decimal (length plan.domains)
    ++ codes " links " ++ decimal (length plan.links) ++ codes " callers " ++ decimal (length plan.callers) ++ codes " islands " ++ decimal islands
    ++ newline
