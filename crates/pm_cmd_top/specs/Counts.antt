-- The line of counts that `check` writes (this project's own).
use Rattle.std.specs.Prelude.{ℕ, List, ◌++◌, codes, decimal, length}
use Rattle.pm_model.specs.declared.plan.Plan.{Plan}
use Rattle.pm_model.specs.Spelling.{newline}

-- of a plan with so many islands, with its newline
abbrev pub counts_text : Plan → ℕ → List ℕ
counts_text plan islands =
    codes "devices " ++ decimal (length plan.devices) ++ codes " domains " ++ decimal (length plan.domains)
    ++ codes " links " ++ decimal (length plan.links) ++ codes " callers " ++ decimal (length plan.callers) ++ codes " islands " ++ decimal islands ++ newline
