-- The message of a fault (this project's own): one line, with its newline.
use Rattle.std.specs.Prelude.{ℕ, List, ◌++◌, codes, decimal}
use Rattle.pm_model.specs.Spelling.{newline, space}
use Rattle.pm_planread.specs.tree.Keys.{section_key}
use Rattle.pm_planread.specs.declared.tree.place.Section.{Section}
use Rattle.pm_planread.specs.WhyWords.{why_word}
use Rattle.pm_planread.specs.declared.refusal.PlanFault.{PlanFault}
use Rattle.pm_planread.specs.declared.refusal.PlanFault.TheVariants.{Refused, NoMemory}
use Rattle.pm_planread.specs.declared.refusal.PlanWhy.{PlanWhy}

-- a refusal is told by its word, its section, the item of the section, and what of the item
abbrev pub refusal_text : PlanWhy → Section → ℕ → ℕ → List ℕ
refusal_text why section item part =
    codes "plan: " ++ why_word why ++ space ++ section_key section ++ space ++ decimal item ++ space ++ decimal part ++ newline

abbrev pub fault_text : PlanFault → List ℕ
fault_text (Refused why section item part) = refusal_text why section item part
fault_text NoMemory = codes "memory" ++ newline
