-- What a text tells of a plan besides the texts of its lines (this project's own).
use Rattle.std.specs.Prelude.{ℕ, List, [], ◌++◌, map, slice_index_or}
use Rattle.pm_base.specs.declared.DevId.{DevId}
use Rattle.pm_base.specs.declared.DomId.{DomId}
use Rattle.pm_model.specs.declared.event.Helper.{Helper}
use Rattle.pm_model.specs.declared.plan.Plan.{Plan}
use Rattle.pm_model.specs.Spelling.{Names, device_part, helper_word}

-- the name of a domain of the plan, and none for another
abbrev pub domain_name : Plan → DomId → List ℕ
domain_name plan o = slice_index_or (map (λ row. row.name) plan.domains) o.0 []

-- a call, as in a line of its return: its helper, and its device if it takes one
abbrev pub call_text : Names → Helper → DevId → List ℕ
call_text names h d = helper_word h ++ device_part names h d
