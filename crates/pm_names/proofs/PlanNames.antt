-- The names of a plan: each of a list is another.
use Rattle.std.proofs.Common.{◌≡◌, ℕ, true, not, List, [], ◌∷◌, map, refl, arith}
use Rattle.std.specs.List.{list_any}
use Rattle.std.specs.Str.{bytes_eq}
use Rattle.std.proofs.lemmas.Bool.{and_from, and_parts}
use Rattle.std.proofs.lemmas.Grind.{common_steps}
use Rattle.pm_model.specs.IsPlan.{are_distinct, is_plan}
use Rattle.pm_model.specs.declared.plan.Plan.{Plan}
use Rattle.pm_model.specs.declared.rows.CallerRow.{CallerRow}
use Rattle.pm_model.specs.declared.rows.DeviceRow.{DeviceRow}
use Rattle.pm_model.specs.declared.rows.DomainRow.{DomainRow}
use Rattle.pm_model.specs.declared.rows.LinkRow.{LinkRow}
use Rattle.pm_names.specs.Table.{all_distinct}

pub distinct_names : (names : List (List ℕ)) → are_distinct bytes_eq names ≡ true → all_distinct names ≡ true
distinct_names [] h = refl
distinct_names (name ∷ names) h =
    let (first, rest) = and_parts (not (list_any (bytes_eq name) names)) (are_distinct bytes_eq names) h in
    and_from _ _ first (distinct_names names rest)

law_of_devices : (lines trace : ℕ) (domains : List DomainRow) (devices : List DeviceRow) (links : List LinkRow) (callers : List CallerRow) → is_plan lines trace domains devices links callers ≡ true → are_distinct bytes_eq (map (λ row. row.name) devices) ≡ true
law_of_devices lines trace domains devices links callers h = grind (arith, common_steps)

law_of_callers : (lines trace : ℕ) (domains : List DomainRow) (devices : List DeviceRow) (links : List LinkRow) (callers : List CallerRow) → is_plan lines trace domains devices links callers ≡ true → are_distinct bytes_eq (map (λ row. row.name) callers) ≡ true
law_of_callers lines trace domains devices links callers h = grind (arith, common_steps)

pub devices_distinct : (plan : Plan) → all_distinct (map (λ row. row.name) plan.devices) ≡ true
devices_distinct plan = distinct_names (map (λ row. row.name) plan.devices) (law_of_devices plan.lines plan.trace plan.domains plan.devices plan.links plan.callers plan.law)

pub callers_distinct : (plan : Plan) → all_distinct (map (λ row. row.name) plan.callers) ≡ true
callers_distinct plan = distinct_names (map (λ row. row.name) plan.callers) (law_of_callers plan.lines plan.trace plan.domains plan.devices plan.links plan.callers plan.law)
