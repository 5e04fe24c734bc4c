-- The rules of a driver's callers.
use Rattle.std.proofs.Common.{ℕ, ◌≡◌, ◌<◌, ◌≤◌, ◌∙◌, ◌^◌, List, [], ◌∷◌, ap, length, map, min, refl, sym, take, arith}
use Rattle.std.proofs.lemmas.List.{length-map, length-take, take-map}
use Rattle.pm_driver_read.specs.declared.driver.DriverCaller.{DriverCaller}
use Rattle.pm_driver_rules.specs.declared.rules.BeginNeed.{BeginNeed}
use Rattle.pm_driver_rules.specs.declared.rules.CallerRules.{CallerRules}
use Rattle.pm_driver_report.specs.Rules.{CallerPart, begin_need, part_of, part_read, parts_by}

-- each has its own needs
parts_are : (callers : List DriverCaller) → parts_by callers (map (λ (c : DriverCaller). map begin_need c.after) callers) ≡ map part_read callers
parts_are [] = refl
parts_are (caller ∷ callers) = ap (λ (l : List CallerPart). part_read caller ∷ l) (parts_are callers)

pub first_parts : (callers : List DriverCaller) (needs : List (List BeginNeed)) (pushed : List CallerRules)
    → needs ≡ map (λ (c : DriverCaller). map begin_need c.after) callers → map part_of pushed ≡ parts_by callers needs → map part_of (take 16 pushed) ≡ take 16 (map part_read callers)
first_parts callers needs pushed same is =
    sym (take-map part_of 16 pushed) ∙ ap (take 16) (is ∙ ap (parts_by callers) same ∙ parts_are callers)

pub few_rules : (callers : List DriverCaller) (rules : List CallerRules) → map part_of rules ≡ take 16 (map part_read callers) → length rules < 2 ^ 32
few_rules callers rules is =
    let same : length rules ≡ min 16 (length (map part_read callers)) = sym (length-map rules part_of) ∙ ap length is ∙ length-take 16 (map part_read callers) in
    rw same (grind (arith))
