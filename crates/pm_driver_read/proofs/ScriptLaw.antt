-- A plan whose scripts are the commands of programs is a plan.
use Rattle.std.proofs.Common.{ℕ, zero, suc, ◌+◌, ◌<◌, ◌≤◌, ◌^◌, ◌≡◌, Bool, true, false, not, ◌&&◌, List, [], ◌∷◌, Option, Some, None, map, length, nat_le, slice_get, if◌then◌else◌, refl, sym, subst, ap, ◌∙◌, arith}
use Rattle.std.specs.List.{list_all}
use Rattle.std.proofs.lemmas.Bool.{and_from, and_parts}
use Rattle.std.proofs.lemmas.Grind.{common_steps}
use Rattle.std.proofs.lemmas.List.Folds.{list_all-map}
use Rattle.std.proofs.lemmas.List.{length-map}
use Rattle.pm_model.specs.declared.event.Command.{Command}
use Rattle.pm_model.specs.declared.plan.Plan.{Plan}
use Rattle.pm_model.specs.declared.rows.CallerRow.{CallerRow}
use Rattle.pm_model.specs.declared.rows.DeviceRow.{DeviceRow}
use Rattle.pm_model.specs.declared.rows.DomainRow.{DomainRow}
use Rattle.pm_model.specs.declared.rows.LinkRow.{LinkRow}
use Rattle.pm_model.specs.IsPlan.{is_caller, is_caller_name, is_command, is_plan, is_script}
use Rattle.pm_driver_read.specs.Plans.{callers_with, commands_at, commands_of, is_place_over, is_program, scripts_fault}
use Rattle.pm_driver_read.specs.declared.refusal.DriverRefusal.{DriverRefusal}
use Rattle.pm_driver_read.specs.declared.reading.LocatedProgram.{LocatedProgram}
use Rattle.pm_driver_script.specs.declared.program.ProgramPlace.{ProgramPlace}

front : (a b : Bool) → a && b ≡ true → a ≡ true
front a b e = (and_parts a b e).0

rear : (a b : Bool) → a && b ≡ true → b ≡ true
rear a b e = (and_parts a b e).1

same_length : (programs : List LocatedProgram) (c : ℕ) (rows : List CallerRow) → length (callers_with programs c rows) ≡ length rows
same_length programs c [] = refl
same_length programs c (row ∷ rows) = ap suc (same_length programs (c + 1) rows)

same_names : (programs : List LocatedProgram) (c : ℕ) (rows : List CallerRow) → map (λ row. row.name) (callers_with programs c rows) ≡ map (λ row. row.name) rows
same_names programs c [] = refl
same_names programs c (row ∷ rows) = ap (λ l. row.name ∷ l) (same_names programs (c + 1) rows)

-- where no program is refused, each is a script
no_fault : (b : Bool) (r : DriverRefusal) (rest : Option DriverRefusal) → (if not b then Some r else rest) ≡ None → (b ≡ true) × (rest ≡ None)
no_fault true r rest e = (refl, e)
no_fault false r rest e = cc

each_program : (devices n : ℕ) (programs : List LocatedProgram) → scripts_fault devices n programs ≡ None → list_all (is_program devices) programs ≡ true
each_program devices n [] none = refl
each_program devices n (p ∷ programs) none =
    let h = no_fault (is_program devices p) _ (scripts_fault devices (n + 1) programs) none in
    and_from (is_program devices p) (list_all (is_program devices) programs) h.0 (each_program devices (n + 1) programs h.1)

program_is_script : (devices : ℕ) (p : LocatedProgram) → is_program devices p ≡ true → is_script devices (commands_of p.program.places) ≡ true
program_is_script devices p is =
    let h = and_parts (nat_le (length p.program.places) 1000) (list_all (is_place_over devices) p.program.places) is in
    rw (length-map p.program.places (λ (place : ProgramPlace). place.command), list_all-map (is_command devices) (λ (place : ProgramPlace). place.command) p.program.places, h.0, h.1) refl

at_is_script : (devices c : ℕ) (programs : List LocatedProgram) → list_all (is_program devices) programs ≡ true → is_script devices (commands_at programs c) ≡ true
at_is_script devices c [] all = refl
at_is_script devices zero (p ∷ programs) all = program_is_script devices p (and_parts (is_program devices p) _ all).0
at_is_script devices (suc c) (p ∷ programs) all = at_is_script devices c programs (and_parts (is_program devices p) _ all).1

still_callers : (devices : ℕ) (programs : List LocatedProgram) (c : ℕ) (rows : List CallerRow) → list_all (is_program devices) programs ≡ true
    → list_all (is_caller devices) rows ≡ true → list_all (is_caller devices) (callers_with programs c rows) ≡ true
still_callers devices programs c [] each all = refl
still_callers devices programs c (row ∷ rows) each all =
    let h = and_parts _ _ all in
    let name = (and_parts (is_caller_name row.name) (is_script devices row.script) h.0).0 in
    rw (name, at_is_script devices c programs each, still_callers devices programs (c + 1) rows each h.1) refl

callers_are : (lines trace : ℕ) (domains : List DomainRow) (devices : List DeviceRow) (links : List LinkRow) (callers : List CallerRow) → is_plan lines trace domains devices links callers ≡ true
    → list_all (is_caller (length devices)) callers ≡ true
callers_are lines trace domains devices links callers law = search (front, rear) depth 40

-- the plan is one still
pub scripted_law : (lines trace : ℕ) (domains : List DomainRow) (devices : List DeviceRow) (links : List LinkRow) (callers : List CallerRow) (programs : List LocatedProgram)
    → is_plan lines trace domains devices links callers ≡ true → scripts_fault (length devices) 0 programs ≡ None
    → is_plan lines trace domains devices links (callers_with programs 0 callers) ≡ true
scripted_law lines trace domains devices links callers programs law none =
    let old = callers_are lines trace domains devices links callers law in
    let same : list_all (is_caller (length devices)) (callers_with programs 0 callers) ≡ list_all (is_caller (length devices)) callers =
    still_callers (length devices) programs 0 callers (each_program (length devices) 0 programs none) old ∙ sym old in
    rw (same_length programs 0 callers, same_names programs 0 callers, same) law

few : (lines trace : ℕ) (domains : List DomainRow) (devices : List DeviceRow) (links : List LinkRow) (callers : List CallerRow) → is_plan lines trace domains devices links callers ≡ true
    → (length devices ≤ 1024) × (length links ≤ 1024) × (length callers ≤ 16)
few lines trace domains devices links callers law = (grind (arith, common_steps), grind (arith, common_steps), grind (arith, common_steps))

pub few_devices : (plan : Plan) → length plan.devices ≤ 1024
few_devices plan = (few plan.lines plan.trace plan.domains plan.devices plan.links plan.callers plan.law).0

pub few_links : (plan : Plan) → length plan.links ≤ 1024
few_links plan = (few plan.lines plan.trace plan.domains plan.devices plan.links plan.callers plan.law).1

-- few callers, whatever their scripts
pub few_with : (plan : Plan) (programs : List LocatedProgram) → length (callers_with programs 0 plan.callers) < 2 ^ 32
few_with plan programs = let f = few plan.lines plan.trace plan.domains plan.devices plan.links plan.callers plan.law in rw (same_length programs 0 plan.callers) (omega (arith, f.2))

-- no script of a plan is too long
short : (devices : ℕ) (rows : List CallerRow) → list_all (is_caller devices) rows ≡ true → list_all (λ row. nat_le (length row.script) 1000) rows ≡ true
short devices [] all = refl
short devices (row ∷ rows) all =
    let h = and_parts _ _ all in
    let script = (and_parts (is_caller_name row.name) (is_script devices row.script) h.0).1 in
    rw ((and_parts (nat_le (length row.script) 1000) _ script).0, short devices rows h.1) refl

pub short_scripts : (plan : Plan) → list_all (λ row. nat_le (length row.script) 1000) plan.callers ≡ true
short_scripts plan = short (length plan.devices) plan.callers (callers_are plan.lines plan.trace plan.domains plan.devices plan.links plan.callers plan.law)
