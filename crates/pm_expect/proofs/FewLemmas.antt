-- A script has at most 1,000 commands.
use Rattle.std.proofs.Common.{◌≡◌, ℕ, zero, suc, ◌+◌, ◌≤◌, Bool, true, ◌&&◌, List, [], ◌∷◌, Option, Some, None, length, nat_le, slice_get, refl, sym, ◌∙◌, arith}
use Rattle.std.proofs.lemmas.Bool.{and_parts, leb-true}
use Rattle.std.proofs.lemmas.List.Sums.{count_by-le-length}
use Rattle.std.specs.List.{list_all}
use Rattle.std.specs.Option.{option_map_or}
use Rattle.pm_model.specs.IsPlan.{is_caller, is_caller_name, is_command, is_plan, is_script}
use Rattle.pm_model.specs.declared.event.Command.{Command}
use Rattle.pm_model.specs.declared.plan.Plan.{Plan}
use Rattle.pm_model.specs.declared.rows.CallerRow.{CallerRow}
use Rattle.pm_expect.specs.Fields.{times_by}
use Rattle.pm_expect.specs.Same.{is_same_command, times_of}

front : (a b : Bool) → (a && b) ≡ true → a ≡ true
front a b both = (and_parts a b both).0

rear : (a b : Bool) → (a && b) ≡ true → b ≡ true
rear a b both = (and_parts a b both).1

callers_of : (plan : Plan) → is_plan plan.lines plan.trace plan.domains plan.devices plan.links plan.callers ≡ true → list_all (is_caller (length plan.devices)) plan.callers ≡ true
callers_of plan law = search (front, rear) depth 40

few_of : (devices : ℕ) (command : Command) (c : ℕ) (rows : List CallerRow) → list_all (is_caller devices) rows ≡ true → option_map_or (λ (row : CallerRow). times_of command row.script) (slice_get rows c) 0 ≤ 1000
few_of devices command c [] all = omega arith
few_of devices command zero (first ∷ rows) all =
    let p = and_parts (is_caller devices first) (list_all (is_caller devices) rows) all in
    let q = and_parts (is_caller_name first.name) (is_script devices first.script) p.0 in
    let short = leb-true _ _ (and_parts (nat_le (length first.script) 1000) (list_all (is_command devices) first.script) q.1).0 in
    omega (arith, short, count_by-le-length (is_same_command command) first.script)
few_of devices command (suc c) (first ∷ rows) all = few_of devices command c rows (and_parts (is_caller devices first) (list_all (is_caller devices) rows) all).1

pub few_times : (plan : Plan) (caller : ℕ) (command : Command) → times_by plan caller command ≤ 1000
few_times plan caller command = few_of (length plan.devices) command caller plan.callers (callers_of plan plan.law)
