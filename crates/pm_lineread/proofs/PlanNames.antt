-- The names of a plan: each name of a list is another, and none has a byte that ends it in a line.
use Rattle.std.proofs.Common.{◌≡◌, ℕ, ◌+◌, Bool, true, false, not, List, [], ◌∷◌, length, map, nat_eq, Option, Some, None, IfSome, refl, inl, inr, arith}
use Rattle.std.specs.List.{list_all, list_any}
use Rattle.std.specs.Str.{bytes_eq}
use Rattle.std.proofs.lemmas.Bool.{and_from, and_parts, cases_Bool, eqb-true}
use Rattle.std.proofs.lemmas.Grind.{common_steps}
use Rattle.pm_model.specs.IsPlan.{are_distinct, each_at, is_caller, is_device, is_name_byte, is_name_of, is_plain_byte, is_plan}
use Rattle.pm_model.specs.Text.{names_of}
use Rattle.pm_model.specs.declared.plan.Plan.{Plan}
use Rattle.pm_model.specs.declared.rows.CallerRow.{CallerRow}
use Rattle.pm_model.specs.declared.rows.DeviceRow.{DeviceRow}
use Rattle.pm_model.specs.declared.rows.DomainRow.{DomainRow}
use Rattle.pm_model.specs.declared.rows.LinkRow.{LinkRow}
use Rattle.pm_names.specs.Table.{all_distinct}
use Rattle.pm_lineread.proofs.LineReads.{AreNames}
use Rattle.pm_lineread.proofs.Shared.{is_clean}

-- no byte of a name is a stop that is no byte of names
clean_bytes : (is_byte : ℕ → Bool) (stop : ℕ) → is_byte stop ≡ false → (bytes : List ℕ) → list_all is_byte bytes ≡ true → is_clean stop bytes ≡ true
clean_bytes is_byte stop none [] all = refl
clean_bytes is_byte stop none (b ∷ bytes) all =
    let (first, rest) = and_parts (is_byte b) (list_all is_byte bytes) all in
    and_from _ _ (other b first) (clean_bytes is_byte stop none bytes rest)
  where
    other : (b : ℕ) → is_byte b ≡ true → not (nat_eq b stop) ≡ true
    other b is = elim (cases_Bool (nat_eq b stop)) [
      | inl same ↦ let alike = eqb-true b stop same in absurd (cc (is, none, alike))
      | inr differ ↦ rw differ refl
    ]

name_clean : (is_byte : ℕ → Bool) (stop : ℕ) → is_byte stop ≡ false → (name : List ℕ) → is_name_of is_byte name ≡ true → is_clean stop name ≡ true
name_clean is_byte stop none name is = clean_bytes is_byte stop none name (and_parts _ (list_all is_byte name) is).1

device_name_is : (domains i : ℕ) (row : DeviceRow) → is_device domains i row ≡ true → is_name_of is_name_byte row.name ≡ true
device_name_is domains i row h = grind (arith, common_steps)

caller_name_is : (devices : ℕ) (row : CallerRow) → is_caller devices row ≡ true → is_name_of is_plain_byte row.name ≡ true
caller_name_is devices row h = grind (arith, common_steps)

devices_clean : (domains i : ℕ) (rows : List DeviceRow) → each_at (is_device domains) i rows ≡ true → list_all (is_clean 32) (map (λ row. row.name) rows) ≡ true
devices_clean domains i [] h = refl
devices_clean domains i (row ∷ rows) h =
    let (first, rest) = and_parts (is_device domains i row) (each_at (is_device domains) (i + 1) rows) h in
    and_from _ _ (name_clean is_name_byte 32 refl row.name (device_name_is domains i row first)) (devices_clean domains (i + 1) rows rest)

callers_clean : (stop : ℕ) → is_plain_byte stop ≡ false → (devices : ℕ) (rows : List CallerRow) → list_all (is_caller devices) rows ≡ true → list_all (is_clean stop) (map (λ row. row.name) rows) ≡ true
callers_clean stop none devices [] h = refl
callers_clean stop none devices (row ∷ rows) h =
    let (first, rest) = and_parts (is_caller devices row) (list_all (is_caller devices) rows) h in
    and_from _ _ (name_clean is_plain_byte stop none row.name (caller_name_is devices row first)) (callers_clean stop none devices rows rest)

distinct_names : (names : List (List ℕ)) → are_distinct bytes_eq names ≡ true → all_distinct names ≡ true
distinct_names [] h = refl
distinct_names (name ∷ names) h =
    let (first, rest) = and_parts (not (list_any (bytes_eq name) names)) (are_distinct bytes_eq names) h in
    and_from _ _ first (distinct_names names rest)

record NameLaw (domains : List DomainRow) (devices : List DeviceRow) (callers : List CallerRow) : Type 0 where
  each_device : each_at (is_device (length domains)) 0 devices ≡ true
  each_caller : list_all (is_caller (length devices)) callers ≡ true
  device_names : are_distinct bytes_eq (map (λ row. row.name) devices) ≡ true
  caller_names : are_distinct bytes_eq (map (λ row. row.name) callers) ≡ true

law_of_names : (lines trace : ℕ) (domains : List DomainRow) (devices : List DeviceRow) (links : List LinkRow) (callers : List CallerRow) → is_plan lines trace domains devices links callers ≡ true → NameLaw domains devices callers
law_of_names lines trace domains devices links callers h = record {
  each_device = grind (arith, common_steps);
  each_caller = grind (arith, common_steps);
  device_names = grind (arith, common_steps);
  caller_names = grind (arith, common_steps);
}

pub are_names : (plan : Plan) → AreNames (names_of plan)
are_names plan =
    let law = law_of_names plan.lines plan.trace plan.domains plan.devices plan.links plan.callers plan.law in
    record {
      devices_clean = devices_clean (length plan.domains) 0 plan.devices law.each_device;
      callers_clean = callers_clean 32 refl (length plan.devices) plan.callers law.each_caller;
      callers_plain = callers_clean 46 refl (length plan.devices) plan.callers law.each_caller;
      devices_distinct = distinct_names (map (λ row. row.name) plan.devices) law.device_names;
      callers_distinct = distinct_names (map (λ row. row.name) plan.callers) law.caller_names;
    }

-- no two devices and no two callers have one name, as whoever finds them must know
pub devices_apart : {F : Type 0} (plan : Plan) (finder : Option F) → IfSome finder (λ _. all_distinct (map (λ row. row.name) plan.devices) ≡ true)
devices_apart plan None = tt
devices_apart plan (Some finder) = (are_names plan).devices_distinct

pub callers_apart : {F : Type 0} (plan : Plan) (finder : Option F) → IfSome finder (λ _. all_distinct (map (λ row. row.name) plan.callers) ≡ true)
callers_apart plan None = tt
callers_apart plan (Some finder) = (are_names plan).callers_distinct
