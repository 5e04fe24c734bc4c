-- What the law of a plan says of one row.
use Rattle.std.proofs.Common.{ℕ, zero, suc, ◌≡◌, ◌+◌, ◌<◌, Bool, true, List, [], ◌∷◌, Option, Some, None, IfSome, length, slice_get, nat_lt, subst, arith}
use Rattle.std.specs.List.{list_all}
use Rattle.std.specs.Option.{option_map_or}
use Rattle.std.proofs.lemmas.Bool.{and_parts, ltb-true}
use Rattle.std.proofs.lemmas.Grind.{common_steps}
use Rattle.std.proofs.lemmas.Option.{slice_get-get_or}
use Rattle.pm_base.specs.declared.DevId.{DevId}
use Rattle.pm_model.specs.declared.plan.Plan.{Plan}
use Rattle.pm_model.specs.declared.rows.CallerRow.{CallerRow}
use Rattle.pm_model.specs.declared.rows.DeviceRow.{DeviceRow}
use Rattle.pm_model.specs.declared.rows.DomainRow.{DomainRow}
use Rattle.pm_model.specs.declared.rows.LinkRow.{LinkRow}
use Rattle.pm_model.specs.IsPlan.{each_at, is_device, is_link, is_plan}
use Rattle.pm_link.specs.LinkOrder.{supplier_at}
use Rattle.pm_link.specs.Links.{no_link, row_at}

each_row : {A : Type 0} (test : ℕ → A → Bool) (i n : ℕ) (rows : List A) (row : A) → each_at test i rows ≡ true → slice_get rows n ≡ Some row → test (i + n) row ≡ true
each_row test i n [] row all is = cc
each_row test i zero (x ∷ rows) row all is =
    let same : x ≡ row = cc in
    subst (λ k. test k row ≡ true) (omega arith) (subst (λ r. test i r ≡ true) same (and_parts (test i x) (each_at test (i + 1) rows) all).0)
each_row test i (suc n) (x ∷ rows) row all is =
    subst (λ k. test k row ≡ true) (omega arith) (each_row test (i + 1) n rows row (and_parts (test i x) (each_at test (i + 1) rows) all).1 is)

pub devices_law : (lines trace : ℕ) (domains : List DomainRow) (devices : List DeviceRow) (links : List LinkRow) (callers : List CallerRow) → is_plan lines trace domains devices links callers ≡ true
    → each_at (is_device (length domains)) 0 devices ≡ true
devices_law lines trace domains devices links callers law = grind (arith, common_steps)

-- a device's row meets the plan's law
pub device_row : (plan : Plan) (d : DevId) (row : DeviceRow) → slice_get plan.devices d.0 ≡ Some row → is_device (length plan.domains) d.0 row ≡ true
device_row plan d row is = subst (λ k. is_device (length plan.domains) k row ≡ true) (omega arith) (each_row (is_device (length plan.domains)) 0 d.0 plan.devices row (devices_law plan.lines plan.trace plan.domains plan.devices plan.links plan.callers plan.law) is)

earlier : (d : ℕ) (p : Option DevId) → option_map_or (λ p. nat_lt p.0 d) p true ≡ true → IfSome p (λ p. p.0 < d)
earlier d None holds = tt
earlier d (Some p) holds = ltb-true p.0 d holds

row_earlier : (domains d : ℕ) (row : DeviceRow) → is_device domains d row ≡ true → option_map_or (λ p. nat_lt p.0 d) row.parent true ≡ true
row_earlier domains d row law = grind (arith, common_steps)

-- its parent stands earlier
pub row_parent_earlier : (domains d : ℕ) (row : DeviceRow) → is_device domains d row ≡ true → IfSome row.parent (λ p. p.0 < d)
row_parent_earlier domains d row law = earlier d row.parent (row_earlier domains d row law)

pub parent_earlier : (plan : Plan) (d : DevId) (row : DeviceRow) → slice_get plan.devices d.0 ≡ Some row → IfSome row.parent (λ p. p.0 < d.0)
parent_earlier plan d row is = row_parent_earlier (length plan.domains) d.0 row (device_row plan d row is)

each_item : {A : Type 0} (test : A → Bool) (n : ℕ) (rows : List A) (row : A) → list_all test rows ≡ true → slice_get rows n ≡ Some row → test row ≡ true
each_item test n [] row all is = cc
each_item test zero (x ∷ rows) row all is = let same : x ≡ row = cc in subst (λ r. test r ≡ true) same (and_parts (test x) (list_all test rows) all).0
each_item test (suc n) (x ∷ rows) row all is = each_item test n rows row (and_parts (test x) (list_all test rows) all).1 is

links_law : (lines trace : ℕ) (domains : List DomainRow) (devices : List DeviceRow) (links : List LinkRow) (callers : List CallerRow) → is_plan lines trace domains devices links callers ≡ true
    → list_all (is_link devices) links ≡ true
links_law lines trace domains devices links callers law = grind (arith, common_steps)

ends_in : (devices : List DeviceRow) (row : LinkRow) → is_link devices row ≡ true → row.supplier.0 < length devices
ends_in devices row law = grind (arith, common_steps)

-- the supplier of a link is a device
pub supplier_in_range : (plan : Plan) (l : ℕ) (row : LinkRow) → slice_get plan.links l ≡ Some row → row.supplier.0 < length plan.devices
supplier_in_range plan l row is =
    ends_in plan.devices row (each_item (is_link plan.devices) l plan.links row (links_law plan.lines plan.trace plan.domains plan.devices plan.links plan.callers plan.law) is)

pub supplier_at_in_range : (plan : Plan) (l : ℕ) → l < length plan.links → supplier_at plan.links l < length plan.devices
supplier_at_in_range plan l below = supplier_in_range plan l (row_at plan.links l) (slice_get-get_or plan.links l no_link below)
