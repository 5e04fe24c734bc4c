-- What is collected makes a plan exactly where it keeps to the limits on codes and commands.
use Rattle.std.proofs.Common.{◌≡◌, ◌∙◌, ℕ, zero, suc, ◌+◌, Bool, true, false, ◌&&◌, List, [], ◌∷◌, ℤ, Option, Some, None, length, map, option_map, slice_get, refl, sym, ap}
use Rattle.std.specs.List.{list_all}
use Rattle.std.specs.Option.{option_map_or}
use Rattle.std.proofs.lemmas.Bool.{and_from, and_parts}
use Rattle.pm_base.specs.declared.Cb.{Cb}
use Rattle.pm_base.specs.declared.Cb.TheVariants as cb
use Rattle.pm_model.specs.declared.event.Command.{Command}
use Rattle.pm_model.specs.declared.plan.Plan.{Plan}
use Rattle.pm_model.specs.declared.rows.CallerRow.{CallerRow}
use Rattle.pm_model.specs.declared.rows.DeviceRow.{DeviceRow}
use Rattle.pm_model.specs.declared.rows.LinkRow.{LinkRow}
use Rattle.pm_model.specs.IsPlan.{are_codes, each_at, is_caller, is_caller_name, is_device, is_link, is_plan, is_script}
use Rattle.pm_driver_flat.specs.Flat.{IsPlanOf, plain}
use Rattle.pm_driver_runs.specs.Collected.{with_codes, with_scripts}
use Rattle.pm_driver_runs.specs.Limits.{have_codes, have_scripts}

front : (a b : Bool) → (a && b) ≡ true → a ≡ true
front a b both = (and_parts a b both).0

rear : (a b : Bool) → (a && b) ≡ true → b ≡ true
rear a b both = (and_parts a b both).1

pub codes_length : (codes : ℕ → Cb → List ℤ) (d : ℕ) (rows : List DeviceRow) → length (with_codes codes d rows) ≡ length rows
codes_length codes d [] = refl
codes_length codes d (row ∷ rows) = ap suc (codes_length codes (d + 1) rows)

pub codes_names : (codes : ℕ → Cb → List ℤ) (d : ℕ) (rows : List DeviceRow) → map (λ row. row.name) (with_codes codes d rows) ≡ map (λ row. row.name) rows
codes_names codes d [] = refl
codes_names codes d (row ∷ rows) = ap (λ l. row.name ∷ l) (codes_names codes (d + 1) rows)

pub scripts_length : (script : ℕ → List Command) (c : ℕ) (rows : List CallerRow) → length (with_scripts script c rows) ≡ length rows
scripts_length script c [] = refl
scripts_length script c (row ∷ rows) = ap suc (scripts_length script (c + 1) rows)

pub scripts_names : (script : ℕ → List Command) (c : ℕ) (rows : List CallerRow) → map (λ row. row.name) (with_scripts script c rows) ≡ map (λ row. row.name) rows
scripts_names script c [] = refl
scripts_names script c (row ∷ rows) = ap (λ l. row.name ∷ l) (scripts_names script (c + 1) rows)

-- the same devices have no callbacks
lacks_at : (codes : ℕ → Cb → List ℤ) (d : ℕ) (rows : List DeviceRow) (i : ℕ)
    → option_map_or (λ row. row.no_callbacks) (slice_get (with_codes codes d rows) i) false ≡ option_map_or (λ row. row.no_callbacks) (slice_get rows i) false
lacks_at codes d [] i = refl
lacks_at codes d (row ∷ rows) zero = refl
lacks_at codes d (row ∷ rows) (suc i) = lacks_at codes (d + 1) rows i

link_same : (codes : ℕ → Cb → List ℤ) (rows : List DeviceRow) (link : LinkRow) → is_link (with_codes codes 0 rows) link ≡ is_link rows link
link_same codes rows link = rw (codes_length codes 0 rows, lacks_at codes 0 rows link.consumer.0) refl

links_same : (codes : ℕ → Cb → List ℤ) (rows : List DeviceRow) (links : List LinkRow) → list_all (is_link (with_codes codes 0 rows)) links ≡ list_all (is_link rows) links
links_same codes rows [] = refl
links_same codes rows (link ∷ links) = rw (link_same codes rows link, links_same codes rows links) refl

-- a device with codes of its own
no_codes : (idle : Option (List ℤ)) → option_map_or are_codes (option_map (λ codes. []) idle) true ≡ true
no_codes None = refl
no_codes (Some codes) = refl

device_still : (domains i : ℕ) (row : DeviceRow) (suspend resume : List ℤ) → is_device domains i row ≡ true → are_codes suspend ≡ true → are_codes resume ≡ true
    → is_device domains i (record (plain row) { suspend = suspend; resume = resume }) ≡ true
device_still domains i row suspend resume is s r =
    let idle = and_parts _ _ (and_parts _ _ (and_parts _ _ is).0).0 in
    and_from _ _ (and_from _ _ (and_from _ _ idle.0 (no_codes row.idle)) s) r

devices_still : (codes : ℕ → Cb → List ℤ) (domains i d : ℕ) (rows : List DeviceRow) → each_at (is_device domains) i rows ≡ true → have_codes (with_codes codes d rows) ≡ true
    → each_at (is_device domains) i (with_codes codes d rows) ≡ true
devices_still codes domains i d [] are fit = refl
devices_still codes domains i d (row ∷ rows) are fit =
    let was = and_parts (is_device domains i row) (each_at (is_device domains) (i + 1) rows) are in
    let has = and_parts (are_codes (codes d cb.Suspend) && are_codes (codes d cb.Resume)) (have_codes (with_codes codes (d + 1) rows)) fit in
    let both = and_parts (are_codes (codes d cb.Suspend)) (are_codes (codes d cb.Resume)) has.0 in
    and_from _ _ (device_still domains i row (codes d cb.Suspend) (codes d cb.Resume) was.0 both.0 both.1) (devices_still codes domains (i + 1) (d + 1) rows was.1 has.1)

-- and a caller with a script of its own
callers_still : (devices : ℕ) (script : ℕ → List Command) (c : ℕ) (rows : List CallerRow) → list_all (is_caller devices) rows ≡ true → have_scripts devices (with_scripts script c rows) ≡ true
    → list_all (is_caller devices) (with_scripts script c rows) ≡ true
callers_still devices script c [] are fit = refl
callers_still devices script c (row ∷ rows) are fit =
    let was = and_parts (is_caller devices row) (list_all (is_caller devices) rows) are in
    let named = and_parts (is_caller_name row.name) (is_script devices row.script) was.0 in
    let has = and_parts (is_script devices (script c)) (have_scripts devices (with_scripts script (c + 1) rows)) fit in
    and_from _ _ (and_from _ _ named.0 has.0) (callers_still devices script (c + 1) rows was.1 has.1)

devices_of : (plan : Plan) → is_plan plan.lines plan.trace plan.domains plan.devices plan.links plan.callers ≡ true → each_at (is_device (length plan.domains)) 0 plan.devices ≡ true
devices_of plan law = search (front, rear) depth 40

callers_of : (plan : Plan) → is_plan plan.lines plan.trace plan.domains plan.devices plan.links plan.callers ≡ true → list_all (is_caller (length plan.devices)) plan.callers ≡ true
callers_of plan law = search (front, rear) depth 40

pub fit_makes_plan : (plan : Plan) (codes : ℕ → Cb → List ℤ) (script : ℕ → List Command) → have_codes (with_codes codes 0 plan.devices) ≡ true → have_scripts (length plan.devices) (with_scripts script 0 plan.callers) ≡ true
    → IsPlanOf plan (with_codes codes 0 plan.devices) (with_scripts script 0 plan.callers)
fit_makes_plan plan codes script coded scripted =
    let devices : each_at (is_device (length plan.domains)) 0 (with_codes codes 0 plan.devices) ≡ each_at (is_device (length plan.domains)) 0 plan.devices =
    devices_still codes (length plan.domains) 0 0 plan.devices (devices_of plan plan.law) coded ∙ sym (devices_of plan plan.law) in
    let callers : list_all (is_caller (length plan.devices)) (with_scripts script 0 plan.callers) ≡ list_all (is_caller (length plan.devices)) plan.callers =
    callers_still (length plan.devices) script 0 plan.callers (callers_of plan plan.law) scripted ∙ sym (callers_of plan plan.law) in
    rw (links_same codes plan.devices plan.links, codes_length codes 0 plan.devices, devices, callers, scripts_length script 0 plan.callers, codes_names codes 0 plan.devices, scripts_names script 0 plan.callers) plan.law

-- and a plan fits
device_fits : (domains i : ℕ) (row : DeviceRow) → is_device domains i row ≡ true → (are_codes row.suspend && are_codes row.resume) ≡ true
device_fits domains i row is =
    let suspend : are_codes row.suspend ≡ true = search (is, front, rear) depth 20 in
    let resume : are_codes row.resume ≡ true = search (is, front, rear) depth 20 in
    and_from (are_codes row.suspend) (are_codes row.resume) suspend resume

devices_fit : (codes : ℕ → Cb → List ℤ) (domains i d : ℕ) (rows : List DeviceRow) → each_at (is_device domains) i (with_codes codes d rows) ≡ true → have_codes (with_codes codes d rows) ≡ true
devices_fit codes domains i d [] are = refl
devices_fit codes domains i d (row ∷ rows) are =
    let made : DeviceRow = record (plain row) { suspend = codes d cb.Suspend; resume = codes d cb.Resume } in
    let is = and_parts (is_device domains i made) (each_at (is_device domains) (i + 1) (with_codes codes (d + 1) rows)) are in
    and_from _ _ (device_fits domains i made is.0) (devices_fit codes domains (i + 1) (d + 1) rows is.1)

callers_fit : (devices : ℕ) (script : ℕ → List Command) (c : ℕ) (rows : List CallerRow) → list_all (is_caller devices) (with_scripts script c rows) ≡ true → have_scripts devices (with_scripts script c rows) ≡ true
callers_fit devices script c [] are = refl
callers_fit devices script c (row ∷ rows) are =
    let is = and_parts (is_caller devices (record row { script = script c })) (list_all (is_caller devices) (with_scripts script (c + 1) rows)) are in
    and_from _ _ (and_parts (is_caller_name row.name) (is_script devices (script c)) is.0).1 (callers_fit devices script (c + 1) rows is.1)

module _ (plan : Plan) (codes : ℕ → Cb → List ℤ) (script : ℕ → List Command) (law : IsPlanOf plan (with_codes codes 0 plan.devices) (with_scripts script 0 plan.callers)) where
  coded_rows : each_at (is_device (length plan.domains)) 0 (with_codes codes 0 plan.devices) ≡ true
  coded_rows = search (law, front, rear) depth 40

  scripted_rows : list_all (is_caller (length (with_codes codes 0 plan.devices))) (with_scripts script 0 plan.callers) ≡ true
  scripted_rows = search (law, front, rear) depth 40

  pub plan_has_codes : have_codes (with_codes codes 0 plan.devices) ≡ true
  plan_has_codes = devices_fit codes (length plan.domains) 0 0 plan.devices coded_rows

  pub plan_has_scripts : have_scripts (length plan.devices) (with_scripts script 0 plan.callers) ≡ true
  plan_has_scripts = callers_fit (length plan.devices) script 0 plan.callers (rw (← codes_length codes 0 plan.devices) scripted_rows)
