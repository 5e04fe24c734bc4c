-- The counters before any line.
use Rattle.std.proofs.Common.{ℕ, zero, suc, ◌≡◌, ◌+◌, ◌<◌, ◌≤◌, Bool, true, false, List, [], ◌∷◌, Option, Some, None, IfSome, All, length, map, not, replicate, slice_index_or, ap, refl, sym, ◌∙◌, ◌^◌, arith}
use Rattle.std.proofs.lemmas.Bool.{and_parts}
use Rattle.std.proofs.lemmas.Grind.{common_steps}
use Rattle.std.proofs.lemmas.List.{length-map, length-replicate}
use Rattle.std.proofs.lemmas.List.Elements.{All-map}
use Rattle.std.proofs.lemmas.Option.{IfSome_then}
use Rattle.pm_base.specs.declared.Armed.{Armed}
use Rattle.pm_base.specs.declared.DevId.{DevId}
use Rattle.pm_base.specs.declared.Pending.{Pending}
use Rattle.pm_base.specs.declared.limits.TheConstants.{MAX_DEVICES}
use Rattle.pm_model.specs.declared.plan.Plan.{Plan}
use Rattle.pm_model.specs.declared.rows.CallerRow.{CallerRow}
use Rattle.pm_model.specs.declared.rows.DeviceRow.{DeviceRow}
use Rattle.pm_model.specs.declared.rows.DomainRow.{DomainRow}
use Rattle.pm_model.specs.declared.rows.LinkRow.{LinkRow}
use Rattle.pm_model.specs.declared.views.Device.{Device}
use Rattle.pm_model.specs.IsPlan.{each_at, is_device, is_plan}
use Rattle.pm_model.specs.Views.{Views, fresh_device, fresh_pending}
use Rattle.pm_model.specs.World.{start_views}
use Rattle.pm_index.specs.OwnMarks.{AreBelow, owner_at}
use Rattle.pm_domain.specs.Domains.{fresh_on, homes}
use Rattle.pm_domain.specs.Domains.{place_of as domain_place}
use Rattle.pm_device.specs.Children.{counts, parents, place_of}
use Rattle.pm_device.specs.Parts.{IsInTime, IsKept, is_quiet}
use Rattle.pm_device.proofs.PlanLemmas.{devices_law, row_parent_earlier}

abbrev fresh_of : DeviceRow → Device
fresh_of row = record fresh_device { ignores = row.ignore_children }

pub map_constant : {A B : Type 0} (x : B) (rows : List A) → replicate (length rows) x ≡ map (λ row. x) rows
map_constant x [] = refl
map_constant x (row ∷ rows) = ap (λ xs. x ∷ xs) (map_constant x rows)

few_devices : (lines trace : ℕ) (domains : List DomainRow) (devices : List DeviceRow) (links : List LinkRow) (callers : List CallerRow) → is_plan lines trace domains devices links callers ≡ true
    → length devices ≤ MAX_DEVICES
few_devices lines trace domains devices links callers law = grind (arith, common_steps)

none_count : (rows : List DeviceRow) → replicate (length rows) false ≡ map (λ x. counts x.status) (map fresh_of rows)
none_count [] = refl
none_count (row ∷ rows) = ap (λ xs. false ∷ xs) (none_count rows)

all_awake : (rows : List DeviceRow) → replicate (length rows) true ≡ map (λ x. not (is_quiet x)) (map fresh_of rows)
all_awake [] = refl
all_awake (row ∷ rows) = ap (λ xs. true ∷ xs) (all_awake rows)

fresh_in_time : (row : DeviceRow) → IsInTime (fresh_of row)
fresh_in_time row = record { last_busy = omega arith; least = omega arith; most = omega arith }

all_in_time : (rows : List DeviceRow) → All IsInTime (map fresh_of rows)
all_in_time rows = All-map IsInTime fresh_of rows (λ k d below. fresh_in_time (slice_index_or rows k d))

rows_earlier : (domains i : ℕ) (rows : List DeviceRow) (d : ℕ) → each_at (is_device domains) i rows ≡ true → IfSome (owner_at (map (λ row. place_of row.parent) rows) d) (λ p. (p < i + d) × (d < length rows))
rows_earlier domains i [] d law = tt
rows_earlier domains i (row ∷ rows) zero law = here row.parent (row_parent_earlier domains i row (and_parts (is_device domains i row) (each_at (is_device domains) (i + 1) rows) law).0)
  where
    here : (p : Option DevId) → IfSome p (λ p. p.0 < i) → IfSome (place_of p) (λ p. (p < i + 0) × (0 < suc (length rows)))
    here None h = tt
    here (Some p) h = (omega arith, omega arith)
rows_earlier domains i (row ∷ rows) (suc d) law =
    IfSome_then (owner_at (map (λ r. place_of r.parent) rows) d) (rows_earlier domains (i + 1) rows d (and_parts (is_device domains i row) (each_at (is_device domains) (i + 1) rows) law).1) (λ p h. (omega (arith, h.0), omega (arith, h.1)))

-- each parent is a device of the plan
pub parents_below : (plan : Plan) → AreBelow (length plan.devices) (parents plan)
parents_below plan d =
    IfSome_then (owner_at (parents plan) d) (rows_earlier (length plan.domains) 0 plan.devices d (devices_law plan.lines plan.trace plan.domains plan.devices plan.links plan.callers plan.law)) (λ p h. omega (arith, h.0, h.1))

pub few_places : (plan : Plan) → length (parents plan) + 1 < 2 ^ 32
few_places plan = omega (arith, few_devices plan.lines plan.trace plan.domains plan.devices plan.links plan.callers plan.law, length-map plan.devices (λ (row : DeviceRow). place_of row.parent))

pub fresh_kept : (plan : Plan) (above : List (Option ℕ)) (on : List Bool) → length on ≡ length above
    → IsKept (parents plan) (map fresh_of plan.devices) (replicate (length plan.devices) fresh_pending) (replicate (length plan.devices) None) (homes plan) (replicate (length plan.devices) true) above on (replicate (length plan.devices) false)
fresh_kept plan above on same =
    let count = length-map plan.devices (λ (row : DeviceRow). place_of row.parent) in
    record {
      devices_len = length-map plan.devices fresh_of ∙ sym count;
      pending_len = length-replicate (length plan.devices) fresh_pending ∙ sym count;
      timers_len = length-replicate (length plan.devices) None ∙ sym count;
      homes_len = length-map plan.devices (λ (row : DeviceRow). domain_place row.domain) ∙ sym count;
      on_len = same;
      counting_is = none_count plan.devices;
      awake_is = all_awake plan.devices;
      in_time = all_in_time plan.devices;
    }

-- the same of lists that are equal to these
pub kept_as_fresh : (plan : Plan) (owners : List (Option ℕ)) (devices : List Device) (pending : List Pending) (timers : List (Option Armed)) (own : List (Option ℕ)) (awake : List Bool) (above : List (Option ℕ)) (on counting : List Bool)
    → length on ≡ length above → owners ≡ parents plan → devices ≡ map fresh_of plan.devices → pending ≡ replicate (length plan.devices) fresh_pending → timers ≡ replicate (length plan.devices) None
    → own ≡ homes plan → awake ≡ replicate (length plan.devices) true → counting ≡ replicate (length plan.devices) false → IsKept owners devices pending timers own awake above on counting
kept_as_fresh plan owners devices pending timers own awake above on counting same o d q t h a c = rw (o, d, q, t, h, a, c) (fresh_kept plan above on same)

-- and the views are those before any line
pub fresh_views : (plan : Plan) (devices : List Device) (pending : List Pending) (timers : List (Option Armed)) (on held present : List Bool)
    → devices ≡ map fresh_of plan.devices → pending ≡ replicate (length plan.devices) fresh_pending → timers ≡ replicate (length plan.devices) None
    → on ≡ fresh_on plan → held ≡ map (λ row. false) plan.links → present ≡ map (λ row. not row.later) plan.links
    → (let v : Views = record { devices = devices; pending = pending; timers = timers; on = on; held = held; present = present } in v) ≡ start_views plan
fresh_views plan devices pending timers on held present d q t o h p =
    rw (d, q ∙ map_constant fresh_pending plan.devices, t ∙ map_constant None plan.devices, o, h, p) refl
