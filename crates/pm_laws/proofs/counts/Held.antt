-- The counts that held links took are among the usage of the suppliers.
use Rattle.std.proofs.Common.{ℕ, ◌≡◌, ◌≤◌, ◌<◌, Bool, true, false, ◌&&◌, List, [], ◌∷◌, length, nat_eq, nat_lt, refl, arith}
use Rattle.std.specs.List.{list_all}
use Rattle.std.proofs.lemmas.Bool.{eqb-true, ltb-true, ltb-false}
use Rattle.pm_base.specs.declared.DevId.{DevId}
use Rattle.pm_model.specs.declared.event.Line.{Line}
use Rattle.pm_model.specs.declared.plan.Plan.{Plan}
use Rattle.pm_model.specs.declared.rows.DeviceRow.{DeviceRow}
use Rattle.pm_model.specs.declared.rows.LinkRow.{LinkRow}
use Rattle.pm_model.specs.Events.{held_from}
use Rattle.pm_model.specs.IsPlan.{is_link}
use Rattle.pm_model.specs.Lawful.{IsLawful}
use Rattle.pm_model.specs.Views.{device}
use Rattle.pm_model.specs.World.{world}
use Rattle.pm_laws.specs.counts.Sums.{one}
use Rattle.pm_laws.proofs.counts.Links.{both, lawful_links, lent_cons, lent_loosed, lent_of}
use Rattle.pm_laws.proofs.counts.Runs.{lawful_holds}

-- a link's supplier is a device
supplier_within : (devices : List DeviceRow) (row : LinkRow) → is_link devices row ≡ true → row.supplier.0 < length devices
supplier_within devices row is =
    let places = both _ _ (both _ _ is).0 in
    let consumer : row.consumer.0 < length devices = ltb-true row.consumer.0 (length devices) places.0 in
    let supplier : row.supplier.0 < row.consumer.0 = ltb-true row.supplier.0 row.consumer.0 places.1 in
    omega arith

-- so no link is held to a place beyond the devices
lends_none : (devices : List DeviceRow) (s : DevId) → length devices ≤ s.0 → (links : List LinkRow) (held : List Bool)
    → list_all (is_link devices) links ≡ true → lent_of links held s ≡ 0
lends_none devices s beyond [] held all = refl
lends_none devices s beyond (row ∷ links) [] all = refl
lends_none devices s beyond (row ∷ links) (h ∷ held) all =
    let a = both (is_link devices row) (list_all (is_link devices) links) all in
    let here = other (nat_eq row.supplier.0 s.0) refl (supplier_within devices row a.0) in
    omega (arith, lent_cons row links h held s, lends_none devices s beyond links held a.1)
  where
    other : (b : Bool) → nat_eq row.supplier.0 s.0 ≡ b → row.supplier.0 < length devices → one (b && h) ≡ 0
    other false e within = refl
    other true e within = let same : row.supplier.0 ≡ s.0 = eqb-true row.supplier.0 s.0 e in absurd (omega arith)

-- the held links of a consumer to a supplier are no more than the supplier's usage
pub held_taken : (plan : Plan) (h : List Line) (d : DevId) (s : ℕ) → IsLawful plan h
    → held_from plan (world plan h).views.held d s ≤ (device (world plan h).views (record { 0 = s })).usage
held_taken plan h d s lawful = go (nat_lt s (length plan.devices)) refl
  where
    fewer : held_from plan (world plan h).views.held d s ≤ lent_of plan.links (world plan h).views.held (record { 0 = s })
    fewer = omega (arith, lent_loosed d (record { 0 = s }) plan.links (world plan h).views.held)

    go : (b : Bool) → nat_lt s (length plan.devices) ≡ b
        → held_from plan (world plan h).views.held d s ≤ (device (world plan h).views (record { 0 = s })).usage
    go true e =
        let all = lawful_holds plan h lawful in
        let adds = all.counts (record { 0 = s }) (ltb-true s (length plan.devices) e) in
        omega (arith, fewer)
    go false e =
        let none = lends_none plan.devices (record { 0 = s }) (ltb-false s (length plan.devices) e) plan.links (world plan h).views.held (lawful_links plan) in
        omega (arith, fewer)
