-- Suppliers have their counts.
use Rattle.std.proofs.Common.{ℕ, ◌≡◌, ◌&&◌, Bool, true, List, count_by, nat_eq, nat_le, sym, subst}
use Rattle.std.specs.List.{enumerate_from, list_all, zip}
use Rattle.pm_base.specs.declared.DevId.{DevId}
use Rattle.pm_model.specs.declared.plan.Plan.{Plan}
use Rattle.pm_model.specs.declared.rows.LinkRow.{LinkRow}
use Rattle.pm_model.specs.declared.views.Device.{Device}
use Rattle.pm_model.specs.CanTake.{can_free}
use Rattle.pm_model.specs.Views.{Views}

abbrev Free : List LinkRow → List Bool → List Device → ℕ → Type 0
Free links held devices d = list_all (λ p. nat_le (count_by (λ q. nat_eq q.0.consumer.0 d && nat_eq q.0.supplier.0 p.0 && q.1) (zip links held)) p.1.usage) (enumerate_from 0 devices) ≡ true

pub free_by : (plan : Plan) (v : Views) (links : List LinkRow) (held : List Bool) (devices : List Device) (d : DevId) → links ≡ plan.links → v.devices ≡ devices → v.held ≡ held
    → list_all (λ p. nat_le (count_by (λ q. nat_eq q.0.consumer.0 d.0 && nat_eq q.0.supplier.0 p.0 && q.1) (zip links held)) p.1.usage) (enumerate_from 0 devices) ≡ true → can_free plan v d ≡ true
free_by plan v links held devices d ls ds hs is =
    subst (λ xs. Free plan.links v.held xs d.0) (sym ds) (subst (λ h. Free plan.links h devices d.0) (sym hs) (subst (λ l. Free l held devices d.0) ls is))
