-- The power domains of a plan, and which of them are on (this project's own, after the kernel's generic power domains).
use Rattle.std.specs.Prelude.{◌≡◌, ◌<◌, ℕ, Bool, not, ◌&&◌, List, Option, length, map, nat_eq, option_map}
use Rattle.std.specs.List.{enumerate_from}
use Rattle.pm_base.specs.declared.DevId.{DevId}
use Rattle.pm_base.specs.declared.DomId.{DomId}
use Rattle.pm_model.specs.declared.plan.Plan.{Plan}
use Rattle.pm_model.specs.Derived.{is_suspended}
use Rattle.pm_model.specs.PlanRows.{is_kept_on}
use Rattle.pm_model.specs.Views.{Views, device}
use Rattle.pm_index.specs.OwnMarks.{bit_at}

-- for each device its domain and whether it keeps that on, and for each domain the one above it and whether it is on
pub record DomainViews : Type 0 where
  pub homes : List (Option ℕ)
  pub awake : List Bool
  pub above : List (Option ℕ)
  pub on : List Bool

abbrev pub place_of : Option DomId → Option ℕ
place_of o = option_map (λ x. x.0) o

-- the domain of each device, and the one above each domain
abbrev pub homes : Plan → List (Option ℕ)
homes plan = map (λ row. place_of row.domain) plan.devices

abbrev pub above : Plan → List (Option ℕ)
above plan = map (λ row. place_of row.parent) plan.domains

-- these are the domains of this plan
pub record IsMadeFor (plan : Plan) (domains : DomainViews) : Type 0 where
  pub homes_are : domains.homes ≡ homes plan
  pub awake_len : length domains.awake ≡ length plan.devices
  pub above_are : domains.above ≡ above plan
  pub on_len : length domains.on ≡ length plan.domains

-- which are on before any line: those that are always on and all that they stand under
abbrev pub fresh_on : Plan → List Bool
fresh_on plan = map (λ p. is_kept_on plan.domains p.0) (enumerate_from 0 plan.domains)

-- a device that keeps no domain on: it is Suspended and enabled
abbrev pub is_quiet : Views → DevId → Bool
is_quiet v d = is_suspended v d && nat_eq (device v d).depth 0

-- a list says of each device that it has whether it keeps its domain on
abbrev pub IsAwakeOf : List Bool → Views → Type 0
IsAwakeOf awake v = (d : ℕ) → d < length awake → bit_at awake d ≡ not (is_quiet v (record { 0 = d }))
