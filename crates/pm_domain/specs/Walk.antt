-- A walk from a domain up to its ancestors. While nothing is switched, the domain from which the walk came counts as off
-- (this project's own).
use Rattle.std.specs.Prelude.{ℕ, ◌+◌, Bool, not, ◌&&◌, List, [], ◌∷◌, Option, None, Some, fold, length, nat_eq, slice_set, if◌then◌else◌}
use Rattle.std.specs.List.{filter, list_any}
use Rattle.pm_base.specs.declared.DevId.{DevId}
use Rattle.pm_base.specs.declared.DomId.{DomId}
use Rattle.pm_model.specs.declared.plan.Plan.{Plan}
use Rattle.pm_model.specs.declared.rows.DomainRow.{DomainRow}
use Rattle.pm_model.specs.PlanRows.{chain, is_always_on}
use Rattle.pm_index.specs.OwnMarks.{bit_at, marked_of, unmarked}
use Rattle.pm_domain.specs.Domains.{DomainViews}

-- one more than the domain, and 0 for none
abbrev pub rank : Option DomId → ℕ
rank None = 0
rank (Some o) = o.0 + 1

-- these domains are switched
abbrev pub switched : Bool → List Bool → List ℕ → List Bool
switched to on domains = fold (λ bits o. slice_set bits o to) on domains

-- those of them that are off
abbrev pub those_off : List Bool → List ℕ → List ℕ
those_off on domains = filter (λ o. not (bit_at on o)) domains

-- no device of the domain but this one keeps it on
abbrev pub are_quiet_but : DomainViews → DevId → ℕ → Bool
are_quiet_but domains d o = nat_eq (marked_of domains.homes (unmarked (Some d.0) domains.awake) o) 0

-- no domain right under it is on, but for the one from which the walk came
abbrev pub are_off_but : DomainViews → Option ℕ → ℕ → Bool
are_off_but domains from o = nat_eq (marked_of domains.above (unmarked from domains.on) o) 0

-- whether a domain goes off beside the device
abbrev pub goes_off_from : Plan → DomainViews → DevId → Option ℕ → ℕ → Bool
goes_off_from plan domains d from o = bit_at domains.on o && not (is_always_on plan o) && are_quiet_but domains d o && are_off_but domains from o

-- those of a chain of domains that go off in turn, until the first that doesn't
abbrev pub going_off_from : Plan → DomainViews → DevId → Option ℕ → List ℕ → List ℕ
going_off_from plan domains d from [] = []
going_off_from plan domains d from (o ∷ above) = if goes_off_from plan domains d from o then o ∷ going_off_from plan domains d (Some o) above else []

-- whether a domain, by its place and its row, keeps domain i on: it is always on, and i is it or one of its ancestors
abbrev pub keeps_on : List DomainRow → ℕ → ℕ × DomainRow → Bool
keeps_on rows i p = p.1.always_on && list_any (nat_eq i) (chain rows (length rows) (Some (record { 0 = p.0 })))
