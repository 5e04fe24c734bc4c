-- In which phases of its transition a device needs its links, its domain, its parent and its suppliers (device_link.rst
-- for links; the rest is this project's own).
use Rattle.std.specs.Prelude.{◌≡◌, ◌<◌, ◌⊎◌, Bool, true, false}
use Rattle.pm_base.specs.declared.DevId.{DevId}
use Rattle.pm_model.specs.Derived.{is_active}
use Rattle.pm_model.specs.World.{World}
use Rattle.pm_laws.specs.counts.Sums.{tally}
use Rattle.pm_laws.specs.counts.Owners.{places}
use Rattle.pm_laws.specs.safe.Parts.{Phase, suspending, lowering, preparing, refused, ready, resuming, resumed, failed, falling, setting, unsetting, at_part}

-- S2, R4, R4b, R4c
abbrev pub needs_links : Phase → Bool
needs_links suspending = true
needs_links ready = true
needs_links resuming = true
needs_links resumed = true
needs_links _ = false

-- S2, S3, R4, R4b, R4c, R8
abbrev pub needs_domain : Phase → Bool
needs_domain suspending = true
needs_domain lowering = true
needs_domain ready = true
needs_domain resuming = true
needs_domain resumed = true
needs_domain failed = true
needs_domain _ = false

-- S2, R2, R3, R4, R4b, R4c
abbrev pub needs_parent : Phase → Bool
needs_parent suspending = true
needs_parent preparing = true
needs_parent refused = true
needs_parent ready = true
needs_parent resuming = true
needs_parent resumed = true
needs_parent _ = false

-- S2, R2, R3 unless a supplier failed, R4, R4b, R4c, A2
abbrev pub needs_supplier : Phase → Bool
needs_supplier suspending = true
needs_supplier preparing = true
needs_supplier ready = true
needs_supplier resuming = true
needs_supplier resumed = true
needs_supplier setting = true
needs_supplier _ = false

-- R3 where a supplier failed, R9, A4: what was taken for d is given back
abbrev pub gives_way : Phase → Bool
gives_way refused = true
gives_way falling = true
gives_way unsetting = true
gives_way _ = false

-- d is Active, or its owner stands at a stage of such a phase
abbrev pub Needs : World → (Phase → Bool) → DevId → Type 0
Needs w test d = (is_active w.views d ≡ true) ⊎ (0 < tally (at_part test d) (places w))
