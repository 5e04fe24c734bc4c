-- The nodes of a plan in one row, which is the order of nodes, and the pairs of them that touch (this project's own).
use Rattle.std.specs.Prelude.{ℕ, ◌+◌, ◌-◌, Bool, Option, Some, None, length, nat_lt, option_and_then, option_map, slice_get, if◌then◌else◌}
use Rattle.std.specs.Option.{option_map_or}
use Rattle.pm_model.specs.declared.plan.Plan.{Plan}
use Rattle.pm_model.specs.Islands.{Node, the_caller, the_device, the_domain}
use Rattle.pm_model.specs.Spelling.{takes_device}
use Rattle.pm_islands.specs.declared.touching.Tie.{Tie}
use Rattle.pm_islands.specs.declared.touching.Tie.TheVariants.{OfCaller, OfDomains, ToDomain, ToParent, ToSupplier}

-- how many nodes a plan has
abbrev pub nodes : Plan → ℕ
nodes plan = length plan.devices + length plan.callers + length plan.domains

-- where a node stands: devices come first, then callers, then domains
abbrev pub place : Plan → Node → ℕ
place plan (the_device d) = d
place plan (the_caller c) = length plan.devices + c
place plan (the_domain o) = length plan.devices + length plan.callers + o

-- whether the plan has this node
abbrev pub has_node : Plan → Node → Bool
has_node plan (the_device d) = nat_lt d (length plan.devices)
has_node plan (the_caller c) = nat_lt c (length plan.callers)
has_node plan (the_domain o) = nat_lt o (length plan.domains)

-- the node that stands there
abbrev pub node_at : Plan → ℕ → Node
node_at plan i =
    if nat_lt i (length plan.devices) then the_device i
    else if nat_lt i (length plan.devices + length plan.callers) then the_caller (i - length plan.devices)
    else the_domain (i - (length plan.devices + length plan.callers))

-- how many rows may tie nodes in this way
abbrev pub rows : Plan → Tie → ℕ
rows plan ToParent = length plan.devices
rows plan ToDomain = length plan.devices
rows plan ToSupplier = length plan.links
rows plan OfDomains = length plan.domains
rows plan (OfCaller c) = option_map_or (λ row. length row.script) (slice_get plan.callers c) 0

-- the nodes that row n ties in this way, if it ties any
abbrev pub tied : Plan → Tie → ℕ → Option (Node × Node)
tied plan ToParent n = option_and_then (λ row. option_map (λ p. (the_device n, the_device p.0)) row.parent) (slice_get plan.devices n)
tied plan ToDomain n = option_and_then (λ row. option_map (λ o. (the_device n, the_domain o.0)) row.domain) (slice_get plan.devices n)
tied plan ToSupplier n =
    option_and_then (λ row. if row.pm_runtime then Some (the_device row.consumer.0, the_device row.supplier.0) else None) (slice_get plan.links n)
tied plan OfDomains n = option_and_then (λ row. option_map (λ p. (the_domain n, the_domain p.0)) row.parent) (slice_get plan.domains n)
tied plan (OfCaller c) n =
    option_and_then (λ row. option_and_then (λ command. if takes_device command.helper then Some (the_caller c, the_device command.dev.0) else None) (slice_get row.script n))
    (slice_get plan.callers c)

-- and where they stand
abbrev pub places : Plan → Option (Node × Node) → Option (ℕ × ℕ)
places plan o = option_map (λ p. (place plan p.0, place plan p.1)) o
