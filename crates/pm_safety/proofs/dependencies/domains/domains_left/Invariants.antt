use Rattle.std.proofs.Common.{◌≡◌}
use Rattle.std.specs.List.{flat_map, range_with_len}
use Rattle.std.specs.Option.{option_to_list}
use Rattle.pm_safety.specs.dependencies.Domains.{domain_left}
use Rattle.pm_safety.proofs.dependencies.domains.domains_left.Given as goal

-- those so far
abbrev pub invariant-loop-place : goal.invariant-loop-place
invariant-loop-place l = l.all.items ≡ flat_map (λ o. option_to_list (domain_left l.plan l.parts.views o)) (range_with_len 0 l.place)
