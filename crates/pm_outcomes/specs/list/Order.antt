-- In which order the text tells of outcomes (this project's own).
use Rattle.std.specs.Prelude.{ℕ}
use Rattle.std.specs.declared.cmp.Ordering.{Ordering}
use Rattle.std.specs.declared.cmp.Ordering.TheVariants.{Less, Greater}
use Rattle.std.specs.Ordering.{int_cmp, nat_cmp, ordering_then}
use Rattle.pm_base.specs.declared.Status.{Status}
use Rattle.pm_base.specs.declared.Status.TheVariants.{Active, Suspended, Suspending, Resuming}
use Rattle.pm_outcomes.specs.declared.list.observations.Left.{Left}
use Rattle.pm_outcomes.specs.declared.list.observations.Observation.{Observation}
use Rattle.pm_outcomes.specs.declared.list.observations.Observation.TheVariants.{End, Return}
use Rattle.pm_outcomes.specs.declared.list.observations.Outcome.{Outcome}
use Rattle.pm_outcomes.specs.declared.list.observations.Returned.{Returned}

abbrev pub status_rank : Status → ℕ
status_rank Active = 0
status_rank Suspended = 1
status_rank Suspending = 2
status_rank Resuming = 3

-- returns by their callers and commands, then by their rounds, then by their codes
abbrev pub by_return : Returned → ℕ → Returned → ℕ → Ordering
by_return a k b l = ordering_then (nat_cmp a.caller b.caller) (ordering_then (nat_cmp a.command b.command) (ordering_then (nat_cmp k l) (int_cmp a.code b.code)))

-- ends by their devices, then by their rounds, then by status, usage and error
abbrev pub by_end : Left → ℕ → Left → ℕ → Ordering
by_end a k b l =
    ordering_then (nat_cmp a.device.0 b.device.0) (ordering_then (nat_cmp k l)
    (ordering_then (nat_cmp (status_rank a.status) (status_rank b.status)) (ordering_then (nat_cmp a.usage b.usage) (int_cmp a.error b.error))))

-- returns before ends
abbrev pub by_observation : Observation → ℕ → Observation → ℕ → Ordering
by_observation (Return a) k (Return b) l = by_return a k b l
by_observation (Return a) k (End b) l = Less
by_observation (End a) k (Return b) l = Greater
by_observation (End a) k (End b) l = by_end a k b l

abbrev pub by_text : Outcome → Outcome → Ordering
by_text a b = by_observation a.observation a.round b.observation b.round
