-- The order in which one thread runs a plan (this project's own).
use Rattle.std.specs.Prelude.{ℕ, zero, suc, ◌+◌, Bool, true, false, List, [], ◌∷◌, ◌++◌, Option, Some, None, map, find, reverse, length, drop, take, min, option_map}
use Rattle.std.specs.List.{enumerate_from, filter_map}
use Rattle.std.specs.Option.{option_and_then, option_map_or}
use Rattle.pm_base.specs.declared.ActorId.{ActorId}
use Rattle.pm_base.specs.declared.ActorId.TheVariants.{Caller, Work, Timer}
use Rattle.pm_model.specs.declared.event.Line.{Line}
use Rattle.pm_model.specs.declared.plan.Plan.{Plan}
use Rattle.pm_model.specs.declared.stage.Move.{Move}
use Rattle.pm_model.specs.declared.stage.Move.TheVariants.{Write, Late, Wait}
use Rattle.pm_model.specs.History.{History}
use Rattle.pm_model.specs.World.{World, move, stage_at, world}
use Rattle.pm_model.specs.Lawful.{last_time}

-- what an actor may do at t
abbrev pub move_at : Plan → World → ℕ → ActorId → Option Move
move_at plan w t actor = option_and_then (λ s. move plan w.views s t) (stage_at plan w actor)

abbrev pub writes_line : Move → Bool
writes_line (Write e change next) = true
writes_line (Late at) = false
writes_line (Wait d) = false

abbrev pub may_write : Plan → World → ℕ → ActorId → Bool
may_write plan w t actor = option_map_or writes_line (move_at plan w t actor) false

abbrev pub late_moment : Move → Option ℕ
late_moment (Write e change next) = None
late_moment (Late at) = Some at
late_moment (Wait d) = None

-- the callers and then the work items, each in plan order; and the timers
abbrev pub callers_and_works : Plan → List ActorId
callers_and_works plan = map (λ p. Caller p.0) (enumerate_from 0 plan.callers) ++ map (λ p. Work p.0) (enumerate_from 0 plan.devices)

abbrev pub timer_actors : Plan → List ActorId
timer_actors plan = map (λ p. Timer p.0) (enumerate_from 0 plan.devices)

-- how many of callers and work items come before the search begins: it begins after the writer of the last line, and
-- at the first caller where there is none or where it is a timer
abbrev pub seat : Plan → History → ℕ
seat plan [] = 0
seat plan (line ∷ h) = elim line.actor [ Caller c ↦ c + 1 | Work d ↦ length plan.callers + d + 1 | Timer d ↦ 0 ]

-- callers and work items once round from that seat, and then the timers
abbrev pub round : Plan → History → List ActorId
round plan h = drop (seat plan h) (callers_and_works plan) ++ take (seat plan h) (callers_and_works plan) ++ timer_actors plan

-- who writes the next line at t: the first of the round that may
abbrev pub turn_at : Plan → History → ℕ → Option ActorId
turn_at plan h t = find (may_write plan (world plan h) t) (round plan h)

abbrev pub least : List ℕ → Option ℕ
least [] = None
least (x ∷ xs) = Some (option_map_or (min x) (least xs) x)

-- the least moment that a line only awaits
abbrev pub least_due : Plan → History → Option ℕ
least_due plan h =
    least (filter_map (λ actor. option_and_then late_moment (move_at plan (world plan h) (last_time h) actor)) (round plan h))

abbrev pub or_later : Plan → History → Option ActorId → Option (ActorId × ℕ)
or_later plan h (Some actor) = Some (actor, last_time h)
or_later plan h None = option_and_then (λ later. option_map (λ actor. (actor, later)) (turn_at plan h later)) (least_due plan h)

-- who writes the next line and when: at the last line's time where some line may be written then, else at the least
-- moment that a line awaits
abbrev pub next_turn : Plan → History → Option (ActorId × ℕ)
next_turn plan h = or_later plan h (turn_at plan h (last_time h))

-- the line that an actor writes at t
abbrev pub written : ActorId → ℕ → Move → Option Line
written actor t (Write e change next) = Some (record { time = t; actor = actor; event = e })
written actor t (Late at) = None
written actor t (Wait d) = None

abbrev pub next_line : Plan → History → Option Line
next_line plan h = option_and_then (λ turn. option_and_then (written turn.0 turn.1) (move_at plan (world plan h) turn.1 turn.0)) (next_turn plan h)

-- n more lines, or fewer where the run finishes
abbrev pub goes_on : Plan → ℕ → History → History
goes_on plan zero h = h
goes_on plan (suc n) h = option_map_or (λ line. goes_on plan n (line ∷ h)) (next_line plan h) h

-- the lines that one thread writes, in order
abbrev pub serial : Plan → List Line
serial plan = reverse (goes_on plan plan.lines [])
