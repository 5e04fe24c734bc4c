-- Who waits for a device, as the lines tell (this project's own).
use Rattle.std.specs.Option.{option_map_or}
use Rattle.std.specs.Prelude.{ℕ, ◌≡◌, Bool, true, false, ◌||◌, List, [], ◌∷◌, Option, Some, None, ℤ, drop, nat_eq, if◌then◌else◌}
use Rattle.pm_base.specs.declared.ActorId.{ActorId}
use Rattle.pm_base.specs.declared.ActorId.TheVariants.{Caller, Work, Timer}
use Rattle.pm_base.specs.declared.DevId.{DevId}
use Rattle.pm_model.specs.declared.event.Event.{Event}
use Rattle.pm_model.specs.declared.event.Event.TheVariants as event
use Rattle.pm_model.specs.declared.stage.Stage.{Stage}
use Rattle.pm_model.specs.declared.stage.Stage.TheVariants as stage
use Rattle.pm_model.specs.History.{History}
use Rattle.pm_laws.specs.turns.Looks.{looks}

abbrev pub wait_in : Event → Option DevId
wait_in (event.Wait d) = Some d
wait_in _ = None

abbrev pub is_actor : ActorId → ActorId → Bool
is_actor (Caller a) (Caller b) = nat_eq a b
is_actor (Work a) (Work b) = nat_eq a b
is_actor (Timer a) (Timer b) = nat_eq a b
is_actor _ _ = false

-- the device of the actor's last line, if that is a wait line
abbrev pub told_wait : ActorId → History → Option DevId
told_wait actor [] = None
told_wait actor (line ∷ h) = if is_actor actor line.actor then wait_in line.event else told_wait actor h

abbrev pub AreAwaits : List Stage → Type 0
AreAwaits [] = Unit {0}
AreAwaits (stage.Await a ∷ rest) = AreAwaits rest
AreAwaits _ = ⊥

-- the device that the top of a place looks at
abbrev pub top_looks : List Stage → Option DevId
top_looks [] = None
top_looks (s ∷ rest) = looks s

-- the top of a place looks at this device, if it is one, and the stages under it await calls
abbrev pub IsShown : Option DevId → List Stage → Type 0
IsShown o l = (top_looks l ≡ o) × AreAwaits (drop 1 l)

-- a line after which a call ends is no wait line
abbrev pub IsCalm : Option DevId → Option ℤ → Type 0
IsCalm o None = Unit {0}
IsCalm o (Some c) = o ≡ None

-- the actor's last line is a wait line for this device
abbrev pub waits_for : ℕ → History → ActorId → Bool
waits_for d h actor = option_map_or (λ x. nat_eq x.0 d) (told_wait actor h) false

-- the actor is the work item or the timer of this device, or its last line is a wait line for it
abbrev pub touches : ℕ → History → ActorId → Bool
touches d h actor = is_actor actor (Work d) || is_actor actor (Timer d) || waits_for d h actor

abbrev pub touches_any : Option DevId → History → ActorId → Bool
touches_any dev h actor = option_map_or (λ d. touches d.0 h actor) dev false

-- a line of this device may move the actor's moment: where it stirs none, only that of one who waits for the device
abbrev pub reaches : Bool → ℕ → History → ActorId → Bool
reaches true d h actor = touches d h actor
reaches false d h actor = waits_for d h actor

abbrev pub reaches_any : Bool → Option DevId → History → ActorId → Bool
reaches_any stirred dev h actor = option_map_or (λ d. reaches stirred d.0 h actor) dev false
