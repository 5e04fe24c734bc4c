-- What is promised of every lawful list of lines, in words that name no stage (exclusive: runtime_pm.rst, section 2;
-- safe: sections 2 and 4, and device_link.rst; kept and the rest are this project's own). Each is a test, so that it
-- can be computed, but for "never stuck".
use Rattle.std.specs.Prelude.{◌<◌, ◌⊎◌, Bool, true, false, not, ◌&&◌, ◌||◌, List, [], ◌∷◌, pos, length, map, nat_eq, if◌then◌else◌}
use Rattle.std.specs.List.{enumerate_from, filter, list_all}
use Rattle.std.specs.Option.{option_map_or}
use Rattle.std.specs.Ordering.{int_eq}
use Rattle.pm_base.specs.declared.ActorId.{ActorId}
use Rattle.pm_base.specs.declared.ActorId.TheVariants.{Caller, Work, Timer}
use Rattle.pm_base.specs.declared.Cb.TheVariants as cb
use Rattle.pm_base.specs.declared.DevId.{DevId}
use Rattle.pm_base.specs.declared.Req.{Req}
use Rattle.pm_base.specs.declared.Req.TheVariants as req
use Rattle.pm_model.specs.declared.event.Event.{Event}
use Rattle.pm_model.specs.declared.event.Event.TheVariants as event
use Rattle.pm_model.specs.declared.event.Helper.TheVariants as helper
use Rattle.pm_model.specs.declared.event.Line.{Line}
use Rattle.pm_model.specs.declared.event.Word.TheVariants as word
use Rattle.pm_model.specs.declared.plan.Plan.{Plan}
use Rattle.pm_model.specs.PlanRows.{domains_of, has_domain, parent}
use Rattle.pm_model.specs.Views.{Views, device, pending_of, is_on, is_present}
use Rattle.pm_model.specs.Derived.{is_active, is_suspended, is_resuming, is_resume_request, is_disabled, children, is_link_of}
use Rattle.pm_model.specs.History.{History, at_each_line, last_said, lasts, throughout}
use Rattle.pm_model.specs.World.{world}
use Rattle.pm_model.specs.Lawful.{IsFinished, Permits}
use Rattle.pm_model.specs.Excuse.{forces, is_excused_from_domain, is_excused_from_parent, is_excused_from_supplier, is_live}
use Rattle.pm_model.specs.Counted.{is_callers, is_forced, is_same, only_if, runs, takes}

abbrev pub each_device : (DevId → Bool) → Plan → Bool
each_device test plan = list_all (λ p. test (record { 0 = p.0 })) (enumerate_from 0 plan.devices)

abbrev pub implies : Bool → Bool → Bool
implies a b = not a || b

-- a bond of a device: whether it holds, and whether the device is excused from it
pub record BondState : Type 0 where
  pub holds : Bool
  pub is_excused : Bool

-- with its domain: this and those above it are on
abbrev pub domain_bonds : Plan → History → DevId → List BondState
domain_bonds plan h d =
    if has_domain plan d
    then record { holds = list_all (is_on (world plan h).views) (domains_of plan d); is_excused = is_excused_from_domain plan h d } ∷ []
    else []

-- with its parent: this is Active
abbrev pub parent_bonds : Plan → History → DevId → List BondState
parent_bonds plan h d =
    option_map_or (λ p. record { holds = is_active (world plan h).views p; is_excused = is_excused_from_parent plan h d p } ∷ []) (parent plan d) []

-- with the supplier of each of its links that has pm_runtime and is present: this is Active
abbrev pub supplier_bonds : Plan → History → DevId → List BondState
supplier_bonds plan h d =
    map (λ p. record { holds = is_active (world plan h).views p.1.supplier; is_excused = is_excused_from_supplier plan h d p.0 p.1.supplier })
    (filter (λ p. is_link_of d p.1 (is_present (world plan h).views p.0)) (enumerate_from 0 plan.links))

abbrev pub all_hold : List BondState → Bool
all_hold bonds = list_all (λ b. b.holds) bonds

-- the device is excused from each that doesn't hold
abbrev pub are_excused : List BondState → Bool
are_excused bonds = list_all (λ b. b.holds || b.is_excused) bonds

-- safe: after every prefix the bonds of each live device hold, or it is excused
abbrev pub is_safe : Plan → History → Bool
is_safe plan h =
    throughout (λ g. each_device (λ d. implies (is_live plan g d)
    (are_excused (domain_bonds plan g d) && are_excused (parent_bonds plan g d) && are_excused (supplier_bonds plan g d))) plan) h

abbrev pub is_at_most_idle : Req → Bool
is_at_most_idle req.Nothing = true
is_at_most_idle req.Idle = true
is_at_most_idle _ = false

-- nothing keeps d from an idle or a suspend callback: it is Active, its usage is 0, no child counts, and no resume is asked
abbrev pub is_unused : Plan → Views → DevId → Bool
is_unused plan v d =
    is_active v d && nat_eq (device v d).usage 0 && (nat_eq (children plan v d) 0 || (device v d).ignores)
    && not (is_resume_request (pending_of v d).request)

-- what is true where a callback of d begins, and where d begins to resume
abbrev pub may_begin : Plan → History → Event → Bool
may_begin plan h (event.Begin d cb.Idle) =
    is_unused plan (world plan h).views d && is_at_most_idle (pending_of (world plan h).views d).request
    && not (runs cb.Idle d h || runs cb.Suspend d h || runs cb.Resume d h)
may_begin plan h (event.Begin d cb.Suspend) = is_unused plan (world plan h).views d && not (runs cb.Suspend d h || runs cb.Resume d h)
may_begin plan h (event.Begin d cb.Resume) = is_resuming (world plan h).views d && not (runs cb.Suspend d h || runs cb.Resume d h)
may_begin plan h (event.State d word.Resuming) = is_suspended (world plan h).views d
may_begin plan h _ = true

-- exclusive: each callback begins only then
abbrev pub is_exclusive : Plan → History → Bool
is_exclusive plan h = at_each_line (λ g line. may_begin plan g line.event) h

abbrev pub is_actor : ActorId → ActorId → Bool
is_actor (Caller a) (Caller b) = nat_eq a b
is_actor (Work a) (Work b) = nat_eq a b
is_actor (Timer a) (Timer b) = nat_eq a b
is_actor _ _ = false

-- a get_sync of d returned 0 or 1
abbrev pub got_well : DevId → Event → Bool
got_well d (event.Ret helper.GetSync e c) = is_same d e && (int_eq c (pos 0) || int_eq c (pos 1))
got_well d _ = false

-- after this line the callers have given back all their counts on d, or it forces the status of d
abbrev pub lets_go : Plan → DevId → History → Line → Bool
lets_go plan d h line = nat_eq (device (world plan (line ∷ h)).views d).share 0 || forces d line.event

-- this actor took a count on d, and no line has let go of d since
abbrev pub holds_count : Plan → DevId → ActorId → History → Bool
holds_count plan d actor h = lasts (λ g line. is_actor actor line.actor && takes is_callers d line.event) (lets_go plan d) h

-- a get_sync of d returned 0 or 1, and no line has let go of d since its count was taken
abbrev pub binds : Plan → DevId → History → Bool
binds plan d h = lasts (λ g line. got_well d line.event && holds_count plan d line.actor g) (lets_go plan d) h

-- kept: after every prefix each device that a get_sync binds is Active
abbrev pub is_kept : Plan → History → Bool
is_kept plan h = throughout (λ g. each_device (λ d. implies (binds plan d g) (is_active (world plan g).views d)) plan) h

-- never stuck: a list that isn't finished and has room is followed by some line
abbrev pub IsNeverStuck : Plan → History → Type 0
IsNeverStuck plan h = length h < plan.lines → IsFinished plan h ⊎ ((line : Line) × Permits plan h line)

-- a callback that fails, a call of disable and a forced status
abbrev pub disturbs : Event → Bool
disturbs (event.End d cb.Suspend c) = not (int_eq c (pos 0))
disturbs (event.End d cb.Resume c) = not (int_eq c (pos 0))
disturbs (event.Call c) = elim c.helper [ helper.Disable ↦ true | _ ↦ false ]
disturbs (event.State d w) = is_forced w
disturbs _ = false

abbrev pub calls_get_sync : DevId → Event → Bool
calls_get_sync d (event.Call c) = elim c.helper [ helper.GetSync ↦ is_same d c.dev | _ ↦ false ]
calls_get_sync d _ = false

-- d was enabled where this actor last called get_sync of it
abbrev pub was_enabled : Plan → DevId → ActorId → History → Bool
was_enabled plan d actor h =
    last_said (λ g line. only_if (is_actor actor line.actor && calls_get_sync d line.event) (not (is_disabled (world plan g).views d))) false h

-- where an event of this actor is the return of a get_sync of a device that was enabled, its code is 0 or 1
abbrev pub returns_well : Plan → History → ActorId → Event → Bool
returns_well plan h actor (event.Ret helper.GetSync d c) = implies (was_enabled plan d actor h) (int_eq c (pos 0) || int_eq c (pos 1))
returns_well plan h actor _ = true

-- gets succeed: where nothing disturbs, each get_sync of a device that was enabled at its call returns 0 or 1
abbrev pub gets_succeed : Plan → History → Bool
gets_succeed plan h =
    implies (list_all (λ line. not (disturbs line.event)) h) (at_each_line (λ g line. returns_well plan g line.actor line.event) h)
