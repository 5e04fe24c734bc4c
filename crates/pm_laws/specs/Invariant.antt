-- What holds after every lawful list of lines, in one place: `invariant_holds` proves it. Lists have the newest line first.
-- Laws on one more line, on two runs or on the parts of a plan stand beside it, in the folders of this crate.
use Rattle.std.specs.Prelude.{◌≡◌, ◌+◌, ◌<◌, ◌≤◌, ℕ, Bool, Some, true, false, length, slice_get}
use Rattle.std.specs.List.{All, list_all}
use Rattle.pm_base.specs.declared.ActorId.{ActorId}
use Rattle.pm_base.specs.declared.Armed.{Armed}
use Rattle.pm_base.specs.declared.Cb.{Cb}
use Rattle.pm_base.specs.declared.DevId.{DevId}
use Rattle.pm_base.specs.declared.DomId.{DomId}
use Rattle.pm_linetext.specs.ShortLine.{is_short_line}
use Rattle.pm_model.specs.declared.plan.Plan.{Plan}
use Rattle.pm_model.specs.declared.rows.LinkRow.{LinkRow}
use Rattle.pm_model.specs.CanTake.{has_room}
use Rattle.pm_model.specs.Counted.{error_of, freed, gets, is_allowed, is_callers, is_held_pair, is_switched_on, puts, runs, share, status_of, usage}
use Rattle.pm_model.specs.Derived.{begun, is_moving, is_suspended}
use Rattle.pm_model.specs.Events.{held_from}
use Rattle.pm_model.specs.History.{History}
use Rattle.pm_model.specs.Lawful.{last_time}
use Rattle.pm_model.specs.PlanRows.{domain_parent, no_callbacks, parent}
use Rattle.pm_model.specs.Promises.{IsNeverStuck, gets_succeed, is_exclusive, is_kept, is_safe}
use Rattle.pm_model.specs.Views.{device, is_held, is_on, timer}
use Rattle.pm_model.specs.World.{called_by, place, world}
use Rattle.pm_laws.specs.bounds.Rooms.{HasRooms, begin_lines}
use Rattle.pm_laws.specs.counts.Counts.{AddsUp}
use Rattle.pm_laws.specs.counts.Owners.{HasOneOwner}
use Rattle.pm_laws.specs.counts.Sizes.{HasEntries, HasPlaces}
use Rattle.pm_laws.specs.gets.Alone.{IsAlone}
use Rattle.pm_laws.specs.safe.Bonds.{DomainStays, ParentStays, is_taken}
use Rattle.pm_laws.specs.safe.Supplied.{Supplied}
use Rattle.pm_laws.specs.stacks.Depth.{AreShallow}
use Rattle.pm_laws.specs.stacks.Fit.{HasDelays, IsFit}
use Rattle.pm_laws.specs.stacks.Shape.{AreNested}
use Rattle.pm_laws.specs.turns.Idles.{HasOneIdle}

pub record Invariant (plan : Plan) (h : History) : Type 0 where
  -- the views have an entry for each row of the plan, and each actor has a place
  pub entries : HasEntries plan (world plan h).views
  pub places : HasPlaces plan (world plan h)
  -- a device's status, error, setting of `auto` and idle callback, a link's hold and a domain's switch are what the last line
  -- that says anything of them says
  pub status : (d : DevId) → d.0 < length plan.devices → (device (world plan h).views d).status ≡ status_of h d
  pub error : (d : DevId) → d.0 < length plan.devices → (device (world plan h).views d).error ≡ error_of h d
  pub allowed : (d : DevId) → d.0 < length plan.devices → (device (world plan h).views d).auto_on ≡ is_allowed h d
  pub idle : (d : DevId) → d.0 < length plan.devices → (device (world plan h).views d).idle_running ≡ runs Cb.Idle d h
  pub held : (l : ℕ) (row : LinkRow) → slice_get plan.links l ≡ Some row → is_held (world plan h).views l ≡ is_held_pair h row.consumer row.supplier
  pub domains : (o : ℕ) → o < length plan.domains → is_on (world plan h).views o ≡ is_switched_on plan h o
  -- a count is the lines that raised it less those that lowered it, and the sum of what the open stages hold
  pub usage : (d : DevId) → d.0 < length plan.devices → (device (world plan h).views d).usage ≡ usage plan h d
  pub usage_taken : (d : DevId) → d.0 < length plan.devices → (device (world plan h).views d).usage + (puts (λ w. true) h d + freed plan h d) ≡ gets (λ w. true) h d
  pub share : (d : DevId) → d.0 < length plan.devices → (device (world plan h).views d).share ≡ share h d
  pub share_taken : (d : DevId) → d.0 < length plan.devices → (device (world plan h).views d).share + puts is_callers h d ≡ gets is_callers h d
  pub begins : (k : Cb) (d : DevId) → d.0 < length plan.devices → begun (world plan h).views k d ≡ begin_lines k h d
  pub sums : AddsUp plan (world plan h)
  pub links_counted : (d : DevId) (s : ℕ) → held_from plan (world plan h).views.held d s ≤ (device (world plan h).views (record { 0 = s })).usage
  -- who carries out a device's transition, and its idle callback
  pub owners : HasOneOwner plan (world plan h)
  pub idles : HasOneIdle plan (world plan h)
  pub quiet : (d : DevId) → no_callbacks plan d ≡ true → is_moving (world plan h).views d ≡ false
  -- the open stages: of the plan, one above another as calls nest, no deeper than the plan's chains
  pub fit : (a : ActorId) → All (IsFit plan (world plan h).views (last_time h)) (place (world plan h) a)
  pub nested : AreNested plan (world plan h)
  pub shallow : AreShallow plan (world plan h)
  -- what is bounded: lines and their texts, calls and counts (in 32 bits, with room for one more), delays, timers
  pub lines : length h ≤ 200000
  pub short : list_all is_short_line h ≡ true
  pub calls : (c : ℕ) → has_room (called_by (world plan h) c) ≡ true
  pub rooms : (d : DevId) → HasRooms (world plan h).views d
  pub delays : HasDelays (world plan h).views
  pub timers : (d : DevId) (armed : Armed) → timer (world plan h).views d ≡ Some armed → armed.deadline ≤ last_time h + 1000000
  pub busy : (d : DevId) → (device (world plan h).views d).last_busy ≤ last_time h
  -- the bonds of devices: with their links, their domains, their parents and their suppliers
  pub held_taken : (l : ℕ) (row : LinkRow) → slice_get plan.links l ≡ Some row → is_held (world plan h).views l ≡ true → is_taken (world plan h).views l row ≡ true
  pub held_none : (l : ℕ) (row : LinkRow) → slice_get plan.links l ≡ Some row → is_suspended (world plan h).views row.consumer ≡ true → is_held (world plan h).views l ≡ false
  pub domains_nest : (o p : DomId) → domain_parent plan.domains o ≡ Some p → is_on (world plan h).views o.0 ≡ true → is_on (world plan h).views p.0 ≡ true
  pub domain_stays : (d : DevId) → DomainStays plan h d
  pub parent_stays : (d p : DevId) → parent plan d ≡ Some p → ParentStays plan h d p
  pub supplier_stays : (l : ℕ) (row : LinkRow) → slice_get plan.links l ≡ Some row → Supplied plan h l row.consumer row.supplier
  -- the promises of a run
  pub exclusive : is_exclusive plan h ≡ true
  pub safe : is_safe plan h ≡ true
  pub kept : is_kept plan h ≡ true
  pub succeed : gets_succeed plan h ≡ true
  pub alone : IsAlone plan h
  pub never_stuck : IsNeverStuck plan h
