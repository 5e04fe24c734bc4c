-- A region of a plan, and when two views agree on it.
use Rattle.std.proofs.Common.{ℕ, suc, ◌≡◌, Bool, true, false, List, [], ◌∷◌, Option, Some, None, slice_get}
use Rattle.pm_base.specs.declared.ActorId.{ActorId}
use Rattle.pm_base.specs.declared.ActorId.TheVariants.{Caller, Work, Timer}
use Rattle.pm_base.specs.declared.DevId.{DevId}
use Rattle.pm_base.specs.declared.DomId.{DomId}
use Rattle.pm_base.specs.declared.Why.{Why}
use Rattle.pm_base.specs.declared.Why.TheVariants as why
use Rattle.pm_model.specs.declared.event.Event.{Event}
use Rattle.pm_model.specs.declared.event.Event.TheVariants as event
use Rattle.pm_model.specs.declared.event.Command.{Command}
use Rattle.pm_model.specs.declared.plan.Plan.{Plan}
use Rattle.pm_model.specs.declared.stage.Change.{Change}
use Rattle.pm_model.specs.declared.stage.Change.TheVariants as change
use Rattle.pm_model.specs.declared.stage.Stage.{Stage}
use Rattle.pm_model.specs.PlanRows.{is_of_pair}
use Rattle.pm_model.specs.Row.{Row, writes, waits}
use Rattle.pm_model.specs.Spelling.{takes_device}
use Rattle.pm_model.specs.declared.rows.CallerRow.{CallerRow}
use Rattle.pm_model.specs.declared.rows.DeviceRow.{DeviceRow}
use Rattle.pm_model.specs.declared.rows.DomainRow.{DomainRow}
use Rattle.pm_model.specs.declared.rows.LinkRow.{LinkRow}
use Rattle.pm_model.specs.Views.{Views}
use Rattle.pm_model.specs.WellFormed.{device_of}
use Rattle.pm_model.specs.World.{World, place}

-- as long as one another, and equal at each place inside
abbrev pub Alike : {A : Type 0} → (ℕ → Bool) → List A → List A → Type 0
Alike inside [] [] = Unit {0}
Alike inside [] (y ∷ ys) = ⊥
Alike inside (x ∷ xs) [] = ⊥
Alike inside (x ∷ xs) (y ∷ ys) = (inside 0 ≡ true → x ≡ y) × Alike (λ n. inside (suc n)) xs ys

-- for these rows as long as one another, and equal at each that passes the test
abbrev pub AlikeBy : {R A : Type 0} → (R → Bool) → List R → List A → List A → Type 0
AlikeBy test [] xs ys = Unit {0}
AlikeBy test (row ∷ rows) [] [] = Unit {0}
AlikeBy test (row ∷ rows) [] (y ∷ ys) = ⊥
AlikeBy test (row ∷ rows) (x ∷ xs) [] = ⊥
AlikeBy test (row ∷ rows) (x ∷ xs) (y ∷ ys) = (test row ≡ true → x ≡ y) × AlikeBy test rows xs ys

-- devices and domains that touch no others
pub record Region (plan : Plan) : Type 0 where
  pub inside : ℕ → Bool
  pub domains : ℕ → Bool
  pub parents : (i : ℕ) (row : DeviceRow) (p : DevId) → slice_get plan.devices i ≡ Some row → row.parent ≡ Some p → inside i ≡ inside p.0
  pub attached : (i : ℕ) (row : DeviceRow) (o : DomId) → slice_get plan.devices i ≡ Some row → row.domain ≡ Some o → inside i ≡ domains o.0
  pub above : (i : ℕ) (row : DomainRow) (o : DomId) → slice_get plan.domains i ≡ Some row → row.parent ≡ Some o → domains i ≡ domains o.0
  pub linked : (l : ℕ) (row : LinkRow) → slice_get plan.links l ≡ Some row → row.pm_runtime ≡ true → inside row.consumer.0 ≡ inside row.supplier.0

abbrev pub is_own_link : {plan : Plan} → Region plan → LinkRow → Bool
is_own_link k row = k.inside row.consumer.0

-- the views agree on the region
pub record Agree (plan : Plan) (k : Region plan) (v w : Views) : Type 0 where
  pub devices : Alike k.inside v.devices w.devices
  pub pending : Alike k.inside v.pending w.pending
  pub timers : Alike k.inside v.timers w.timers
  pub on : Alike k.domains v.on w.on
  pub held : AlikeBy (is_own_link k) plan.links v.held w.held
  pub present : AlikeBy (is_own_link k) plan.links v.present w.present

-- nothing lies in both regions
pub record Apart (plan : Plan) (k l : Region plan) : Type 0 where
  pub devices : (i : ℕ) → k.inside i ≡ true → l.inside i ≡ false
  pub domains : (i : ℕ) → k.domains i ≡ true → l.domains i ≡ false

-- each held link of these is a runtime link
abbrev pub AreBound : (LinkRow → Bool) → List LinkRow → List Bool → Type 0
AreBound test [] hs = Unit {0}
AreBound test (row ∷ rows) [] = Unit {0}
AreBound test (row ∷ rows) (h ∷ hs) = (test row ≡ true → h ≡ true → row.pm_runtime ≡ true) × AreBound test rows hs

-- a change that keeps views that agree on its region, does nothing elsewhere, and holds and frees no link
pub record IsLocal (plan : Plan) (k : Region plan) (c : Views → Views) : Type 0 where
  pub keeps : (v w : Views) → Agree plan k v w → Agree plan k (c v) (c w)
  pub spares : (l : Region plan) (v : Views) → Apart plan k l → Agree plan l v (c v)
  pub same_held : (v : Views) → (c v).held ≡ v.held

-- an event's change keeps views that agree on its region, and does nothing elsewhere where held links are runtime links
pub record Moves (plan : Plan) (k : Region plan) (c : Views → Views) : Type 0 where
  pub keeps : (v w : Views) → Agree plan k v w → Agree plan k (c v) (c w)
  pub spares : (l : Region plan) (v : Views) → Apart plan k l → AreBound (is_own_link k) plan.links v.held → Agree plan l v (c v)

-- the devices whose views the event turns
abbrev pub WhyIn : {plan : Plan} → Region plan → Why → Type 0
WhyIn k (why.Link c) = k.inside c.0 ≡ true
WhyIn k _ = Unit {0}

-- each link of the pair is a runtime link
abbrev pub IsRuntimePair : Plan → DevId → DevId → Type 0
IsRuntimePair plan c s = (l : ℕ) (row : LinkRow) → slice_get plan.links l ≡ Some row → is_of_pair c s row ≡ true → row.pm_runtime ≡ true

abbrev pub GetIn : {plan : Plan} → Region plan → DevId → Why → Type 0
GetIn {plan} k s (why.Link c) = (k.inside c.0 ≡ true) × IsRuntimePair plan c s
GetIn k s _ = Unit {0}

abbrev pub EventIn : {plan : Plan} → Region plan → Event → Type 0
EventIn k (event.Get d w) = (k.inside d.0 ≡ true) × GetIn k d w
EventIn k (event.Put d w) = (k.inside d.0 ≡ true) × WhyIn k w
EventIn k (event.State d w) = k.inside d.0 ≡ true
EventIn k (event.Begin d c) = k.inside d.0 ≡ true
EventIn k (event.End d c n) = k.inside d.0 ≡ true
EventIn k (event.Domain d b n) = k.inside d.0 ≡ true
EventIn k (event.Work d act) = k.inside d.0 ≡ true
EventIn k (event.Timer d act) = k.inside d.0 ≡ true
EventIn k _ = Unit {0}

-- the device, where there is one, lies in the region
abbrev pub DeviceIn : {plan : Plan} → Region plan → Option DevId → Type 0
DeviceIn k None = Unit {0}
DeviceIn k (Some d) = k.inside d.0 ≡ true

abbrev pub StageIn : {plan : Plan} → Region plan → Stage → Type 0
StageIn k s = DeviceIn k (device_of s)

abbrev pub StagesIn : {plan : Plan} → Region plan → List Stage → Type 0
StagesIn k [] = Unit {0}
StagesIn k (s ∷ stages) = StageIn k s × StagesIn k stages

-- the device of a change, and of a link the consumer, lies in the region
abbrev pub ChangeIn : {plan : Plan} → Region plan → Change → Type 0
ChangeIn k change.Same = Unit {0}
ChangeIn k (change.CancelRequest d) = k.inside d.0 ≡ true
ChangeIn k (change.Disarm d) = k.inside d.0 ≡ true
ChangeIn k (change.Cancel d) = k.inside d.0 ≡ true
ChangeIn k (change.CancelAll d) = k.inside d.0 ≡ true
ChangeIn k (change.ResumeCancel d) = k.inside d.0 ≡ true
ChangeIn k (change.CallbackMarks d) = k.inside d.0 ≡ true
ChangeIn k (change.SuspendEnded d c) = k.inside d.0 ≡ true
ChangeIn k (change.MarkBusy d) = k.inside d.0 ≡ true
ChangeIn k (change.Enable d) = k.inside d.0 ≡ true
ChangeIn k (change.Disable d) = k.inside d.0 ≡ true
ChangeIn k (change.DisableBusy d) = k.inside d.0 ≡ true
ChangeIn k (change.DisableAtOnce d) = k.inside d.0 ≡ true
ChangeIn k (change.KeepStatus d) = k.inside d.0 ≡ true
ChangeIn k (change.Set d use_auto delay) = k.inside d.0 ≡ true
ChangeIn k (change.Ignore d ignores) = k.inside d.0 ≡ true
ChangeIn k (change.Link consumer supplier present) = k.inside consumer.0 ≡ true

-- a row reads and turns only what lies in the region, and its stages go on there
abbrev pub RowIn : {plan : Plan} → Region plan → Row → Type 0
RowIn k (writes e change next) = EventIn k e × ChangeIn k change × StagesIn k next.push
RowIn k (waits d) = k.inside d.0 ≡ true

pub record StaysIn (plan : Plan) (k : Region plan) (row : Row) : Type 0 where
  pub paid : RowIn k row

-- a region and the callers whose commands are for its devices
pub record Island (plan : Plan) : Type 0 where
  pub region : Region plan
  pub callers : ℕ → Bool
  pub scripts : (c : ℕ) (row : CallerRow) (n : ℕ) (command : Command) → callers c ≡ true → slice_get plan.callers c ≡ Some row → slice_get row.script n ≡ Some command
      → takes_device command.helper ≡ true → region.inside command.dev.0 ≡ true

abbrev pub is_actor_of : {plan : Plan} → Island plan → ActorId → Bool
is_actor_of k (Caller c) = k.callers c
is_actor_of k (Work d) = k.region.inside d
is_actor_of k (Timer d) = k.region.inside d

-- the worlds agree on the island
pub record WorldsAgree (plan : Plan) (k : Island plan) (v w : World) : Type 0 where
  pub views : Agree plan k.region v.views w.views
  pub caller_places : Alike k.callers v.caller_places w.caller_places
  pub work_places : Alike k.region.inside v.work_places w.work_places
  pub timer_places : Alike k.region.inside v.timer_places w.timer_places
  pub called : Alike k.callers v.called w.called

-- two islands have nothing in common
pub record AreApart (plan : Plan) (k l : Island plan) : Type 0 where
  pub regions : Apart plan k.region l.region
  pub callers : (c : ℕ) → k.callers c ≡ true → l.callers c ≡ false

-- the stages of the island's actors lie in it
abbrev pub ArePlaced : (plan : Plan) → Island plan → World → Type 0
ArePlaced plan k w = (a : ActorId) → is_actor_of k a ≡ true → StagesIn k.region (place w a)
