-- The kinds of lines, by what they do to the bonds of devices: with their links, their domains and their parents
-- (runtime_pm.rst, sections 2 and 4; device_link.rst; the words are this project's own).
use Rattle.std.specs.Prelude.{ℕ, ◌≡◌, Bool, true, false, ◌&&◌, Option, Some, None, ℤ, pos, int_lt}
use Rattle.std.specs.Ordering.{int_eq}
use Rattle.pm_base.specs.declared.Cb.TheVariants as cb
use Rattle.pm_base.specs.declared.DevId.{DevId}
use Rattle.pm_base.specs.declared.Status.{Status}
use Rattle.pm_base.specs.declared.Status.TheVariants as status
use Rattle.pm_base.specs.declared.Why.TheVariants as why
use Rattle.pm_model.specs.declared.event.Event.{Event}
use Rattle.pm_model.specs.declared.event.Event.TheVariants as event
use Rattle.pm_model.specs.declared.event.Word.{Word}
use Rattle.pm_model.specs.declared.event.Word.TheVariants as word
use Rattle.pm_model.specs.declared.plan.Plan.{Plan}
use Rattle.pm_model.specs.declared.stage.Change.{Change}
use Rattle.pm_model.specs.declared.stage.Change.TheVariants as change
use Rattle.pm_model.specs.ControlTable.{is_pair_in}
use Rattle.pm_model.specs.Counted.{is_same, only_if}
use Rattle.pm_model.specs.Derived.{refusal, is_active, is_suspended, is_moving, awaits_parent, first_held, first_free, has_link}
use Rattle.pm_model.specs.IdleTable.{is_above_idle}
use Rattle.pm_model.specs.PlanRows.{no_callbacks, has_domain}
use Rattle.pm_model.specs.Views.{Views, device, pending_of}
use Rattle.pm_laws.specs.safe.Parts.{Phase, suspending, lowering, giving, preparing, refused, ready, resuming, resumed, failed, falling, setting, unsetting, Part, part_at}

-- `keeps` says nothing of a status, a link, a domain or a callback's begin. Then come the callbacks of idle and suspend,
-- the domains that go off, the links given back, and the end of an owner that leaves its device Suspended; what a
-- device without callbacks turns to; the begin of a resume or of set_active, the links taken, the domains that go on,
-- and the callback of resume, to its end; then the forced statuses, and the links that come and go
pub data Kind : Type 0 where
  keeps : DevId → Option Phase → Kind
  begins_idle : DevId → Kind
  begins_suspend : DevId → Kind
  ends_suspend : DevId → ℤ → Kind
  fails_suspend : DevId → ℤ → Kind
  lowers_domain : DevId → ℕ → Phase → Phase → Kind
  gives_link : DevId → DevId → Phase → Phase → Kind
  suspends : DevId → Word → Phase → Kind
  suspends_quiet : DevId → Kind
  resumes_quiet : DevId → Kind
  enters : DevId → Kind
  sets_active : DevId → Kind
  takes_link : DevId → ℕ × DevId → Phase → Kind
  raises_domain : DevId → ℕ → Kind
  begins_resume : DevId → Kind
  begins_at_once : DevId → Kind
  ends_resume : DevId → ℤ → Kind
  fails_resume : DevId → ℤ → Kind
  resumes : DevId → Kind
  forces_again : DevId → Kind
  forces_bare : DevId → Kind
  forces_held : DevId → Kind
  forces_off : DevId → Kind
  adds_link : DevId → DevId → Kind
  drops_link : DevId → DevId → Kind
  drops_held : DevId → DevId → Kind

-- the device that the line is of
abbrev pub dev_of : Kind → DevId
dev_of (keeps d x) = d
dev_of (begins_idle d) = d
dev_of (begins_suspend d) = d
dev_of (ends_suspend d c) = d
dev_of (fails_suspend d c) = d
dev_of (lowers_domain d n x y) = d
dev_of (gives_link d s x y) = d
dev_of (suspends d w x) = d
dev_of (suspends_quiet d) = d
dev_of (resumes_quiet d) = d
dev_of (enters d) = d
dev_of (sets_active d) = d
dev_of (takes_link d link x) = d
dev_of (raises_domain d n) = d
dev_of (begins_resume d) = d
dev_of (begins_at_once d) = d
dev_of (ends_resume d c) = d
dev_of (fails_resume d c) = d
dev_of (resumes d) = d
dev_of (forces_again d) = d
dev_of (forces_bare d) = d
dev_of (forces_held d) = d
dev_of (forces_off d) = d
dev_of (adds_link d s) = d
dev_of (drops_link d s) = d
dev_of (drops_held d s) = d

-- the phase of the stage that writes the line
abbrev pub from : Kind → Option Phase
from (keeps d x) = x
from (ends_suspend d c) = Some suspending
from (fails_suspend d c) = Some suspending
from (lowers_domain d n x y) = Some x
from (gives_link d s x y) = Some x
from (suspends d w x) = Some x
from (takes_link d link x) = Some x
from (raises_domain d n) = Some preparing
from (begins_resume d) = Some ready
from (begins_at_once d) = Some preparing
from (ends_resume d c) = Some resuming
from (fails_resume d c) = Some resuming
from (resumes d) = Some resumed
from (forces_held d) = Some setting
from _ = None

-- the phase of the stages that take its place
abbrev pub to : Kind → Option Phase
to (keeps d x) = x
to (begins_suspend d) = Some suspending
to (ends_suspend d c) = Some lowering
to (lowers_domain d n x y) = Some y
to (gives_link d s x y) = Some y
to (enters d) = Some preparing
to (sets_active d) = Some setting
to (takes_link d link x) = Some x
to (raises_domain d n) = Some ready
to (begins_resume d) = Some resuming
to (begins_at_once d) = Some resuming
to (ends_resume d c) = Some resumed
to (fails_resume d c) = Some failed
to _ = None

abbrev pub old : Kind → Part
old k = part_at (dev_of k) (from k)

abbrev pub new : Kind → Part
new k = part_at (dev_of k) (to k)

-- the status that the line turns its device to
abbrev pub turn : Kind → Option Status
turn (begins_suspend d) = Some status.Suspending
turn (fails_suspend d c) = Some status.Active
turn (suspends d w x) = Some status.Suspended
turn (suspends_quiet d) = Some status.Suspended
turn (resumes_quiet d) = Some status.Active
turn (enters d) = Some status.Resuming
turn (sets_active d) = Some status.Resuming
turn (resumes d) = Some status.Active
turn (forces_again d) = Some status.Active
turn (forces_bare d) = Some status.Active
turn (forces_held d) = Some status.Active
turn (forces_off d) = Some status.Suspended
turn _ = None

abbrev pub turned : Option Status → Bool → Option Status
turned None same = None
turned (Some s) same = only_if same s

-- the status that a line of this kind says of d
abbrev pub says : Kind → DevId → Option Status
says k d = turned (turn k) (is_same d (dev_of k))

-- whether a line of this kind says that consumer c holds its link to supplier s
abbrev pub holds : Kind → DevId → DevId → Option Bool
holds (gives_link d t x y) c s = only_if (is_same s t && is_same c d) false
holds (takes_link d link x) c s = only_if (is_same s link.1 && is_same c d) true
holds (forces_off d) c s = only_if (is_same c d) false
holds (drops_held d t) c s = only_if (is_same s t && is_same c d) false
holds _ c s = None

-- and whether it says that the link is present
abbrev pub shows : Kind → DevId → DevId → Option Bool
shows (adds_link d t) c s = only_if (is_same s t && is_same c d) true
shows (drops_link d t) c s = only_if (is_same s t && is_same c d) false
shows (drops_held d t) c s = only_if (is_same s t && is_same c d) false
shows _ c s = None

-- an event that says nothing of a status, of a link, of a domain or of a callback
abbrev pub is_silent : Event → Bool
is_silent (event.Get d (why.Link c)) = false
is_silent (event.Put d (why.Link c)) = false
is_silent (event.State d w) = false
is_silent (event.Begin d k) = false
is_silent (event.End d cb.Idle c) = true
is_silent (event.End d k c) = false
is_silent (event.Domain d is_up n) = false
is_silent _ = true

-- what the line says
abbrev pub EventIs : Kind → Event → Type 0
EventIs (begins_idle d) e = e ≡ event.Begin d cb.Idle
EventIs (begins_suspend d) e = e ≡ event.Begin d cb.Suspend
EventIs (ends_suspend d c) e = e ≡ event.End d cb.Suspend c
EventIs (fails_suspend d c) e = e ≡ event.End d cb.Suspend c
EventIs (lowers_domain d n x y) e = e ≡ event.Domain d false n
EventIs (gives_link d s x y) e = e ≡ event.Put s (why.Link d)
EventIs (suspends d w x) e = e ≡ event.State d w
EventIs (suspends_quiet d) e = e ≡ event.State d word.Suspended
EventIs (resumes_quiet d) e = e ≡ event.State d word.Active
EventIs (enters d) e = e ≡ event.State d word.Resuming
EventIs (sets_active d) e = e ≡ event.State d word.Resuming
EventIs (takes_link d link x) e = e ≡ event.Get link.1 (why.Link d)
EventIs (raises_domain d n) e = e ≡ event.Domain d true n
EventIs (begins_resume d) e = e ≡ event.Begin d cb.Resume
EventIs (begins_at_once d) e = e ≡ event.Begin d cb.Resume
EventIs (ends_resume d c) e = e ≡ event.End d cb.Resume c
EventIs (fails_resume d c) e = e ≡ event.End d cb.Resume c
EventIs (resumes d) e = e ≡ event.State d word.Active
EventIs (forces_again d) e = e ≡ event.State d word.ForcedActive
EventIs (forces_bare d) e = e ≡ event.State d word.ForcedActive
EventIs (forces_held d) e = e ≡ event.State d word.ForcedActive
EventIs (forces_off d) e = e ≡ event.State d word.ForcedSuspended
EventIs (drops_held d s) e = e ≡ event.Put s (why.Link d)
EventIs _ e = is_silent e ≡ true

-- a change that adds or drops a link
abbrev pub is_of_link : Change → Bool
is_of_link (change.Link c s present) = true
is_of_link _ = false

-- the change that the row names, where it adds or drops a link
abbrev pub ChangeIs : Kind → Change → Type 0
ChangeIs (adds_link d s) c = c ≡ change.Link d s true
ChangeIs (drops_link d s) c = c ≡ change.Link d s false
ChangeIs (drops_held d s) c = c ≡ change.Link d s false
ChangeIs _ c = is_of_link c ≡ false

-- the domain goes off, and then links are given back
abbrev pub lowers : Phase → Phase → Bool
lowers lowering giving = true
lowers failed falling = true
lowers _ _ = false

-- a phase in which an owner has no more to do than to give its links back
abbrev pub may_give : Phase → Bool
may_give lowering = true
may_give giving = true
may_give refused = true
may_give failed = true
may_give falling = true
may_give setting = true
may_give unsetting = true
may_give _ = false

-- a phase in which links are given back
abbrev pub lets_go : Phase → Bool
lets_go giving = true
lets_go falling = true
lets_go unsetting = true
lets_go _ = false

-- one in which they are taken
abbrev pub gathers : Phase → Bool
gathers preparing = true
gathers setting = true
gathers _ = false

abbrev pub is_owners_word : Word → Bool
is_owners_word word.Suspended = true
is_owners_word word.Deferred = true
is_owners_word _ = false

-- nothing refuses a suspend, and the device doesn't move
pub record MayRest (plan : Plan) (v : Views) (d : DevId) : Type 0 where
  pub free : int_eq (refusal plan v d) (pos 0) ≡ true
  pub stands : is_moving v d ≡ false

-- nothing keeps the device from an idle callback
pub record MayIdle (plan : Plan) (v : Views) (d : DevId) : Type 0 where
  pub free : int_lt (refusal plan v d) (pos 0) ≡ false
  pub active : is_active v d ≡ true
  pub request : is_above_idle (pending_of v d).request ≡ false
  pub stands : (device v d).idle_running ≡ false

-- what is true before the line
abbrev pub Guard : Plan → Views → Kind → Type 0
Guard plan v (begins_idle d) = MayIdle plan v d
Guard plan v (begins_suspend d) = MayRest plan v d
Guard plan v (ends_suspend d c) = int_eq c (pos 0) ≡ true
Guard plan v (fails_suspend d c) = int_eq c (pos 0) ≡ false
Guard plan v (lowers_domain d n x y) = lowers x y ≡ true
Guard plan v (gives_link d s x y) = (may_give x ≡ true) × (lets_go y ≡ true)
Guard plan v (suspends d w x) = (first_held plan v d ≡ None) × (is_owners_word w ≡ true) × (may_give x ≡ true)
Guard plan v (suspends_quiet d) = (no_callbacks plan d ≡ true) × MayRest plan v d
Guard plan v (resumes_quiet d) = (no_callbacks plan d ≡ true) × (is_moving v d ≡ false) × (awaits_parent plan v d ≡ false)
Guard plan v (enters d) = (is_moving v d ≡ false) × (awaits_parent plan v d ≡ false) × (is_active v d ≡ false)
Guard plan v (sets_active d) = (is_moving v d ≡ false) × (is_active v d ≡ false)
Guard plan v (takes_link d link x) = (first_free plan v d ≡ Some link) × (gathers x ≡ true)
Guard plan v (raises_domain d n) = (first_free plan v d ≡ None) × (has_domain plan d ≡ true)
Guard plan v (begins_at_once d) = (first_free plan v d ≡ None) × (has_domain plan d ≡ false)
Guard plan v (forces_again d) = is_active v d ≡ true
Guard plan v (forces_bare d) = (has_link plan v d ≡ false) × (is_moving v d ≡ false) × (awaits_parent plan v d ≡ false)
Guard plan v (forces_held d) = (first_free plan v d ≡ None) × (awaits_parent plan v d ≡ false)
Guard plan v (forces_off d) = is_moving v d ≡ false
Guard plan v (adds_link d s) = (is_suspended v d ≡ true) × (is_moving v d ≡ false)
Guard plan v (drops_link d s) = is_pair_in plan d s v.held ≡ false
Guard plan v _ = Unit {0}
