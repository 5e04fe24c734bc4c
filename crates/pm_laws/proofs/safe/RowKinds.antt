-- What a row of the call table shows to be of a kind.
use Rattle.std.proofs.Common.{◌≡◌, Bool, true, false, Option, Some, None, if◌then◌else◌, ap, refl, ◌∙◌}
use Rattle.pm_base.specs.declared.DevId.{DevId}
use Rattle.pm_model.specs.declared.event.Event.{Event}
use Rattle.pm_model.specs.declared.plan.Plan.{Plan}
use Rattle.pm_model.specs.declared.stage.Change.{Change}
use Rattle.pm_model.specs.declared.stage.Stage.{Stage}
use Rattle.pm_model.specs.declared.stage.Then.{Then}
use Rattle.pm_model.specs.Row.{Row, writes, waits}
use Rattle.pm_model.specs.Views.{Views}
use Rattle.pm_laws.specs.counts.Sums.{weigh}
use Rattle.pm_laws.proofs.counts.Places.{shown}
use Rattle.pm_laws.specs.safe.Parts.{Phase, Part, no_part, part, part_of, part_at, counts, at_part}
use Rattle.pm_laws.specs.safe.Kinds.{Kind, keeps, old, new, is_silent, EventIs, is_of_link, ChangeIs, Guard}

-- the stages that take the place of a stage are of this part
abbrev pub Leads : Then → Part → Type 0
Leads next p = (test : Phase → Bool) (d : DevId) → weigh (at_part test d) (shown next) ≡ counts test d p

-- a row that writes an event is of this kind
pub record IsKind (plan : Plan) (v : Views) (s : Stage) (e : Event) (c : Change) (next : Then) (k : Kind) : Type 0 where
  pub was : part_of s ≡ old k
  pub leads : Leads next (new k)
  pub event : EventIs k e
  pub change : ChangeIs k c
  pub guard : Guard plan v k

pub record RowKind (plan : Plan) (v : Views) (s : Stage) (e : Event) (c : Change) (next : Then) : Type 0 where
  pub kind : Kind
  pub is : IsKind plan v s e c next kind

abbrev pub OfKind : Plan → Views → Stage → Row → Type 0
OfKind plan v s (writes e c next) = RowKind plan v s e c next
OfKind plan v s (waits d) = Unit {0}

-- what a row owes
pub record Owes (plan : Plan) (v : Views) (s : Stage) (row : Row) : Type 0 where
  pub paid : OfKind plan v s row

pub waiting : {plan : Plan} {v : Views} {s : Stage} {d : DevId} → Owes plan v s (waits d)
waiting = record { paid = tt }

-- a row where its test holds, and those after it where it doesn't
pub either : {plan : Plan} {v : Views} {s : Stage} {x y : Row} (b : Bool) → (b ≡ true → Owes plan v s x) → (b ≡ false → Owes plan v s y) → Owes plan v s (if b then x else y)
either {plan} {v} {s} {x} {y} b f g = go b f g
  where
    go : (b : Bool) → (b ≡ true → Owes plan v s x) → (b ≡ false → Owes plan v s y) → Owes plan v s (if b then x else y)
    go true f g = f refl
    go false f g = g refl

pub either_leads : (b : Bool) (x y : Then) (p : Part) → Leads x p → Leads y p → Leads (if b then x else y) p
either_leads true x y p f g = f
either_leads false x y p f g = g

-- a row of this kind, at a stage of its part
pub of_kind : {plan : Plan} {v : Views} {s : Stage} {e : Event} {c : Change} {next : Then} (k : Kind) → part_of s ≡ old k → Leads next (new k)
    → EventIs k e → ChangeIs k c → Guard plan v k → Owes plan v s (writes e c next)
of_kind k was leads event change guard = record { paid = record { kind = k; is = record { was = was; leads = leads; event = event; change = change; guard = guard } } }

-- the device and the phase of a part
dev_in : Part → DevId
dev_in no_part = record { 0 = 0 }
dev_in (part d x) = d

phase_in : Part → Option Phase
phase_in no_part = None
phase_in (part d x) = Some x

part_is : (p : Part) → p ≡ part_at (dev_in p) (phase_in p)
unfolding dev_in phase_in
part_is no_part = refl
part_is (part d x) = refl

-- nothing is said, and the part stays
pub still : {plan : Plan} {v : Views} {s : Stage} {e : Event} {c : Change} {next : Then} → is_silent e ≡ true → Leads next (part_of s)
    → is_of_link c ≡ false → Owes plan v s (writes e c next)
still {s = s} is leads change =
    let p = part_of s in
    of_kind (keeps (dev_in p) (phase_in p)) (part_is p) (λ test d. leads test d ∙ ap (counts test d) (part_is p)) is change tt

-- at another stage of the same part
pub alike : {plan : Plan} {v : Views} {s : Stage} {row : Row} (s' : Stage) → part_of s ≡ part_of s' → Owes plan v s' row → Owes plan v s row
alike {plan} {v} {s} {row} s' same o = let it : OfKind plan v s row = go row o.paid in record { paid = it }
  where
    go : (row : Row) → OfKind plan v s' row → OfKind plan v s row
    go (writes e c next) h = record { kind = h.kind; is = record { was = same ∙ h.is.was; leads = h.is.leads; event = h.is.event; change = h.is.change; guard = h.is.guard } }
    go (waits d) h = tt
