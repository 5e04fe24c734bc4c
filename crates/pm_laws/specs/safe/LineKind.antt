-- Each line of a lawful list is of a kind.
use Rattle.std.specs.Prelude.{ℕ, ◌≡◌, ◌+◌, ◌<◌, ◌≤◌, Bool, List, ◌∷◌, Some, length, slice_get}
use Rattle.std.specs.Option.{unwrap_or}
use Rattle.pm_base.specs.declared.DevId.{DevId}
use Rattle.pm_model.specs.declared.event.Line.{Line}
use Rattle.pm_model.specs.declared.plan.Plan.{Plan}
use Rattle.pm_model.specs.declared.rows.LinkRow.{LinkRow}
use Rattle.pm_model.specs.declared.stage.Stage.{Stage}
use Rattle.pm_model.specs.Counted.{says_on}
use Rattle.pm_model.specs.History.{History}
use Rattle.pm_model.specs.Views.{device, is_held, is_on, is_present}
use Rattle.pm_model.specs.World.{world}
use Rattle.pm_laws.specs.counts.Sums.{tally}
use Rattle.pm_laws.specs.counts.Owners.{places}
use Rattle.pm_laws.specs.safe.Parts.{Phase, counts, at_part, Falls, Stays}
use Rattle.pm_laws.specs.safe.Kinds.{Kind, dev_of, from, old, new, says, holds, shows, EventIs, Guard}

-- the line is of a kind: its event, what was true before it, and that the device of an owner is one of the plan's; the parts of stages before and after it, beside those of
-- all stages that stay; and what it makes of each device's status, of each link and of each domain
pub record HasKind (plan : Plan) (h : History) (line : Line) : Type 0 where
  pub kind : Kind
  pub event : EventIs kind line.event
  pub guard : Guard plan (world plan h).views kind
  pub within : (x : Phase) → from kind ≡ Some x → (let d = dev_of kind in d.0 < length plan.devices)
  pub others : List (List Stage)
  pub was : (test : Phase → Bool) (d : DevId) → tally (at_part test d) (places (world plan h)) ≡ counts test d (old kind) + tally (at_part test d) others
  pub falls : (test : Phase → Bool) (d : DevId) → Falls test → tally (at_part test d) (places (world plan (line ∷ h))) ≤ counts test d (new kind) + tally (at_part test d) others
  pub is : (test : Phase → Bool) (d : DevId) → Stays test → tally (at_part test d) (places (world plan (line ∷ h))) ≡ counts test d (new kind) + tally (at_part test d) others
  pub status : (d : DevId) → d.0 < length plan.devices → (device (world plan (line ∷ h)).views d).status ≡ unwrap_or (says kind d) (device (world plan h).views d).status
  pub held : (l : ℕ) (row : LinkRow) → slice_get plan.links l ≡ Some row → is_held (world plan (line ∷ h)).views l ≡ unwrap_or (holds kind row.consumer row.supplier) (is_held (world plan h).views l)
  pub present : (l : ℕ) (row : LinkRow) → slice_get plan.links l ≡ Some row → is_present (world plan (line ∷ h)).views l ≡ unwrap_or (shows kind row.consumer row.supplier) (is_present (world plan h).views l)
  pub on : (o : ℕ) → o < length plan.domains → is_on (world plan (line ∷ h)).views o ≡ unwrap_or (says_on plan (world plan h).views o line.event) (is_on (world plan h).views o)
