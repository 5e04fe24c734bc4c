-- What stands out by where the run stands, by what is kept of it.
use Rattle.std.proofs.Common.{ℕ, ◌≡◌, ◌+◌, ◌<◌, ◌^◌, Bool, true, ◌&&◌, ◌++◌, List, Option, length, map, nat_lt, ap, append_assoc, subst, sym, ◌∙◌}
use borrow.Author.Tests.{ltb-true}
use Rattle.pm_base.specs.declared.DevId.{DevId}
use Rattle.pm_base.specs.declared.Why.TheVariants as why
use Rattle.pm_safety.specs.declared.dependencies.domains.DomainOn.{DomainOn}
use Rattle.pm_safety.specs.dependencies.Domains.{domains_left}
use Rattle.pm_safety.specs.dependencies.Kept.{IsKept, Kept}
use Rattle.pm_device.specs.Parts.{Counters, IsFor}
use Rattle.pm_model.specs.declared.event.Event.TheVariants as event
use Rattle.pm_model.specs.declared.event.Line.{Line}
use Rattle.pm_model.specs.declared.plan.Plan.{Plan}
use Rattle.pm_model.specs.History.{History}
use Rattle.pm_model.specs.LineOf.{is_actor_of, is_event_of, is_line_of}
use Rattle.pm_model.specs.Views.{Views, device}
use Rattle.pm_model.specs.World.{World, world}
use Rattle.pm_state.specs.Standing.{counters}
use Rattle.pm_find.specs.declared.findings.Finding.{Finding}
use Rattle.pm_find.specs.declared.findings.watched.Called.{Called}
use Rattle.pm_find.specs.declared.findings.watched.Count.{Count}
use Rattle.pm_find.specs.findings.AllFound.{at_line, bonds_at, domain_at, domains_after, placed_at, unmarked_at}
use Rattle.pm_find.specs.findings.OpenCounts.{device_of, open_counts}
use Rattle.pm_find.specs.findings.Said.{call_by}
use Rattle.pm_find.specs.findings.StandsOut.{unmarked}
use Rattle.pm_find.proofs.findings.StepLemmas.{front, rear}

pub views_is : (plan : Plan) (h : History) (k : Kept) (c : Counters) → IsKept plan k h → c ≡ counters k.replay.standing → c.views ≡ (world plan h).views
views_is plan h k c kept is = ap (λ (x : Counters). x.views) is ∙ ap (λ (w : World). w.views) kept.replay.world_is

-- the counters were made for the plan
pub made_for : (plan : Plan) (h : History) (k : Kept) (c : Counters) → IsKept plan k h → c ≡ counters k.replay.standing → IsFor plan c.shape
made_for plan h k c kept is = subst (λ (x : Counters). IsFor plan x.shape) (sym is) kept.replay.is_of.made_for

-- the event of a line of the plan
pub event_is : (plan : Plan) (h : History) (line : Line) (k : Kept) (c : Counters) → IsKept plan k h → c ≡ counters k.replay.standing → is_line_of plan line ≡ true
    → is_event_of (length c.shape.parents) line.event ≡ true
event_is plan h line k c kept is of_plan =
    let made = made_for plan h k c kept is in
    ap (λ n. is_event_of n line.event) made.devices_len
    ∙ rear (nat_lt line.time (2 ^ 63) && is_actor_of (length plan.devices) (length plan.callers) line.actor) (is_event_of (length plan.devices) line.event) of_plan

-- the device of a put
pub put_inside : (n : ℕ) (d : DevId) → is_event_of n (event.Put d why.Caller) ≡ true → d.0 < n
put_inside n d is = ltb-true d.0 n (front (nat_lt d.0 n) _ is)

pub placed_more : (plan : Plan) (h : History) (line : Line) (k : Kept) (c : Counters) (called : Option Called) (counts : List Count) (number : ℕ) (before told after : List Finding) → IsKept plan k h → c ≡ counters k.replay.standing
    → number ≡ length h + 1 → called ≡ call_by h line.actor → counts ≡ open_counts h (device_of line.event)
    → told ≡ before ++ at_line number (unmarked (device c.views (device_of line.event)) counts called line.time line.actor line.event)
    → after ≡ told ++ bonds_at plan h line → after ≡ before ++ placed_at plan h line
placed_more plan h line k c called counts number before told after kept is counted last held was more =
    more
    ∙ ap (λ l. l ++ bonds_at plan h line) (was
    ∙ ap (λ n. before ++ at_line n (unmarked (device c.views (device_of line.event)) counts called line.time line.actor line.event)) counted
    ∙ ap (λ (v : Views). before ++ at_line (length h + 1) (unmarked (device v (device_of line.event)) counts called line.time line.actor line.event)) (views_is plan h k c kept is)
    ∙ ap (λ x. before ++ at_line (length h + 1) (unmarked (device (world plan h).views (device_of line.event)) x called line.time line.actor line.event)) held
    ∙ ap (λ x. before ++ at_line (length h + 1) (unmarked (device (world plan h).views (device_of line.event)) (open_counts h (device_of line.event)) x line.time line.actor line.event)) last)
    ∙ append_assoc before (unmarked_at plan h line) (bonds_at plan h line)

pub domains_more : (plan : Plan) (h : History) (k : Kept) (c : Counters) (number : ℕ) (left : List DomainOn) (before after : List Finding) → IsKept plan k h → c ≡ counters k.replay.standing
    → number ≡ length h → left ≡ domains_left plan c.views → after ≡ before ++ map (domain_at number) left → after ≡ before ++ domains_after plan h
domains_more plan h k c number left before after kept is counted was more =
    more
    ∙ ap (λ n. before ++ map (domain_at n) left) counted
    ∙ ap (λ l. before ++ map (domain_at (length h)) l) (was ∙ ap (λ (v : Views). domains_left plan v) (views_is plan h k c kept is))
