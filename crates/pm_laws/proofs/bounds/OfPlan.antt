-- Each line that may come next is a line of the plan, and a short one.
use Rattle.std.proofs.Common.{ℕ, ◌≡◌, ◌+◌, ◌^◌, ◌<◌, ◌≤◌, Bool, true, false, List, [], ◌∷◌, ℤ, pos, neg_ℤ, int_le, int_lt, length, nat_lt, if◌then◌else◌, refl, arith}
use Rattle.std.specs.List.{list_all, zip}
use Rattle.std.specs.Ordering.{int_eq}
use Rattle.std.proofs.lemmas.Bool.{and_from, le-leb, lt-ltb, ltb-true}
use Rattle.std.proofs.lemmas.Grind.{common_steps}
use Rattle.std.proofs.lemmas.List.Sums.{count_by-le-length}
use Rattle.std.proofs.lemmas.Slice.Zip.{length-zip}
use Rattle.pm_base.specs.declared.ActorId.{ActorId}
use Rattle.pm_base.specs.declared.ActorId.TheVariants.{Caller, Work, Timer}
use Rattle.pm_base.specs.declared.DevId.{DevId}
use Rattle.pm_base.specs.declared.Why.{Why}
use Rattle.pm_base.specs.declared.Why.TheVariants as why
use Rattle.pm_base.specs.declared.limits.TheConstants.{MAX_DEVICES, MAX_MS, MIN_CODE}
use Rattle.pm_model.specs.declared.event.Command.{Command}
use Rattle.pm_model.specs.declared.event.Event.{Event}
use Rattle.pm_model.specs.declared.event.Event.TheVariants as event
use Rattle.pm_model.specs.declared.event.Fields.{Fields}
use Rattle.pm_model.specs.declared.event.Helper.{Helper}
use Rattle.pm_model.specs.declared.event.Helper.TheVariants.{SetAutosuspendDelay}
use Rattle.pm_model.specs.declared.event.Line.{Line}
use Rattle.pm_model.specs.declared.event.Operand.{Operand}
use Rattle.pm_model.specs.declared.event.Operand.TheVariants as operand
use Rattle.pm_model.specs.declared.event.TimerAct.{TimerAct}
use Rattle.pm_model.specs.declared.event.TimerAct.TheVariants.{Arm, Fire}
use Rattle.pm_model.specs.declared.plan.Plan.{Plan}
use Rattle.pm_model.specs.declared.stage.Stage.{Stage}
use Rattle.pm_model.specs.Counted.{takes}
use Rattle.pm_model.specs.Derived.{children, is_counted_child}
use Rattle.pm_model.specs.IsPlan.{is_command, is_operand, least_ms}
use Rattle.pm_model.specs.Lawful.{IsLawful, Permits, last_time}
use Rattle.pm_model.specs.LineOf.{are_fields, fits_i32, fits_signed, fits_u32, is_actor_of, is_command_line, is_device_of, is_event_of, is_line_of, is_number_of, is_ret_line, is_timer_line, is_why_of}
use Rattle.pm_model.specs.Spelling.{operand_of, takes_device}
use Rattle.pm_model.specs.Views.{Views, device}
use Rattle.pm_model.specs.World.{World, world}
use Rattle.pm_linetext.specs.ShortLine.{are_short_fields, is_short_event, is_short_line}
use Rattle.pm_laws.specs.counts.Sizes.{HasPlaces}
use Rattle.pm_laws.proofs.counts.Places.{IsPlaced, is_placed}
use Rattle.pm_laws.proofs.counts.Runs.{lawful_holds}
use Rattle.pm_laws.specs.stacks.Fit.{is_result}
use Rattle.pm_laws.proofs.stacks.Fitting.{line_told}
use Rattle.pm_laws.proofs.stacks.PlanLaw.{supplier_earlier}
use Rattle.pm_laws.proofs.stacks.Telling.{IsGot, IsTelling}
use Rattle.pm_laws.proofs.stacks.Tests.{front, rear}
use Rattle.pm_laws.proofs.bounds.Bounded.{depth_bounded, usage_bounded}
use Rattle.pm_laws.proofs.bounds.Limits.{few_devices, lines_bounded}
use Rattle.pm_laws.proofs.bounds.Said.{said}
use Rattle.pm_laws.proofs.bounds.Saying.{IsPayload, IsSaid, IsSoon, is_ret}

-- numbers
le_le : (a b c : ℤ) → int_le a b ≡ true → int_le b c ≡ true → int_le a c ≡ true
le_le a b c p q = grind (arith, common_steps)

le_lt : (a b c : ℤ) → int_le a b ≡ true → int_lt b c ≡ true → int_lt a c ≡ true
le_lt a b c p q = grind (arith, common_steps)

fits_between : (half : ℕ) (low high n : ℤ) → int_le (neg_ℤ (pos half)) low ≡ true → int_lt high (pos half) ≡ true → int_le low n ≡ true → int_le n high ≡ true
    → fits_signed half n ≡ true
fits_between half low high n p q is below = and_from _ _ (le_le _ low n p is) (le_lt n high _ below q)

result_fits : (c : ℤ) → is_result c ≡ true → fits_i32 c ≡ true
result_fits c is = fits_between (2 ^ 31) MIN_CODE (pos 1) c refl refl (front _ (int_le c (pos 1)) is) (rear (int_le MIN_CODE c) _ is)

least_least : (h : Helper) → int_le (neg_ℤ (pos MAX_MS)) (least_ms h) ≡ true
least_least SetAutosuspendDelay = refl
least_least _ = refl

-- commands
number_of_plan : (devices : ℕ) (h : Helper) (o : Operand) (n : ℤ) → is_operand devices h o n ≡ true → is_number_of devices o n ≡ true
number_of_plan devices h operand.Nothing n is = is
number_of_plan devices h operand.Milliseconds n is =
    fits_between (2 ^ 63) (neg_ℤ (pos MAX_MS)) (pos MAX_MS) n refl refl (le_le (neg_ℤ (pos MAX_MS)) (least_ms h) n (least_least h) (front _ (int_le n (pos MAX_MS)) is)) (rear (int_le (least_ms h) n) _ is)
number_of_plan devices h operand.Switch n is = is
number_of_plan devices h operand.Supplier n is = is

command_of_plan : (devices : ℕ) (c : Command) → is_command devices c ≡ true → is_command_line devices c ≡ true
command_of_plan devices c is =
    and_from _ _ (front _ (is_operand devices c.helper (operand_of c.helper) c.number) is) (number_of_plan devices c.helper (operand_of c.helper) c.number (rear (is_device_of devices c.helper c.dev) _ is))

ret_of_plan : (devices : ℕ) (h : Helper) (d : DevId) (c : ℤ) → is_device_of devices h d ≡ true → is_result c ≡ true → is_ret h c ≡ true → is_ret_line devices h d c ≡ true
ret_of_plan devices h d c device good ret = and_from _ _ device (go (takes_device h) ret)
  where
    go : (b : Bool) → (if b then true else int_eq c (pos 0)) ≡ true → (if b then fits_i32 c else int_eq c (pos 0)) ≡ true
    go true is = result_fits c good
    go false is = is

got_why : (plan : Plan) (d : DevId) (w : Why) → IsGot plan d w → is_why_of (length plan.devices) w ≡ true
got_why plan d (why.Link e) got = let it = supplier_earlier plan got.0 e d got.1 in lt-ltb _ _ it.within
got_why plan d (why.Child e) got = got
got_why plan d _ got = refl

timer_of_plan : (t : ℕ) (act : TimerAct) → t + 1000000 < 2 ^ 64 → IsSoon t act → is_timer_line act ≡ true
timer_of_plan t (Arm moment autosuspends) room soon = lt-ltb _ _ (omega (arith, room, soon))
timer_of_plan t (Fire autosuspends) room soon = refl

-- payloads: flags of one digit, counts of six, and no more children than devices
record IsSmall (x : Fields) : Type 0 where
  flags : nat_lt x.flags 16 ≡ true
  cnt : x.cnt ≤ 200000
  dep : x.dep ≤ 200001
  child : x.child ≤ MAX_DEVICES

small_fields : (x : Fields) → IsSmall x → are_fields x ≡ true
small_fields x small =
    let flags : nat_lt x.flags (2 ^ 8) ≡ true = lt-ltb x.flags (2 ^ 8) (omega (arith, ltb-true x.flags 16 small.flags)) in
    let cnt : fits_u32 x.cnt ≡ true = lt-ltb x.cnt (2 ^ 32) (omega (arith, small.cnt)) in
    let dep : fits_u32 x.dep ≡ true = lt-ltb x.dep (2 ^ 32) (omega (arith, small.dep)) in
    let child : fits_u32 x.child ≡ true = lt-ltb x.child (2 ^ 32) (omega (arith, small.child)) in
    and_from _ _ (and_from _ _ (and_from _ _ flags cnt) dep) child

short_fields : (x : Fields) → IsSmall x → are_short_fields x ≡ true
short_fields x small =
    let cnt : nat_lt x.cnt 1000000 ≡ true = lt-ltb x.cnt 1000000 (omega (arith, small.cnt)) in
    let dep : nat_lt x.dep 1000000 ≡ true = lt-ltb x.dep 1000000 (omega (arith, small.dep)) in
    and_from _ _ (and_from _ _ (and_from _ _ small.flags cnt) dep) (le-leb x.child MAX_DEVICES small.child)

-- no count of the views is greater
record AreFew (v : Views) : Type 0 where
  usage : (d : DevId) → (device v d).usage ≤ 200000
  depth : (d : DevId) → (device v d).depth ≤ 200001

few_children : (plan : Plan) (v : Views) (d : DevId) → children plan v d ≤ MAX_DEVICES
unfolding children
few_children plan v d =
    omega (arith, count_by-le-length (λ p. is_counted_child d p.0 p.1) (zip plan.devices v.devices), length-zip plan.devices v.devices, few_devices plan)

payload_small : (plan : Plan) (v : Views) (d : DevId) (x : Fields) → AreFew v → nat_lt x.flags 16 ≡ true → IsPayload plan v d x → IsSmall x
payload_small plan v d x few flags is = record {
  flags = flags;
  cnt = omega (arith, is.cnt, few.usage d);
  dep = omega (arith, is.dep, few.depth d);
  child = omega (arith, is.child, few_children plan v d);
}

event_of_plan : (plan : Plan) (v : Views) (t : ℕ) (s : Stage) (e : Event) → AreFew v → t + 1000000 < 2 ^ 64 → IsTelling plan e → IsSaid plan v t s e
    → is_event_of (length plan.devices) e ≡ true
event_of_plan plan v t s (event.Call c) few room told says = command_of_plan (length plan.devices) c told
event_of_plan plan v t s (event.Ret h d c) few room told says = ret_of_plan (length plan.devices) h d c told.0 told.1 says
event_of_plan plan v t s (event.Get d w) few room told says = and_from _ _ told.0 (got_why plan d w told.1)
event_of_plan plan v t s (event.Put d w) few room told says = and_from _ _ told.0 told.1
event_of_plan plan v t s (event.Usage d x) few room told says = and_from _ _ told.0 (small_fields x (payload_small plan v d x few told.1 says))
event_of_plan plan v t s (event.Idle d x) few room told says = and_from _ _ told.0 (small_fields x (payload_small plan v d x few told.1 says))
event_of_plan plan v t s (event.Suspend d x) few room told says = and_from _ _ told.0 (small_fields x (payload_small plan v d x few told.1 says))
event_of_plan plan v t s (event.Resume d x) few room told says = and_from _ _ told.0 (small_fields x (payload_small plan v d x few told.1 says))
event_of_plan plan v t s (event.Return k d c) few room told says = and_from _ _ told.0 (result_fits c told.1)
event_of_plan plan v t s (event.Wait d) few room told says = told
event_of_plan plan v t s (event.State d w) few room told says = told
event_of_plan plan v t s (event.Begin d k) few room told says = told
event_of_plan plan v t s (event.End d k c) few room told says = and_from _ _ told.0 (result_fits c told.1)
event_of_plan plan v t s (event.Domain d is_up n) few room told says = and_from _ _ told (lt-ltb _ _ (omega (arith, says)))
event_of_plan plan v t s (event.Work d act) few room told says = and_from _ _ told.0 told.1
event_of_plan plan v t s (event.Timer d act) few room told says = and_from _ _ told (timer_of_plan t act room says)

short_event : (plan : Plan) (v : Views) (t : ℕ) (s : Stage) (e : Event) → AreFew v → IsTelling plan e → IsSaid plan v t s e → is_short_event e ≡ true
short_event plan v t s (event.Usage d x) few told says = short_fields x (payload_small plan v d x few told.1 says)
short_event plan v t s (event.Idle d x) few told says = short_fields x (payload_small plan v d x few told.1 says)
short_event plan v t s (event.Suspend d x) few told says = short_fields x (payload_small plan v d x few told.1 says)
short_event plan v t s (event.Resume d x) few told says = short_fields x (payload_small plan v d x few told.1 says)
short_event plan v t s _ few told says = refl

few_counts : (plan : Plan) (h : List Line) → IsLawful plan h → AreFew (world plan h).views
few_counts plan h lawful = record {
  usage = λ d. omega (arith, lines_bounded plan h lawful, usage_bounded plan h d lawful, count_by-le-length (λ (l : Line). takes (λ w. true) d l.event) h);
  depth = λ d. omega (arith, lines_bounded plan h lawful, depth_bounded plan h d lawful);
}

pub next_event : (plan : Plan) (h : List Line) (line : Line) → IsLawful plan h → Permits plan h line → line.time + 1000000 < 2 ^ 64
    → is_event_of (length plan.devices) line.event ≡ true
next_event plan h line lawful p room =
    event_of_plan plan (world plan h).views line.time p.stage line.event (few_counts plan h lawful) room (line_told plan h line lawful p).0 (said plan h line lawful p).0

actor_of_plan : (plan : Plan) (w : World) (a : ActorId) → HasPlaces plan w → IsPlaced w a → is_actor_of (length plan.devices) (length plan.callers) a ≡ true
actor_of_plan plan w (Caller c) places placed = lt-ltb _ _ (omega (arith, placed, places.callers))
actor_of_plan plan w (Work d) places placed = lt-ltb _ _ (omega (arith, placed, places.works))
actor_of_plan plan w (Timer d) places placed = lt-ltb _ _ (omega (arith, placed, places.timers))

pub next_line : (plan : Plan) (h : List Line) (line : Line) → IsLawful plan h → Permits plan h line → line.time < 2 ^ 63 → is_line_of plan line ≡ true
next_line plan h line lawful p early =
    let w = world plan h in
    let holds = lawful_holds plan h lawful in
    let placed = is_placed plan w line.actor p.stage holds.entries holds.places p.stands in
    and_from _ _ (and_from _ _ (lt-ltb _ _ early) (actor_of_plan plan w line.actor holds.places placed)) (next_event plan h line lawful p (omega (arith, early)))

-- times don't fall
pub all_lines : (plan : Plan) (h : List Line) → IsLawful plan h → last_time h < 2 ^ 63 → list_all (is_line_of plan) h ≡ true
all_lines plan [] lawful early = refl
all_lines plan (line ∷ h) lawful early =
    and_from _ _ (next_line plan h line lawful.2 lawful.0 early) (all_lines plan h lawful.2 (omega (arith, early, lawful.0.in_time)))

pub next_short : (plan : Plan) (h : List Line) (line : Line) → IsLawful plan h → Permits plan h line → is_short_line line ≡ true
next_short plan h line lawful p =
    short_event plan (world plan h).views line.time p.stage line.event (few_counts plan h lawful) (line_told plan h line lawful p).0 (said plan h line lawful p).0

pub all_short : (plan : Plan) (h : List Line) → IsLawful plan h → list_all is_short_line h ≡ true
all_short plan [] lawful = refl
all_short plan (line ∷ h) lawful = and_from _ _ (next_short plan h line lawful.2 lawful.0) (all_short plan h lawful.2)
