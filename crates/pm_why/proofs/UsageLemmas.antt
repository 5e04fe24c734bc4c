-- The open gets of a device are as many as the counts on it, for each reason and in all.
use Rattle.std.proofs.Common.{ℕ, zero, suc, ◌≡◌, ◌+◌, ◌<◌, Bool, true, false, cond, not, ◌&&◌, List, [], ◌∷◌, ◌++◌, length, length-append, map, nat_eq, slice_index_or, if◌then◌else◌, ap, refl, sym, arith, subst}
use Rattle.std.specs.List.{count_by}
use Rattle.std.proofs.lemmas.List.Sums.{sum_by-append, sum_by-cons}
use Rattle.pm_base.specs.declared.DevId.{DevId}
use Rattle.pm_base.specs.declared.Why.{Why}
use Rattle.pm_base.specs.declared.Why.TheVariants as why
use Rattle.pm_model.specs.declared.event.Event.{Event}
use Rattle.pm_model.specs.declared.event.Event.TheVariants as event
use Rattle.pm_model.specs.declared.event.Line.{Line}
use Rattle.pm_model.specs.declared.event.Word.TheVariants as word
use Rattle.pm_model.specs.declared.plan.Plan.{Plan}
use Rattle.pm_model.specs.declared.rows.DeviceRow.{DeviceRow}
use Rattle.pm_model.specs.declared.rows.LinkRow.{LinkRow}
use Rattle.pm_model.specs.declared.views.Device.{Device}
use Rattle.pm_model.specs.Counted.{freed, frees, gets, gives_back, is_same, puts, takes, usage}
use Rattle.pm_model.specs.Derived.{asks_resume, has_error, is_active, is_disabled, is_suspending}
use Rattle.pm_model.specs.History.{History}
use Rattle.pm_model.specs.Lawful.{IsLawful}
use Rattle.pm_model.specs.Views.{device, fresh_device, pending_of}
use Rattle.pm_model.specs.World.{start, world}
use Rattle.pm_laws.specs.counts.Sums.{one}
use Rattle.pm_laws.proofs.counts.Links.{held_of}
use Rattle.pm_laws.proofs.counts.Runs.{start_tally, start_usage}
use Rattle.pm_laws.proofs.counts.Said.{usage_counted}
use Rattle.pm_why.specs.declared.gets.Count.{Count}
use Rattle.pm_why.specs.declared.Reason.{Reason}
use Rattle.pm_why.specs.declared.Reason.TheVariants as reason
use Rattle.pm_why.specs.OpenGets.{is_why, open_after, open_for, open_gets, without, without_earliest}
use Rattle.pm_why.specs.Reasons.{child_reasons, count_reasons, counted_children, error_line, is_count, reasons, when}
use Rattle.pm_why.proofs.Claims.{claims}
use Rattle.pm_why.proofs.Counts.{length_closed, length_freed, number, number_closed, number_freed, number_opened, same_self, why_self}
use Rattle.pm_why.proofs.LinkCounts.{held_cons}
use Rattle.pm_why.proofs.Moves.{Moves, holding, moves}

-- one line more, where its event moves the counts so
number_next : (w : Why) (d : DevId) (n : ℕ) (e : Event) (counts : List Count) (before after : ℕ) → number w counts ≡ before → Moves w d e before after
    → number w (open_after d n e counts) ≡ after
number_next w d n (event.Get x r) counts before after is moved = go (is_same d x) refl
  where
    go : (b : Bool) → is_same d x ≡ b → number w (if b then counts ++ (record { why = r; line = n }) ∷ [] else counts) ≡ after
    go true e =
        let it : after + 0 ≡ before + one (is_why w r) = rw e at moved in
        omega (arith, number_opened w counts (record { why = r; line = n }))
    go false e = let it : after + 0 ≡ before + 0 = rw e at moved in omega arith
number_next w d n (event.Put x r) counts before after is moved = go (is_same d x) refl
  where
    go : (b : Bool) → is_same d x ≡ b → number w (if b then without_earliest r counts else counts) ≡ after
    go true e =
        let it : after + (one (is_why w r) + 0) ≡ before + 0 = rw e at moved in
        let some : is_why w r ≡ true → 0 < number w counts = λ same. let one_is : one (is_why w r) ≡ 1 = ap one same in omega arith in
        omega (arith, number_closed w r counts some)
    go false e = let it : after + 0 ≡ before + 0 = rw e at moved in omega arith
number_next w d n (event.State x word.ForcedSuspended) counts before after is moved = go (is_why w (why.Link x)) (number_freed w (why.Link x) counts) moved
  where
    go : (b : Bool) → number w (without (why.Link x) counts) ≡ (if b then 0 else number w counts) → after + (0 + (if b then before else 0)) ≡ before + 0
        → number w (without (why.Link x) counts) ≡ after
    go true left moved = omega arith
    go false left moved = omega arith
number_next w d n _ counts before after is moved = omega arith

-- before any line
start_entry : (l : List DeviceRow) (i : ℕ)
    → (let x : Device = slice_index_or (map (λ row. record fresh_device { ignores = row.ignore_children }) l) i fresh_device in (x.share ≡ 0) × (x.auto_on ≡ true) × (x.use_auto ≡ false))
start_entry [] i = (refl, refl, refl)
start_entry (x ∷ l) zero = (refl, refl, refl)
start_entry (x ∷ l) (suc i) = start_entry l i

three_off : (a b : Bool) → one (a && b && false) ≡ 0
three_off true true = refl
three_off true false = refl
three_off false b = refl

start_held : (c : DevId) (s : ℕ) (l : List LinkRow) → held_of c s l (map (λ row. false) l) ≡ 0
start_held c s [] = refl
start_held c s (row ∷ l) = omega (arith, held_cons c s row l false (map (λ row. false) l), three_off (nat_eq row.consumer.0 c.0) (nat_eq row.supplier.0 s), start_held c s l)

start_holding : (plan : Plan) (w : Why) (d : DevId) → holding plan (start plan) w d ≡ 0
start_holding plan why.Caller d = (start_entry plan.devices d.0).0
start_holding plan why.Forbid d = ap (λ b. one (not b)) (start_entry plan.devices d.0).1
start_holding plan why.Delay d = rw (start_entry plan.devices d.0).2 refl
start_holding plan (why.Link c) d = start_held c d.0 plan.links
start_holding plan why.Control d = start_tally plan (claims plan why.Control d)
start_holding plan (why.Child c) d = start_tally plan (claims plan (why.Child c) d)

-- for each reason
pub open_is : (plan : Plan) (h : History) (w : Why) (d : DevId) → IsLawful plan h → d.0 < length plan.devices → open_for w h d ≡ holding plan (world plan h) w d
open_is plan [] w d lawful within = sym (start_holding plan w d)
open_is plan (line ∷ h) w d lawful within =
    number_next w d (length h + 1) line.event (open_gets h d) _ _ (open_is plan h w d lawful.2 within) (moves plan h line w d lawful within)

-- a put finds a get of its reason
pub put_finds : (plan : Plan) (h : History) (line : Line) (d : DevId) (r : Why) → IsLawful plan (line ∷ h) → line.event ≡ event.Put d r → d.0 < length plan.devices
    → 0 < open_for r h d
put_finds plan h line d r lawful is within =
    let moved = subst (λ e. Moves r d e (holding plan (world plan h) r d) (holding plan (world plan (line ∷ h)) r d)) is (moves plan h line r d lawful within) in
    let one_is : one (is_same d d && is_why r r) ≡ 1 = rw (same_self d, why_self r) refl in
    omega (arith, moved, open_is plan h r d lawful.2 within)

-- in all
length_next : (plan : Plan) (h : History) (line : Line) (d : DevId) → IsLawful plan (line ∷ h) → d.0 < length plan.devices → (e : Event) → line.event ≡ e
    → length (open_after d (length h + 1) e (open_gets h d)) + (one (gives_back (λ w. true) d e) + frees plan (world plan h).views d e) ≡ length (open_gets h d) + one (takes (λ w. true) d e)
length_next plan h line d lawful within (event.Get x r) is = go (is_same d x) (open_gets h d)
  where
    go : (b : Bool) (counts : List Count) → length (if b then counts ++ (record { why = r; line = length h + 1 }) ∷ [] else counts) + 0 ≡ length counts + one (b && true)
    go true counts = omega (arith, length-append counts ((record { why = r; line = length h + 1 }) ∷ []))
    go false counts = refl
length_next plan h line d lawful within (event.Put x r) is =
    go (is_same d x) refl
    (subst (λ e. Moves r d e (holding plan (world plan h) r d) (holding plan (world plan (line ∷ h)) r d)) is (moves plan h line r d lawful within))
  where
    go : (b : Bool) → is_same d x ≡ b → Moves r d (event.Put x r) (holding plan (world plan h) r d) (holding plan (world plan (line ∷ h)) r d)
        → length (if b then without_earliest r (open_gets h d) else open_gets h d) + (one (b && true) + 0) ≡ length (open_gets h d) + 0
    go true e moved =
        let one_is : one (is_same d x && is_why r r) ≡ 1 = rw (e, why_self r) refl in
        omega (arith, length_closed r (open_gets h d) (omega (arith, open_is plan h r d lawful.2 within)))
    go false e moved = refl
length_next plan h line d lawful within (event.State x word.ForcedSuspended) is =
    omega (arith, length_freed (why.Link x) (open_gets h d), open_is plan h (why.Link x) d lawful.2 within)
length_next plan h line d lawful within _ is = omega arith

pub length_is : (plan : Plan) (h : History) (d : DevId) → IsLawful plan h → d.0 < length plan.devices → length (open_gets h d) ≡ (device (world plan h).views d).usage
length_is plan [] d lawful within = sym (start_usage plan.devices d.0).0
length_is plan (line ∷ h) d lawful within =
    let was = usage_counted plan h d lawful.2 within in
    let now = usage_counted plan (line ∷ h) d lawful within in
    let more_puts : puts (λ w. true) (line ∷ h) d ≡ one (gives_back (λ w. true) d line.event) + puts (λ w. true) h d = sum_by-cons (λ (l : Line). cond (gives_back (λ w. true) d l.event) 1 0) line h in
    let more_gets : gets (λ w. true) (line ∷ h) d ≡ one (takes (λ w. true) d line.event) + gets (λ w. true) h d = sum_by-cons (λ (l : Line). cond (takes (λ w. true) d l.event) 1 0) line h in
    let more_freed : freed plan (line ∷ h) d ≡ frees plan (world plan h).views d line.event + freed plan h d = refl in
    let next = length_next plan h line d lawful within line.event refl in
    omega (arith, length_is plan h d lawful.2 within)

-- the reasons that are counts are the open gets
none_when : (b : Bool) (r : Reason) → is_count r ≡ false → count_by is_count (when b r) ≡ 0
none_when true r e = rw e refl
none_when false r e = refl

all_counts : (counts : List Count) → count_by is_count (map (λ (c : Count). reason.Count c.why c.line) counts) ≡ length counts
all_counts [] = refl
all_counts (c ∷ counts) =
    omega (arith, sum_by-cons (λ r. cond (is_count r) 1 0) (reason.Count c.why c.line) (map (λ (c : Count). reason.Count c.why c.line) counts), all_counts counts)

no_children : (l : List DevId) → count_by is_count (map reason.Child l) ≡ 0
no_children [] = refl
no_children (d ∷ l) = omega (arith, sum_by-cons (λ r. cond (is_count r) 1 0) (reason.Child d) (map reason.Child l), no_children l)

either_children : (b : Bool) (l : List DevId) → count_by is_count (if b then [] else map reason.Child l) ≡ 0
either_children true l = refl
either_children false l = no_children l

joined : (xs ys : List Reason) → count_by is_count (xs ++ ys) ≡ count_by is_count xs + count_by is_count ys
joined xs ys = sum_by-append (λ r. cond (is_count r) 1 0) xs ys

seven : (a b c d e f g : List Reason) → count_by is_count (a ++ b ++ c ++ d ++ e ++ f ++ g)
    ≡ count_by is_count a + count_by is_count b + count_by is_count c + count_by is_count d + count_by is_count e + count_by is_count f + count_by is_count g
seven a b c d e f g =
    omega (arith, joined (a ++ b ++ c ++ d ++ e ++ f) g, joined (a ++ b ++ c ++ d ++ e) f, joined (a ++ b ++ c ++ d) e, joined (a ++ b ++ c) d, joined (a ++ b) c, joined a b)

pub counts_are : (plan : Plan) (h : History) (d : DevId) → IsLawful plan h → d.0 < length plan.devices → count_by is_count (reasons plan h d) ≡ usage plan h d
counts_are plan h d lawful within =
    let v = (world plan h).views in
    let parts = seven (when (has_error v d) (reason.Error (device v d).error (error_line h d))) (when (is_disabled v d) (reason.Depth (device v d).depth)) (count_reasons h d) (child_reasons plan v d) (when (is_suspending v d && (pending_of v d).deferred) reason.Deferred) (when (asks_resume v d) reason.Request) (when (not (is_active v d)) (reason.State (device v d).status)) in
    omega (
      arith,
      none_when (has_error v d) (reason.Error (device v d).error (error_line h d)) refl,
      none_when (is_disabled v d) (reason.Depth (device v d).depth) refl,
      all_counts (open_gets h d),
      either_children (device v d).ignores (counted_children plan v d),
      none_when (is_suspending v d && (pending_of v d).deferred) reason.Deferred refl,
      none_when (asks_resume v d) reason.Request refl,
      none_when (not (is_active v d)) (reason.State (device v d).status) refl,
      length_is plan h d lawful within,
      usage_counted plan h d lawful within,
    )
