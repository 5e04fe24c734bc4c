-- Devices have their parents Active, after every lawful list of lines.
use Rattle.std.proofs.Common.{ℕ, ◌≡◌, ◌+◌, ◌<◌, ◌≤◌, ◌⊎◌, inl, inr, Bool, true, false, not, ◌&&◌, List, [], ◌∷◌, Option, Some, None, length, nat_eq, nat_lt, slice_get, if◌then◌else◌, ap, refl, sym, ◌∙◌, arith}
use Rattle.std.specs.Prelude.{◌||◌}
use Rattle.std.specs.List.{list_all}
use Rattle.std.specs.Option.{unwrap_or, option_map_or}
use Rattle.std.proofs.lemmas.Bool.{cases_lt, ltb-true, ltb-false, eqb-true}
use Rattle.std.proofs.lemmas.Option.{slice_get_past}
use Rattle.std.proofs.lemmas.Grind.{common_steps}
use Rattle.pm_base.specs.declared.ActorId.{ActorId}
use Rattle.pm_base.specs.declared.DevId.{DevId}
use Rattle.pm_base.specs.declared.Status.{Status}
use Rattle.pm_base.specs.declared.Status.TheVariants as status
use Rattle.pm_model.specs.declared.event.Event.{Event}
use Rattle.pm_model.specs.declared.event.Event.TheVariants as event
use Rattle.pm_model.specs.declared.event.Line.{Line}
use Rattle.pm_model.specs.declared.plan.Plan.{Plan}
use Rattle.pm_model.specs.declared.rows.DeviceRow.{DeviceRow}
use Rattle.pm_model.specs.declared.stage.Await.TheVariants as await
use Rattle.pm_model.specs.declared.stage.ResumeCall.{ResumeCall}
use Rattle.pm_model.specs.declared.stage.ResumeStage.TheVariants as resume
use Rattle.pm_model.specs.declared.stage.Stage.{Stage}
use Rattle.pm_model.specs.declared.stage.Stage.TheVariants as stage
use Rattle.pm_model.specs.Counted.{is_same, only_if, says_status, status_of}
use Rattle.pm_model.specs.Derived.{is_active, is_suspended, is_disabled, children, minds_parent, awaits_parent, is_active_status, is_suspended_status, is_suspending_status, is_resuming_status}
use Rattle.pm_model.specs.Excuse.{is_entry, forces, has_entered, was_disabled_at_entry, ignored_since_entry, was_forced, is_excused_from_parent}
use Rattle.pm_model.specs.History.{History}
use Rattle.pm_model.specs.IsPlan.{is_device}
use Rattle.pm_model.specs.Lawful.{IsLawful}
use Rattle.pm_model.specs.PlanRows.{parent, has_parent, no_callbacks}
use Rattle.pm_model.specs.Views.{Views, device}
use Rattle.pm_model.specs.World.{World, place, world}
use Rattle.pm_laws.specs.counts.Sums.{one, tally}
use Rattle.pm_laws.specs.counts.Counts.{holds}
use Rattle.pm_laws.specs.counts.Owners.{places}
use Rattle.pm_laws.proofs.counts.Links.{both, neither}
use Rattle.pm_laws.proofs.counts.Runs.{Holds, lawful_holds, start_status}
use Rattle.pm_laws.proofs.counts.Said.{status_said, says_or}
use Rattle.pm_laws.specs.stacks.Shape.{IsMarked, IsNested, Nested, Fits, Call, call_of}
use Rattle.pm_laws.proofs.stacks.Stacks.{stacks_nest}
use Rattle.pm_laws.specs.safe.Parts.{counts, at_part, any_phase}
use Rattle.pm_laws.specs.safe.Kinds.{MayRest, old}
use Rattle.pm_laws.specs.safe.LineKind.{HasKind}
use Rattle.pm_laws.proofs.safe.Lines.{line_kind}
use Rattle.pm_laws.specs.safe.Bonds.{ParentStays, has_count, is_marked}
use Rattle.pm_laws.specs.safe.Needs.{needs_parent}
use Rattle.pm_laws.proofs.safe.Chains.{at_each, lawful_devices}
use Rattle.pm_laws.proofs.safe.Domains.{unexcused}
use Rattle.pm_laws.proofs.safe.Entries.{parent_needs, parent_least, leaves, wakes, Setting, entry_kind}
use Rattle.pm_laws.proofs.safe.Marked.{IsChild, child_of, all_marked, no_children}
use Rattle.pm_laws.proofs.safe.Refusals.{Rests, rests_so}
use Rattle.pm_laws.proofs.safe.Steps.{differ, need, least_at, sleeps, Owned, owned_at, need_now, need_then, starter_rests, start_need, needs_some}

-- a device that has a parent is one of the plan's, and the parent stands before it
pub device_within : (plan : Plan) (d p : DevId) → parent plan d ≡ Some p → d.0 < length plan.devices
unfolding parent
device_within plan d p e = elim (cases_lt d.0 (length plan.devices)) [ inl lt ↦ lt | inr le ↦ absurd (past le) ]
  where
    past : length plan.devices ≤ d.0 → ⊥
    past le = let k : None ≡ Some p = rw (slice_get_past plan.devices d.0 le) at e in cc

parent_before : (plan : Plan) (d p : DevId) → parent plan d ≡ Some p → p.0 < d.0
unfolding parent
parent_before plan d p e = go (slice_get plan.devices d.0) refl e
  where
    go : (r : Option DeviceRow) → slice_get plan.devices d.0 ≡ r → option_map_or (λ row. row.parent) r None ≡ Some p → p.0 < d.0
    go None is e = cc
    go (Some row) is e =
        let law = at_each (is_device (length plan.domains)) 0 plan.devices d.0 row (lawful_devices plan) is in
        let it : option_map_or (λ q. nat_lt q.0 (0 + d.0)) row.parent true ≡ true = (both _ _ (both _ _ (both _ _ (both _ _ (both _ _ (both _ _ (both _ _ (both _ _ (both _ _ law).0).0).0).0).0).0).0).0).1 in
        let k : nat_lt p.0 (0 + d.0) ≡ true = rw e at it in
        let l : p.0 < 0 + d.0 = ltb-true p.0 (0 + d.0) k in omega arith

apart : (d p : DevId) → p.0 < d.0 → is_same p d ≡ false
apart d p lt = go (nat_eq d.0 p.0) refl
  where
    go : (b : Bool) → nat_eq d.0 p.0 ≡ b → nat_eq d.0 p.0 ≡ false
    go true e = let same : d.0 ≡ p.0 = eqb-true d.0 p.0 e in absurd (omega arith)
    go false e = e

-- a device that isn't Suspended has entered
or_left : (a b : Bool) → (a ≡ false → b ≡ true) → a || b ≡ true
or_left true b f = refl
or_left false b f = f refl

entered : (plan : Plan) (h : History) (d : DevId) → IsLawful plan h → d.0 < length plan.devices → is_suspended (world plan h).views d ≡ false → has_entered plan h d ≡ true
entered plan [] d lawful within awake = differ (ap is_suspended_status (start_status plan.devices d.0)) awake
entered plan (line ∷ h) d lawful within awake =
    or_left (is_entry plan v d line.event) (has_entered plan h d) (λ silent. go (is_suspended v d) refl silent (entered plan h d lawful.2 within))
  where
    v : Views
    v = (world plan h).views

    k : HasKind plan h line
    k = line_kind plan h line lawful

    go : (b : Bool) → is_suspended v d ≡ b → is_entry plan v d line.event ≡ false → (is_suspended v d ≡ false → has_entered plan h d ≡ true) → has_entered plan h d ≡ true
    go true s silent was =
        differ (wakes plan v d k.kind line.event _ k.event k.guard (owned_at plan h line k d (lawful_holds plan h lawful.2) within) s (ap is_suspended_status (sym (k.status d within)) ∙ awake)) silent
    go false s silent was = was s

-- what isn't excused after a line
never : (plan : Plan) (h : History) (d p : DevId) → has_entered plan h d ≡ false → ignored_since_entry plan h d p ≡ false
never plan [] d p none = refl
never plan (line ∷ h) d p none =
    let n = neither _ _ none in
    go (device (world plan h).views p).ignores (is_entry plan (world plan h).views d line.event) n.0 none (never plan h d p n.1)
  where
    go : (a b : Bool) → b ≡ false → has_entered plan (line ∷ h) d ≡ false → ignored_since_entry plan h d p ≡ false
        → (if a then has_entered plan (line ∷ h) d else if b then false else ignored_since_entry plan h d p) ≡ false
    go true b e all was = all
    go false true e all was = refl
    go false false e all was = was

-- what the last line that says something says, of an entry and of another line
abbrev said_last : Bool → Bool → Bool → Bool
said_last e a b = elim (only_if e a) as (λ _. Bool) [ Some x ↦ x | None ↦ b ]

disabled_then : (e a b : Bool) → said_last e a b ≡ false → (e ≡ true → a ≡ false) × (e ≡ false → b ≡ false)
disabled_then true a b k = (λ _. k, λ q. cc)
disabled_then false a b k = (λ q. cc, λ _. k)

-- of ignored children: whether they are ignored at the line, the line is an entry, there was one before, and they were
abbrev ignored_last : Bool → Bool → Bool → Bool → Bool
ignored_last i e n x = if i then e || n else if e then false else x

ignored_at : (i e n x : Bool) → ignored_last i e n x ≡ false → e ≡ true → i ≡ false
ignored_at true true n x k q = cc
ignored_at true false n x k q = cc
ignored_at false e n x k q = refl

ignored_before : (i e n x : Bool) → ignored_last i e n x ≡ false → e ≡ false → (n ≡ false → x ≡ false) → x ≡ false
ignored_before true true n x k q f = cc
ignored_before true false n x k q f = f k
ignored_before false true n x k q f = cc
ignored_before false false n x k q f = k

ignored_now : (i e n x : Bool) → ignored_last i e n x ≡ false → n ≡ true → i ≡ false
ignored_now true true n x k q = cc
ignored_now true false n x k q = differ q k
ignored_now false e n x k q = refl

-- an entry of a device says nothing of its parent
entry_apart : (plan : Plan) (v : Views) (d p : DevId) (e : Event) → is_entry plan v d e ≡ true → is_same p d ≡ false → says_status p e ≡ None
entry_apart plan v d p (event.State x w) entry other =
    let same : x.0 ≡ d.0 = eqb-true x.0 d.0 (both _ _ entry).0 in
    let k : is_same p x ≡ false = ap (λ n. nat_eq n p.0) same ∙ other in rw k refl
entry_apart plan v d p _ entry other = cc

-- a parent that is enabled, doesn't ignore its children and isn't Active is awaited
unminded : (has enabled ignores active disabled : Bool) → has ≡ true → (enabled ≡ false → disabled ≡ true) → ignores ≡ false → disabled ≡ false → active ≡ false
    → ((has && enabled) && not ignores) && not active ≡ false → ⊥
unminded true true false false dis a f b c d e = cc
unminded true false ign act dis a f b c d e = differ (f refl) c
unminded true true true act dis a f b c d e = cc
unminded true true false true dis a f b c d e = cc
unminded false depth ign act dis a f b c d e = cc

depth_or : (n : ℕ) → nat_eq n 0 ≡ false → nat_lt 0 n ≡ true
depth_or n e = grind (arith, common_steps)

awaited : (plan : Plan) (v : Views) (d p : DevId) → IsChild plan d p → (device v p).ignores ≡ false → is_disabled v p ≡ false → is_active v p ≡ false → awaits_parent plan v d ≡ false → ⊥
unfolding minds_parent
awaited plan v d p child ign dis act e =
    let k : ((has_parent plan d && nat_eq (device v p).depth 0) && not (device v p).ignores) && not (is_active v p) ≡ false = rw child.is at e in
    unminded (has_parent plan d) (nat_eq (device v p).depth 0) (device v p).ignores (is_active v p) (is_disabled v p) child.has (depth_or (device v p).depth) ign dis act k

childless : (n : ℕ) (i : Bool) → nat_lt 0 n && not i ≡ false → i ≡ false → n ≡ 0
childless n true e k = cc
childless n false e k = go (nat_lt 0 n) refl e
  where
    go : (b : Bool) → nat_lt 0 n ≡ b → b && true ≡ false → n ≡ 0
    go true z e = cc
    go false z e = let le : n ≤ 0 = ltb-false 0 n z in omega arith

unused : (n : ℕ) → nat_lt 0 n ≡ false → n ≡ 0
unused n e = let le : n ≤ 0 = ltb-false 0 n e in omega arith

-- a device that is neither Active nor Suspending, and whose resume holds no count on its parent, needs it not
rests_too : (st : Status) (a b c : ℕ) → is_active_status st || is_suspending_status st ≡ false → a ≤ b + c → b ≡ one (is_suspending_status st) → c ≡ 0 → one (is_active_status st) + a ≡ 0
rests_too status.Active a b c e le q r = cc
rests_too status.Suspending a b c e le q r = cc
rests_too status.Suspended a b c e le q r = omega arith
rests_too status.Resuming a b c e le q r = omega arith

-- a device that isn't excused and whose parent isn't Active needs nothing of it
abbrev Stays : Plan → History → DevId → DevId → Type 0
Stays plan h d p = is_active (world plan h).views p ≡ false → is_excused_from_parent plan h d p ≡ false → need needs_parent (world plan h) d ≡ 0

stays_line : (plan : Plan) (h : History) (line : Line) (d p : DevId) → parent plan d ≡ Some p → IsLawful plan (line ∷ h) → Stays plan h d p → Stays plan (line ∷ h) d p
stays_line plan h line d p has lawful before down excuse = go (is_suspended now.views d) refl
  where
    w : World
    w = world plan h

    v : Views
    v = w.views

    e : Event
    e = line.event

    now : World
    now = world plan (line ∷ h)

    known : Holds plan w
    known = lawful_holds plan h lawful.2

    k : HasKind plan h line
    k = line_kind plan h line lawful

    within : d.0 < length plan.devices
    within = device_within plan d p has

    above : p.0 < length plan.devices
    above = omega (arith, within, parent_before plan d p has)

    owns : Owned (device v d).status (counts any_phase d (old k.kind)) (tally (at_part any_phase d) k.others)
    owns = owned_at plan h line k d known within

    Goal : Type 0
    Goal = need needs_parent now d ≡ 0

    -- nothing was needed, and the line is no entry
    unneeded : need needs_parent w d ≡ 0 → is_entry plan v d e ≡ false → Goal
    unneeded none silent =
        let was = need_then plan h line k needs_parent d in
        let le = least_at needs_parent k.kind d (device v d).status (tally (at_part needs_parent d) k.others) (parent_least plan v d k.kind e k.event k.guard silent) in
        let after = need_now plan h line k needs_parent d parent_needs.falls within in omega arith

    free : (was_disabled_at_entry plan (line ∷ h) d p ≡ false) × (ignored_since_entry plan (line ∷ h) d p ≡ false) × (was_forced plan (line ∷ h) d p ≡ false)
    free = let a = neither (was_disabled_at_entry plan (line ∷ h) d p || ignored_since_entry plan (line ∷ h) d p) (was_forced plan (line ∷ h) d p) excuse in let b = neither _ _ a.0 in (b.0, b.1, a.1)

    disabled : (is_entry plan v d e ≡ true → is_disabled v p ≡ false) × (is_entry plan v d e ≡ false → was_disabled_at_entry plan h d p ≡ false)
    disabled = disabled_then (is_entry plan v d e) (is_disabled v p) (was_disabled_at_entry plan h d p) free.0

    -- an entry
    enters : is_entry plan v d e ≡ true → Goal
    enters entry =
        elim (entry_kind plan v d k.kind e k.event k.guard entry calls) [
          | inl ready ↦ absurd (awaited plan v d p (child_of plan d p has) ignores (disabled.0 entry) inactive ready)
          | inr s ↦ setting s
        ]
      where
        ignores : (device v p).ignores ≡ false
        ignores = ignored_at (device v p).ignores (is_entry plan v d e) (has_entered plan h d) (ignored_since_entry plan h d p) free.1 entry

        inactive : is_active v p ≡ false
        inactive = ap is_active_status (status_said plan h p lawful.2 above ∙ sym unsaid ∙ sym (status_said plan (line ∷ h) p lawful above)) ∙ down
          where
            unsaid : status_of (line ∷ h) p ≡ status_of h p
            unsaid = sym (says_or (says_status p e) (status_of h p)) ∙ ap (λ o. unwrap_or o (status_of h p)) (entry_apart plan v d p e entry (apart d p (parent_before plan d p has)))

        calls : counts any_phase d (old k.kind) ≡ 1 → no_callbacks plan d ≡ false
        calls own = settle (no_callbacks plan d) refl
          where
            settle : (b : Bool) → no_callbacks plan d ≡ b → no_callbacks plan d ≡ false
            settle true z = absurd (moved (device v d).status _ _ own (known.settled d z) owns)
              where
                moved : (st : Status) (o y : ℕ) → o ≡ 1 → is_suspending_status st || is_resuming_status st ≡ false → Owned st o y → ⊥
                moved status.Active o y is s q = omega arith
                moved status.Suspended o y is s q = omega arith
                moved status.Suspending o y is s q = cc
                moved status.Resuming o y is s q = cc
            settle false z = z

        setting : Setting v d k.kind → Goal
        setting s = starter_rests plan h line k needs_parent d status.Resuming known parent_needs.falls within s.own s.stands s.turns refl s.light

    -- the parent may rest
    parent_rests : MayRest plan v p → is_suspended now.views d ≡ false → is_entry plan v d e ≡ false → Goal
    parent_rests rest awake silent =
        unneeded (rests_too (device v d).status _ _ _ idle (all_marked plan w d p (child_of plan d p has) (stacks_nest plan h lawful.2)) (known.owners.suspending d within) none) silent
      where
        r : Rests plan v p
        r = rests_so plan v p rest

        was_awake : is_suspended v d ≡ false
        was_awake = wake (is_suspended v d) refl
          where
            wake : (b : Bool) → is_suspended v d ≡ b → is_suspended v d ≡ false
            wake true s = differ (wakes plan v d k.kind e _ k.event k.guard owns s (ap is_suspended_status (sym (k.status d within)) ∙ awake)) silent
            wake false s = s

        ignores : (device v p).ignores ≡ false
        ignores = ignored_now (device v p).ignores (is_entry plan v d e) (has_entered plan h d) (ignored_since_entry plan h d p) free.1 (entered plan h d lawful.2 within was_awake)

        idle : is_active_status (device v d).status || is_suspending_status (device v d).status ≡ false
        idle = no_children plan v d p has known.entries.devices within (childless (children plan v p) (device v p).ignores r.childless ignores)

        none : tally (holds plan p) (places w) ≡ 0
        none = let a = known.counts p above in let b = unused (device v p).usage r.unused in omega arith

    go : (b : Bool) → is_suspended now.views d ≡ b → Goal
    go true s = sleeps plan now d needs_parent (lawful_holds plan (line ∷ h) lawful) within s
    go false s = entry (is_entry plan v d e) refl
      where
        entry : (b : Bool) → is_entry plan v d e ≡ b → Goal
        entry true q = enters q
        entry false q = up (is_active v p) refl (unexcused (is_suspended now.views d) (forces p e) (was_forced plan h d p) s free.2)
          where
            up : (b : Bool) → is_active v p ≡ b → (forces p e ≡ false) × (was_forced plan h d p ≡ false) → Goal
            up false a f =
                let ignored = ignored_before (device v p).ignores (is_entry plan v d e) (has_entered plan h d) (ignored_since_entry plan h d p) free.1 q (never plan h d p) in
                unneeded (before a (rw (disabled.1 q, ignored, f.1) refl)) q
            up true a f =
                elim (leaves plan v p k.kind e _ k.event k.guard (owned_at plan h line k p known above) a (ap is_active_status (sym (k.status p above)) ∙ down)) [
                  | inl rest ↦ parent_rests rest s q
                  | inr force ↦ differ force f.0
                ]

stays : (plan : Plan) (h : History) (d p : DevId) → parent plan d ≡ Some p → IsLawful plan h → Stays plan h d p
stays plan [] d p has lawful down excuse = start_need plan needs_parent d
stays plan (line ∷ h) d p has lawful down excuse = stays_line plan h line d p has lawful (stays plan h d p has lawful.2) down excuse

pub parent_stays : (plan : Plan) (h : History) (d p : DevId) → IsLawful plan h → parent plan d ≡ Some p → ParentStays plan h d p
parent_stays plan h d p lawful has needs = go (is_active v p) (is_excused_from_parent plan h d p) refl refl
  where
    v : Views
    v = (world plan h).views

    go : (a b : Bool) → is_active v p ≡ a → is_excused_from_parent plan h d p ≡ b → (is_active v p ≡ true) ⊎ (is_excused_from_parent plan h d p ≡ true)
    go true b up ex = inl up
    go false true up ex = inr ex
    go false false up ex = absurd (needs_some (world plan h) needs_parent d needs (stays plan h d p has lawful up ex))

-- and the mark held is set
counted : (plan : Plan) (r : ResumeCall) → IsMarked plan r → has_count plan r ≡ true
counted plan r m = go (has_parent plan r.dev) r.held m
  where
    go : (a b : Bool) → a && not b ≡ false → not a || b ≡ true
    go true true m = refl
    go true false m = cc
    go false b m = refl

stage_counted : (plan : Plan) (s : Stage) → Fits plan s → is_marked plan s ≡ true
stage_counted plan (stage.Resume (resume.Links r)) fits = counted plan r fits
stage_counted plan (stage.Resume (resume.Supplied r c)) fits = counted plan r fits
stage_counted plan (stage.Resume (resume.Callback r)) fits = counted plan r fits
stage_counted plan (stage.Resume (resume.Running r since)) fits = counted plan r fits
stage_counted plan (stage.Resume (resume.Resumed r)) fits = counted plan r fits
stage_counted plan (stage.Await (await.ResumeSupplier r link)) fits = counted plan r fits
stage_counted plan _ fits = refl

below_counted : (plan : Plan) (k : Call) (rest : List Stage) → Nested plan k rest → list_all (is_marked plan) rest ≡ true
below_counted plan k [] nested = refl
below_counted plan k (s ∷ rest) nested = rw (stage_counted plan s nested.1, below_counted plan (call_of s) rest nested.2) refl

stack_counted : (plan : Plan) (stack : List Stage) → IsNested plan stack → list_all (is_marked plan) stack ≡ true
stack_counted plan [] nested = refl
stack_counted plan (s ∷ rest) nested = rw (stage_counted plan s nested.1, below_counted plan (call_of s) rest nested.2) refl

pub marks_held : (plan : Plan) (h : History) (a : ActorId) → IsLawful plan h → list_all (is_marked plan) (place (world plan h) a) ≡ true
marks_held plan h a lawful = stack_counted plan (place (world plan h) a) (stacks_nest plan h lawful a)
