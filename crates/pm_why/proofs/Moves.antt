-- The counts of each reason on a device, and how they move with a line.
use Rattle.std.proofs.Common.{ℕ, ◌≡◌, ◌+◌, ◌<◌, Bool, true, false, cond, not, ◌&&◌, List, ◌∷◌, Some, None, length, if◌then◌else◌, ap, refl, sym, ◌∙◌, arith, subst}
use Rattle.std.specs.Option.{option_and_then}
use Rattle.std.proofs.lemmas.List.Sums.{sum_by-cons}
use Rattle.pm_base.specs.declared.Cb.TheVariants as cb
use Rattle.pm_base.specs.declared.DevId.{DevId}
use Rattle.pm_base.specs.declared.Why.{Why}
use Rattle.pm_base.specs.declared.Why.TheVariants as why
use Rattle.pm_model.specs.declared.event.Event.{Event}
use Rattle.pm_model.specs.declared.event.Event.TheVariants as event
use Rattle.pm_model.specs.declared.event.Line.{Line}
use Rattle.pm_model.specs.declared.event.Word.{Word}
use Rattle.pm_model.specs.declared.event.Word.TheVariants as word
use Rattle.pm_model.specs.declared.plan.Plan.{Plan}
use Rattle.pm_model.specs.ChangeViews.{change_views}
use Rattle.pm_model.specs.Changes.{set_held}
use Rattle.pm_model.specs.Counted.{gets, gives_back, is_allowed, is_callers, is_same, only_if, puts, says_auto, takes}
use Rattle.pm_model.specs.Events.{by_event, by_word, frees_links, gave, got, held_from}
use Rattle.pm_model.specs.History.{History}
use Rattle.pm_model.specs.Lawful.{IsLawful}
use Rattle.pm_model.specs.Row.{writes}
use Rattle.pm_model.specs.Views.{Views, device}
use Rattle.pm_model.specs.World.{World, after_line, row, row_at, world}
use Rattle.pm_laws.specs.counts.Sums.{one, tally, weigh}
use Rattle.pm_laws.specs.counts.Owners.{places}
use Rattle.pm_laws.proofs.counts.Accounts.{ended_held}
use Rattle.pm_laws.proofs.counts.Givings.{IsStages}
use Rattle.pm_laws.proofs.counts.Links.{distinct_links, held_of, loosed, one_and_false, paired}
use Rattle.pm_laws.proofs.counts.Places.{is_placed, shown}
use Rattle.pm_laws.proofs.counts.Runs.{Holds, Paid, lawful_holds, others, permitted, places_moved, with_next, with_top}
use Rattle.pm_laws.proofs.counts.Said.{auto_said, share_counted, views_next}
use Rattle.pm_laws.proofs.counts.Seen.{held_core}
use Rattle.pm_laws.proofs.counts.Turns.{quiet_event}
use Rattle.pm_why.specs.OpenGets.{is_why}
use Rattle.pm_why.proofs.Claims.{Books, ForbidIs, LinkIs, claims, claims_weigh}
use Rattle.pm_why.proofs.ClaimRows.{row_books}
use Rattle.pm_why.proofs.Counts.{same_device}
use Rattle.pm_why.proofs.LinkCounts.{held_given, held_loosed, held_taken}
use Rattle.pm_why.proofs.Settings.{delay_moves, prevented_at}

-- the counts on d that are held for a reason
abbrev pub holding : Plan → World → Why → DevId → ℕ
holding plan w why.Caller d = (device w.views d).share
holding plan w why.Forbid d = one (not (device w.views d).auto_on)
holding plan w why.Delay d = one (prevented_at w.views d)
holding plan w (why.Link c) d = held_from plan w.views.held c d.0
holding plan w why.Control d = tally (claims plan why.Control d) (places w)
holding plan w (why.Child c) d = tally (claims plan (why.Child c) d) (places w)

-- a forced_suspended gives back the counts for the links of its device
abbrev pub frees_for : Why → Event → Bool
frees_for w (event.State c word.ForcedSuspended) = is_why w (why.Link c)
frees_for w _ = false

abbrev pub freed_for : Why → Event → ℕ → ℕ
freed_for w e n = if frees_for w e then n else 0

-- they rise by the gets for it, and fall by the puts for it and by what is freed
abbrev pub Moves : Why → DevId → Event → ℕ → ℕ → Type 0
Moves w d e before after = after + (one (gives_back (is_why w) d e) + freed_for w e before) ≡ before + one (takes (is_why w) d e)

-- a reason that is no link's
abbrev IsNoLink : Why → Type 0
IsNoLink (why.Link c) = ⊥
IsNoLink _ = Unit {0}

frees_none : (w : Why) (e : Event) (n : ℕ) → IsNoLink w → freed_for w e n ≡ 0
frees_none (why.Link c) e n is = elim is [ ]
frees_none why.Caller (event.State c word.ForcedSuspended) n is = refl
frees_none why.Control (event.State c word.ForcedSuspended) n is = refl
frees_none why.Forbid (event.State c word.ForcedSuspended) n is = refl
frees_none why.Delay (event.State c word.ForcedSuspended) n is = refl
frees_none (why.Child x) (event.State c word.ForcedSuspended) n is = refl
frees_none w _ n is = refl

-- callers
caller_why : (w : Why) → is_callers w ≡ is_why why.Caller w
caller_why why.Caller = refl
caller_why _ = refl

caller_events : (d : DevId) (e : Event) → (gives_back is_callers d e ≡ gives_back (is_why why.Caller) d e) × (takes is_callers d e ≡ takes (is_why why.Caller) d e)
caller_events d (event.Get x w) = (refl, ap (λ b. is_same d x && b) (caller_why w))
caller_events d (event.Put x w) = (ap (λ b. is_same d x && b) (caller_why w), refl)
caller_events d _ = (refl, refl)

caller_moves : (plan : Plan) (h : History) (line : Line) (d : DevId) → IsLawful plan (line ∷ h) → d.0 < length plan.devices
    → Moves why.Caller d line.event (device (world plan h).views d).share (device (world plan (line ∷ h)).views d).share
caller_moves plan h line d lawful within =
    let was = share_counted plan h d lawful.2 within in
    let now = share_counted plan (line ∷ h) d lawful within in
    let more_puts : puts is_callers (line ∷ h) d ≡ one (gives_back is_callers d line.event) + puts is_callers h d = sum_by-cons (λ (l : Line). cond (gives_back is_callers d l.event) 1 0) line h in
    let more_gets : gets is_callers (line ∷ h) d ≡ one (takes is_callers d line.event) + gets is_callers h d = sum_by-cons (λ (l : Line). cond (takes is_callers d l.event) 1 0) line h in
    let same = caller_events d line.event in
    let none = frees_none why.Caller line.event (device (world plan h).views d).share tt in
    omega (arith, ap one same.0, ap one same.1)

-- forbid
forbid_moves_by : (v : Views) (d : DevId) (e : Event) (was : Bool) → (device v d).auto_on ≡ was → ForbidIs v e
    → one (not (elim (says_auto d e) as (λ _. Bool) [ Some x ↦ x | None ↦ was ])) + one (gives_back (is_why why.Forbid) d e) ≡ one (not was) + one (takes (is_why why.Forbid) d e)
forbid_moves_by v d (event.Get x why.Forbid) was is on = go (is_same d x) refl
  where
    go : (b : Bool) → is_same d x ≡ b
        → one (not (elim (only_if b false) as (λ _. Bool) [ Some x ↦ x | None ↦ was ])) + 0 ≡ one (not was) + one (b && true)
    go true e = let allowed : was ≡ true = sym is ∙ ap (λ z. (device v z).auto_on) (same_device d x e) ∙ on in rw allowed refl
    go false e = refl
forbid_moves_by v d (event.Put x why.Forbid) was is off = go (is_same d x) refl
  where
    go : (b : Bool) → is_same d x ≡ b
        → one (not (elim (only_if b true) as (λ _. Bool) [ Some x ↦ x | None ↦ was ])) + one (b && true) ≡ one (not was) + 0
    go true e = let forbidden : was ≡ false = sym is ∙ ap (λ z. (device v z).auto_on) (same_device d x e) ∙ off in rw forbidden refl
    go false e = refl
forbid_moves_by v d (event.Get x _) was is none = omega (arith, one_and_false (is_same d x))
forbid_moves_by v d (event.Put x _) was is none = omega (arith, one_and_false (is_same d x))
forbid_moves_by v d _ was is none = refl

forbid_moves : (plan : Plan) (h : History) (line : Line) (d : DevId) → IsLawful plan (line ∷ h) → d.0 < length plan.devices → ForbidIs (world plan h).views line.event
    → Moves why.Forbid d line.event (one (not (device (world plan h).views d).auto_on)) (one (not (device (world plan (line ∷ h)).views d).auto_on))
forbid_moves plan h line d lawful within forbid =
    let was = auto_said plan h d lawful.2 within in
    let now = auto_said plan (line ∷ h) d lawful within in
    let none = frees_none why.Forbid line.event (one (not (device (world plan h).views d).auto_on)) tt in
    let moves = forbid_moves_by (world plan h).views d line.event (is_allowed h d) was forbid in
    omega (arith, ap (λ b. one (not b)) was, ap (λ b. one (not b)) now)

-- which links are held after an event
abbrev held_by : Plan → Event → List Bool → List Bool
held_by plan (event.Get s (why.Link c)) held = paired c s true plan.links held
held_by plan (event.Put s (why.Link c)) held = paired c s false plan.links held
held_by plan (event.State c word.ForcedSuspended) held = loosed c plan.links held
held_by plan _ held = held

got_held : (plan : Plan) (s : DevId) (w : Why) (v : Views) → (got plan s w v).held ≡ held_by plan (event.Get s w) v.held
unfolding set_held
got_held plan s (why.Link c) v = refl
got_held plan s _ v = refl

gave_held : (plan : Plan) (s : DevId) (w : Why) (v : Views) → (gave plan s w v).held ≡ held_by plan (event.Put s w) v.held
unfolding set_held
gave_held plan s (why.Link c) v = refl
gave_held plan s _ v = refl

word_held : (plan : Plan) (t : ℕ) (d : DevId) (w : Word) (v : Views) → (by_word plan t d w v).held ≡ held_by plan (event.State d w) v.held
unfolding frees_links
word_held plan t d word.ForcedSuspended v = refl
word_held plan t d _ v = refl

held_next : (plan : Plan) (t : ℕ) (e : Event) (v : Views) → (by_event plan t e v).held ≡ held_by plan e v.held
unfolding by_event
held_next plan t (event.Get d w) v = got_held plan d w _
held_next plan t (event.Put d w) v = gave_held plan d w _
held_next plan t (event.State d w) v = word_held plan t d w v
held_next plan t (event.Begin d cb.Idle) v = refl
held_next plan t (event.Begin d cb.Suspend) v = refl
held_next plan t (event.Begin d cb.Resume) v = refl
held_next plan t (event.End d cb.Idle c) v = refl
held_next plan t (event.End d cb.Suspend c) v = ended_held d c v
held_next plan t (event.End d cb.Resume c) v = held_core v _ (quiet_event plan t (event.End d cb.Resume c) v tt)
held_next plan t (event.Domain d is_up n) v = held_core v _ (quiet_event plan t (event.Domain d is_up n) v tt)
held_next plan t (event.Work d act) v = held_core v _ (quiet_event plan t (event.Work d act) v tt)
held_next plan t (event.Timer d act) v = held_core v _ (quiet_event plan t (event.Timer d act) v tt)
held_next plan t _ v = refl

link_moves : (plan : Plan) (v : Views) (c d : DevId) (e : Event) → LinkIs plan v e
    → Moves (why.Link c) d e (held_of c d.0 plan.links v.held) (held_of c d.0 plan.links (held_by plan e v.held))
link_moves plan v c d (event.Get s (why.Link x)) has = omega (arith, held_taken c x s d plan.links v.held (distinct_links plan) has)
link_moves plan v c d (event.Put s (why.Link x)) has = omega (arith, held_given c x s d plan.links v.held (distinct_links plan) has)
link_moves plan v c d (event.Get s _) has = omega (arith, one_and_false (is_same d s))
link_moves plan v c d (event.Put s _) has = omega (arith, one_and_false (is_same d s))
link_moves plan v c d (event.State x word.ForcedSuspended) has = go (is_same c x) refl
  where
    go : (b : Bool) → is_same c x ≡ b
        → held_of c d.0 plan.links (loosed x plan.links v.held) + (0 + (if b then held_of c d.0 plan.links v.held else 0)) ≡ held_of c d.0 plan.links v.held + 0
    go true e = omega (arith, held_loosed c x d.0 true e plan.links v.held)
    go false e = omega (arith, held_loosed c x d.0 false e plan.links v.held)
link_moves plan v c d _ has = omega arith

-- stages
stage_moves : (plan : Plan) (w : World) (line : Line) (p : Paid plan w line) (r : Why) (d : DevId) → Holds plan w → IsStages r → IsNoLink r
    → Books plan w.views p.stage line.event p.change p.next
    → Moves r d line.event (tally (claims plan r d) (places w)) (tally (claims plan r d) (places (after_line plan w line (row_at plan w line.actor line.time))))
stage_moves plan w line p r d holds is free books =
    let placed = is_placed plan w line.actor p.stage holds.entries holds.places p.stands in
    let was = with_top (claims plan r d) (claims_weigh plan r d) plan w line.actor p.stage placed p.stands in
    let now : tally (claims plan r d) (places (after_line plan w line (row_at plan w line.actor line.time))) ≡ weigh (claims plan r d) (shown p.next) + others (claims plan r d) w line.actor = ap (λ x. tally (claims plan r d) (places (after_line plan w line x))) p.leads ∙ ap (tally (claims plan r d)) (places_moved w _ _ line.actor _) ∙ with_next (claims plan r d) (claims_weigh plan r d) plan w line.actor p.stage p.next placed p.stands in
    let none = frees_none r line.event (tally (claims plan r d) (places w)) free in
    omega (arith, books.claimed r is d)

-- the counts of each reason after a line
pub moves : (plan : Plan) (h : History) (line : Line) (r : Why) (d : DevId) → IsLawful plan (line ∷ h) → d.0 < length plan.devices
    → Moves r d line.event (holding plan (world plan h) r d) (holding plan (world plan (line ∷ h)) r d)
moves plan h line r d lawful within = go r
  where
    holds : Holds plan (world plan h)
    holds = lawful_holds plan h lawful.2

    p : Paid plan (world plan h) line
    p = permitted plan h line lawful.0 holds

    leads : row plan (world plan h).views p.stage line.time ≡ Some (writes line.event p.change p.next)
    leads = ap (option_and_then (λ s. row plan (world plan h).views s line.time)) (sym p.stands) ∙ p.leads

    books : Books plan (world plan h).views p.stage line.event p.change p.next
    books = (row_books plan (world plan h).views line.time p.stage (writes line.event p.change p.next) leads).paid

    go : (r : Why) → Moves r d line.event (holding plan (world plan h) r d) (holding plan (world plan (line ∷ h)) r d)
    go why.Caller = caller_moves plan h line d lawful within
    go why.Forbid = forbid_moves plan h line d lawful within books.forbid
    go why.Delay =
        let now = ap (λ v. one (prevented_at v d)) (views_next plan (world plan h) line p) in
        let none = frees_none why.Delay line.event (one (prevented_at (world plan h).views d)) tt in
        omega (arith, delay_moves plan line.time line.event p.change (world plan h).views d (omega (arith, holds.entries.devices)) holds.entries books.delay)
    go (why.Link c) =
        let kept : (change_views plan line.time p.change (world plan h).views).held ≡ (world plan h).views.held = p.beside.untouched.held in
        let now = ap (λ v. let x : List Bool = v.held in x) (views_next plan (world plan h) line p) ∙ held_next plan line.time line.event (change_views plan line.time p.change (world plan h).views) ∙ ap (held_by plan line.event) kept in
        subst (λ x. Moves (why.Link c) d line.event (held_of c d.0 plan.links (world plan h).views.held) (held_of c d.0 plan.links x)) (sym now)
        (link_moves plan (world plan h).views c d line.event books.link)
    go why.Control = stage_moves plan (world plan h) line p why.Control d holds tt tt books
    go (why.Child c) = stage_moves plan (world plan h) line p (why.Child c) d holds tt tt books
