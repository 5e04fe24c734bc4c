-- What the views are in words that name no stage, line by line.
use Rattle.std.proofs.Common.{ℕ, zero, suc, ◌≡◌, ◌+◌, ◌<◌, Bool, true, false, cond, List, [], ◌∷◌, Option, Some, None, length, map, nat_eq, slice_get, slice_index_or, ap, refl, ◌∙◌, arith}
use Rattle.std.specs.List.{enumerate_from}
use Rattle.std.specs.Option.{unwrap_or}
use Rattle.std.proofs.lemmas.List.Sums.{sum_by-cons}
use Rattle.std.proofs.lemmas.Option.{slice_get_within}
use Rattle.pm_base.specs.declared.Cb.TheVariants as cb
use Rattle.pm_base.specs.declared.DevId.{DevId}
use Rattle.pm_base.specs.declared.Status.{Status}
use Rattle.pm_model.specs.declared.event.Event.{Event}
use Rattle.pm_model.specs.declared.event.Line.{Line}
use Rattle.pm_model.specs.declared.plan.Plan.{Plan}
use Rattle.pm_model.specs.declared.rows.DeviceRow.{DeviceRow}
use Rattle.pm_model.specs.declared.rows.DomainRow.{DomainRow}
use Rattle.pm_model.specs.declared.rows.LinkRow.{LinkRow}
use Rattle.pm_model.specs.ChangeViews.{change_views}
use Rattle.pm_model.specs.Counted.{gives_back, takes, frees, gets, puts, freed, says_status, status_of, says_error, error_of, says_auto, is_allowed, says_runs, runs, says_held, is_held_pair, is_callers, says_on, is_switched_on}
use Rattle.pm_model.specs.Events.{by_event}
use Rattle.pm_model.specs.History.{last_said, of_event}
use Rattle.pm_model.specs.Lawful.{IsLawful}
use Rattle.pm_model.specs.PlanRows.{is_kept_on}
use Rattle.pm_model.specs.Views.{Views, fresh_device, device, is_held, is_on}
use Rattle.pm_model.specs.World.{World, after_line, row_at, world}
use Rattle.pm_laws.specs.counts.Sums.{one}
use Rattle.pm_laws.specs.counts.Counts.{holds}
use Rattle.pm_laws.proofs.counts.Asides.{error_after, auto_after, idle_after}
use Rattle.pm_laws.proofs.counts.Runs.{Paid, permitted, lawful_holds, others, held_top, views_after, status_is, start_status, start_usage}
use Rattle.pm_laws.proofs.counts.Seen.{Aside, aside_of}
use Rattle.pm_laws.proofs.counts.Shares.{share_after}
use Rattle.pm_laws.proofs.counts.Switches.{held_after, on_after}

-- the views after a permitted line
pub views_next : (plan : Plan) (w : World) (line : Line) (p : Paid plan w line)
    → (after_line plan w line (row_at plan w line.actor line.time)).views ≡ by_event plan line.time line.event (change_views plan line.time p.change w.views)
views_next plan w line p = ap (λ r. let x : World = after_line plan w line r in x.views) p.leads ∙ views_after plan w line p.change p.next

pub says_or : {A : Type 0} (o : Option A) (s : A) → unwrap_or o s ≡ (elim o as (λ _. A) [ Some x ↦ x | None ↦ s ])
says_or (Some x) s = refl
says_or None s = refl

-- the status is what the last line that says anything of it says
pub status_said : (plan : Plan) (h : List Line) (d : DevId) → IsLawful plan h → d.0 < length plan.devices
    → (device (world plan h).views d).status ≡ status_of h d
status_said plan [] d lawful within = start_status plan.devices d.0
status_said plan (line ∷ h) d lawful within =
    let w = world plan h in
    let p = permitted plan h line lawful.0 (lawful_holds plan h lawful.2) in
    let now = ap (λ v. let x : Status = (device v d).status in x) (views_next plan w line p) in
    let turned = status_is plan line.time line.event w.views (change_views plan line.time p.change w.views) d (omega (arith, p.beside.entries.devices)) (p.beside.still d) in
    now ∙ turned ∙ ap (unwrap_or (says_status d line.event)) (status_said plan h d lawful.2 within) ∙ says_or (says_status d line.event) (status_of h d)

-- the usage and what was given back are what was taken
pub usage_counted : (plan : Plan) (h : List Line) (d : DevId) → IsLawful plan h → d.0 < length plan.devices
    → (device (world plan h).views d).usage + (puts (λ w. true) h d + freed plan h d) ≡ gets (λ w. true) h d
usage_counted plan [] d lawful within = omega (arith, (start_usage plan.devices d.0).0)
usage_counted plan (line ∷ h) d lawful within =
    let w = world plan h in
    let before = lawful_holds plan h lawful.2 in
    let p = permitted plan h line lawful.0 before in
    let now : (device (world plan (line ∷ h)).views d).usage ≡ (device (by_event plan line.time line.event (change_views plan line.time p.change w.views)) d).usage = ap (λ v. let x : ℕ = (device v d).usage in x) (views_next plan w line p) in
    let moves = p.keeps.counting.moves d (others (holds plan d) w line.actor) within (held_top plan w line.actor p.stage d before p.stands within) in
    let was = usage_counted plan h d lawful.2 within in
    let more_puts : puts (λ w. true) (line ∷ h) d ≡ one (gives_back (λ w. true) d line.event) + puts (λ w. true) h d = sum_by-cons (λ (l : Line). cond (gives_back (λ w. true) d l.event) 1 0) line h in
    let more_gets : gets (λ w. true) (line ∷ h) d ≡ one (takes (λ w. true) d line.event) + gets (λ w. true) h d = sum_by-cons (λ (l : Line). cond (takes (λ w. true) d l.event) 1 0) line h in
    let more_freed : freed plan (line ∷ h) d ≡ frees plan w.views d line.event + freed plan h d = refl in
    omega arith

-- before any line
start_aside : (l : List DeviceRow) (i : ℕ)
    → aside_of (slice_index_or (map (λ row. record fresh_device { ignores = row.ignore_children }) l) i fresh_device) ≡ aside_of fresh_device
start_aside [] i = refl
start_aside (x ∷ l) zero = refl
start_aside (x ∷ l) (suc i) = start_aside l i

-- what an event says of a part of the entries is what they are after it, or they are what they were
abbrev IsSaid : {A : Type 0} → (Aside → A) → (DevId → Event → Option A) → Type 0
IsSaid f says = (plan : Plan) (t : ℕ) (e : Event) (v : Views) (d : DevId) → d.0 < length v.devices → f (aside_of (device (by_event plan t e v) d)) ≡ unwrap_or (says d e) (f (aside_of (device v d)))

-- a part is what the last line that says anything of it says
aside_said : {A : Type 0} (f : Aside → A) (says : DevId → Event → Option A) → IsSaid f says → (plan : Plan) (h : List Line) (d : DevId) → IsLawful plan h
    → d.0 < length plan.devices → f (aside_of (device (world plan h).views d)) ≡ last_said (of_event (says d)) (f (aside_of fresh_device)) h
aside_said f says after plan [] d lawful within = ap f (start_aside plan.devices d.0)
aside_said {A} f says after plan (line ∷ h) d lawful within =
    let w = world plan h in
    let p = permitted plan h line lawful.0 (lawful_holds plan h lawful.2) in
    let now = ap (λ v. let x : A = f (aside_of (device v d)) in x) (views_next plan w line p) in
    let turned = after plan line.time line.event (change_views plan line.time p.change w.views) d (omega (arith, p.beside.entries.devices)) in
    let was = ap f (p.beside.untouched.asides d) ∙ aside_said f says after plan h d lawful.2 within in
    now ∙ turned ∙ ap (unwrap_or (says d line.event)) was ∙ says_or (says d line.event) (last_said (of_event (says d)) (f (aside_of fresh_device)) h)

pub error_said : (plan : Plan) (h : List Line) (d : DevId) → IsLawful plan h → d.0 < length plan.devices
    → (device (world plan h).views d).error ≡ error_of h d
error_said = aside_said (λ (a : Aside). a.error) says_error error_after

pub auto_said : (plan : Plan) (h : List Line) (d : DevId) → IsLawful plan h → d.0 < length plan.devices
    → (device (world plan h).views d).auto_on ≡ is_allowed h d
auto_said = aside_said (λ (a : Aside). a.auto_on) says_auto auto_after

pub idle_said : (plan : Plan) (h : List Line) (d : DevId) → IsLawful plan h → d.0 < length plan.devices
    → (device (world plan h).views d).idle_running ≡ runs cb.Idle d h
idle_said = aside_said (λ (a : Aside). a.idle_running) (says_runs cb.Idle) idle_after

pub start_held : (l : List LinkRow) (i : ℕ) → slice_index_or (map (λ row. false) l) i false ≡ false
start_held [] i = refl
start_held (x ∷ l) zero = refl
start_held (x ∷ l) (suc i) = start_held l i

-- a link is held as the last line that says anything of its pair says
pub held_said : (plan : Plan) (h : List Line) (l : ℕ) (row : LinkRow) → IsLawful plan h → slice_get plan.links l ≡ Some row
    → is_held (world plan h).views l ≡ is_held_pair h row.consumer row.supplier
held_said plan [] l row lawful is = start_held plan.links l
held_said plan (line ∷ h) l row lawful is =
    let w = world plan h in
    let p = permitted plan h line lawful.0 (lawful_holds plan h lawful.2) in
    let says : Option Bool = says_held row.consumer row.supplier line.event in
    let now = ap (λ v. is_held v l) (views_next plan w line p) in
    let here = slice_get_within plan.links l row is in
    let turned = held_after plan line.time line.event (change_views plan line.time p.change w.views) l row (record { row_is = is; within = omega (arith, p.beside.entries.held) }) in
    let was : is_held (change_views plan line.time p.change w.views) l ≡ is_held_pair h row.consumer row.supplier = ap (λ (x : List Bool). slice_index_or x l false) p.beside.untouched.held ∙ held_said plan h l row lawful.2 is in
    now ∙ turned ∙ ap (unwrap_or says) was ∙ says_or says (is_held_pair h row.consumer row.supplier)

-- a caller's share is what callers took and didn't give back
pub share_counted : (plan : Plan) (h : List Line) (d : DevId) → IsLawful plan h → d.0 < length plan.devices
    → (device (world plan h).views d).share + puts is_callers h d ≡ gets is_callers h d
share_counted plan [] d lawful within = omega (arith, ap (λ (a : Aside). a.share) (start_aside plan.devices d.0))
share_counted plan (line ∷ h) d lawful within =
    let w = world plan h in
    let p = permitted plan h line lawful.0 (lawful_holds plan h lawful.2) in
    let same : (device (change_views plan line.time p.change w.views) d).share ≡ (device w.views d).share = ap (λ (a : Aside). a.share) (p.beside.untouched.asides d) in
    let now : (device (world plan (line ∷ h)).views d).share ≡ (device (by_event plan line.time line.event (change_views plan line.time p.change w.views)) d).share = ap (λ v. let x : ℕ = (device v d).share in x) (views_next plan w line p) in
    let moves = share_after plan line.time line.event (change_views plan line.time p.change w.views) d (omega (arith, p.beside.entries.devices)) (λ g. ap (λ n. nat_eq n 0) same ∙ p.keeps.spends d g) in
    let was = share_counted plan h d lawful.2 within in
    let more_puts : puts is_callers (line ∷ h) d ≡ one (gives_back is_callers d line.event) + puts is_callers h d = sum_by-cons (λ (l : Line). cond (gives_back is_callers d l.event) 1 0) line h in
    let more_gets : gets is_callers (line ∷ h) d ≡ one (takes is_callers d line.event) + gets is_callers h d = sum_by-cons (λ (l : Line). cond (takes is_callers d l.event) 1 0) line h in
    omega arith

-- before any line a domain is on where the plan keeps it on
pub start_switched : (f : ℕ → Bool) (l : List DomainRow) (i o : ℕ) → o < length l
    → slice_index_or (map (λ p. f p.0) (enumerate_from i l)) o false ≡ f (i + o)
start_switched f [] i o within = absurd (omega arith)
start_switched f (x ∷ l) i zero within = ap f (omega arith)
start_switched f (x ∷ l) i (suc o) within = start_switched f l (i + 1) o (omega arith) ∙ ap f (omega arith)

-- a domain is on as the last line that switches it says
pub on_said : (plan : Plan) (h : List Line) (o : ℕ) → IsLawful plan h → o < length plan.domains
    → is_on (world plan h).views o ≡ is_switched_on plan h o
on_said plan [] o lawful within = start_switched (is_kept_on plan.domains) plan.domains 0 o within ∙ ap (is_kept_on plan.domains) (omega arith)
on_said plan (line ∷ h) o lawful within =
    let w = world plan h in
    let p = permitted plan h line lawful.0 (lawful_holds plan h lawful.2) in
    let says : Option Bool = says_on plan w.views o line.event in
    let now = ap (λ v. is_on v o) (views_next plan w line p) in
    let turned = on_after plan line.time line.event (change_views plan line.time p.change w.views) o (omega (arith, p.beside.entries.on)) in
    let looks = ap (λ s. unwrap_or s (is_on (change_views plan line.time p.change w.views) o)) (p.keeps.switching o) in
    let was : is_on (change_views plan line.time p.change w.views) o ≡ is_switched_on plan h o = ap (λ (x : List Bool). slice_index_or x o false) p.beside.untouched.domains ∙ on_said plan h o lawful.2 within in
    now ∙ turned ∙ looks ∙ ap (unwrap_or says) was ∙ says_or says (is_switched_on plan h o)
