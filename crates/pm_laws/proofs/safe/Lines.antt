-- The kind of each line of a lawful list.
use Rattle.std.proofs.Common.{ℕ, ◌≡◌, ◌+◌, ◌<◌, ◌≤◌, Bool, true, false, List, ◌∷◌, Option, Some, None, drop, length, slice_get, slice_index_or, ap, refl, sym, ◌∙◌, subst, arith}
use Rattle.std.specs.List.{sum_by}
use Rattle.std.specs.Option.{unwrap_or, option_map_or}
use Rattle.std.proofs.lemmas.Bool.{ltb-true}
use Rattle.std.proofs.lemmas.Option.{slice_get_within}
use Rattle.pm_base.specs.declared.Cb.TheVariants as cb
use Rattle.pm_base.specs.declared.DevId.{DevId}
use Rattle.pm_base.specs.declared.Status.{Status}
use Rattle.pm_base.specs.declared.Status.TheVariants as status
use Rattle.pm_base.specs.declared.Why.TheVariants as why
use Rattle.pm_model.specs.declared.event.Event.{Event}
use Rattle.pm_model.specs.declared.event.Event.TheVariants as event
use Rattle.pm_model.specs.declared.event.Line.{Line}
use Rattle.pm_model.specs.declared.event.Word.{Word}
use Rattle.pm_model.specs.declared.event.Word.TheVariants as word
use Rattle.pm_model.specs.declared.plan.Plan.{Plan}
use Rattle.pm_model.specs.declared.rows.LinkRow.{LinkRow}
use Rattle.pm_model.specs.declared.stage.Await.TheVariants as await
use Rattle.pm_model.specs.declared.stage.ControlStage.TheVariants as control
use Rattle.pm_model.specs.declared.stage.ResumeStage.TheVariants as resume
use Rattle.pm_model.specs.declared.stage.Stage.{Stage}
use Rattle.pm_model.specs.declared.stage.Stage.TheVariants as stage
use Rattle.pm_model.specs.declared.stage.SuspendStage.TheVariants as suspend
use Rattle.pm_model.specs.ChangeViews.{change_views}
use Rattle.pm_model.specs.Counted.{is_same, only_if, says_status, says_held, is_held_pair, says_on, is_switched_on}
use Rattle.pm_model.specs.Events.{by_event}
use Rattle.pm_model.specs.Handing.{after_then}
use Rattle.pm_model.specs.History.{History}
use Rattle.pm_model.specs.Lawful.{IsLawful, last_time}
use Rattle.pm_model.specs.Row.{Row}
use Rattle.pm_model.specs.Views.{Views, device, is_held, is_on, is_present}
use Rattle.pm_model.specs.WellFormed.{device_of, is_in}
use Rattle.pm_model.specs.World.{World, row, place, with_place, counts_call, after_line, world}
use Rattle.pm_laws.specs.counts.Sums.{tally}
use Rattle.pm_laws.specs.counts.Owners.{places}
use Rattle.pm_laws.proofs.counts.Places.{IsPlaced, is_placed, tally_placed, then_keeps}
use Rattle.pm_laws.proofs.counts.Runs.{Holds, Paid, permitted, lawful_holds, places_moved, status_is}
use Rattle.pm_laws.proofs.counts.Said.{views_next, says_or, held_said, on_said}
use Rattle.pm_laws.specs.stacks.Fit.{IsFit}
use Rattle.pm_laws.proofs.stacks.Fitting.{stands_fit}
use Rattle.pm_laws.proofs.stacks.Stacks.{paid_row}
use Rattle.pm_laws.proofs.stacks.Standing.{stands, stands_sum}
use Rattle.pm_laws.specs.safe.Parts.{Phase, part, part_of, part_at, counts, at_part, Falls, Stays}
use Rattle.pm_laws.specs.safe.Kinds.{Kind, keeps, ends_suspend, fails_suspend, suspends, adds_link, drops_link, dev_of, old, new, says, holds, shows, is_silent, is_owners_word, EventIs, Guard}
use Rattle.pm_laws.specs.safe.LineKind.{HasKind}
use Rattle.pm_laws.proofs.safe.Frames.{start_light, parts_weigh, then_falls}
use Rattle.pm_laws.proofs.safe.OtherKinds.{idle_kind, helper_kind, control_kind}
use Rattle.pm_laws.proofs.safe.Presence.{change_present, event_present}
use Rattle.pm_laws.proofs.safe.ResumeKinds.{resume_kind}
use Rattle.pm_laws.proofs.safe.RowKinds.{RowKind, Owes}
use Rattle.pm_laws.proofs.safe.SuspendKinds.{Settled, suspend_kind}

same_row : (plan : Plan) (v : Views) (s : Stage) (x r : Row) → Some x ≡ Some r → Owes plan v s x → Owes plan v s r
same_row plan v s x r e o = let same : x ≡ r = cc in subst (Owes plan v s) same o

row_kind : (plan : Plan) (v : Views) (t : ℕ) (s : Stage) (r : Row) → Settled plan v → row plan v s t ≡ Some r → Owes plan v s r
row_kind plan v t (stage.Idle s) r settled e = same_row plan v _ _ r e (idle_kind plan v t s)
row_kind plan v t (stage.Suspend s) r settled e = same_row plan v _ _ r e (suspend_kind plan v t s settled)
row_kind plan v t (stage.Resume s) r settled e = same_row plan v _ _ r e (resume_kind plan v t s)
row_kind plan v t (stage.Helper s) r settled e = same_row plan v _ _ r e (helper_kind plan v t s)
row_kind plan v t (stage.Control s) r settled e = same_row plan v _ _ r e (control_kind plan v t s)
row_kind plan v t (stage.Await s) r settled e = cc

-- the status that a line says is that of its kind
silent_status : (e : Event) (c : DevId) → is_silent e ≡ true → says_status c e ≡ None
silent_status (event.State d w) c is = cc
silent_status (event.Begin d k) c is = cc
silent_status (event.End d cb.Suspend x) c is = cc
silent_status _ c is = refl

owners_word : (w : Word) (c d : DevId) → is_owners_word w ≡ true → says_status c (event.State d w) ≡ only_if (is_same c d) status.Suspended
owners_word word.Suspended c d is = refl
owners_word word.Deferred c d is = refl
owners_word _ c d is = cc

kind_says : (plan : Plan) (v : Views) (k : Kind) (e : Event) (c : DevId) → EventIs k e → Guard plan v k → says_status c e ≡ says k c
kind_says plan v (keeps d x) e c is g = silent_status e c is
kind_says plan v (adds_link d s) e c is g = silent_status e c is
kind_says plan v (drops_link d s) e c is g = silent_status e c is
kind_says plan v (ends_suspend d x) e c is g = rw (is, g) refl
kind_says plan v (fails_suspend d x) e c is g = rw (is, g) refl
kind_says plan v (suspends d w x) e c is g = rw is (owners_word w c d g.1)
kind_says plan v _ e c is g = rw is refl

-- and so is what it says of a link
silent_held : (e : Event) (c s : DevId) → is_silent e ≡ true → says_held c s e ≡ None
silent_held (event.Get d (why.Link x)) c s is = cc
silent_held (event.Put d (why.Link x)) c s is = cc
silent_held (event.State d w) c s is = cc
silent_held _ c s is = refl

owners_held : (w : Word) (c s d : DevId) → is_owners_word w ≡ true → says_held c s (event.State d w) ≡ None
owners_held word.Suspended c s d is = refl
owners_held word.Deferred c s d is = refl
owners_held _ c s d is = cc

kind_holds : (plan : Plan) (v : Views) (k : Kind) (e : Event) (c s : DevId) → EventIs k e → Guard plan v k → says_held c s e ≡ holds k c s
kind_holds plan v (keeps d x) e c s is g = silent_held e c s is
kind_holds plan v (adds_link d t) e c s is g = silent_held e c s is
kind_holds plan v (drops_link d t) e c s is g = silent_held e c s is
kind_holds plan v (suspends d w x) e c s is g = rw is (owners_held w c s d g.1)
kind_holds plan v _ e c s is g = rw is refl

-- the device of a stage's part is one of the plan's
in_plan : (n : ℕ) (e d : DevId) → e ≡ d → is_in n e ≡ true → d.0 < n
in_plan n e d same within = ltb-true d.0 n (ap (is_in n) (sym same) ∙ within)

part_within : (n : ℕ) (s : Stage) (d : DevId) (x : Phase) → part_of s ≡ part d x → option_map_or (is_in n) (device_of s) true ≡ true → d.0 < n
part_within n (stage.Suspend (suspend.Running e f since)) d x is within = let same : e ≡ d = cc in in_plan n e d same within
part_within n (stage.Suspend (suspend.Domain e f)) d x is within = let same : e ≡ d = cc in in_plan n e d same within
part_within n (stage.Suspend (suspend.Links e f)) d x is within = let same : e ≡ d = cc in in_plan n e d same within
part_within n (stage.Await (await.SuspendLinks e f)) d x is within = let same : e ≡ d = cc in in_plan n e d same within
part_within n (stage.Resume (resume.Links r)) d x is within = let same : r.dev ≡ d = cc in in_plan n r.dev d same within
part_within n (stage.Resume (resume.Supplied r c)) d x is within = let same : r.dev ≡ d = cc in in_plan n r.dev d same within
part_within n (stage.Resume (resume.Callback r)) d x is within = let same : r.dev ≡ d = cc in in_plan n r.dev d same within
part_within n (stage.Resume (resume.Running r since)) d x is within = let same : r.dev ≡ d = cc in in_plan n r.dev d same within
part_within n (stage.Resume (resume.Resumed r)) d x is within = let same : r.dev ≡ d = cc in in_plan n r.dev d same within
part_within n (stage.Resume (resume.Domain r c)) d x is within = let same : r.dev ≡ d = cc in in_plan n r.dev d same within
part_within n (stage.Resume (resume.Unwind r c)) d x is within = let same : r.dev ≡ d = cc in in_plan n r.dev d same within
part_within n (stage.Control (control.ActiveLinks e)) d x is within = let same : e ≡ d = cc in in_plan n e d same within
part_within n (stage.Control (control.ActiveUnwind e c)) d x is within = let same : e ≡ d = cc in in_plan n e d same within
part_within n (stage.Await (await.ResumeSupplier r link)) d x is within = let same : r.dev ≡ d = cc in in_plan n r.dev d same within
part_within n (stage.Await (await.ResumeUnwind r c)) d x is within = let same : r.dev ≡ d = cc in in_plan n r.dev d same within
part_within n (stage.Await (await.ActiveSupplier e link)) d x is within = let same : e ≡ d = cc in in_plan n e d same within
part_within n (stage.Await (await.ActiveUnwind e c)) d x is within = let same : e ≡ d = cc in in_plan n e d same within
part_within n _ d x is within = cc

pub line_kind : (plan : Plan) (h : History) (line : Line) → IsLawful plan (line ∷ h) → HasKind plan h line
line_kind plan h line lawful = record {
  kind = k.kind;
  event = k.is.event;
  guard = k.is.guard;
  within = λ x owner. part_within (length plan.devices) p.stage (dev_of k.kind) x (k.is.was ∙ ap (part_at (dev_of k.kind)) owner) fit.device;
  others = others;
  was = was;
  falls = falls;
  is = is;
  status = status_now;
  held = held_now;
  present = present_now;
  on = on_now;
}
  where
    w : World
    w = world plan h

    now : World
    now = world plan (line ∷ h)

    known : Holds plan w
    known = lawful_holds plan h lawful.2

    p : Paid plan w line
    p = permitted plan h line lawful.0 known

    k : RowKind plan w.views p.stage line.event p.change p.next
    k = (row_kind plan w.views line.time p.stage _ known.settled (paid_row plan w line p)).paid

    fit : IsFit plan w.views (last_time h) p.stage
    fit = stands_fit plan h line.actor p.stage lawful.2 p.stands

    below : List Stage
    below = drop 1 (place w line.actor)

    others : List (List Stage)
    others = places (with_place w line.actor below)

    placed : IsPlaced w line.actor
    placed = is_placed plan w line.actor p.stage known.entries known.places p.stands

    views_are : now.views ≡ by_event plan line.time line.event (change_views plan line.time p.change w.views)
    views_are = views_next plan w line p

    places_are : places now ≡ places (with_place w line.actor (after_then p.next below))
    places_are = ap (λ r. places (after_line plan w line r)) p.leads ∙ places_moved w _ (counts_call line.actor line.event w.called) line.actor (after_then p.next below)

    was : (test : Phase → Bool) (d : DevId) → tally (at_part test d) (places w) ≡ counts test d (old k.kind) + tally (at_part test d) others
    was test d =
        let f : (Stage → ℕ) = at_part test d in
        let whole = tally_placed f w line.actor below placed in
        let top = stands_sum f p.stage (place w line.actor) (start_light test d p.stage) (stands plan w line.actor p.stage p.stands) in
        let same : f p.stage ≡ counts test d (old k.kind) = ap (counts test d) k.is.was in omega arith

    moved : (f : Stage → ℕ) → tally f (places now) + sum_by f below ≡ tally f others + sum_by f (after_then p.next below)
    moved f =
        let before = tally_placed f w line.actor below placed in
        let after = tally_placed f w line.actor (after_then p.next below) placed in
        let same = ap (tally f) places_are in omega arith

    falls : (test : Phase → Bool) (d : DevId) → Falls test → tally (at_part test d) (places now) ≤ counts test d (new k.kind) + tally (at_part test d) others
    falls test d fall = omega (arith, moved (at_part test d), then_falls test d fall p.next below, k.is.leads test d)

    is : (test : Phase → Bool) (d : DevId) → Stays test → tally (at_part test d) (places now) ≡ counts test d (new k.kind) + tally (at_part test d) others
    is test d stays = omega (arith, moved (at_part test d), then_keeps (at_part test d) (parts_weigh test d stays) p.next below, k.is.leads test d)

    status_now : (d : DevId) → d.0 < length plan.devices → (device now.views d).status ≡ unwrap_or (says k.kind d) (device w.views d).status
    status_now d within =
        ap (λ v. let x : Status = (device v d).status in x) views_are
        ∙ status_is plan line.time line.event w.views (change_views plan line.time p.change w.views) d (omega (arith, within, p.beside.entries.devices)) (p.beside.still d)
        ∙ ap (λ s. unwrap_or s (device w.views d).status) (kind_says plan w.views k.kind line.event d k.is.event k.is.guard)

    held_now : (l : ℕ) (row : LinkRow) → slice_get plan.links l ≡ Some row → is_held now.views l ≡ unwrap_or (holds k.kind row.consumer row.supplier) (is_held w.views l)
    held_now l row at =
        let says : Option Bool = says_held row.consumer row.supplier line.event in
        held_said plan (line ∷ h) l row lawful at ∙ sym (says_or says (is_held_pair h row.consumer row.supplier))
        ∙ ap (unwrap_or says) (sym (held_said plan h l row lawful.2 at)) ∙ ap (λ o. unwrap_or o (is_held w.views l)) (kind_holds plan w.views k.kind line.event row.consumer row.supplier k.is.event k.is.guard)

    present_now : (l : ℕ) (row : LinkRow) → slice_get plan.links l ≡ Some row → is_present now.views l ≡ unwrap_or (shows k.kind row.consumer row.supplier) (is_present w.views l)
    present_now l row at =
        ap (λ (v : Views). is_present v l) views_are ∙ ap (λ (x : List Bool). slice_index_or x l false) (event_present plan line.time line.event _)
        ∙ change_present plan line.time k.kind p.change w.views l row k.is.change at (let within = slice_get_within plan.links l row at in omega (arith, known.entries.present))

    on_now : (o : ℕ) → o < length plan.domains → is_on now.views o ≡ unwrap_or (says_on plan w.views o line.event) (is_on w.views o)
    on_now o within =
        let says : Option Bool = says_on plan w.views o line.event in
        on_said plan (line ∷ h) o lawful within ∙ sym (says_or says (is_switched_on plan h o)) ∙ ap (unwrap_or says) (sym (on_said plan h o lawful.2 within))
