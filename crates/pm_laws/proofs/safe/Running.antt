-- The callbacks of owners run where their stages are open, after every lawful list of lines.
use Rattle.std.proofs.Common.{ℕ, ◌≡◌, ◌+◌, ◌<◌, Bool, true, false, ◌∷◌, [], Option, Some, None, length, ap, refl, sym, ◌∙◌, subst, arith}
use Rattle.std.specs.Option.{unwrap_or}
use Rattle.pm_base.specs.declared.Cb.{Cb}
use Rattle.pm_base.specs.declared.Cb.TheVariants as cb
use Rattle.pm_base.specs.declared.DevId.{DevId}
use Rattle.pm_model.specs.declared.event.Event.{Event}
use Rattle.pm_model.specs.declared.event.Event.TheVariants as event
use Rattle.pm_model.specs.declared.event.Line.{Line}
use Rattle.pm_model.specs.declared.plan.Plan.{Plan}
use Rattle.pm_model.specs.Counted.{is_same, only_if, says_runs, runs}
use Rattle.pm_model.specs.Derived.{is_moving}
use Rattle.pm_model.specs.History.{History}
use Rattle.pm_model.specs.Lawful.{IsLawful}
use Rattle.pm_model.specs.Views.{Views, device}
use Rattle.pm_model.specs.World.{world}
use Rattle.pm_laws.specs.counts.Sums.{one, tally}
use Rattle.pm_laws.specs.counts.Owners.{places}
use Rattle.pm_laws.proofs.counts.Runs.{lawful_holds, start_tally}
use Rattle.pm_laws.proofs.counts.Said.{says_or}
use Rattle.pm_laws.specs.safe.Kinds.{Kind, keeps, begins_suspend, ends_suspend, fails_suspend, lowers_domain, gives_link, suspends, begins_resume, begins_at_once, ends_resume, fails_resume, adds_link, drops_link, dev_of, from, to, old, new, is_silent, EventIs, lowers, may_give, lets_go, Guard}
use Rattle.pm_laws.specs.safe.LineKind.{HasKind}
use Rattle.pm_laws.specs.safe.Parts.{Phase, suspending, lowering, giving, resuming, failed, falling, counts, at_part, any_phase, passes, Stays}
use Rattle.pm_laws.proofs.safe.Lines.{line_kind}
use Rattle.pm_laws.proofs.safe.Owners.{one_most, some_parts}
use Rattle.pm_laws.proofs.safe.Steps.{differ, same_is, own_counts, other_counts, own_one, Owned, owned_at, alone, nobody}
use Rattle.pm_laws.specs.safe.Running.{is_owners, runs_in}

-- whether a line of this kind begins or ends the callback of its device
abbrev starts : Cb → Kind → Option Bool
starts cb.Suspend (begins_suspend d) = Some true
starts cb.Suspend (ends_suspend d c) = Some false
starts cb.Suspend (fails_suspend d c) = Some false
starts cb.Resume (begins_resume d) = Some true
starts cb.Resume (begins_at_once d) = Some true
starts cb.Resume (ends_resume d c) = Some false
starts cb.Resume (fails_resume d c) = Some false
starts _ _ = None

abbrev saying : Option Bool → Bool → Option Bool
saying None same = None
saying (Some b) same = only_if same b

-- so says its event
silent_suspend : (e : Event) (c : DevId) → is_silent e ≡ true → says_runs cb.Suspend c e ≡ None
silent_suspend (event.Begin d k) c is = cc
silent_suspend (event.End d cb.Idle x) c is = refl
silent_suspend (event.End d k x) c is = cc
silent_suspend _ c is = refl

silent_resume : (e : Event) (c : DevId) → is_silent e ≡ true → says_runs cb.Resume c e ≡ None
silent_resume (event.Begin d k) c is = cc
silent_resume (event.End d cb.Idle x) c is = refl
silent_resume (event.End d k x) c is = cc
silent_resume _ c is = refl

suspend_said : (k : Kind) (e : Event) (c : DevId) → EventIs k e → says_runs cb.Suspend c e ≡ saying (starts cb.Suspend k) (is_same c (dev_of k))
suspend_said (keeps d x) e c is = silent_suspend e c is
suspend_said (adds_link d s) e c is = silent_suspend e c is
suspend_said (drops_link d s) e c is = silent_suspend e c is
suspend_said _ e c is = rw is refl

resume_said : (k : Kind) (e : Event) (c : DevId) → EventIs k e → says_runs cb.Resume c e ≡ saying (starts cb.Resume k) (is_same c (dev_of k))
resume_said (keeps d x) e c is = silent_resume e c is
resume_said (adds_link d s) e c is = silent_resume e c is
resume_said (drops_link d s) e c is = silent_resume e c is
resume_said _ e c is = rw is refl

-- and so its device's part goes into the phase of the callback, or leaves it
abbrev RunsBy : Option Bool → ℕ → ℕ → Type 0
RunsBy (Some true) a b = (a ≡ 0) × (b ≡ 1)
RunsBy (Some false) a b = (a ≡ 1) × (b ≡ 0)
RunsBy None a b = b ≡ a

apart_suspend : (test : Phase → Bool) (x : Phase) → test suspending ≡ false → test x ≡ true → one (runs_in cb.Suspend x) ≡ 0
apart_suspend test suspending is e = differ e is
apart_suspend test _ is e = refl

apart_resume : (test : Phase → Bool) (x : Phase) → test resuming ≡ false → test x ≡ true → one (runs_in cb.Resume x) ≡ 0
apart_resume test resuming is e = differ e is
apart_resume test _ is e = refl

lowers_suspend : (x y : Phase) → lowers x y ≡ true → one (runs_in cb.Suspend y) ≡ one (runs_in cb.Suspend x)
lowers_suspend lowering giving e = refl
lowers_suspend failed falling e = refl
lowers_suspend _ _ e = cc

lowers_resume : (x y : Phase) → lowers x y ≡ true → one (runs_in cb.Resume y) ≡ one (runs_in cb.Resume x)
lowers_resume lowering giving e = refl
lowers_resume failed falling e = refl
lowers_resume _ _ e = cc

suspend_by : (plan : Plan) (v : Views) (k : Kind) → Guard plan v k → RunsBy (starts cb.Suspend k) (passes (runs_in cb.Suspend) (from k)) (passes (runs_in cb.Suspend) (to k))
suspend_by plan v (begins_suspend d) g = (refl, refl)
suspend_by plan v (ends_suspend d c) g = (refl, refl)
suspend_by plan v (fails_suspend d c) g = (refl, refl)
suspend_by plan v (lowers_domain d n x y) g = lowers_suspend x y g
suspend_by plan v (gives_link d s x y) g = apart_suspend lets_go y refl g.1 ∙ sym (apart_suspend may_give x refl g.0)
suspend_by plan v (suspends d w x) g = sym (apart_suspend may_give x refl g.2)
suspend_by plan v _ g = refl

resume_by : (plan : Plan) (v : Views) (k : Kind) → Guard plan v k → RunsBy (starts cb.Resume k) (passes (runs_in cb.Resume) (from k)) (passes (runs_in cb.Resume) (to k))
resume_by plan v (begins_resume d) g = (refl, refl)
resume_by plan v (begins_at_once d) g = (refl, refl)
resume_by plan v (ends_resume d c) g = (refl, refl)
resume_by plan v (fails_resume d c) g = (refl, refl)
resume_by plan v (lowers_domain d n x y) g = lowers_resume x y g
resume_by plan v (gives_link d s x y) g = apart_resume lets_go y refl g.1 ∙ sym (apart_resume may_give x refl g.0)
resume_by plan v (suspends d w x) g = sym (apart_resume may_give x refl g.2)
resume_by plan v _ g = refl

-- a number of stages that is 1 where a callback runs stays so, where none but the first begins it
counted : (o : Option Bool) (m r : Bool) (a b x : ℕ) → (m ≡ true → RunsBy o a b) → (m ≡ false → (a ≡ 0) × (b ≡ 0)) → (o ≡ Some true → m ≡ true → x ≡ 0)
    → a + x ≡ one r → b + x ≡ one (unwrap_or (saying o m) r)
counted None true r a b x own other lone e = omega (arith, own refl)
counted None false r a b x own other lone e = omega (arith, (other refl).0, (other refl).1)
counted (Some true) true r a b x own other lone e = omega (arith, (own refl).1, lone refl refl)
counted (Some false) true r a b x own other lone e = omega (arith, (own refl).0, (own refl).1, one_most r)
counted (Some s) false r a b x own other lone e = omega (arith, (other refl).0, (other refl).1)

-- nobody else carries out the transition in which a callback begins
lone : (plan : Plan) (h : History) (line : Line) (k : HasKind plan h line) (q : Cb) (d : DevId) → IsLawful plan (line ∷ h) → d.0 < length plan.devices
    → starts q k.kind ≡ Some true → is_same d (dev_of k.kind) ≡ true → tally (at_part (runs_in q) d) k.others ≡ 0
lone plan h line k q d lawful within begins m = go q k.kind k.guard begins m (owned_at plan h line k d (lawful_holds plan h lawful.2) within)
  where
    v : Views
    v = (world plan h).views

    x : Cb → ℕ
    x q = tally (at_part (runs_in q) d) k.others

    y : ℕ
    y = tally (at_part any_phase d) k.others

    Owns : Kind → Type 0
    Owns kind = Owned (device v d).status (counts any_phase d (old kind)) y

    go : (q : Cb) (kind : Kind) → Guard plan v kind → starts q kind ≡ Some true → is_same d (dev_of kind) ≡ true → Owns kind → x q ≡ 0
    go cb.Suspend (begins_suspend e) g b m own = nobody (device v d).status _ (x cb.Suspend) y (subst (λ c. is_moving v c ≡ false) (same_is d e m) g.stands) own (some_parts (runs_in cb.Suspend) d k.others)
    go cb.Resume (begins_resume e) g b m own = (alone (device v d).status _ (x cb.Resume) y (own_one (begins_resume e) d _ refl m) own (some_parts (runs_in cb.Resume) d k.others)).others
    go cb.Resume (begins_at_once e) g b m own = (alone (device v d).status _ (x cb.Resume) y (own_one (begins_at_once e) d _ refl m) own (some_parts (runs_in cb.Resume) d k.others)).others
    go _ _ g b m own = cc

run_line : (plan : Plan) (h : History) (line : Line) (d : DevId) (q : Cb) → IsLawful plan (line ∷ h) → d.0 < length plan.devices → is_owners q ≡ true
    → tally (at_part (runs_in q) d) (places (world plan h)) ≡ one (runs q d h) → tally (at_part (runs_in q) d) (places (world plan (line ∷ h))) ≡ one (runs q d (line ∷ h))
run_line plan h line d q lawful within owners before =
    k.is (runs_in q) d (even q)
    ∙ counted (starts q k.kind) (is_same d (dev_of k.kind)) (runs q d h) _ _ _ own (λ m. (other_counts (runs_in q) d (dev_of k.kind) (from k.kind) m, other_counts (runs_in q) d (dev_of k.kind) (to k.kind) m))
    (lone plan h line k q d lawful within) (sym (k.was (runs_in q) d) ∙ before)
    ∙ ap (λ o. one (unwrap_or o (runs q d h))) (sym (said q owners)) ∙ ap one (says_or (says_runs q d line.event) (runs q d h))
  where
    k : HasKind plan h line
    k = line_kind plan h line lawful

    even : (q : Cb) → Stays (runs_in q)
    even cb.Idle = record { refuses = refl; unsets = refl }
    even cb.Suspend = record { refuses = refl; unsets = refl }
    even cb.Resume = record { refuses = refl; unsets = refl }

    said : (q : Cb) → is_owners q ≡ true → says_runs q d line.event ≡ saying (starts q k.kind) (is_same d (dev_of k.kind))
    said cb.Idle o = cc
    said cb.Suspend o = suspend_said k.kind line.event d k.event
    said cb.Resume o = resume_said k.kind line.event d k.event

    by : (q : Cb) → is_owners q ≡ true → RunsBy (starts q k.kind) (passes (runs_in q) (from k.kind)) (passes (runs_in q) (to k.kind))
    by cb.Idle o = cc
    by cb.Suspend o = suspend_by plan (world plan h).views k.kind k.guard
    by cb.Resume o = resume_by plan (world plan h).views k.kind k.guard

    own : is_same d (dev_of k.kind) ≡ true → RunsBy (starts q k.kind) (counts (runs_in q) d (old k.kind)) (counts (runs_in q) d (new k.kind))
    own m = rw (own_counts (runs_in q) d (dev_of k.kind) (from k.kind) m, own_counts (runs_in q) d (dev_of k.kind) (to k.kind) m) (by q owners)

pub callbacks_run : (plan : Plan) (h : History) (d : DevId) (q : Cb) → IsLawful plan h → d.0 < length plan.devices → is_owners q ≡ true
    → tally (at_part (runs_in q) d) (places (world plan h)) ≡ one (runs q d h)
callbacks_run plan [] d q lawful within owners = start_tally plan (at_part (runs_in q) d)
callbacks_run plan (line ∷ h) d q lawful within owners = run_line plan h line d q lawful within owners (callbacks_run plan h d q lawful.2 within owners)
