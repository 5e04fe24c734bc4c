-- A negative delay's count rises and falls with the setting of autosuspend.
use Rattle.std.proofs.Common.{ℕ, ◌≡◌, ◌+◌, ◌<◌, Bool, true, false, not, ◌&&◌, ℤ, pos, length, if◌then◌else◌, ap, refl, ◌∙◌, arith}
use Rattle.std.specs.Ordering.{int_eq}
use Rattle.pm_base.specs.declared.Cb.{Cb}
use Rattle.pm_base.specs.declared.Cb.TheVariants as cb
use Rattle.pm_base.specs.declared.DevId.{DevId}
use Rattle.pm_base.specs.declared.Status.TheVariants as status
use Rattle.pm_base.specs.declared.Why.{Why}
use Rattle.pm_base.specs.declared.Why.TheVariants as why
use Rattle.pm_model.specs.declared.event.Event.{Event}
use Rattle.pm_model.specs.declared.event.Event.TheVariants as event
use Rattle.pm_model.specs.declared.event.Word.{Word}
use Rattle.pm_model.specs.declared.event.Word.TheVariants as word
use Rattle.pm_model.specs.declared.plan.Plan.{Plan}
use Rattle.pm_model.specs.declared.stage.Change.{Change}
use Rattle.pm_model.specs.declared.stage.Change.TheVariants as change
use Rattle.pm_model.specs.declared.views.Device.{Device}
use Rattle.pm_model.specs.ChangeViews.{change_views}
use Rattle.pm_model.specs.Changes.{set_held}
use Rattle.pm_model.specs.Counted.{gives_back, is_same, takes}
use Rattle.pm_model.specs.Derived.{prevented}
use Rattle.pm_model.specs.Events.{by_begin, by_end, by_event, by_word, gave, got, is_try_again, set_status}
use Rattle.pm_model.specs.Views.{Views, device}
use Rattle.pm_laws.specs.counts.Sums.{one}
use Rattle.pm_laws.specs.counts.Counts.{told}
use Rattle.pm_laws.specs.counts.Sizes.{HasEntries}
use Rattle.pm_laws.proofs.counts.Asides.{domain_kept, timer_kept, work_kept}
use Rattle.pm_laws.proofs.counts.Links.{one_and_false}
use Rattle.pm_laws.proofs.counts.Named.{IsCalm, change_calm}
use Rattle.pm_laws.proofs.counts.Seen.{Account, Aside, account_seen, untouched_seen}
use Rattle.pm_laws.proofs.counts.Turns.{entry_is, entry_kept, freed_kept}
use Rattle.pm_why.specs.OpenGets.{is_why}
use Rattle.pm_why.proofs.Claims.{DelayIs, Turns}
use Rattle.pm_why.proofs.Counts.{same_device}

-- whether the setting of a device prevents suspends
abbrev prevents : Device → Bool
prevents x = prevented x.use_auto x.delay

abbrev pub prevented_at : Views → DevId → Bool
prevented_at v d = prevented (device v d).use_auto (device v d).delay

got_prevents : (plan : Plan) (e d : DevId) (w : Why) (v : Views) → prevents (device (got plan e w v) d) ≡ prevents (device v d)
unfolding set_held
got_prevents plan e d why.Caller v = entry_kept prevents v e d _ refl
got_prevents plan e d why.Forbid v = entry_kept prevents v e d _ refl
got_prevents plan e d (why.Link c) v = refl
got_prevents plan e d _ v = refl

gave_prevents : (plan : Plan) (e d : DevId) (w : Why) (v : Views) → prevents (device (gave plan e w v) d) ≡ prevents (device v d)
unfolding set_held
gave_prevents plan e d why.Caller v = entry_kept prevents v e d _ refl
gave_prevents plan e d why.Forbid v = entry_kept prevents v e d _ refl
gave_prevents plan e d (why.Link c) v = refl
gave_prevents plan e d _ v = refl

word_prevents : (plan : Plan) (t : ℕ) (e d : DevId) (w : Word) (v : Views) → prevents (device (by_word plan t e w v) d) ≡ prevents (device v d)
word_prevents plan t e d word.Active v = entry_kept prevents (set_status status.Active e v) e d _ refl ∙ entry_kept prevents v e d _ refl
word_prevents plan t e d word.Resuming v = entry_kept prevents v e d _ refl
word_prevents plan t e d word.Suspended v = entry_kept prevents v e d _ refl
word_prevents plan t e d word.Deferred v = entry_kept prevents v e d _ refl
word_prevents plan t e d word.ForcedActive v = entry_kept prevents (set_status status.Active e v) e d _ refl ∙ entry_kept prevents v e d _ refl
word_prevents plan t e d word.ForcedSuspended v =
    freed_kept prevents (λ _ _. refl) plan e d _ ∙ entry_kept prevents (set_status status.Suspended e v) e d _ refl ∙ entry_kept prevents v e d _ refl

either_prevents : (b : Bool) (x y v : Views) (d : DevId) → prevents (device x d) ≡ prevents (device v d) → prevents (device y d) ≡ prevents (device v d)
    → prevents (device (if b then x else y) d) ≡ prevents (device v d)
either_prevents true x y v d p q = p
either_prevents false x y v d p q = q

end_prevents : (e d : DevId) (k : Cb) (c : ℤ) (v : Views) → prevents (device (by_end e k c v) d) ≡ prevents (device v d)
end_prevents e d cb.Idle c v = entry_kept prevents v e d _ refl
end_prevents e d cb.Suspend c v =
    either_prevents (int_eq c (pos 0)) v _ v d refl
    (either_prevents (is_try_again c) _ _ v d (entry_kept prevents v e d _ refl) (entry_kept prevents (set_status status.Active e v) e d _ refl ∙ entry_kept prevents v e d _ refl))
end_prevents e d cb.Resume c v = either_prevents (int_eq c (pos 0)) v _ v d refl (entry_kept prevents v e d _ refl)

begin_prevents : (e d : DevId) (k : Cb) (v : Views) → prevents (device (by_begin e k v) d) ≡ prevents (device v d)
begin_prevents e d cb.Idle v = entry_kept prevents v e d _ refl
begin_prevents e d cb.Suspend v = entry_kept prevents v e d _ refl
begin_prevents e d cb.Resume v = entry_kept prevents v e d _ refl

-- no event changes a setting
event_prevents : (plan : Plan) (t : ℕ) (e : Event) (v : Views) (d : DevId) → prevented_at (by_event plan t e v) d ≡ prevented_at v d
unfolding by_event
event_prevents plan t (event.Get x w) v d = got_prevents plan x d w _ ∙ entry_kept prevents v x d _ refl
event_prevents plan t (event.Put x w) v d = gave_prevents plan x d w _ ∙ entry_kept prevents v x d _ refl
event_prevents plan t (event.State x w) v d = word_prevents plan t x d w v
event_prevents plan t (event.Begin x k) v d = begin_prevents x d k v
event_prevents plan t (event.End x k c) v d = end_prevents x d k c v
event_prevents plan t (event.Domain x is_up n) v d = domain_kept prevents plan x d is_up v
event_prevents plan t (event.Work x act) v d = work_kept prevents x d act v
event_prevents plan t (event.Timer x act) v d = timer_kept prevents x d act v
event_prevents plan t _ v d = refl

-- nor does a change that isn't one of a setting, or whose setting prevents as the old one did
calm_prevents : (plan : Plan) (t : ℕ) (c : Change) (v : Views) (d : DevId) → HasEntries plan v → IsCalm v c
    → one (prevented_at (change_views plan t c v) d) ≡ one (prevented_at v d)
calm_prevents plan t c v d entries calm =
    let after : Views = change_views plan t c v in
    let seen_same = change_calm plan t c v entries calm in
    let all : told (device after d) ≡ told (device v d) = ap (λ (a : Account). a.told) (account_seen v after d seen_same) in
    let aside = (untouched_seen v after seen_same).asides d in
    let shares : (device after d).share ≡ (device v d).share = ap (λ (a : Aside). a.share) aside in
    let forbids : one (not (device after d).auto_on) ≡ one (not (device v d).auto_on) = ap (λ (a : Aside). one (not a.auto_on)) aside in
    omega arith

-- where it turns, it does at its device
turned_at : (plan : Plan) (t : ℕ) (v : Views) (x d : DevId) (was is : Bool) (c : Change) → d.0 < length v.devices → Turns v x was is c
    → (prevented_at (change_views plan t c v) d ≡ (if is_same d x then is else prevented_at v d)) × (prevented_at v x ≡ was)
turned_at plan t v x d was is (change.Set e u n) within turns = (now, turns.1)
  where
    at_entry : (b : Bool) (y z : Device) → prevents (if b then y else z) ≡ (if b then prevents y else prevents z)
    at_entry true y z = refl
    at_entry false y z = refl

    now : prevented_at (change_views plan t (change.Set e u n) v) d ≡ (if is_same d x then is else prevented_at v d)
    now =
        ap prevents (entry_is v e d (record (device v e) { use_auto = u; delay = n }) within)
        ∙ at_entry (is_same d e) (record (device v e) { use_auto = u; delay = n }) (device v d)
        ∙ ap (λ z. if is_same d e then z else prevented_at v d) turns.2
        ∙ ap (λ z. if is_same d z then is else prevented_at v d) turns.0
turned_at plan t v x d was is _ within turns = elim turns [ ]

-- the count after a line
pub delay_moves : (plan : Plan) (t : ℕ) (e : Event) (c : Change) (v : Views) (d : DevId) → d.0 < length v.devices → HasEntries plan v → DelayIs v e c
    → one (prevented_at (by_event plan t e (change_views plan t c v)) d) + one (gives_back (is_why why.Delay) d e) ≡ one (prevented_at v d) + one (takes (is_why why.Delay) d e)
delay_moves plan t e c v d within entries delay =
    let now : one (prevented_at (by_event plan t e (change_views plan t c v)) d) ≡ one (prevented_at (change_views plan t c v) d) = ap one (event_prevents plan t e (change_views plan t c v) d) in
    omega (arith, beside e delay)
  where
    taken : (x : DevId) (b : Bool) → is_same d x ≡ b → Turns v x false true c → one (prevented_at (change_views plan t c v) d) + 0 ≡ one (prevented_at v d) + one (b && true)
    taken x true e turns = let it = turned_at plan t v x d false true c within turns in rw (it.0, e, ap (λ z. prevented_at v z) (same_device d x e), it.1) refl
    taken x false e turns = let it = turned_at plan t v x d false true c within turns in rw (it.0, e) refl

    given : (x : DevId) (b : Bool) → is_same d x ≡ b → Turns v x true false c → one (prevented_at (change_views plan t c v) d) + one (b && true) ≡ one (prevented_at v d) + 0
    given x true e turns = let it = turned_at plan t v x d true false c within turns in rw (it.0, e, ap (λ z. prevented_at v z) (same_device d x e), it.1) refl
    given x false e turns = let it = turned_at plan t v x d true false c within turns in rw (it.0, e) refl

    beside : (e : Event) → DelayIs v e c
        → one (prevented_at (change_views plan t c v) d) + one (gives_back (is_why why.Delay) d e) ≡ one (prevented_at v d) + one (takes (is_why why.Delay) d e)
    beside (event.Get x why.Delay) turns = taken x (is_same d x) refl turns
    beside (event.Put x why.Delay) turns = given x (is_same d x) refl turns
    beside (event.Get x _) calm = omega (arith, calm_prevents plan t c v d entries calm, one_and_false (is_same d x))
    beside (event.Put x _) calm = omega (arith, calm_prevents plan t c v d entries calm, one_and_false (is_same d x))
    beside _ calm = omega (arith, calm_prevents plan t c v d entries calm)
