-- What a line's event makes of callers' shares.
use Rattle.std.proofs.Common.{ℕ, zero, suc, ◌≡◌, ◌+◌, ◌-◌, ◌<◌, true, false, ◌&&◌, length, nat_eq, ap, refl, sym, ◌∙◌, arith}
use Rattle.std.proofs.lemmas.Bool.{false≢true}
use Rattle.pm_base.specs.declared.Cb.TheVariants as cb
use Rattle.pm_base.specs.declared.DevId.{DevId}
use Rattle.pm_base.specs.declared.Why.{Why}
use Rattle.pm_base.specs.declared.Why.TheVariants as why
use Rattle.pm_model.specs.declared.event.Event.{Event}
use Rattle.pm_model.specs.declared.event.Event.TheVariants as event
use Rattle.pm_model.specs.declared.plan.Plan.{Plan}
use Rattle.pm_model.specs.declared.views.Device.{Device}
use Rattle.pm_model.specs.Changes.{set_held}
use Rattle.pm_model.specs.Counted.{is_same, is_callers, takes, gives_back}
use Rattle.pm_model.specs.Events.{by_event, got, gave, set_usage}
use Rattle.pm_model.specs.Views.{Views, device}
use Rattle.pm_laws.specs.counts.Sums.{one}
use Rattle.pm_laws.proofs.counts.Asides.{Marks, word_marks, suspended_marks, resumed_marks, domain_kept, work_kept, timer_kept}
use Rattle.pm_laws.proofs.counts.Givings.{raised, lowered, at_self, counts_true}
use Rattle.pm_laws.proofs.counts.Links.{one_and_false}
use Rattle.pm_laws.proofs.counts.Turns.{within_set, entry_kept}

abbrev share_of : Device → ℕ
share_of x = x.share

got_share : (plan : Plan) (e d : DevId) (w : Why) (v : Views) → d.0 < length v.devices
    → share_of (device (got plan e w v) d) ≡ share_of (device v d) + one (is_same d e && is_callers w)
unfolding set_held
got_share plan e d why.Caller v within =
    omega (arith, raised share_of v e d (record (device v e) { share = (device v e).share + 1 }) within (λ _. refl), counts_true (is_same d e))
got_share plan e d why.Forbid v within = omega (arith, entry_kept share_of v e d (record (device v e) { auto_on = false }) refl, one_and_false (is_same d e))
got_share plan e d (why.Link c) v within = omega (arith, one_and_false (is_same d e))
got_share plan e d _ v within = omega (arith, one_and_false (is_same d e))

one_less : (n : ℕ) → nat_eq n 0 ≡ false → n - 1 + 1 ≡ n
one_less zero e = absurd (false≢true (sym e))
one_less (suc n) e = omega arith

-- a caller's put spends a share
gave_share : (plan : Plan) (e d : DevId) (w : Why) (v : Views) → d.0 < length v.devices
    → (is_same d e && is_callers w ≡ true → nat_eq (share_of (device v d)) 0 ≡ false)
    → share_of (device (gave plan e w v) d) + one (is_same d e && is_callers w) ≡ share_of (device v d)
unfolding set_held
gave_share plan e d why.Caller v within spends =
    let low : is_same d e ≡ true → share_of (device v e) - 1 + 1 ≡ share_of (device v e) = λ b. one_less _ (ap (λ n. nat_eq n 0) (at_self share_of v d e b) ∙ spends (rw b refl)) in
    omega (arith, lowered share_of v e d (record (device v e) { share = (device v e).share - 1 }) within low, counts_true (is_same d e))
gave_share plan e d why.Forbid v within spends =
    omega (arith, entry_kept share_of v e d (record (device v e) { auto_on = true }) refl, one_and_false (is_same d e))
gave_share plan e d (why.Link c) v within spends = omega (arith, one_and_false (is_same d e))
gave_share plan e d _ v within spends = omega (arith, one_and_false (is_same d e))

unshared : (x y : ℕ) → x ≡ y → x + 0 ≡ y + 0
unshared x y e = omega arith

-- the shares rise by the callers' gets and fall by their puts
pub share_after : (plan : Plan) (t : ℕ) (e : Event) (v : Views) (d : DevId) → d.0 < length v.devices
    → (gives_back is_callers d e ≡ true → nat_eq (device v d).share 0 ≡ false)
    → (device (by_event plan t e v) d).share + one (gives_back is_callers d e) ≡ (device v d).share + one (takes is_callers d e)
unfolding by_event
share_after plan t (event.Get x w) v d within spends =
    omega (arith, got_share plan x d w (set_usage ((device v x).usage + 1) x v) (within_set v x d _ within), entry_kept share_of v x d (record (device v x) { usage = (device v x).usage + 1 }) refl)
share_after plan t (event.Put x w) v d within spends =
    let kept : share_of (device (set_usage ((device v x).usage - 1) x v) d) ≡ share_of (device v d) = entry_kept share_of v x d (record (device v x) { usage = (device v x).usage - 1 }) refl in
    omega (arith, gave_share plan x d w (set_usage ((device v x).usage - 1) x v) (within_set v x d _ within) (λ g. ap (λ n. nat_eq n 0) kept ∙ spends g))
share_after plan t (event.State x w) v d within spends = unshared _ _ (ap (λ (m : Marks). m.share) (word_marks plan t x d w v))
share_after plan t (event.Begin x cb.Idle) v d within spends = unshared _ _ (entry_kept share_of v x d _ refl)
share_after plan t (event.Begin x cb.Suspend) v d within spends = unshared _ _ (entry_kept share_of v x d _ refl)
share_after plan t (event.Begin x cb.Resume) v d within spends = unshared _ _ (entry_kept share_of v x d _ refl)
share_after plan t (event.End x cb.Idle c) v d within spends = unshared _ _ (entry_kept share_of v x d _ refl)
share_after plan t (event.End x cb.Suspend c) v d within spends = unshared _ _ (ap (λ (m : Marks). m.share) (suspended_marks x d c v))
share_after plan t (event.End x cb.Resume c) v d within spends = unshared _ _ (ap (λ (m : Marks). m.share) (resumed_marks x d c v))
share_after plan t (event.Domain x is_up n) v d within spends = unshared _ _ (domain_kept share_of plan x d is_up v)
share_after plan t (event.Work x act) v d within spends = unshared _ _ (work_kept share_of x d act v)
share_after plan t (event.Timer x act) v d within spends = unshared _ _ (timer_kept share_of x d act v)
share_after plan t _ v d within spends = refl
