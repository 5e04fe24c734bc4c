-- The times of a device, line by line.
use Rattle.std.proofs.Common.{ℕ, ◌≡◌, ◌+◌, ◌-◌, [], ◌∷◌, if◌then◌else◌, ap, refl, ◌∙◌, arith}
use Rattle.pm_base.specs.declared.DevId.{DevId}
use Rattle.pm_base.specs.declared.Status.{Status}
use Rattle.pm_base.specs.declared.Status.TheVariants.{Active, Suspended, Suspending, Resuming}
use Rattle.pm_model.specs.declared.event.Line.{Line}
use Rattle.pm_model.specs.declared.plan.Plan.{Plan}
use Rattle.pm_model.specs.Counted.{status_of}
use Rattle.pm_model.specs.Derived.{is_active_status, is_suspended_status}
use Rattle.pm_model.specs.History.{History}
use Rattle.pm_model.specs.Lawful.{IsLawful, last_time}
use Rattle.pm_account.specs.declared.Times.{Times}
use Rattle.pm_account.specs.Kept.{longer, total}
use Rattle.pm_account.specs.Times.{earliest, is_moving_status, time_in, times_of}

times : ℕ → ℕ → ℕ → Times
times a s m = record { active = a; suspended = s; moving = m }

same_times : (x y : Times) → x.active ≡ y.active → x.suspended ≡ y.suspended → x.moving ≡ y.moving → x ≡ y
unfolding times
same_times x y a s m =
    ap (λ n. times n x.suspended x.moving) a ∙ ap (λ n. times y.active n x.moving) s ∙ ap (λ n. times y.active y.suspended n) m

pub total_longer : (s : Status) (ms : ℕ) (x : Times) → total (longer s ms x) ≡ total x + ms
total_longer Active ms x = omega arith
total_longer Suspended ms x = omega arith
total_longer Suspending ms x = omega arith
total_longer Resuming ms x = omega arith

pub longer_more : (s : Status) (a b : ℕ) (x : Times) → longer s (a + b) x ≡ longer s b (longer s a x)
longer_more Active a b x = same_times _ _ (omega arith) refl refl
longer_more Suspended a b x = same_times _ _ refl (omega arith) refl
longer_more Suspending a b x = same_times _ _ refl refl (omega arith)
longer_more Resuming a b x = same_times _ _ refl refl (omega arith)

pub longer_none : (s : Status) (ms : ℕ) (x : Times) → ms ≡ 0 → longer s ms x ≡ x
longer_none Active ms x none = same_times _ _ (omega arith) refl refl
longer_none Suspended ms x none = same_times _ _ refl (omega arith) refl
longer_none Suspending ms x none = same_times _ _ refl refl (omega arith)
longer_none Resuming ms x none = same_times _ _ refl refl (omega arith)

-- a stretch in a status makes one of the three sums longer
in_status : (s : Status) (ms a b first m : ℕ)
    → (let x : Times = record {
      active = (if is_active_status s then ms else 0) + a;
      suspended = ((if is_suspended_status s then ms else 0) + b) + first;
      moving = (if is_moving_status s then ms else 0) + m;
    } in x ≡ longer s ms (record { active = a; suspended = b + first; moving = m }))
in_status Active ms a b first m = same_times _ _ (omega arith) (omega arith) (omega arith)
in_status Suspended ms a b first m = same_times _ _ (omega arith) (omega arith) (omega arith)
in_status Suspending ms a b first m = same_times _ _ (omega arith) (omega arith) (omega arith)
in_status Resuming ms a b first m = same_times _ _ (omega arith) (omega arith) (omega arith)

-- a line's stretch is from the line before it, in the status that stands then; the first line's is from moment 0
pub one_more : (line : Line) (h : History) (d : DevId) → times_of (line ∷ h) d ≡ longer (status_of h d) (line.time - last_time h) (times_of h d)
one_more line [] d = same_times _ _ refl (omega arith) refl
one_more line (before ∷ h) d =
    in_status (status_of (before ∷ h) d) (line.time - before.time) (time_in is_active_status (before ∷ h) d) (time_in is_suspended_status (before ∷ h) d) (earliest before h) (time_in is_moving_status (before ∷ h) d)

-- times don't fall, so the stretches add up
pub adds_up : (plan : Plan) (h : History) (d : DevId) → IsLawful plan h → total (times_of h d) ≡ last_time h
adds_up plan [] d lawful = refl
adds_up plan (line ∷ h) d lawful =
    let stretched = ap total (one_more line h d) ∙ total_longer (status_of h d) (line.time - last_time h) (times_of h d) in
    let before = adds_up plan h d lawful.2 in
    stretched ∙ omega (arith, before, lawful.0.in_time)
