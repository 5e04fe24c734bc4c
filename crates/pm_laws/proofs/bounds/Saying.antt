-- What a line's event says beside the plan's devices, flags and codes, and what a row leaves on a stack: payloads are of the
-- views before the line, a delay returns 0, a timer is armed for no moment later than 1,000,000 ms from now, and only an
-- empty place calls a command.
use Rattle.std.proofs.Common.{ℕ, zero, suc, ◌≡◌, ◌+◌, ◌≤◌, Bool, true, false, not, List, [], ◌∷◌, Option, Some, None, ℤ, pos, nat_abs, length, min, slice_set, unwrap_or, int_le, if◌then◌else◌, refl, arith, ◌&&◌}
use Rattle.std.specs.Option.{option_map_or}
use Rattle.std.specs.Ordering.{int_eq}
use Rattle.std.proofs.lemmas.Grind.{common_steps}
use Rattle.std.proofs.lemmas.List.Sums.{count_by-le-length, length-filter}
use Rattle.pm_base.specs.declared.Armed.{Armed}
use Rattle.pm_base.specs.declared.DevId.{DevId}
use Rattle.pm_base.specs.declared.DomId.{DomId}
use Rattle.pm_base.specs.declared.limits.TheConstants.{MAX_DOMAINS}
use Rattle.pm_model.specs.declared.event.Event.{Event}
use Rattle.pm_model.specs.declared.event.Event.TheVariants as event
use Rattle.pm_model.specs.declared.event.Fields.{Fields}
use Rattle.pm_model.specs.declared.event.Helper.{Helper}
use Rattle.pm_model.specs.declared.event.TimerAct.{TimerAct}
use Rattle.pm_model.specs.declared.event.TimerAct.TheVariants.{Arm, Fire}
use Rattle.pm_model.specs.declared.plan.Plan.{Plan}
use Rattle.pm_model.specs.declared.rows.DomainRow.{DomainRow}
use Rattle.pm_model.specs.declared.stage.Await.TheVariants as await
use Rattle.pm_model.specs.declared.stage.HelperStage.TheVariants as at
use Rattle.pm_model.specs.declared.stage.Stage.{Stage}
use Rattle.pm_model.specs.declared.stage.Stage.TheVariants as stage
use Rattle.pm_model.specs.Derived.{children, down, expiry, fields, going_off, goes_off, up}
use Rattle.pm_model.specs.PlanRows.{chain, domain, domain_parent, domains_of}
use Rattle.pm_model.specs.Spelling.{takes_device}
use Rattle.pm_model.specs.SuspendTable.{autosuspend_at}
use Rattle.pm_model.specs.Views.{Views, device, is_on, timer}
use Rattle.pm_laws.specs.stacks.Fit.{is_delay}
use Rattle.pm_laws.proofs.stacks.Obeying.{Duty}
use Rattle.pm_laws.proofs.bounds.Limits.{few_domains}

-- a helper without a device returns 0
abbrev pub is_ret : Helper → ℤ → Bool
is_ret h c = if takes_device h then true else int_eq c (pos 0)

-- the counts of a payload are those of the views
pub record IsPayload (plan : Plan) (v : Views) (d : DevId) (x : Fields) : Type 0 where
  pub cnt : x.cnt ≡ (device v d).usage
  pub dep : x.dep ≡ (device v d).depth
  pub child : x.child ≡ children plan v d

abbrev pub IsSoon : ℕ → TimerAct → Type 0
IsSoon t (Arm moment autosuspends) = moment ≤ t + 1000000
IsSoon t (Fire autosuspends) = Unit {0}

-- what the event of a line at t says, written at a stage on these views
abbrev pub IsSaid : Plan → Views → ℕ → Stage → Event → Type 0
IsSaid plan v t s (event.Call c) = s ≡ stage.Helper (at.Call c)
IsSaid plan v t s (event.Ret h d c) = is_ret h c ≡ true
IsSaid plan v t s (event.Usage d x) = IsPayload plan v d x
IsSaid plan v t s (event.Idle d x) = IsPayload plan v d x
IsSaid plan v t s (event.Suspend d x) = IsPayload plan v d x
IsSaid plan v t s (event.Resume d x) = IsPayload plan v d x
IsSaid plan v t s (event.Domain d is_up n) = n ≤ MAX_DOMAINS
IsSaid plan v t s (event.Timer d act) = IsSoon t act
IsSaid plan v t s _ = Unit {0}

-- a stage in a place: no call of a command, and no return of another code where there is no device
abbrev pub IsLater : Stage → Type 0
IsLater (stage.Helper (at.Call c)) = ⊥
IsLater (stage.Helper (at.Ret h d c)) = is_ret h c ≡ true
IsLater (stage.Await (await.Return h d)) = takes_device h ≡ true
IsLater _ = Unit {0}

abbrev pub AreLater : List Stage → Type 0
AreLater [] = Unit {0}
AreLater (s ∷ rest) = IsLater s × AreLater rest

-- what is asked of a row
abbrev pub Saying : Plan → Views → ℕ → Stage → Duty
Saying plan v t s e c next = IsSaid plan v t s e × AreLater next.push

pub zero_ret : (h : Helper) → is_ret h (pos 0) ≡ true
zero_ret h = go (takes_device h)
  where
    go : (b : Bool) → (if b then true else int_eq (pos 0) (pos 0)) ≡ true
    go true = refl
    go false = refl

pub payload : (plan : Plan) (v : Views) (d : DevId) (f : ℕ) → IsPayload plan v d (fields plan v d f)
unfolding fields
payload plan v d f = record { cnt = refl; dep = refl; child = refl }

-- a chain of domains has no more domains than the plan
chain_short : (rows : List DomainRow) (n : ℕ) (o : Option DomId) → length (chain rows n o) ≤ n
chain_short rows zero o = omega arith
chain_short rows (suc n) None = omega arith
chain_short rows (suc n) (Some o) = omega (arith, chain_short rows n (domain_parent rows o))

few_above : (plan : Plan) (d : DevId) → length (domains_of plan d) ≤ MAX_DOMAINS
unfolding domains_of
few_above plan d = omega (arith, chain_short plan.domains (length plan.domains) (domain plan d), few_domains plan)

pub ups : (plan : Plan) (v : Views) (d : DevId) → length (up plan v d) ≤ MAX_DOMAINS
unfolding up
ups plan v d =
    omega (arith, length-filter (λ o. not (is_on v o)) (domains_of plan d), count_by-le-length (λ o. not (is_on v o)) (domains_of plan d), few_above plan d)

going_short : (plan : Plan) (v : Views) (d : DevId) (on : List Bool) (domains : List ℕ) → length (going_off plan v d on domains) ≤ length domains
going_short plan v d on [] = omega arith
going_short plan v d on (o ∷ above) = go (goes_off plan v d on o) (going_short plan v d (slice_set on o false) above)
  where
    go : (b : Bool) → length (going_off plan v d (slice_set on o false) above) ≤ length above
        → length (if b then o ∷ going_off plan v d (slice_set on o false) above else []) ≤ suc (length above)
    go true le = omega (arith, le)
    go false le = omega arith

pub downs : (plan : Plan) (v : Views) (d : DevId) → length (down plan v d) ≤ MAX_DOMAINS
unfolding down
downs plan v d = omega (arith, going_short plan v d v.on (domains_of plan d), few_above plan d)

-- a time that a command may name
pub short : (n : ℤ) → is_delay n ≡ true → nat_abs n ≤ 1000000
short n is = grind (arith, common_steps)

-- an autosuspend is armed for no later than its delay from when the device was last marked busy
pub soon_armed : (v : Views) (d : DevId) (t : ℕ) → is_delay (device v d).delay ≡ true → (device v d).last_busy ≤ t → autosuspend_at v d ≤ t + 1000000
unfolding autosuspend_at expiry
soon_armed v d t is busy = nearer (timer v d) _ (go ((device v d).use_auto && int_le (pos 0) (device v d).delay))
  where
    go : (b : Bool) → unwrap_or (if b then Some ((device v d).last_busy + nat_abs (device v d).delay) else None) 0 ≤ t + 1000000
    go true = omega (arith, short (device v d).delay is, busy)
    go false = omega arith

    nearer : (o : Option Armed) (moment : ℕ) → moment ≤ t + 1000000 → option_map_or (λ armed. min moment armed.deadline) o moment ≤ t + 1000000
    nearer None moment le = le
    nearer (Some armed) moment le = omega (arith, le)
