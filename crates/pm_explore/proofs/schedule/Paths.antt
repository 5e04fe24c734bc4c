-- Schedules are ways in the graph of snapshots.
use Rattle.std.proofs.Common.{ℕ, suc, ◌≡◌, ◌≤◌, Bool, true, false, [], ◌∷◌, length, refl, sym, subst, ap, ◌∙◌, arith}
use Rattle.pm_model.specs.declared.event.Line.{Line}
use Rattle.pm_model.specs.declared.plan.Plan.{Plan}
use Rattle.pm_model.specs.History.{History}
use Rattle.pm_model.specs.Lawful.{IsLawful, Permits}
use Rattle.pm_explore.specs.search.Reached.{Reached}
use Rattle.pm_explore.specs.search.Reached.Reached.{begins, goes_on, spends}
use Rattle.pm_explore.specs.schedule.Schedules.{IsSchedule, preemptions, one_more_if, snapshot}
use Rattle.pm_explore.specs.declared.schedule.Pace.{Pace}
use Rattle.pm_explore.specs.schedule.Snapshots.{Follows, IsTimely, MayFollow, Snapshot, preempts, start_snapshot}

may_follow : (plan : Plan) (h : History) (line : Line) → Permits plan h line → MayFollow plan (snapshot plan h) line
may_follow plan h line p = record { stage = p.stage; stands = p.stands; change = p.change; next = p.next; gives = p.gives; in_time = p.in_time }

permits : (plan : Plan) (h : History) (line : Line) → MayFollow plan (snapshot plan h) line → Permits plan h line
permits plan h line p = record { stage = p.stage; stands = p.stands; change = p.change; next = p.next; gives = p.gives; in_time = p.in_time }

pub path : (pace : Pace) (plan : Plan) (h : History) → IsSchedule pace plan h → Reached (Follows pace plan) (start_snapshot plan) (preemptions plan h) (snapshot plan h)
path pace plan [] o = begins
path pace plan (line ∷ h) o = go (preempts plan (snapshot plan h) line) refl (path pace plan h o.2)
  where
    go : (b : Bool) → preempts plan (snapshot plan h) line ≡ b → Reached (Follows pace plan) (start_snapshot plan) (preemptions plan h) (snapshot plan h)
        → Reached (Follows pace plan) (start_snapshot plan) (one_more_if b (preemptions plan h)) (snapshot plan (line ∷ h))
    go true is r = spends (snapshot plan h) (snapshot plan (line ∷ h)) r (record { line = line; may = may_follow plan h line o.0; timely = o.1; preempts_is = is; leads = refl })
    go false is r = goes_on (snapshot plan h) (snapshot plan (line ∷ h)) r (record { line = line; may = may_follow plan h line o.0; timely = o.1; preempts_is = is; leads = refl })

-- a schedule that stands there
abbrev pub ScheduleTo : Pace → Plan → ℕ → Snapshot → Type 0
ScheduleTo pace plan k s = (h : History) × IsSchedule pace plan h × (preemptions plan h ≡ k) × (snapshot plan h ≡ s)

one_more : (pace : Pace) (plan : Plan) (b : Bool) (k : ℕ) (from to : Snapshot) → ScheduleTo pace plan k from → Follows pace plan b from to → ScheduleTo pace plan (one_more_if b k) to
one_more pace plan b k from to (h, o, is, stands) follows =
    let f = subst (λ x. Follows pace plan b x to) (sym stands) follows in (
      f.line ∷ h,
      (permits plan h f.line f.may, f.timely, o),
      ap (λ c. one_more_if c (preemptions plan h)) f.preempts_is ∙ ap (one_more_if b) is,
      sym f.leads,
    )

pub order : (pace : Pace) (plan : Plan) {k : ℕ} {s : Snapshot} → Reached (Follows pace plan) (start_snapshot plan) k s → ScheduleTo pace plan k s
order pace plan begins = ([], tt, refl, refl)
order pace plan (goes_on {k = k} p q r f) = one_more pace plan false k p q (order pace plan r) f
order pace plan (spends {k = k} p q r f) = one_more pace plan true k p q (order pace plan r) f

pub lawful : (pace : Pace) (plan : Plan) (h : History) → IsSchedule pace plan h → length h ≤ plan.lines → IsLawful plan h
lawful pace plan [] o le = tt
lawful pace plan (line ∷ h) o le = (o.0, omega (arith, le), lawful pace plan h o.2 (omega (arith, le)))
