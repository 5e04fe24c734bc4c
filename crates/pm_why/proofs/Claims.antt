-- The counts that stages hold, by the device and the reason, and what a row of the call table does to the counts of each
-- reason.
use Rattle.std.proofs.Common.{ℕ, ◌≡◌, ◌+◌, Bool, true, false, ◌&&◌, ℤ, if◌then◌else◌, refl, arith}
use Rattle.pm_base.specs.declared.DevId.{DevId}
use Rattle.pm_base.specs.declared.Why.{Why}
use Rattle.pm_base.specs.declared.Why.TheVariants as why
use Rattle.pm_model.specs.declared.event.Event.{Event}
use Rattle.pm_model.specs.declared.event.Event.TheVariants as event
use Rattle.pm_model.specs.declared.plan.Plan.{Plan}
use Rattle.pm_model.specs.declared.stage.Await.{Await}
use Rattle.pm_model.specs.declared.stage.Await.TheVariants as await
use Rattle.pm_model.specs.declared.stage.Change.{Change}
use Rattle.pm_model.specs.declared.stage.Change.TheVariants as change
use Rattle.pm_model.specs.declared.stage.ControlStage.TheVariants as control
use Rattle.pm_model.specs.declared.stage.Handed.TheVariants as handed
use Rattle.pm_model.specs.declared.stage.ResumeCall.{ResumeCall}
use Rattle.pm_model.specs.declared.stage.ResumeStage.TheVariants as resume
use Rattle.pm_model.specs.declared.stage.Stage.{Stage}
use Rattle.pm_model.specs.declared.stage.Stage.TheVariants as stage
use Rattle.pm_model.specs.declared.stage.Then.{Then}
use Rattle.pm_model.specs.Counted.{gives_back, is_same, takes}
use Rattle.pm_model.specs.Derived.{prevented}
use Rattle.pm_model.specs.Handing.{take_code}
use Rattle.pm_model.specs.PlanRows.{has_parent, parent_of}
use Rattle.pm_model.specs.ResumeTable.{is_supplied}
use Rattle.pm_model.specs.Row.{Row, writes, waits}
use Rattle.pm_model.specs.Views.{Views, device}
use Rattle.pm_laws.specs.counts.Sums.{one, weigh}
use Rattle.pm_laws.proofs.counts.Givings.{IsStages}
use Rattle.pm_laws.proofs.counts.Links.{has_pair}
use Rattle.pm_laws.proofs.counts.Named.{IsCalm}
use Rattle.pm_laws.proofs.counts.Places.{IsHanded, IsWeight, shown}
use Rattle.pm_why.specs.OpenGets.{is_why}

-- whether this call of resume holds a count for this reason on d, the parent of its device
abbrev pub has_claim : Plan → Why → DevId → ResumeCall → Bool
has_claim plan w d r = (r.held && has_parent plan r.dev) && (is_same d (parent_of plan r.dev) && is_why w (why.Child r.dev))

-- the counts on d for this reason that a stage holds: a resume's on its parent, and those of disable and of barrier
abbrev pub claims : Plan → Why → DevId → Stage → ℕ
claims plan w d (stage.Resume (resume.Verdict r tried)) = one (has_claim plan w d r)
claims plan w d (stage.Resume (resume.Waiting r tried)) = one (has_claim plan w d r)
claims plan w d (stage.Resume (resume.Links r)) = one (has_claim plan w d r)
claims plan w d (stage.Resume (resume.Supplied r c)) = one (has_claim plan w d r)
claims plan w d (stage.Resume (resume.Callback r)) = one (has_claim plan w d r)
claims plan w d (stage.Resume (resume.Running r since)) = one (has_claim plan w d r)
claims plan w d (stage.Resume (resume.Resumed r)) = one (has_claim plan w d r)
claims plan w d (stage.Resume (resume.Idle r)) = one (has_claim plan w d r)
claims plan w d (stage.Resume (resume.Done r c)) = one (has_claim plan w d r)
claims plan w d (stage.Resume (resume.Parent r c)) = one (is_same d (parent_of plan r.dev) && is_why w (why.Child r.dev))
claims plan w d (stage.Resume (resume.Domain r c)) = one (has_claim plan w d r)
claims plan w d (stage.Resume (resume.Unwind r c)) = one (has_claim plan w d r)
claims plan w d (stage.Control (control.DisablePut e)) = one (is_same d e && is_why w why.Control)
claims plan w d (stage.Control (control.BarrierResume e)) = one (is_same d e && is_why w why.Control)
claims plan w d (stage.Control (control.BarrierIdle e c)) = one (is_same d e && is_why w why.Control)
claims plan w d (stage.Control (control.BarrierWait e c)) = one (is_same d e && is_why w why.Control)
claims plan w d (stage.Await (await.ResumeParent r)) = one (has_claim plan w d r)
claims plan w d (stage.Await (await.ResumeSupplier r link)) = one (has_claim plan w d r)
claims plan w d (stage.Await (await.ResumeIdle r)) = one (has_claim plan w d r)
claims plan w d (stage.Await (await.ResumeUnwind r c)) = one (has_claim plan w d r)
claims plan w d (stage.Await (await.DisableResume e)) = one (is_same d e && is_why w why.Control)
claims plan w d (stage.Await (await.BarrierResume e)) = one (is_same d e && is_why w why.Control)
claims plan w d _ = 0

-- a stage that awaits a call holds what the stage at which it goes on holds
pub claims_weigh : (plan : Plan) (w : Why) (d : DevId) → IsWeight (claims plan w d)
unfolding take_code
claims_weigh plan w d = record { call = λ _. refl; work = λ _. refl; timer = λ _. refl; handed = go }
  where
    supplied : (e : DevId) (link : ℕ) (c : ℤ) (b : Bool)
        → IsHanded (claims plan w d) (await.ActiveSupplier e link) (if b then handed.Goes (stage.Control (control.ActiveLinks e)) else handed.Goes (stage.Control (control.ActiveUnwind e c)))
    supplied e link c true = refl
    supplied e link c false = refl

    go : (a : Await) (c : ℤ) → IsHanded (claims plan w d) a (take_code a c)
    go (await.ActiveSupplier e link) c = supplied e link c (is_supplied c)
    go _ c = refl

-- the change that the row names turns the setting of d from one that prevents suspends or doesn't
abbrev pub Turns : Views → DevId → Bool → Bool → Change → Type 0
Turns v d was is (change.Set e use_auto delay) = (e ≡ d) × (prevented (device v d).use_auto (device v d).delay ≡ was) × (prevented use_auto delay ≡ is)
Turns v d was is _ = ⊥

-- a get for a negative delay comes with a setting that has one, and its put with one that has none
abbrev pub DelayIs : Views → Event → Change → Type 0
DelayIs v (event.Get d why.Delay) c = Turns v d false true c
DelayIs v (event.Put d why.Delay) c = Turns v d true false c
DelayIs v e c = IsCalm v c

-- a device that is forbidden isn't forbidden again, and only such a one is allowed
abbrev pub ForbidIs : Views → Event → Type 0
ForbidIs v (event.Get d why.Forbid) = (device v d).auto_on ≡ true
ForbidIs v (event.Put d why.Forbid) = (device v d).auto_on ≡ false
ForbidIs v _ = Unit {0}

-- a link that is taken is free, and one that is given back is held
abbrev pub LinkIs : Plan → Views → Event → Type 0
LinkIs plan v (event.Get s (why.Link c)) = has_pair c s false plan.links v.held ≡ true
LinkIs plan v (event.Put s (why.Link c)) = has_pair c s true plan.links v.held ≡ true
LinkIs plan v _ = Unit {0}

-- the counts that stages hold rise and fall by the lines
abbrev pub Claimed : Plan → Stage → Event → Then → Type 0
Claimed plan s e next = (w : Why) → IsStages w → (d : DevId)
    → weigh (claims plan w d) (shown next) + one (gives_back (is_why w) d e) ≡ claims plan w d s + one (takes (is_why w) d e)

-- what a row that writes an event does to the counts of each reason
pub record Books (plan : Plan) (v : Views) (s : Stage) (e : Event) (c : Change) (next : Then) : Type 0 where
  pub claimed : Claimed plan s e next
  pub delay : DelayIs v e c
  pub forbid : ForbidIs v e
  pub link : LinkIs plan v e

abbrev pub BooksRow : Plan → Views → Stage → Row → Type 0
BooksRow plan v s (writes e c next) = Books plan v s e c next
BooksRow plan v s (waits d) = Unit {0}

-- what a row owes
pub record Owes (plan : Plan) (v : Views) (s : Stage) (row : Row) : Type 0 where
  pub paid : BooksRow plan v s row

pub waiting : {plan : Plan} {v : Views} {s : Stage} {d : DevId} → Owes plan v s (waits d)
waiting = record { paid = tt }

-- a row where its test holds, and those after it where it doesn't
pub either : {plan : Plan} {v : Views} {s : Stage} {x y : Row} (b : Bool) → (b ≡ true → Owes plan v s x) → (b ≡ false → Owes plan v s y)
    → Owes plan v s (if b then x else y)
either {plan} {v} {s} {x} {y} b f g = go b f g
  where
    go : (b : Bool) → (b ≡ true → Owes plan v s x) → (b ≡ false → Owes plan v s y) → Owes plan v s (if b then x else y)
    go true f g = f refl
    go false f g = g refl

-- the stages that take the place of a stage hold what it held
abbrev pub SameClaims : Plan → Stage → Then → Type 0
SameClaims plan s next = (w : Why) (d : DevId) → weigh (claims plan w d) (shown next) ≡ claims plan w d s

pub either_next : (plan : Plan) (s : Stage) (b : Bool) (x y : Then) → SameClaims plan s x → SameClaims plan s y → SameClaims plan s (if b then x else y)
either_next plan s true x y f g = f
either_next plan s false x y f g = g

-- at a stage that holds as much the row owes the same
pub alike : {plan : Plan} {v : Views} {s : Stage} {row : Row} (s' : Stage) → ((w : Why) (d : DevId) → claims plan w d s ≡ claims plan w d s')
    → Owes plan v s' row → Owes plan v s row
alike {plan} {v} {s} {row} s' same o = let it : BooksRow plan v s row = go row o.paid in record { paid = it }
  where
    go : (row : Row) → BooksRow plan v s' row → BooksRow plan v s row
    go (writes e c next) k = record { claimed = λ w is d. rw (same w d) (k.claimed w is d); delay = k.delay; forbid = k.forbid; link = k.link }
    go (waits d) k = tt

-- a reason for which no stage holds a count
abbrev pub IsNoStages : Why → Type 0
IsNoStages why.Control = ⊥
IsNoStages (why.Child c) = ⊥
IsNoStages _ = Unit {0}

-- an event that neither takes nor gives back a count that a stage holds
abbrev pub IsAside : Event → Type 0
IsAside (event.Get d w) = IsNoStages w
IsAside (event.Put d w) = IsNoStages w
IsAside _ = Unit {0}

unlike : (w r : Why) → IsStages w → IsNoStages r → is_why w r ≡ false
unlike w why.Control is aside = elim aside [ ]
unlike w (why.Child c) is aside = elim aside [ ]
unlike why.Control _ is aside = refl
unlike (why.Child c) _ is aside = refl
unlike _ _ is aside = elim is [ ]

and_off : (a b : Bool) → b ≡ false → a && b ≡ false
and_off true b e = e
and_off false b e = refl

aside_takes : (w : Why) (d : DevId) (e : Event) → IsStages w → IsAside e → (gives_back (is_why w) d e ≡ false) × (takes (is_why w) d e ≡ false)
aside_takes w d (event.Get x r) is aside = (refl, and_off (is_same d x) (is_why w r) (unlike w r is aside))
aside_takes w d (event.Put x r) is aside = (and_off (is_same d x) (is_why w r) (unlike w r is aside), refl)
aside_takes w d _ is aside = (refl, refl)

-- a row that leaves the counts that stages hold
pub other : {plan : Plan} {v : Views} {s : Stage} {e : Event} {c : Change} {next : Then} → IsAside e → SameClaims plan s next
    → DelayIs v e c → ForbidIs v e → LinkIs plan v e → Owes plan v s (writes e c next)
other {plan} {v} {s} {e} {c} {next} aside same delay forbid link =
    let kept : Books plan v s e c next = record {
      claimed = λ w is d. let none = aside_takes w d e is aside in rw (none.0, none.1, same w d) refl;
      delay = delay;
      forbid = forbid;
      link = link;
    } in
    record { paid = kept }

-- rows that take and give back a count that stages hold
taken_aside : (plan : Plan) (v : Views) (e : DevId) (r : Why) (c : Change) → IsStages r → IsCalm v c
    → DelayIs v (event.Get e r) c × ForbidIs v (event.Get e r) × LinkIs plan v (event.Get e r)
taken_aside plan v e why.Control c is calm = (calm, tt, tt)
taken_aside plan v e (why.Child x) c is calm = (calm, tt, tt)
taken_aside plan v e _ c is calm = elim is [ ]

given_aside : (plan : Plan) (v : Views) (e : DevId) (r : Why) (c : Change) → IsStages r → IsCalm v c
    → DelayIs v (event.Put e r) c × ForbidIs v (event.Put e r) × LinkIs plan v (event.Put e r)
given_aside plan v e why.Control c is calm = (calm, tt, tt)
given_aside plan v e (why.Child x) c is calm = (calm, tt, tt)
given_aside plan v e _ c is calm = elim is [ ]

pub took : {plan : Plan} {v : Views} {s : Stage} {c : Change} {next : Then} (e : DevId) (r : Why) → IsStages r → IsCalm v c
    → ((w : Why) (d : DevId) → weigh (claims plan w d) (shown next) ≡ claims plan w d s + one (is_same d e && is_why w r))
    → Owes plan v s (writes (event.Get e r) c next)
took {plan} {v} {s} {c} {next} e r is calm more =
    let beside = taken_aside plan v e r c is calm in
    let kept : Books plan v s (event.Get e r) c next = record {
      claimed = λ w _ d. omega (arith, more w d);
      delay = beside.0;
      forbid = beside.1;
      link = beside.2;
    } in
    record { paid = kept }

pub gave : {plan : Plan} {v : Views} {s : Stage} {c : Change} {next : Then} (e : DevId) (r : Why) → IsStages r → IsCalm v c
    → ((w : Why) (d : DevId) → weigh (claims plan w d) (shown next) + one (is_same d e && is_why w r) ≡ claims plan w d s)
    → Owes plan v s (writes (event.Put e r) c next)
gave {plan} {v} {s} {c} {next} e r is calm less =
    let beside = given_aside plan v e r c is calm in
    let kept : Books plan v s (event.Put e r) c next = record {
      claimed = λ w _ d. omega (arith, less w d);
      delay = beside.0;
      forbid = beside.1;
      link = beside.2;
    } in
    record { paid = kept }
