-- What a line leaves of the status of a device.
use Rattle.std.proofs.Common.{◌≡◌, ◌<◌, ◌∷◌, Bool, true, false, not, None, pos, length, if◌then◌else◌, ap, refl, sym, ◌∙◌, subst, arith}
use Rattle.std.specs.Option.{unwrap_or}
use Rattle.std.specs.Ordering.{int_eq}
use Rattle.pm_base.specs.declared.Cb.TheVariants as cb
use Rattle.pm_base.specs.declared.DevId.{DevId}
use Rattle.pm_base.specs.declared.Status.{Status}
use Rattle.pm_base.specs.declared.Status.TheVariants as status
use Rattle.pm_model.specs.declared.event.Event.{Event}
use Rattle.pm_model.specs.declared.event.Event.TheVariants as event
use Rattle.pm_model.specs.declared.event.Line.{Line}
use Rattle.pm_model.specs.declared.plan.Plan.{Plan}
use Rattle.pm_model.specs.ChangeViews.{change_views}
use Rattle.pm_model.specs.Counted.{is_same, only_if, says_status, word_status}
use Rattle.pm_model.specs.History.{History}
use Rattle.pm_model.specs.Lawful.{IsLawful}
use Rattle.pm_model.specs.Views.{Views, device}
use Rattle.pm_model.specs.World.{World, after_line, world}
use Rattle.pm_laws.proofs.counts.Runs.{Paid, lawful_holds, permitted, status_is, views_after}
use Rattle.pm_safety.specs.dependencies.Turning.{IsApart, turned_by}

none_if : (b : Bool) (s : Status) → not b ≡ true → only_if b s ≡ None
none_if true s k = cc
none_if false s k = refl

-- an event says nothing of a device that it doesn't turn
silent : (x : DevId) (e : Event) → IsApart x (turned_by e) → says_status x e ≡ None
silent x (event.State d w) a = none_if (is_same x d) (word_status w) a
silent x (event.Begin d cb.Suspend) a = none_if (is_same x d) status.Suspending a
silent x (event.Begin d _) a = refl
silent x (event.End d cb.Suspend c) a = go (int_eq c (pos 0))
  where
    go : (b : Bool) → (if b then None else only_if (is_same x d) status.Active) ≡ None
    go true = refl
    go false = none_if (is_same x d) status.Active a
silent x (event.End d _ c) a = refl
silent x _ a = refl

pub status_frame : (plan : Plan) (h : History) (line : Line) (x : DevId) → IsLawful plan (line ∷ h) → x.0 < length plan.devices → IsApart x (turned_by line.event)
    → (device (world plan (line ∷ h)).views x).status ≡ (device (world plan h).views x).status
status_frame plan h line x lawful within a =
    let w : World = world plan h in
    let p : Paid plan w line = permitted plan h line lawful.0 (lawful_holds plan h lawful.2) in
    subst (λ r. (device (after_line plan w line r).views x).status ≡ (device w.views x).status) (sym p.leads)
    (ap (λ (u : Views). (device u x).status) (views_after plan w line p.change p.next)
    ∙ status_is plan line.time line.event w.views (change_views plan line.time p.change w.views) x (omega (arith, p.beside.entries.devices)) (p.beside.still x)
    ∙ ap (λ s. unwrap_or s (device w.views x).status) (silent x line.event a))
