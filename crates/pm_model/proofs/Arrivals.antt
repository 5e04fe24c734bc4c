-- A code that is handed down, one stage at a time.
use Rattle.std.proofs.Common.{◌≡◌, Bool, true, false, List, ◌∷◌, ℤ, if◌then◌else◌, refl}
use Rattle.pm_model.specs.declared.stage.Await.{Await}
use Rattle.pm_model.specs.declared.stage.Await.TheVariants as await
use Rattle.pm_model.specs.declared.stage.ControlStage.TheVariants as control
use Rattle.pm_model.specs.declared.stage.Handed.{Handed}
use Rattle.pm_model.specs.declared.stage.Handed.TheVariants as handed
use Rattle.pm_model.specs.declared.stage.Stage.{Stage}
use Rattle.pm_model.specs.declared.stage.Stage.TheVariants as stage
use Rattle.pm_model.specs.Handing.{take_code, gone_on, after_code}
use Rattle.pm_model.specs.ResumeTable.{is_supplied}

-- a stage that goes on, or what comes of the code that it hands on
abbrev pub on_handed : Handed → List Stage → (ℤ → List Stage) → List Stage
on_handed (handed.Goes s) rest further = s ∷ rest
on_handed (handed.Back c) rest further = further c

-- a code over a stage that awaits it: the stage goes on, or hands its own code on
pub after_await : (a : Await) (c : ℤ) (rest : List Stage) → after_code (stage.Await a ∷ rest) c ≡ on_handed (take_code a c) rest (after_code rest)
unfolding take_code
after_await (await.SuspendLinks d f) c rest = refl
after_await (await.SuspendDeferred d f) c rest = refl
after_await (await.SuspendParent d f) c rest = refl
after_await (await.ResumeParent r) c rest = refl
after_await (await.ResumeSupplier r link) c rest = refl
after_await (await.ResumeIdle r) c rest = refl
after_await (await.ResumeUnwind r kept) c rest = refl
after_await (await.ResumePut r kept) c rest = refl
after_await (await.Return h d) c rest = refl
after_await (await.ReturnZero h d) c rest = refl
after_await (await.DisableResume d) c rest = refl
after_await (await.BarrierResume d) c rest = refl
after_await (await.ActiveSupplier d link) c rest = go (is_supplied c)
  where
    links : Handed
    links = handed.Goes (stage.Control (control.ActiveLinks d))

    unwinds : Handed
    unwinds = handed.Goes (stage.Control (control.ActiveUnwind d c))

    go : (b : Bool) → gone_on (if b then links else unwinds) rest ≡ on_handed (if b then links else unwinds) rest (after_code rest)
    go true = refl
    go false = refl
after_await (await.ActiveUnwind d kept) c rest = refl
after_await (await.SuppliersIdle d supplier) c rest = refl

pub after_goes : (a : Await) (c : ℤ) (s : Stage) (rest : List Stage) → take_code a c ≡ handed.Goes s → after_code (stage.Await a ∷ rest) c ≡ s ∷ rest
after_goes a c s rest is = rw (after_await a c rest, is) refl

pub after_hands : (a : Await) (c kept : ℤ) (rest : List Stage) → take_code a c ≡ handed.Back kept
    → after_code (stage.Await a ∷ rest) c ≡ after_code rest kept
after_hands a c kept rest is = rw (after_await a c rest, is) refl
