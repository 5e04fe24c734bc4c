-- The derived test of two values of Await is exact.
use Rattle.std.proofs.Common.{◌≡◌, true, ap}
use Rattle.std.proofs.lemmas.Bool.{eqb-true}
use Rattle.std.proofs.lemmas.Bool.Decides.{Decides-int_eq}
use Rattle.pm_model.specs.declared.stage.Await.{Await}
use Rattle.pm_model.specs.declared.stage.Await.TheVariants as await_is
use Rattle.pm_model.specs.contracts.stage.AwaitPartialEq.TheImpl.{eq-value}
use Rattle.pm_explore.proofs.state.CallAlike.{alike as call_alike}
use Rattle.pm_explore.proofs.state.FieldsAlike.{dev_alike, helper_alike}
use Rattle.pm_explore.proofs.state.Lists.{first, of_two, second}

pub alike : (a b : Await) → eq-value.it a b ≡ true → a ≡ b
alike (await_is.SuspendLinks x0 x1) (await_is.SuspendLinks y0 y1) is = of_two await_is.SuspendLinks (dev_alike x0 y0 (first _ _ is)) (eqb-true x1 y1 (second _ _ is))
alike (await_is.SuspendLinks x0 x1) _ is = cc is
alike (await_is.SuspendDeferred x0 x1) (await_is.SuspendDeferred y0 y1) is = of_two await_is.SuspendDeferred (dev_alike x0 y0 (first _ _ is)) (eqb-true x1 y1 (second _ _ is))
alike (await_is.SuspendDeferred x0 x1) _ is = cc is
alike (await_is.SuspendParent x0 x1) (await_is.SuspendParent y0 y1) is = of_two await_is.SuspendParent (dev_alike x0 y0 (first _ _ is)) (eqb-true x1 y1 (second _ _ is))
alike (await_is.SuspendParent x0 x1) _ is = cc is
alike (await_is.ResumeParent x0) (await_is.ResumeParent y0) is = ap await_is.ResumeParent (call_alike x0 y0 is)
alike (await_is.ResumeParent x0) _ is = cc is
alike (await_is.ResumeSupplier x0 x1) (await_is.ResumeSupplier y0 y1) is = of_two await_is.ResumeSupplier (call_alike x0 y0 (first _ _ is)) (eqb-true x1 y1 (second _ _ is))
alike (await_is.ResumeSupplier x0 x1) _ is = cc is
alike (await_is.ResumeIdle x0) (await_is.ResumeIdle y0) is = ap await_is.ResumeIdle (call_alike x0 y0 is)
alike (await_is.ResumeIdle x0) _ is = cc is
alike (await_is.ResumeUnwind x0 x1) (await_is.ResumeUnwind y0 y1) is = of_two await_is.ResumeUnwind (call_alike x0 y0 (first _ _ is)) ((Decides-int_eq x1 y1).0 (second _ _ is))
alike (await_is.ResumeUnwind x0 x1) _ is = cc is
alike (await_is.ResumePut x0 x1) (await_is.ResumePut y0 y1) is = of_two await_is.ResumePut (call_alike x0 y0 (first _ _ is)) ((Decides-int_eq x1 y1).0 (second _ _ is))
alike (await_is.ResumePut x0 x1) _ is = cc is
alike (await_is.Return x0 x1) (await_is.Return y0 y1) is = of_two await_is.Return (helper_alike x0 y0 (first _ _ is)) (dev_alike x1 y1 (second _ _ is))
alike (await_is.Return x0 x1) _ is = cc is
alike (await_is.ReturnZero x0 x1) (await_is.ReturnZero y0 y1) is = of_two await_is.ReturnZero (helper_alike x0 y0 (first _ _ is)) (dev_alike x1 y1 (second _ _ is))
alike (await_is.ReturnZero x0 x1) _ is = cc is
alike (await_is.DisableResume x0) (await_is.DisableResume y0) is = ap await_is.DisableResume (dev_alike x0 y0 is)
alike (await_is.DisableResume x0) _ is = cc is
alike (await_is.BarrierResume x0) (await_is.BarrierResume y0) is = ap await_is.BarrierResume (dev_alike x0 y0 is)
alike (await_is.BarrierResume x0) _ is = cc is
alike (await_is.ActiveSupplier x0 x1) (await_is.ActiveSupplier y0 y1) is = of_two await_is.ActiveSupplier (dev_alike x0 y0 (first _ _ is)) (eqb-true x1 y1 (second _ _ is))
alike (await_is.ActiveSupplier x0 x1) _ is = cc is
alike (await_is.ActiveUnwind x0 x1) (await_is.ActiveUnwind y0 y1) is = of_two await_is.ActiveUnwind (dev_alike x0 y0 (first _ _ is)) ((Decides-int_eq x1 y1).0 (second _ _ is))
alike (await_is.ActiveUnwind x0 x1) _ is = cc is
alike (await_is.SuppliersIdle x0 x1) (await_is.SuppliersIdle y0 y1) is = of_two await_is.SuppliersIdle (dev_alike x0 y0 (first _ _ is)) (dev_alike x1 y1 (second _ _ is))
alike (await_is.SuppliersIdle x0 x1) _ is = cc is
