-- The derived test of two values of SuspendStage is exact.
use Rattle.std.proofs.Common.{◌≡◌, true}
use Rattle.std.proofs.lemmas.Bool.{eqb-true}
use Rattle.std.proofs.lemmas.Bool.Decides.{Decides-int_eq}
use Rattle.pm_model.specs.declared.stage.SuspendStage.{SuspendStage}
use Rattle.pm_model.specs.declared.stage.SuspendStage.TheVariants as suspendstage_is
use Rattle.pm_model.specs.contracts.stage.SuspendStagePartialEq.TheImpl.{eq-value}
use Rattle.pm_explore.proofs.state.FieldsAlike.{dev_alike}
use Rattle.pm_explore.proofs.state.Lists.{first, of_three, of_two, second}

pub alike : (a b : SuspendStage) → eq-value.it a b ≡ true → a ≡ b
alike (suspendstage_is.Enter x0 x1) (suspendstage_is.Enter y0 y1) is = of_two suspendstage_is.Enter (dev_alike x0 y0 (first _ _ is)) (eqb-true x1 y1 (second _ _ is))
alike (suspendstage_is.Enter x0 x1) _ is = cc is
alike (suspendstage_is.Verdict x0 x1) (suspendstage_is.Verdict y0 y1) is = of_two suspendstage_is.Verdict (dev_alike x0 y0 (first _ _ is)) (eqb-true x1 y1 (second _ _ is))
alike (suspendstage_is.Verdict x0 x1) _ is = cc is
alike (suspendstage_is.Waiting x0 x1) (suspendstage_is.Waiting y0 y1) is = of_two suspendstage_is.Waiting (dev_alike x0 y0 (first _ _ is)) (eqb-true x1 y1 (second _ _ is))
alike (suspendstage_is.Waiting x0 x1) _ is = cc is
alike (suspendstage_is.Running x0 x1 x2) (suspendstage_is.Running y0 y1 y2) is = let rest = second _ _ is in of_three suspendstage_is.Running (dev_alike x0 y0 (first _ _ is)) (eqb-true x1 y1 (first _ _ rest)) (eqb-true x2 y2 (second _ _ rest))
alike (suspendstage_is.Running x0 x1 x2) _ is = cc is
alike (suspendstage_is.Domain x0 x1) (suspendstage_is.Domain y0 y1) is = of_two suspendstage_is.Domain (dev_alike x0 y0 (first _ _ is)) (eqb-true x1 y1 (second _ _ is))
alike (suspendstage_is.Domain x0 x1) _ is = cc is
alike (suspendstage_is.Links x0 x1) (suspendstage_is.Links y0 y1) is = of_two suspendstage_is.Links (dev_alike x0 y0 (first _ _ is)) (eqb-true x1 y1 (second _ _ is))
alike (suspendstage_is.Links x0 x1) _ is = cc is
alike (suspendstage_is.Deferred x0 x1) (suspendstage_is.Deferred y0 y1) is = of_two suspendstage_is.Deferred (dev_alike x0 y0 (first _ _ is)) (eqb-true x1 y1 (second _ _ is))
alike (suspendstage_is.Deferred x0 x1) _ is = cc is
alike (suspendstage_is.Parent x0 x1) (suspendstage_is.Parent y0 y1) is = of_two suspendstage_is.Parent (dev_alike x0 y0 (first _ _ is)) (eqb-true x1 y1 (second _ _ is))
alike (suspendstage_is.Parent x0 x1) _ is = cc is
alike (suspendstage_is.Done x0 x1 x2) (suspendstage_is.Done y0 y1 y2) is = let rest = second _ _ is in of_three suspendstage_is.Done (dev_alike x0 y0 (first _ _ is)) (eqb-true x1 y1 (first _ _ rest)) ((Decides-int_eq x2 y2).0 (second _ _ rest))
alike (suspendstage_is.Done x0 x1 x2) _ is = cc is
