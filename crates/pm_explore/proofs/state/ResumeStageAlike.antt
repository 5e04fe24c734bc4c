-- The derived test of two values of ResumeStage is exact.
use Rattle.std.proofs.Common.{◌≡◌, true, ap}
use Rattle.std.proofs.lemmas.Bool.{eqb-true}
use Rattle.std.proofs.lemmas.Bool.Decides.{Decides-int_eq}
use Rattle.std.specs.Cmp.{booleans_Decides}
use Rattle.pm_model.specs.declared.stage.ResumeStage.{ResumeStage}
use Rattle.pm_model.specs.declared.stage.ResumeStage.TheVariants as resumestage_is
use Rattle.pm_model.specs.contracts.stage.ResumeStagePartialEq.TheImpl.{eq-value}
use Rattle.pm_explore.proofs.state.CallAlike.{alike as call_alike}
use Rattle.pm_explore.proofs.state.Lists.{first, of_two, second}

pub alike : (a b : ResumeStage) → eq-value.it a b ≡ true → a ≡ b
alike (resumestage_is.Enter x0) (resumestage_is.Enter y0) is = ap resumestage_is.Enter (call_alike x0 y0 is)
alike (resumestage_is.Enter x0) _ is = cc is
alike (resumestage_is.Verdict x0 x1) (resumestage_is.Verdict y0 y1) is = of_two resumestage_is.Verdict (call_alike x0 y0 (first _ _ is)) ((booleans_Decides x1 y1).0 (second _ _ is))
alike (resumestage_is.Verdict x0 x1) _ is = cc is
alike (resumestage_is.Waiting x0 x1) (resumestage_is.Waiting y0 y1) is = of_two resumestage_is.Waiting (call_alike x0 y0 (first _ _ is)) ((booleans_Decides x1 y1).0 (second _ _ is))
alike (resumestage_is.Waiting x0 x1) _ is = cc is
alike (resumestage_is.Links x0) (resumestage_is.Links y0) is = ap resumestage_is.Links (call_alike x0 y0 is)
alike (resumestage_is.Links x0) _ is = cc is
alike (resumestage_is.Supplied x0 x1) (resumestage_is.Supplied y0 y1) is = of_two resumestage_is.Supplied (call_alike x0 y0 (first _ _ is)) ((Decides-int_eq x1 y1).0 (second _ _ is))
alike (resumestage_is.Supplied x0 x1) _ is = cc is
alike (resumestage_is.Callback x0) (resumestage_is.Callback y0) is = ap resumestage_is.Callback (call_alike x0 y0 is)
alike (resumestage_is.Callback x0) _ is = cc is
alike (resumestage_is.Running x0 x1) (resumestage_is.Running y0 y1) is = of_two resumestage_is.Running (call_alike x0 y0 (first _ _ is)) (eqb-true x1 y1 (second _ _ is))
alike (resumestage_is.Running x0 x1) _ is = cc is
alike (resumestage_is.Resumed x0) (resumestage_is.Resumed y0) is = ap resumestage_is.Resumed (call_alike x0 y0 is)
alike (resumestage_is.Resumed x0) _ is = cc is
alike (resumestage_is.Idle x0) (resumestage_is.Idle y0) is = ap resumestage_is.Idle (call_alike x0 y0 is)
alike (resumestage_is.Idle x0) _ is = cc is
alike (resumestage_is.Done x0 x1) (resumestage_is.Done y0 y1) is = of_two resumestage_is.Done (call_alike x0 y0 (first _ _ is)) ((Decides-int_eq x1 y1).0 (second _ _ is))
alike (resumestage_is.Done x0 x1) _ is = cc is
alike (resumestage_is.Parent x0 x1) (resumestage_is.Parent y0 y1) is = of_two resumestage_is.Parent (call_alike x0 y0 (first _ _ is)) ((Decides-int_eq x1 y1).0 (second _ _ is))
alike (resumestage_is.Parent x0 x1) _ is = cc is
alike (resumestage_is.Domain x0 x1) (resumestage_is.Domain y0 y1) is = of_two resumestage_is.Domain (call_alike x0 y0 (first _ _ is)) ((Decides-int_eq x1 y1).0 (second _ _ is))
alike (resumestage_is.Domain x0 x1) _ is = cc is
alike (resumestage_is.Unwind x0 x1) (resumestage_is.Unwind y0 y1) is = of_two resumestage_is.Unwind (call_alike x0 y0 (first _ _ is)) ((Decides-int_eq x1 y1).0 (second _ _ is))
alike (resumestage_is.Unwind x0 x1) _ is = cc is
