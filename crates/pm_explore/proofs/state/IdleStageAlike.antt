-- The derived test of two values of IdleStage is exact.
use Rattle.std.proofs.Common.{◌≡◌, true}
use Rattle.std.proofs.lemmas.Bool.{eqb-true}
use Rattle.std.proofs.lemmas.Bool.Decides.{Decides-int_eq}
use Rattle.pm_model.specs.declared.stage.IdleStage.{IdleStage}
use Rattle.pm_model.specs.declared.stage.IdleStage.TheVariants as idlestage_is
use Rattle.pm_model.specs.contracts.stage.IdleStagePartialEq.TheImpl.{eq-value}
use Rattle.pm_explore.proofs.state.FieldsAlike.{dev_alike}
use Rattle.pm_explore.proofs.state.Lists.{first, of_three, of_two, second}

pub alike : (a b : IdleStage) → eq-value.it a b ≡ true → a ≡ b
alike (idlestage_is.Enter x0 x1) (idlestage_is.Enter y0 y1) is = of_two idlestage_is.Enter (dev_alike x0 y0 (first _ _ is)) (eqb-true x1 y1 (second _ _ is))
alike (idlestage_is.Enter x0 x1) _ is = cc is
alike (idlestage_is.Verdict x0 x1) (idlestage_is.Verdict y0 y1) is = of_two idlestage_is.Verdict (dev_alike x0 y0 (first _ _ is)) (eqb-true x1 y1 (second _ _ is))
alike (idlestage_is.Verdict x0 x1) _ is = cc is
alike (idlestage_is.Running x0 x1 x2) (idlestage_is.Running y0 y1 y2) is = let rest = second _ _ is in of_three idlestage_is.Running (dev_alike x0 y0 (first _ _ is)) (eqb-true x1 y1 (first _ _ rest)) (eqb-true x2 y2 (second _ _ rest))
alike (idlestage_is.Running x0 x1 x2) _ is = cc is
alike (idlestage_is.Done x0 x1 x2) (idlestage_is.Done y0 y1 y2) is = let rest = second _ _ is in of_three idlestage_is.Done (dev_alike x0 y0 (first _ _ is)) (eqb-true x1 y1 (first _ _ rest)) ((Decides-int_eq x2 y2).0 (second _ _ rest))
alike (idlestage_is.Done x0 x1 x2) _ is = cc is
alike (idlestage_is.Queued x0 x1) (idlestage_is.Queued y0 y1) is = of_two idlestage_is.Queued (dev_alike x0 y0 (first _ _ is)) (eqb-true x1 y1 (second _ _ is))
alike (idlestage_is.Queued x0 x1) _ is = cc is
alike (idlestage_is.AfterPut x0 x1) (idlestage_is.AfterPut y0 y1) is = of_two idlestage_is.AfterPut (dev_alike x0 y0 (first _ _ is)) (eqb-true x1 y1 (second _ _ is))
alike (idlestage_is.AfterPut x0 x1) _ is = cc is
