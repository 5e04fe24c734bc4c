-- The derived test of two values of HelperStage is exact.
use Rattle.std.proofs.Common.{◌≡◌, true, ap}
use Rattle.std.proofs.lemmas.Bool.{eqb-true}
use Rattle.std.proofs.lemmas.Bool.Decides.{Decides-int_eq}
use Rattle.pm_model.specs.declared.stage.HelperStage.{HelperStage}
use Rattle.pm_model.specs.declared.stage.HelperStage.TheVariants as helperstage_is
use Rattle.pm_model.specs.contracts.stage.HelperStagePartialEq.TheImpl.{eq-value}
use Rattle.pm_explore.proofs.state.CommandAlike.{alike as command_alike}
use Rattle.pm_explore.proofs.state.FieldsAlike.{dev_alike, helper_alike}
use Rattle.pm_explore.proofs.state.Lists.{first, of_three, of_two, second}

pub alike : (a b : HelperStage) → eq-value.it a b ≡ true → a ≡ b
alike (helperstage_is.Call x0) (helperstage_is.Call y0) is = ap helperstage_is.Call (command_alike x0 y0 is)
alike (helperstage_is.Call x0) _ is = cc is
alike (helperstage_is.Work x0) (helperstage_is.Work y0) is = ap helperstage_is.Work (dev_alike x0 y0 is)
alike (helperstage_is.Work x0) _ is = cc is
alike (helperstage_is.Timer x0) (helperstage_is.Timer y0) is = ap helperstage_is.Timer (dev_alike x0 y0 is)
alike (helperstage_is.Timer x0) _ is = cc is
alike (helperstage_is.Start x0) (helperstage_is.Start y0) is = ap helperstage_is.Start (command_alike x0 y0 is)
alike (helperstage_is.Start x0) _ is = cc is
alike (helperstage_is.PutSuspends x0) (helperstage_is.PutSuspends y0) is = ap helperstage_is.PutSuspends (command_alike x0 y0 is)
alike (helperstage_is.PutSuspends x0) _ is = cc is
alike (helperstage_is.Delay x0 x1) (helperstage_is.Delay y0 y1) is = of_two helperstage_is.Delay ((Decides-int_eq x0 y0).0 (first _ _ is)) (eqb-true x1 y1 (second _ _ is))
alike (helperstage_is.Delay x0 x1) _ is = cc is
alike (helperstage_is.Ret x0 x1 x2) (helperstage_is.Ret y0 y1 y2) is = let rest = second _ _ is in of_three helperstage_is.Ret (helper_alike x0 y0 (first _ _ is)) (dev_alike x1 y1 (first _ _ rest)) ((Decides-int_eq x2 y2).0 (second _ _ rest))
alike (helperstage_is.Ret x0 x1 x2) _ is = cc is
