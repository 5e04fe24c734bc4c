-- The derived test of two values of ControlStage is exact.
use Rattle.std.proofs.Common.{◌≡◌, true, ap}
use Rattle.std.proofs.lemmas.Bool.Decides.{Decides-int_eq}
use Rattle.pm_model.specs.declared.stage.ControlStage.{ControlStage}
use Rattle.pm_model.specs.declared.stage.ControlStage.TheVariants as controlstage_is
use Rattle.pm_model.specs.contracts.stage.ControlStagePartialEq.TheImpl.{eq-value}
use Rattle.pm_explore.proofs.state.CommandAlike.{alike as command_alike}
use Rattle.pm_explore.proofs.state.FieldsAlike.{dev_alike, maybe_dev_alike}
use Rattle.pm_explore.proofs.state.Lists.{first, of_two, second}

pub alike : (a b : ControlStage) → eq-value.it a b ≡ true → a ≡ b
alike (controlstage_is.Start x0) (controlstage_is.Start y0) is = ap controlstage_is.Start (command_alike x0 y0 is)
alike (controlstage_is.Start x0) _ is = cc is
alike (controlstage_is.DisablePut x0) (controlstage_is.DisablePut y0) is = ap controlstage_is.DisablePut (dev_alike x0 y0 is)
alike (controlstage_is.DisablePut x0) _ is = cc is
alike (controlstage_is.Disable x0) (controlstage_is.Disable y0) is = ap controlstage_is.Disable (dev_alike x0 y0 is)
alike (controlstage_is.Disable x0) _ is = cc is
alike (controlstage_is.Disabled x0) (controlstage_is.Disabled y0) is = ap controlstage_is.Disabled (dev_alike x0 y0 is)
alike (controlstage_is.Disabled x0) _ is = cc is
alike (controlstage_is.BarrierResume x0) (controlstage_is.BarrierResume y0) is = ap controlstage_is.BarrierResume (dev_alike x0 y0 is)
alike (controlstage_is.BarrierResume x0) _ is = cc is
alike (controlstage_is.BarrierIdle x0 x1) (controlstage_is.BarrierIdle y0 y1) is = of_two controlstage_is.BarrierIdle (dev_alike x0 y0 (first _ _ is)) ((Decides-int_eq x1 y1).0 (second _ _ is))
alike (controlstage_is.BarrierIdle x0 x1) _ is = cc is
alike (controlstage_is.BarrierWait x0 x1) (controlstage_is.BarrierWait y0 y1) is = of_two controlstage_is.BarrierWait (dev_alike x0 y0 (first _ _ is)) ((Decides-int_eq x1 y1).0 (second _ _ is))
alike (controlstage_is.BarrierWait x0 x1) _ is = cc is
alike (controlstage_is.ActiveLinks x0) (controlstage_is.ActiveLinks y0) is = ap controlstage_is.ActiveLinks (dev_alike x0 y0 is)
alike (controlstage_is.ActiveLinks x0) _ is = cc is
alike (controlstage_is.ActiveUnwind x0 x1) (controlstage_is.ActiveUnwind y0 y1) is = of_two controlstage_is.ActiveUnwind (dev_alike x0 y0 (first _ _ is)) ((Decides-int_eq x1 y1).0 (second _ _ is))
alike (controlstage_is.ActiveUnwind x0 x1) _ is = cc is
alike (controlstage_is.SuppliersIdle x0 x1) (controlstage_is.SuppliersIdle y0 y1) is = of_two controlstage_is.SuppliersIdle (dev_alike x0 y0 (first _ _ is)) (maybe_dev_alike x1 y1 (second _ _ is))
alike (controlstage_is.SuppliersIdle x0 x1) _ is = cc is
