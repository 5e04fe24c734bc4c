-- An error shows before.
use Rattle.std.proofs.Common.{◌∙◌}
use Rattle.pm_driver_report.proofs.FollowLemmas.{weighed_after}
use Rattle.pm_driver_report.proofs.follows.weighed.Goals as goal

pub returns-in-Some : goal.returns-in-Some
returns-in-Some c =
    weighed_after c.args.driver.now c.args.examined.now c.args.pass.now c.args.line c.as_note.result c.in-Some.field-0 c.as_slice.result.now (c.as_slice.ensures.value ∙ c.in_ok-told.ensures) c.in-Some.ensures.some c.as_note.ensures
