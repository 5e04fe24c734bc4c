-- The refusal and the others are told.
use Rattle.pm_say_driver.proofs.TellsLemmas.{tells_refusal}
use Rattle.pm_say_driver.proofs.refused.driver_refused_text.Goals as goal

pub returns : goal.returns
returns c =
    tells_refusal c.args.file.now c.args.bytes.now c.args.refusal c.in_ok-located.located c.in_ok-others.others.items c.as_slice-seen.result.now c.text_of.result
    c.in_ok-located.ensures c.in_ok-others.ensures.in_text c.in_ok-others.ensures.few c.as_slice-seen.ensures.value c.text_of.ensures
