use Rattle.pm_say_driver.proofs.TellsLemmas.{tells_own}
use Rattle.pm_say_driver.proofs.told.told_driver.Goals as goal

pub returns : goal.returns
returns c =
    tells_own c.args.file.now c.args.bytes.now c.in_ok-warnings.warnings.items c.as_slice-seen.result.now c.as_slice.result.now (record { text = c.in_ok-text.text; kind = c.kind_of.result })
    c.as_slice-seen.ensures.value c.in_ok-warnings.ensures.in_text c.in_ok-warnings.ensures.few c.kind_of.ensures c.in_ok-text.ensures
