use Rattle.std.proofs.Common.{refl}
use Rattle.pm_say.specs.declared.told.Kind.TheVariants.{Refused}
use Rattle.pm_say.proofs.SayLemmas.{says_fault}
use Rattle.pm_say.proofs.WarnedLemmas.{says_told}
use Rattle.pm_say.proofs.told.say.Goals as goal

pub returns-in-Err-Refused : goal.returns-in-Err-Refused
returns-in-Err-Refused c =
    let told = rw c.in-Err-Refused.field-0-is at c.in-Err-Refused.ensures.told in
    rw c.in-Err-Refused.field-0-is
    (says_fault c.args.file.now c.args.bytes.now (record { text = c.in-Err-Refused.text; kind = Refused }) told refl)

pub returns-in-Ok : goal.returns-in-Ok
returns-in-Ok c = says_told c.args.file.now c.args.bytes.now c.in-Ok.plan c.told_plan.result c.in-Ok.ensures.plan c.told_plan.ensures
