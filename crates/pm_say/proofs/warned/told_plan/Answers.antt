use Rattle.std.proofs.Common.{◌∙◌}
use Rattle.pm_say.proofs.WarnedLemmas.{tells_plan}
use Rattle.pm_say.proofs.warned.told_plan.Goals as goal

pub returns : goal.returns
returns c =
    tells_plan c.args.file.now c.args.bytes.now c.args.plan.now c.islands.result c.in_ok-found.found.items c.deref.result.now c.deref-2.result.now
    c.in_ok-text.text.items c.as_slice.result.now (record { text = c.push.new.text; kind = c.kind_of.result })
    c.in_ok-found.ensures c.deref.ensures.value c.deref-2.ensures.value c.kind_of.ensures c.in_ok-text.ensures c.islands.ensures
    (c.as_slice.ensures.value ∙ c.in_ok-counts.ensures) c.in_ok-push.ensures
