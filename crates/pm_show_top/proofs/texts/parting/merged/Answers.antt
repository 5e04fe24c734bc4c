use Rattle.std.proofs.Common.{subst, sym}
use Rattle.pm_model.specs.History.{History}
use Rattle.pm_model.specs.Lawful.{IsLawful}
use Rattle.pm_show_top.proofs.MergeLemmas.{two_in_time}
use Rattle.pm_show_top.proofs.texts.parting.merged.Goals as goal

pub merge-requires : goal.merge-requires
merge-requires c =
    two_in_time c.args.first.now.plan c.args.second.now.plan _ _
    (subst (λ (h : History). IsLawful c.args.first.now.plan h) (sym c.lines.ensures.lines) c.lines.ensures.lawful)
    (subst (λ (h : History). IsLawful c.args.second.now.plan h) (sym c.lines-2.ensures.lines) c.lines-2.ensures.lawful)
