use Rattle.std.proofs.Common.{length, refl, true}
use Rattle.std.proofs.lemmas.List.{length-replicate}
use Rattle.pm_domain.proofs.StartLemmas.{length-fresh_on}
use Rattle.pm_domain.proofs.Domains.fresh.Goals as goal

pub returns-clause-made_for : goal.returns-clause-made_for
returns-clause-made_for c = rw (c.in_ok-all_awake.ensures, c.in_ok-kept_on.ensures) (record {
  homes_are = refl;
  awake_len = length-replicate (length c.args.plan.now.devices) true;
  above_are = refl;
  on_len = length-fresh_on c.args.plan.now;
})
