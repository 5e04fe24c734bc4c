use Rattle.std.proofs.Common.{◌∙◌, ap, unwrap_or}
use Rattle.std.proofs.lemmas.Option.{unwrap_or-slice_get}
use Rattle.std.specs.Prelude.{slice_get}
use Rattle.pm_outcomes.proofs.islands.homes.caller_home.Goals as goal

pub returns : goal.returns
returns c =
    let numbers = c.args.numbers.now in
    c.unwrap_or.ensures ∙ (ap (λ o. unwrap_or o c.count.result) c.island_of.ensures ∙ (ap (λ n. unwrap_or (slice_get numbers.callers c.args.caller) n) c.count.ensures ∙ unwrap_or-slice_get numbers.callers c.args.caller numbers.count))
