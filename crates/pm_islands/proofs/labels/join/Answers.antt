use Rattle.std.proofs.Common.{◌∙◌, ◌≤◌, arith, length}
use Rattle.pm_islands.specs.Labels.{relabelled}
use Rattle.pm_islands.proofs.Joining.{relabelled_behind}
use Rattle.pm_islands.proofs.labels.join.Goals as goal

pub returns : goal.returns
returns c =
    let within : c.max-from.result ≤ length c.args.labels.now =
    omega (arith, c.max-from.ensures, c.requires.no_later c.args.a c.requires.a_in_range, c.requires.no_later c.args.b c.requires.b_in_range, c.requires.a_in_range, c.requires.b_in_range) in
    relabelled_behind c.args.labels.now c.relabel.new.labels c.max-from.result c.min.result within c.requires.no_later c.relabel.ensures
    ∙ (λ i. relabelled (c.max-from.ensures i) (c.min.ensures i) c.args.labels.now)
