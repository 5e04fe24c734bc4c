-- By the derived test of equality.
use Rattle.std.proofs.Common.{◌∙◌, sym}
use Rattle.pm_explore.proofs.state.SnapshotAlike.{same_if, same_then}
use Rattle.pm_explore.proofs.state.snapshot.is_same_snapshot.Goals as goal

pub returns : goal.returns
returns c = (λ yes. same_if c.args.one.now c.args.other.now (sym c.eq.ensures ∙ yes), λ is. c.eq.ensures ∙ same_then c.args.one.now c.args.other.now is)
