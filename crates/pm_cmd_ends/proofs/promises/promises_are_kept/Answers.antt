use Rattle.pm_cmd_ends.specs.Promised.{KeepsPromises}
use Rattle.pm_cmd_ends.proofs.promises.promises_are_kept.Goals as goal

pub returns : goal.returns
unfolding KeepsPromises
returns c plan h lawful = (c.runs_are_safe.ensures plan h lawful, c.runs_are_exclusive.ensures plan h lawful, c.kept.ensures plan h lawful, c.gets_succeed.ensures plan h lawful, c.one_call_alone.ensures plan h lawful)
