use Rattle.std.proofs.Common.{reverse}
use Rattle.pm_turns.proofs.AfterLemmas.{index_after}
use Rattle.pm_turns.proofs.turns.Turns.after.Goals as goal

pub returns : goal.returns
returns c =
    index_after c.args.plan.now (reverse c.args.lines.now) c.note_last.new.self c.look_at_all.new.self c.args.state.now.world c.requires.world_is c.requires.lawful c.note_last.ensures.seats c.note_last.ensures.seat
    c.note_last.ensures.time c.look_at_all.ensures
