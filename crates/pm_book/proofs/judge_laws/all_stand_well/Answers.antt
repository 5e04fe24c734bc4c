-- By the laws of stages.
use Rattle.pm_model.specs.World.{world}
use Rattle.pm_book.proofs.Moves.{stands_well}
use Rattle.pm_book.proofs.judge_laws.all_stand_well.Goals as goal

pub returns : goal.returns
returns c = λ plan h w lawful early same actor.
    stands_well plan (world plan h) w actor same (λ s at. c.stages_can_be_told.ensures plan h actor s lawful early at) (λ s at. c.stages_have_moves.ensures plan h actor s 0 lawful at)
