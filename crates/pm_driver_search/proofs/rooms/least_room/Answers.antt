use Rattle.pm_driver_search.proofs.RoomLemmas.{room_step}
use Rattle.pm_driver_search.proofs.rooms.least_room.Goals as goal

pub loop-dev-preserved : goal.loop-dev-preserved
loop-dev-preserved c = λ room each. room_step c.args.plan.now _ c.loop-dev.room c.room_of.result c.larger-room.result room (c.loop-dev.invariant room each) c.room_of.ensures each c.larger-room.ensures
