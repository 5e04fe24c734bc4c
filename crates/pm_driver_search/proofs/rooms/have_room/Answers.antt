use Rattle.std.proofs.Common.{◌≤◌, length, refl, subst}
use Rattle.pm_driver_search.proofs.ListLemmas.{all_more, all_whole}
use Rattle.pm_driver_search.proofs.RoomLemmas.{room_of}
use Rattle.pm_driver_search.proofs.rooms.have_room.Goals as goal

pub loop-place-preserved : goal.loop-place-preserved
loop-place-preserved c = all_more (λ v. length v.items ≤ c.args.room) c.args.places.now c.loop-place.place-index _ c.loop-place-test.true c.loop-place.invariant (subst (λ v. length v.items ≤ c.args.room) c.place-item.is (c.if-not-is_within.ensures refl))

pub returns : goal.returns
returns c = λ _. room_of (λ v. v.items) c.args.room c.args.places.now (all_whole (λ v. length v.items ≤ c.args.room) c.args.places.now c.loop-place.place-index c.loop-place-test.false c.loop-place.invariant)
