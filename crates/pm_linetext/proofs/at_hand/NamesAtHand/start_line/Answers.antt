-- The longest front has room.
use Rattle.std.proofs.Common.{subst}
use Rattle.pm_linetext.specs.NamesFit.{NamesFit}
use Rattle.pm_linetext.proofs.Lengths.{actor_room}
use Rattle.pm_linetext.proofs.at_hand.NamesAtHand.start_line.Goals as goal

pub push_padded-requires : goal.push_padded-requires
push_padded-requires c =
    let fit : NamesFit c.args.self.now = subst NamesFit c.self.view_is c.self.invariant.fit in
    rw (c.text.view_is, c.put_time.ensures, c.in-Some.ensures) (actor_room c.args.self.now fit c.args.time c.args.actor c.requires)

pub push_actor-requires : goal.push_actor-requires
push_actor-requires c =
    let fit : NamesFit c.args.self.now = subst NamesFit c.self.view_is c.self.invariant.fit in
    rw (c.text.view_is, c.put_time.ensures) (actor_room c.args.self.now fit c.args.time c.args.actor c.requires)
