use Rattle.std.proofs.Common.{rules}
use Rattle.pm_state.proofs.StackLemmas.{gone, is_seen}
use Rattle.pm_state.proofs.places.Places.put.Goals as goal

pub fill_below-requires-clause-in_range : goal.fill_below-requires-clause-in_range
fill_below-requires-clause-in_range c = let it = is_seen c.self.inside.tops.items c.self.inside.below c.args.actor c.args.self.now c.self.invariant c.self.view_is c.requires.in_range in it.pile_within

pub index_mut-requires : goal.index_mut-requires
index_mut-requires c = let it = is_seen c.self.inside.tops.items c.self.inside.below c.args.actor c.args.self.now c.self.invariant c.self.view_is c.requires.in_range in let w = it.top_within in search (rules, w)

pub returns : goal.returns
returns c = gone c.self.inside.tops.items c.self.inside.below c.fill_below.new.below c.args.actor c.fill_below.result c.args.stages.now c.args.self.now c.self.invariant c.self.view_is c.fill_below.ensures.upper c.fill_below.ensures.rest
