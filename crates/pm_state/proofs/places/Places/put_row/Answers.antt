use Rattle.std.proofs.Common.{◌≤◌, ◌++◌, List, Some, [], length, slice_index_or, ap, refl, subst, arith, rules}
use Rattle.pm_model.specs.declared.stage.Stage.{Stage}
use Rattle.pm_model.specs.declared.stage.StageRow.{StageRow}
use Rattle.pm_model.specs.declared.stage.StageRow.TheVariants as row
use Rattle.pm_model.specs.StageRows.{stages_of}
use Rattle.pm_state.specs.Places.{Stacks}
use Rattle.pm_state.proofs.StackLemmas.{is_seen, pile_stays, row_put}
use Rattle.pm_state.proofs.places.Places.put_row.Goals as goal

pub pop-requires : goal.pop-requires
pop-requires c = let it = is_seen c.self.inside.tops.items c.self.inside.below c.args.actor c.args.self.now c.self.invariant c.self.view_is c.requires.in_range in record { in_range = it.pile_within }

pub index_mut-requires : goal.index_mut-requires
index_mut-requires c = let it = is_seen c.self.inside.tops.items c.self.inside.below c.args.actor c.args.self.now c.self.invariant c.self.view_is c.requires.in_range in let w = it.top_within in search (rules, w)

pub index_mut-requires-in-One : goal.index_mut-requires-in-One
index_mut-requires-in-One c = let it = is_seen c.self.inside.tops.items c.self.inside.below c.args.actor c.args.self.now c.self.invariant c.self.view_is c.requires.in_range in let w = it.top_within in search (rules, w)

pub index_mut-requires-in-Two : goal.index_mut-requires-in-Two
index_mut-requires-in-Two c = let it = is_seen c.self.inside.tops.items c.self.inside.below c.args.actor c.args.self.now c.self.invariant c.self.view_is c.requires.in_range in let w = it.top_within in search (rules, w)

pub push-requires-clause-in_range : goal.push-requires-clause-in_range
push-requires-clause-in_range c = let it = is_seen c.self.inside.tops.items c.self.inside.below c.args.actor c.args.self.now c.self.invariant c.self.view_is c.requires.in_range in it.pile_within

pub push-requires-clause-room : goal.push-requires-clause-room
push-requires-clause-room c =
    let it = is_seen c.self.inside.tops.items c.self.inside.below c.args.actor c.args.self.now c.self.invariant c.self.view_is c.requires.in_range in
    let pile = slice_index_or c.self.inside.below.stages c.args.actor [] in
    let fits = subst (λ (l : List Stage). length (stages_of c.args.row ++ l) ≤ c.args.self.now.room) it.under c.requires.room in
    let two = subst (λ (r : StageRow). length (stages_of r ++ pile) ≤ c.args.self.now.room) c.in-Two.is fits in
    let room = ap (λ (s : Stacks). s.room) c.self.view_is in
    omega (arith, two, room)

pub returns-in-Zero : goal.returns-in-Zero
returns-in-Zero c =
    row_put c.self.inside.tops.items c.self.inside.below c.pop.new.self c.args.actor c.pop.result c.args.row row.Zero c.args.self.now c.self.invariant c.self.view_is c.requires.in_range c.in-Zero.is c.pop.ensures.upper c.pop.ensures.rest

pub returns-in-One : goal.returns-in-One
returns-in-One c =
    row_put c.self.inside.tops.items c.self.inside.below c.self.inside.below c.args.actor (Some c.in-One.stage) c.args.row (row.One c.in-One.stage) c.args.self.now c.self.invariant c.self.view_is c.requires.in_range c.in-One.is refl (pile_stays c.self.inside.below c.args.actor)

pub returns-in-Two : goal.returns-in-Two
returns-in-Two c =
    row_put c.self.inside.tops.items c.self.inside.below c.push.new.self c.args.actor (Some c.in-Two.called) c.args.row (row.Two c.in-Two.called c.in-Two.under) c.args.self.now c.self.invariant c.self.view_is c.requires.in_range c.in-Two.is refl c.push.ensures
