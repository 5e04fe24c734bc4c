use Rattle.std.proofs.Common.{◌∙◌, List, [], ◌∷◌, map, slice_index_or, slice_set, ap, arith}
use Rattle.pm_model.specs.declared.stage.Stage.{Stage}
use Rattle.pm_state.specs.Places.{Stacks}
use Rattle.pm_state.specs.Piles.{stages_of_pile}
use Rattle.pm_state.proofs.PileLemmas.{has_room, less_than, pile_read, pushed}
use Rattle.pm_state.proofs.piles.Piles.push.Goals as goal

pub insert_reserved-upper-requires : goal.insert_reserved-upper-requires
insert_reserved-upper-requires c =
    let read = pile_read c.self.inside.cells c.self.inside.piles.items c.self.inside.room c.args.actor c.index-pile.result.now c.args.self.now c.self.view_is c.requires.in_range c.index-pile.ensures in
    let less = less_than c.self.inside.room c.self.inside.piles.items c.self.inside.cells c.args.actor c.index-pile.result.now c.args.self.now c.self.invariant read.is c.self.view_is c.requires.room in
    has_room c.self.inside.room c.self.inside.piles.items c.self.inside.cells c.args.actor c.index-pile.result.now c.self.invariant read.within read.is less

pub overflow_add-pile : goal.overflow_add-pile
overflow_add-pile c =
    let read = pile_read c.self.inside.cells c.self.inside.piles.items c.self.inside.room c.args.actor c.index-pile.result.now c.args.self.now c.self.view_is c.requires.in_range c.index-pile.ensures in
    let less = less_than c.self.inside.room c.self.inside.piles.items c.self.inside.cells c.args.actor c.index-pile.result.now c.args.self.now c.self.invariant read.is c.self.view_is c.requires.room in
    let fits = c.self.ranges in
    omega (arith, less, fits)

pub invariant_of-self : goal.invariant_of-self
invariant_of-self c =
    let read = pile_read c.self.inside.cells c.self.inside.piles.items c.self.inside.room c.args.actor c.index-pile.result.now c.args.self.now c.self.view_is c.requires.in_range c.index-pile.ensures in
    let less = less_than c.self.inside.room c.self.inside.piles.items c.self.inside.cells c.args.actor c.index-pile.result.now c.args.self.now c.self.invariant read.is c.self.view_is c.requires.room in
    let it = pushed c.self.inside.room c.self.inside.piles.items c.self.inside.cells c.insert_reserved-upper.new.self c.args.actor c.insert_reserved-upper.result c.index-pile.result.now c.args.stage c.self.invariant read.within read.is less
    c.insert_reserved-upper.ensures.was_vacant c.insert_reserved-upper.ensures.updates c.insert_reserved-upper.ensures.len c.insert_reserved-upper.ensures.capacity in
    it.piled

pub returns : goal.returns
returns c =
    let read = pile_read c.self.inside.cells c.self.inside.piles.items c.self.inside.room c.args.actor c.index-pile.result.now c.args.self.now c.self.view_is c.requires.in_range c.index-pile.ensures in
    let less = less_than c.self.inside.room c.self.inside.piles.items c.self.inside.cells c.args.actor c.index-pile.result.now c.args.self.now c.self.invariant read.is c.self.view_is c.requires.room in
    let it = pushed c.self.inside.room c.self.inside.piles.items c.self.inside.cells c.insert_reserved-upper.new.self c.args.actor c.insert_reserved-upper.result c.index-pile.result.now c.args.stage c.self.invariant read.within read.is less
    c.insert_reserved-upper.ensures.was_vacant c.insert_reserved-upper.ensures.updates c.insert_reserved-upper.ensures.len c.insert_reserved-upper.ensures.capacity in
    let seen : Stacks = record { stages = map (stages_of_pile c.self.inside.cells) c.self.inside.piles.items; room = c.self.inside.room } in
    ap (λ (l : List (List Stage)). record seen { stages = l }) it.stages
    ∙ ap (λ (s : Stacks). record s { stages = slice_set s.stages c.args.actor (c.args.stage ∷ slice_index_or s.stages c.args.actor []) }) c.self.view_is
