use Rattle.std.proofs.Common.{◌∙◌, List, None, [], drop, map, slice_index_or, slice_set, ap, subst}
use Rattle.pm_model.specs.declared.stage.Stage.{Stage}
use Rattle.pm_model.specs.World.{top}
use Rattle.pm_state.specs.Places.{Stacks}
use Rattle.pm_state.specs.Piles.{AreKept, stages_of_pile}
use Rattle.pm_state.specs.declared.cell.Pile.{Pile}
use Rattle.pm_state.proofs.PileLemmas.{pile_read, popped, upper_there}
use Rattle.pm_state.proofs.piles.Piles.pop.Goals as goal

pub remove-cell-requires : goal.remove-cell-requires
remove-cell-requires c =
    let read = pile_read c.self.inside.cells c.self.inside.piles.items c.self.inside.room c.args.actor c.index-pile.result.now c.args.self.now c.self.view_is c.requires.in_range c.index-pile.ensures in
    let kept = subst (λ (q : Pile). AreKept c.self.inside.cells c.args.actor q.many q.upper) read.is (c.self.invariant.kept c.args.actor) in
    upper_there c.self.inside.cells c.args.actor c.index-pile.result.now.many c.index-pile.result.now.upper kept c.if-pile-eq0.false

pub invariant_of-self : goal.invariant_of-self
invariant_of-self c =
    let read = pile_read c.self.inside.cells c.self.inside.piles.items c.self.inside.room c.args.actor c.index-pile.result.now c.args.self.now c.self.view_is c.requires.in_range c.index-pile.ensures in
    let it = popped c.self.inside.room c.self.inside.piles.items c.self.inside.cells c.remove-cell.new.self c.args.actor c.index-pile.result.now c.remove-cell.result c.self.invariant read.within read.is c.if-pile-eq0.false c.remove-cell.ensures.value
    c.remove-cell.ensures.updates c.remove-cell.ensures.len c.remove-cell.ensures.capacity in
    it.piled

pub returns-clause-upper : goal.returns-clause-upper
returns-clause-upper c =
    let read = pile_read c.self.inside.cells c.self.inside.piles.items c.self.inside.room c.args.actor c.index-pile.result.now c.args.self.now c.self.view_is c.requires.in_range c.index-pile.ensures in
    let it = popped c.self.inside.room c.self.inside.piles.items c.self.inside.cells c.remove-cell.new.self c.args.actor c.index-pile.result.now c.remove-cell.result c.self.invariant read.within read.is c.if-pile-eq0.false c.remove-cell.ensures.value
    c.remove-cell.ensures.updates c.remove-cell.ensures.len c.remove-cell.ensures.capacity in
    it.upper ∙ ap (λ (s : Stacks). top None (slice_index_or s.stages c.args.actor [])) c.self.view_is

pub returns-clause-rest : goal.returns-clause-rest
returns-clause-rest c =
    let read = pile_read c.self.inside.cells c.self.inside.piles.items c.self.inside.room c.args.actor c.index-pile.result.now c.args.self.now c.self.view_is c.requires.in_range c.index-pile.ensures in
    let it = popped c.self.inside.room c.self.inside.piles.items c.self.inside.cells c.remove-cell.new.self c.args.actor c.index-pile.result.now c.remove-cell.result c.self.invariant read.within read.is c.if-pile-eq0.false c.remove-cell.ensures.value
    c.remove-cell.ensures.updates c.remove-cell.ensures.len c.remove-cell.ensures.capacity in
    let seen : Stacks = record { stages = map (stages_of_pile c.self.inside.cells) c.self.inside.piles.items; room = c.self.inside.room } in
    ap (λ (l : List (List Stage)). record seen { stages = l }) it.rest
    ∙ ap (λ (s : Stacks). record s { stages = slice_set s.stages c.args.actor (drop 1 (slice_index_or s.stages c.args.actor [])) }) c.self.view_is
