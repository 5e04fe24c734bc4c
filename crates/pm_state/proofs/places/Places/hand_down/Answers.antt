use Rattle.std.proofs.Common.{◌∙◌, List, [], slice_index_or, slice_set, ap, sym, rules, to_z, of_z, w32}
use Rattle.std.proofs.lemmas.Int.{to_z-of_z}
use Rattle.pm_model.specs.declared.stage.Stage.{Stage}
use Rattle.pm_model.specs.Handing.{after_code}
use Rattle.pm_state.proofs.StackLemmas.{gone, is_seen}
use Rattle.pm_state.proofs.places.Places.hand_down.Goals as goal

pub hand-requires : goal.hand-requires
hand-requires c = let it = is_seen c.self.inside.tops.items c.self.inside.below c.args.actor c.args.self.now c.self.invariant c.self.view_is c.requires.in_range in it.pile_within

pub index_mut-requires : goal.index_mut-requires
index_mut-requires c = let it = is_seen c.self.inside.tops.items c.self.inside.below c.args.actor c.args.self.now c.self.invariant c.self.view_is c.requires.in_range in let w = it.top_within in search (rules, w)

pub returns : goal.returns
returns c =
    let it = is_seen c.self.inside.tops.items c.self.inside.below c.args.actor c.args.self.now c.self.invariant c.self.view_is c.requires.in_range in
    let pile = slice_index_or c.self.inside.below.stages c.args.actor [] in
    gone c.self.inside.tops.items c.self.inside.below c.hand.new.below c.args.actor c.hand.result (after_code pile (to_z w32 (of_z w32 c.args.code))) c.args.self.now c.self.invariant c.self.view_is c.hand.ensures.upper c.hand.ensures.rest
    ∙ ap (λ z. record c.args.self.now { stages = slice_set c.args.self.now.stages c.args.actor (after_code pile z) }) (to_z-of_z w32 c.args.code c.ranges.code)
    ∙ ap (λ (l : List Stage). record c.args.self.now { stages = slice_set c.args.self.now.stages c.args.actor (after_code l c.args.code) }) (sym it.under)
