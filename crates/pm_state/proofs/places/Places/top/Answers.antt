use Rattle.std.proofs.Common.{◌∙◌, None, sym, rules}
use Rattle.std.proofs.lemmas.List.{get_or_default}
use Rattle.pm_state.proofs.StackLemmas.{is_seen}
use Rattle.pm_state.proofs.places.Places.top.Goals as goal

pub index-requires : goal.index-requires
index-requires c = let it = is_seen c.self.inside.tops.items c.self.inside.below c.args.actor c.args.self.now c.self.invariant c.self.view_is c.requires in let w = it.top_within in search (rules, w)

pub returns : goal.returns
returns c =
    let it = is_seen c.self.inside.tops.items c.self.inside.below c.args.actor c.args.self.now c.self.invariant c.self.view_is c.requires in
    c.as_ref.ensures.value ∙ c.index.ensures ∙ get_or_default c.self.inside.tops.items c.args.actor c.index.result.now None it.top_within ∙ sym it.writes
