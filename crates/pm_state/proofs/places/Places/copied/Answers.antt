use Rattle.std.proofs.Common.{◌≡◌, ◌∙◌, ◌++◌, List, None, [], ◌∷◌, slice_index_or, ap, sym, rules}
use Rattle.pm_model.specs.declared.stage.Stage.{Stage}
use Rattle.std.proofs.lemmas.List.{get_or_default}
use Rattle.pm_state.specs.Places.{stages_over}
use Rattle.pm_state.proofs.StackLemmas.{is_seen, not_some}
use Rattle.pm_state.proofs.places.Places.copied.Goals as goal

pub index-requires : goal.index-requires
index-requires c = let it = is_seen c.self.inside.tops.items c.self.inside.below c.args.actor c.args.self.now c.self.invariant c.self.view_is c.requires in let w = it.top_within in search (rules, w)

pub returns-in_default : goal.returns-in_default
returns-in_default c =
    let it = is_seen c.self.inside.tops.items c.self.inside.below c.args.actor c.args.self.now c.self.invariant c.self.view_is c.requires in
    let read = c.index.ensures ∙ get_or_default c.self.inside.tops.items c.args.actor c.index.result.now None it.top_within in
    let none = not_some c.index.result.now c.in_default.not-Some in
    c.new-stages.ensures.items ∙ sym (it.all ∙ ap (λ t. stages_over t (slice_index_or c.self.inside.below.stages c.args.actor [])) (sym read ∙ none))

pub copy_to-requires : goal.copy_to-requires
copy_to-requires c = let it = is_seen c.self.inside.tops.items c.self.inside.below c.args.actor c.args.self.now c.self.invariant c.self.view_is c.requires in it.pile_within

pub returns : goal.returns
returns c =
    let it = is_seen c.self.inside.tops.items c.self.inside.below c.args.actor c.args.self.now c.self.invariant c.self.view_is c.requires in
    let read = c.index.ensures ∙ get_or_default c.self.inside.tops.items c.args.actor c.index.result.now None it.top_within in
    let under = slice_index_or c.self.inside.below.stages c.args.actor [] in
    let pushed : c.push.new.self.items ≡ c.in-Some.top ∷ [] = c.in_ok-push.ensures.items ∙ ap (λ (l : List Stage). l ++ c.in-Some.top ∷ []) c.new-stages.ensures.items in
    c.in_ok-copy_to.ensures ∙ ap (λ (l : List Stage). l ++ under) pushed ∙ sym (it.all ∙ ap (λ t. stages_over t under) (sym read ∙ c.in-Some.is))
