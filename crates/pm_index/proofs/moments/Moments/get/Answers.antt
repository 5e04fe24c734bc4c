use Rattle.std.proofs.Common.{rules, ◌≡◌, ◌+◌, ◌<◌, ◌^◌, true, false, get_or, length, ap, sym, ◌∙◌, arith}
use Rattle.std.proofs.lemmas.List.{get_or_read}
use Rattle.pm_index.specs.Marks.{is_marked}
use Rattle.pm_index.specs.Tree.{later_of, moment_by}
use Rattle.pm_index.proofs.PlaceLemmas.{at_place, few_leaves, leaf_in_range, shown_length}
use Rattle.pm_index.proofs.moments.Moments.get.Goals as goal

pub contains-requires : goal.contains-requires
contains-requires c =
    let m = c.self.inside in
    let bits = c.self.invariant in
    omega (arith, c.requires, ap length c.self.view_is, shown_length m.places m.leaves m.levels m.at_once m.nodes.items c.self.invariant, bits.marks)

pub returns-then-contains : goal.returns-then-contains
returns-then-contains c =
    let m = c.self.inside in
    let within : c.args.place < m.places = omega (arith, c.requires, ap length c.self.view_is, shown_length m.places m.leaves m.levels m.at_once m.nodes.items c.self.invariant) in
    let marked : is_marked m.at_once c.args.place ≡ true = sym c.contains.ensures ∙ c.if-contains.true in
    rw (← c.self.view_is) (sym (at_place m.places m.leaves m.levels m.at_once m.nodes.items c.self.invariant c.args.place within ∙ ap (λ mark. moment_by mark (get_or m.nodes.items (m.leaves + c.args.place) 0)) marked))

pub overflow_add-self-inside : goal.overflow_add-self-inside
overflow_add-self-inside c =
    let m = c.self.inside in
    let tree = c.self.invariant in
    let within : c.args.place < m.places = omega (arith, c.requires, ap length c.self.view_is, shown_length m.places m.leaves m.levels m.at_once m.nodes.items c.self.invariant) in
    let few : m.leaves + c.args.place < 2 ^ 34 = omega (arith, few_leaves m.places m.leaves m.levels m.at_once m.nodes.items c.self.invariant, tree.enough) in
    search rules

pub index-requires : goal.index-requires
index-requires c =
    let m = c.self.inside in
    let within : c.args.place < m.places = omega (arith, c.requires, ap length c.self.view_is, shown_length m.places m.leaves m.levels m.at_once m.nodes.items c.self.invariant) in
    omega (arith, leaf_in_range m.places m.leaves m.levels m.at_once m.nodes.items c.self.invariant c.args.place within, m.nodes.ok.0)

pub returns : goal.returns
returns c =
    let m = c.self.inside in
    let within : c.args.place < m.places = omega (arith, c.requires, ap length c.self.view_is, shown_length m.places m.leaves m.levels m.at_once m.nodes.items c.self.invariant) in
    let unmarked : is_marked m.at_once c.args.place ≡ false = sym c.contains.ensures ∙ c.if-contains.false in
    let key = get_or_read m.nodes.items (m.leaves + c.args.place) c.index.result.now (leaf_in_range m.places m.leaves m.levels m.at_once m.nodes.items c.self.invariant c.args.place within) c.index.ensures 0 in
    rw (← c.self.view_is) (c.later_of.ensures ∙ ap later_of key ∙ sym (at_place m.places m.leaves m.levels m.at_once m.nodes.items c.self.invariant c.args.place within ∙ ap (λ mark. moment_by mark (get_or m.nodes.items (m.leaves + c.args.place) 0)) unmarked))
