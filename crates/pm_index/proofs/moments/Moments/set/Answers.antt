use Rattle.std.proofs.Common.{◌≡◌, ◌<◌, ◌++◌, drop, length, set, take, ap, ◌∙◌, arith}
use Rattle.std.proofs.lemmas.List.{with_items_is}
use Rattle.pm_index.specs.Tree.{is_now, shown}
use Rattle.pm_index.proofs.PlaceLemmas.{set_moments, set_shown, shown_length}
use Rattle.pm_index.proofs.moments.Moments.set.Goals as goal

pub mark-requires : goal.mark-requires
mark-requires c =
    let m = c.self.inside in
    let bits = c.self.invariant in
    omega (arith, c.requires, ap length c.self.view_is, shown_length m.places m.leaves m.levels m.at_once m.nodes.items c.self.invariant, bits.marks)

pub put-requires-clause-in_range : goal.put-requires-clause-in_range
put-requires-clause-in_range c =
    let m = c.self.inside in
    let tree = c.self.invariant in
    omega (arith, c.requires, ap length c.self.view_is, shown_length m.places m.leaves m.levels m.at_once m.nodes.items c.self.invariant, tree.enough)

pub invariant_of-self : goal.invariant_of-self
invariant_of-self c =
    let m = c.self.inside in
    let within : c.args.place < m.places = omega (arith, c.requires, ap length c.self.view_is, shown_length m.places m.leaves m.levels m.at_once m.nodes.items c.self.invariant) in
    let marks : c.mark.new.places ≡ set m.at_once c.args.place (is_now c.args.moment) = c.mark.ensures ∙ ap (set m.at_once c.args.place) c.is_now.ensures in
    let written : take m.nodes.len (c.put.new.nodes ++ drop (length c.put.new.nodes) m.nodes.items) ≡ c.put.new.nodes = with_items_is m.nodes c.put.new.nodes (omega (arith, c.put.auto.nodes, c.deref_mut.ensures.len)) in
    let put = rw c.deref_mut.ensures.value at c.put.ensures.put in
    rw (written, marks) (set_moments m.places m.leaves m.levels m.at_once m.nodes.items c.self.invariant c.args.place c.key_of.result c.args.moment c.put.new.nodes within put c.key_of.ensures.held (c.put.auto.nodes ∙ ap length c.deref_mut.ensures.value) c.put.ensures.kept)

pub returns : goal.returns
returns c =
    let m = c.self.inside in
    let within : c.args.place < m.places = omega (arith, c.requires, ap length c.self.view_is, shown_length m.places m.leaves m.levels m.at_once m.nodes.items c.self.invariant) in
    let marks : c.mark.new.places ≡ set m.at_once c.args.place (is_now c.args.moment) = c.mark.ensures ∙ ap (set m.at_once c.args.place) c.is_now.ensures in
    let written : take m.nodes.len (c.put.new.nodes ++ drop (length c.put.new.nodes) m.nodes.items) ≡ c.put.new.nodes = with_items_is m.nodes c.put.new.nodes (omega (arith, c.put.auto.nodes, c.deref_mut.ensures.len)) in
    let put = rw c.deref_mut.ensures.value at c.put.ensures.put in
    ap (shown m.places m.leaves c.mark.new.places) written
    ∙ ap (λ places. shown m.places m.leaves places c.put.new.nodes) marks
    ∙ set_shown m.places m.leaves m.levels m.at_once m.nodes.items c.self.invariant c.args.place c.key_of.result c.args.moment c.put.new.nodes within put c.key_of.ensures.held
    ∙ ap (λ moments. set moments c.args.place c.args.moment) c.self.view_is
