use Rattle.std.proofs.Common.{◌≡◌, get_or, ap, sym, ◌∙◌, arith}
use Rattle.pm_index.specs.Tree.{later_of}
use Rattle.pm_index.proofs.PlaceLemmas.{all_later, least_first, least_held, least_missing, some_now}
use Rattle.pm_index.proofs.TreeLemmas.{some_leaves}
use Rattle.pm_index.proofs.moments.Moments.least.Goals as goal

pub returns-then-is_some-clause-held : goal.returns-then-is_some-clause-held
returns-then-is_some-clause-held c =
    let m = c.self.inside in
    rw (← c.self.view_is) (some_now m.places m.leaves m.levels m.at_once m.nodes.items c.self.invariant c.first.result (sym c.is_some.ensures ∙ c.if-is_some.true) c.first.ensures.found)

pub top-requires : goal.top-requires
top-requires c =
    let m = c.self.inside in
    let tree = c.self.invariant in
    rw c.deref.ensures.value (omega (arith, tree.halves, tree.whole, some_leaves m.levels))

pub returns-clause-held : goal.returns-clause-held
returns-clause-held c =
    let m = c.self.inside in
    let later = all_later m.places m.leaves m.levels m.at_once m.nodes.items c.self.invariant c.first.result (sym c.is_some.ensures ∙ c.if-is_some.false) c.first.ensures.missing in
    let is : c.later_of.result ≡ later_of (get_or m.nodes.items 1 0) = c.later_of.ensures ∙ ap later_of (rw c.deref.ensures.value at c.top.ensures) in
    rw (is, ← c.self.view_is) (least_held m.places m.leaves m.levels m.at_once m.nodes.items c.self.invariant later)

pub returns-clause-least : goal.returns-clause-least
returns-clause-least c =
    let m = c.self.inside in
    let later = all_later m.places m.leaves m.levels m.at_once m.nodes.items c.self.invariant c.first.result (sym c.is_some.ensures ∙ c.if-is_some.false) c.first.ensures.missing in
    let is : c.later_of.result ≡ later_of (get_or m.nodes.items 1 0) = c.later_of.ensures ∙ ap later_of (rw c.deref.ensures.value at c.top.ensures) in
    rw (is, ← c.self.view_is) (least_first m.places m.leaves m.levels m.at_once m.nodes.items c.self.invariant later)

pub returns-clause-missing : goal.returns-clause-missing
returns-clause-missing c =
    let m = c.self.inside in
    let later = all_later m.places m.leaves m.levels m.at_once m.nodes.items c.self.invariant c.first.result (sym c.is_some.ensures ∙ c.if-is_some.false) c.first.ensures.missing in
    let is : c.later_of.result ≡ later_of (get_or m.nodes.items 1 0) = c.later_of.ensures ∙ ap later_of (rw c.deref.ensures.value at c.top.ensures) in
    rw (is, ← c.self.view_is) (least_missing m.places m.leaves m.levels m.at_once m.nodes.items c.self.invariant later)
