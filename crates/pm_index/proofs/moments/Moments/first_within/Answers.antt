use Rattle.std.proofs.Common.{rules, ◌≡◌, ◌+◌, ◌-◌, ◌<◌, ◌≤◌, ◌^◌, true, length, ap, arith}
use Rattle.pm_index.specs.Marks.{is_marked}
use Rattle.pm_index.specs.Moments.{is_within, moment_of}
use Rattle.pm_index.specs.Tree.{shown}
use Rattle.pm_index.proofs.PlaceLemmas.{few_leaves, first_marked, first_of_both, for_some, leaf_within, lesser_found, marked_within, none_marked, shown_length}
use Rattle.pm_index.proofs.moments.Moments.first_within.Goals as goal

pub first-now-requires : goal.first-now-requires
first-now-requires c =
    let m = c.self.inside in
    let bits = c.self.invariant in
    omega (arith, c.requires, ap length c.self.view_is, shown_length m.places m.leaves m.levels m.at_once m.nodes.items c.self.invariant, bits.marks)

pub overflow_add-self-inside : goal.overflow_add-self-inside
overflow_add-self-inside c =
    let m = c.self.inside in
    let tree = c.self.invariant in
    let within : c.args.from ≤ m.places = omega (arith, c.requires, ap length c.self.view_is, shown_length m.places m.leaves m.levels m.at_once m.nodes.items c.self.invariant) in
    let few : m.leaves + c.args.from < 2 ^ 34 = omega (arith, few_leaves m.places m.leaves m.levels m.at_once m.nodes.items c.self.invariant, tree.enough) in
    search rules

pub first_under-requires-clause-in_range : goal.first_under-requires-clause-in_range
first_under-requires-clause-in_range c =
    let m = c.self.inside in
    let tree = c.self.invariant in
    let within : c.args.from ≤ m.places = omega (arith, c.requires, ap length c.self.view_is, shown_length m.places m.leaves m.levels m.at_once m.nodes.items c.self.invariant) in
    rw c.deref.ensures.value (omega (arith, tree.whole), omega (arith, tree.halves, tree.enough))

pub returns-in_default-clause-found : goal.returns-in_default-clause-found
returns-in_default-clause-found c =
    let m = c.self.inside in
    rw (← c.self.view_is) (for_some
    (λ i. (c.args.from ≤ i) × (i < length m.at_once) × (is_marked m.at_once i ≡ true))
    (λ i. (c.args.from ≤ i) × (i < length (shown m.places m.leaves m.at_once m.nodes.items)) × (is_within c.args.bound (moment_of (shown m.places m.leaves m.at_once m.nodes.items) i) ≡ true))
    c.first-now.result (marked_within m.places m.leaves m.levels m.at_once m.nodes.items c.self.invariant c.args.from c.args.bound) c.first-now.ensures.found)

pub returns-in_default-clause-first : goal.returns-in_default-clause-first
returns-in_default-clause-first c =
    let m = c.self.inside in
    let keys = rw c.deref.ensures.value at c.in_default.ensures.missing in
    rw (← c.self.view_is) (first_marked m.places m.leaves m.levels m.at_once m.nodes.items c.self.invariant c.args.from c.args.bound c.first-now.result keys c.first-now.ensures.found c.first-now.ensures.first)

pub returns-in_default-clause-missing : goal.returns-in_default-clause-missing
returns-in_default-clause-missing c =
    let m = c.self.inside in
    let keys = rw c.deref.ensures.value at c.in_default.ensures.missing in
    rw (← c.self.view_is) (none_marked m.places m.leaves m.levels m.at_once m.nodes.items c.self.invariant c.args.from c.args.bound c.first-now.result keys c.first-now.ensures.missing)

pub returns-clause-found : goal.returns-clause-found
returns-clause-found c =
    let m = c.self.inside in
    let here = leaf_within m.places m.leaves m.levels m.at_once m.nodes.items c.self.invariant c.args.from c.args.bound c.in-Some.leaf c.ranges.bound.fits (rw c.deref.ensures.value at c.in-Some.ensures.found) in
    let now = for_some
    (λ i. (c.args.from ≤ i) × (i < length m.at_once) × (is_marked m.at_once i ≡ true))
    (λ i. (c.args.from ≤ i) × (i < length (shown m.places m.leaves m.at_once m.nodes.items)) × (is_within c.args.bound (moment_of (shown m.places m.leaves m.at_once m.nodes.items) i) ≡ true))
    c.first-now.result (marked_within m.places m.leaves m.levels m.at_once m.nodes.items c.self.invariant c.args.from c.args.bound) c.first-now.ensures.found in
    rw (c.lesser.ensures, ← c.self.view_is) (lesser_found (λ i. (c.args.from ≤ i) × (i < length (shown m.places m.leaves m.at_once m.nodes.items)) × (is_within c.args.bound (moment_of (shown m.places m.leaves m.at_once m.nodes.items) i) ≡ true)) c.first-now.result (c.in-Some.leaf - m.leaves) now here)

pub returns-clause-first : goal.returns-clause-first
returns-clause-first c =
    let m = c.self.inside in
    let here = leaf_within m.places m.leaves m.levels m.at_once m.nodes.items c.self.invariant c.args.from c.args.bound c.in-Some.leaf c.ranges.bound.fits (rw c.deref.ensures.value at c.in-Some.ensures.found) in
    let within : c.in-Some.leaf - m.leaves < m.places = omega (arith, here.1, shown_length m.places m.leaves m.levels m.at_once m.nodes.items c.self.invariant) in
    let keys = rw c.deref.ensures.value at c.in-Some.ensures.first in
    rw (c.lesser.ensures, ← c.self.view_is) (first_of_both m.places m.leaves m.levels m.at_once m.nodes.items c.self.invariant c.args.from c.args.bound c.in-Some.leaf c.first-now.result within keys c.first-now.ensures.first c.first-now.ensures.missing)
