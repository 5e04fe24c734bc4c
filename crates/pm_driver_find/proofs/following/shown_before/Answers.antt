use Rattle.std.proofs.Common.{◌≡◌, List, None, Option, Some, ap, map, subst, sym, ◌∙◌, ℕ}
use Rattle.pm_driver_rules.specs.Nodes.{driver_snapshot_of}
use Rattle.pm_driver_find.specs.Following.{parent_in}
use Rattle.pm_driver_find.proofs.BeforeLemmas.{IsFirstBack, back_none, back_some, goes_back}
use Rattle.pm_driver_find.proofs.following.shown_before.Goals as goal

pub loop-parent-preserved : goal.loop-parent-preserved
loop-parent-preserved c =
    let E = c.args.examined.now in
    let snapshots = map driver_snapshot_of c.args.tree.now.nodes.keys in
    let parents = c.args.tree.now.parents.items in
    let told = c.args.told.now in
    let is : parent_in parents c.loop-parent.here ≡ Some c.in-Some.parent = ap (λ (l : List ℕ). parent_in l c.loop-parent.here) (sym c.as_slice.ensures.value) ∙ sym c.parent_in.ensures ∙ c.in-Some.is in
    subst (λ (first : Option ℕ). IsFirstBack E snapshots parents told c.args.place c.in-Some.parent first) (sym c.newer_of-first.ensures)
    (goes_back E snapshots parents told c.args.place c.loop-parent.here c.in-Some.parent c.shown_at.result c.loop-parent.first is c.loop-parent.invariant c.shown_at.ensures.some c.shown_at.ensures.none)

pub returns-clause-some : goal.returns-clause-some
returns-clause-some c =
    let parents = c.args.tree.now.parents.items in
    let end : parent_in parents c.loop-parent.here ≡ None = ap (λ (l : List ℕ). parent_in l c.loop-parent.here) (sym c.as_slice.ensures.value) ∙ sym c.parent_in.ensures ∙ c.in_default.is in
    back_some c.args.examined.now (map driver_snapshot_of c.args.tree.now.nodes.keys) parents c.args.told.now c.args.place c.loop-parent.here c.loop-parent.first end c.loop-parent.invariant

pub returns-clause-none : goal.returns-clause-none
returns-clause-none c =
    let parents = c.args.tree.now.parents.items in
    let end : parent_in parents c.loop-parent.here ≡ None = ap (λ (l : List ℕ). parent_in l c.loop-parent.here) (sym c.as_slice.ensures.value) ∙ sym c.parent_in.ensures ∙ c.in_default.is in
    back_none c.args.examined.now (map driver_snapshot_of c.args.tree.now.nodes.keys) parents c.args.told.now c.args.place c.loop-parent.here c.loop-parent.first end c.loop-parent.invariant
