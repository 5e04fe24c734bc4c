-- By the lines of which it is kept.
use Rattle.std.proofs.Common.{[], ◌≡◌, ◌∷◌, ◌∙◌, ap, arith, get_or, length, subst, sym}
use Rattle.pm_device.specs.Parts.{Counters}
use Rattle.pm_model.specs.World.{World}
use Rattle.pm_safety.specs.declared.dependencies.past.Before.{Before}
use Rattle.pm_safety.specs.dependencies.Kept.{IsKept, Kept, consumers, suppliers}
use Rattle.pm_device.specs.Children.{parents}
use Rattle.pm_safety.proofs.dependencies.BrokenBy.{none_broken}
use Rattle.pm_safety.proofs.dependencies.KeptLemmas.{broken_told, consumers_long, group_below, kept_still, kept_turned, noted, parents_long, suppliers_long, told_by}
use Rattle.pm_safety.proofs.dependencies.LineLemmas.{device_of}
use Rattle.pm_safety.proofs.dependencies.bonds.Bonds.follow.Goals as goal

pub returns-in_default-clause-kept : goal.returns-in_default-clause-kept
returns-in_default-clause-kept c = λ h lawful kept same.
    let k = subst (λ (x : Kept). IsKept c.args.plan.now x h) (sym c.self.view_is) kept in
    kept_still c.args.plan.now h c.args.line.now _ c.go.new.self lawful (sym c.turned_by.ensures ∙ c.in_default.is) k (c.go.ensures h lawful k.replay)

pub returns-in_default-clause-broken : goal.returns-in_default-clause-broken
returns-in_default-clause-broken c = λ h lawful kept same.
    c.new.ensures.items ∙ sym (none_broken c.args.plan.now h c.args.line.now lawful (sym c.turned_by.ensures ∙ c.in_default.is))

pub note-requires-clause-in_range : goal.note-requires-clause-in_range
note-requires-clause-in_range c =
    let k = subst (λ (x : Kept). IsKept c.args.plan.now x c.requires.some.0) (sym c.self.view_is) c.requires.some.2 in
    let inside = device_of c.args.plan.now c.args.line.now c.in-Some.dev c.requires.of_plan (sym c.turned_by.ensures ∙ c.in-Some.is) in
    let after = c.go-2.ensures c.requires.some.0 c.requires.some.1 k.replay in
    let same = ap (λ (x : Counters). length x.shape.parents) c.parts-2.ensures in
    omega (arith, same, after.is_of.made_for.devices_len, inside)

pub note-requires-clause-past : goal.note-requires-clause-past
note-requires-clause-past c =
    let k = subst (λ (x : Kept). IsKept c.args.plan.now x c.requires.some.0) (sym c.self.view_is) c.requires.some.2 in
    let inside = device_of c.args.plan.now c.args.line.now c.in-Some.dev c.requires.of_plan (sym c.turned_by.ensures ∙ c.in-Some.is) in
    let long : length c.self.inside.pasts.items ≡ length c.args.plan.now.devices = k.pasts.entries in omega (arith, long, inside)

pub group-requires : goal.group-requires
group-requires c =
    let k = subst (λ (x : Kept). IsKept c.args.plan.now x c.requires.some.0) (sym c.self.view_is) c.requires.some.2 in
    let inside = device_of c.args.plan.now c.args.line.now c.in-Some.dev c.requires.of_plan (sym c.turned_by.ensures ∙ c.in-Some.is) in
    let long : length c.self.inside.children.items ≡ length c.args.plan.now.devices = k.children.entries in
    let same = ap (λ l. length l) c.deref-2.ensures.value in omega (arith, long, inside, same)

pub group-requires-2 : goal.group-requires-2
group-requires-2 c =
    let k = subst (λ (x : Kept). IsKept c.args.plan.now x c.requires.some.0) (sym c.self.view_is) c.requires.some.2 in
    let inside = device_of c.args.plan.now c.args.line.now c.in-Some.dev c.requires.of_plan (sym c.turned_by.ensures ∙ c.in-Some.is) in
    let long : length c.self.inside.from.items ≡ length c.args.plan.now.devices = k.from.entries in
    let same = ap (λ l. length l) c.deref-3.ensures.value in omega (arith, long, inside, same)

pub group-requires-3 : goal.group-requires-3
group-requires-3 c =
    let k = subst (λ (x : Kept). IsKept c.args.plan.now x c.requires.some.0) (sym c.self.view_is) c.requires.some.2 in
    let inside = device_of c.args.plan.now c.args.line.now c.in-Some.dev c.requires.of_plan (sym c.turned_by.ensures ∙ c.in-Some.is) in
    let long : length c.self.inside.to.items ≡ length c.args.plan.now.devices = k.to.entries in
    let same = ap (λ l. length l) c.deref-4.ensures.value in omega (arith, long, inside, same)

pub broken_near-requires-clause-children : goal.broken_near-requires-clause-children
broken_near-requires-clause-children c =
    let k = subst (λ (x : Kept). IsKept c.args.plan.now x c.requires.some.0) (sym c.self.view_is) c.requires.some.2 in
    let inside = device_of c.args.plan.now c.args.line.now c.in-Some.dev c.requires.of_plan (sym c.turned_by.ensures ∙ c.in-Some.is) in
    group_below (length c.args.plan.now.devices) (length (parents c.args.plan.now)) (length c.args.plan.now.devices) c.in-Some.dev.0 (parents c.args.plan.now) c.self.inside.children.items c.group.result.now
    k.children inside (parents_long c.args.plan.now) (c.group.ensures ∙ ap (λ l. get_or l c.in-Some.dev.0 []) c.deref-2.ensures.value)

pub broken_near-requires-clause-from : goal.broken_near-requires-clause-from
broken_near-requires-clause-from c =
    let k = subst (λ (x : Kept). IsKept c.args.plan.now x c.requires.some.0) (sym c.self.view_is) c.requires.some.2 in
    let inside = device_of c.args.plan.now c.args.line.now c.in-Some.dev c.requires.of_plan (sym c.turned_by.ensures ∙ c.in-Some.is) in
    group_below (length c.args.plan.now.devices) (length (consumers c.args.plan.now)) (length c.args.plan.now.links) c.in-Some.dev.0 (consumers c.args.plan.now) c.self.inside.from.items c.group-2.result.now
    k.from inside (consumers_long c.args.plan.now) (c.group-2.ensures ∙ ap (λ l. get_or l c.in-Some.dev.0 []) c.deref-3.ensures.value)

pub broken_near-requires-clause-to : goal.broken_near-requires-clause-to
broken_near-requires-clause-to c =
    let k = subst (λ (x : Kept). IsKept c.args.plan.now x c.requires.some.0) (sym c.self.view_is) c.requires.some.2 in
    let inside = device_of c.args.plan.now c.args.line.now c.in-Some.dev c.requires.of_plan (sym c.turned_by.ensures ∙ c.in-Some.is) in
    group_below (length c.args.plan.now.devices) (length (suppliers c.args.plan.now)) (length c.args.plan.now.links) c.in-Some.dev.0 (suppliers c.args.plan.now) c.self.inside.to.items c.group-3.result.now
    k.to inside (suppliers_long c.args.plan.now) (c.group-3.ensures ∙ ap (λ l. get_or l c.in-Some.dev.0 []) c.deref-4.ensures.value)

pub broken_near-requires-clause-present_len : goal.broken_near-requires-clause-present_len
broken_near-requires-clause-present_len c =
    let k = subst (λ (x : Kept). IsKept c.args.plan.now x c.requires.some.0) (sym c.self.view_is) c.requires.some.2 in
    let after = c.go-2.ensures c.requires.some.0 c.requires.some.1 k.replay in
    ap (λ (x : Counters). length x.views.present) c.parts-3.ensures ∙ ap (λ (w : World). length w.views.present) after.world_is
    ∙ (c.sizes.ensures.entries c.args.plan.now (c.args.line.now ∷ c.requires.some.0) c.requires.some.1).present

pub returns-clause-kept : goal.returns-clause-kept
returns-clause-kept c = λ h lawful kept same.
    let k = subst (λ (x : Kept). IsKept c.args.plan.now x h) (sym c.self.view_is) kept in
    let turned = sym c.turned_by.ensures ∙ c.in-Some.is in
    let inside = device_of c.args.plan.now c.args.line.now c.in-Some.dev c.requires.of_plan turned in
    let seen = ap (λ (x : Counters). x.views) c.parts.ensures in
    kept_turned c.args.plan.now h c.args.line.now c.in-Some.dev _ c.go-2.new.self c.args.number c.note.new.pasts.items lawful turned inside k (c.go-2.ensures h lawful k.replay) same
    c.parts.result.now.views (seen ∙ ap (λ (w : World). w.views) k.replay.world_is)
    (noted c.self.inside.pasts.items c.note.new.pasts.items c.in-Some.dev c.args.number c.args.line.now.event _ _ _ _ c.note.ensures c.before_line-before.ensures (ap (λ (x : Counters). x.views) c.parts-2.ensures))

pub returns-clause-broken : goal.returns-clause-broken
returns-clause-broken c = λ h lawful kept same.
    let k = subst (λ (x : Kept). IsKept c.args.plan.now x h) (sym c.self.view_is) kept in
    let turned = sym c.turned_by.ensures ∙ c.in-Some.is in
    let inside = device_of c.args.plan.now c.args.line.now c.in-Some.dev c.requires.of_plan turned in
    let seen = ap (λ (x : Counters). x.views) c.parts.ensures ∙ ap (λ (w : World). w.views) k.replay.world_is in
    let later = kept_turned c.args.plan.now h c.args.line.now c.in-Some.dev _ c.go-2.new.self c.args.number c.note.new.pasts.items lawful turned inside k (c.go-2.ensures h lawful k.replay) same
    c.parts.result.now.views seen
    (noted c.self.inside.pasts.items c.note.new.pasts.items c.in-Some.dev c.args.number c.args.line.now.event _ _ _ _ c.note.ensures c.before_line-before.ensures (ap (λ (x : Counters). x.views) c.parts-2.ensures)) in
    broken_told c.args.plan.now h c.args.line.now c.in-Some.dev c.self.inside.children.items c.self.inside.from.items c.self.inside.to.items c.go-2.new.self c.note.new.pasts.items c.group.result.now c.group-2.result.now c.group-3.result.now c.in_ok-bonds.bonds.items
    c.before_line-before.result.active c.before_line-before.result.ignores lawful turned inside later
    (c.group.ensures ∙ ap (λ l. get_or l c.in-Some.dev.0 []) c.deref-2.ensures.value) (c.group-2.ensures ∙ ap (λ l. get_or l c.in-Some.dev.0 []) c.deref-3.ensures.value)
    (c.group-3.ensures ∙ ap (λ l. get_or l c.in-Some.dev.0 []) c.deref-4.ensures.value) c.parts.result.now.views seen
    (ap (λ (b : Before). b.active) c.before_line-before.ensures) (ap (λ (b : Before). b.ignores) c.before_line-before.ensures)
    (told_by c.args.plan.now _ _ _ _ c.in-Some.dev c.group.result.now c.group-2.result.now c.group-3.result.now c.before_line-before.result.active c.before_line-before.result.ignores c.in_ok-bonds.bonds.items
    c.in_ok-bonds.ensures (ap (λ (x : Counters). x.views) c.parts-3.ensures) c.deref.ensures.value)
