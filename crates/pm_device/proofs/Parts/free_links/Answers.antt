use Rattle.std.proofs.Common.{◌∙◌, ◌<◌, ap, length, sym, arith}
use Rattle.pm_model.specs.Views.{Views}
use Rattle.pm_link.specs.LinkOrder.{supplier_at}
use Rattle.pm_device.specs.Parts.{Counters, Shape}
use Rattle.pm_device.proofs.FreeLemmas.{can_free-given, can_give, frees_links-given, frees_links-none}
use Rattle.pm_device.proofs.PlanLemmas.{supplier_at_in_range}
use Rattle.pm_device.proofs.Parts.free_links.Goals as goal

pub give_link-requires-clause-taken : goal.give_link-requires-clause-taken
give_link-requires-clause-taken c =
    let plan = c.args.plan.now in
    let v = c.loop-link.self.views in
    let l = c.in-Some.link in
    let held = ap (λ (x : Counters). x.views.held) c.self.view_is in
    let devices = ap (λ (x : Counters). length x.views.devices) c.self.view_is in
    let parents = ap (λ (x : Counters). length x.shape.parents) c.self.view_is ∙ ap (λ (s : Shape). length s.parents) c.loop-link.invariant.shape in
    let found = c.in-Some.ensures.first.found in
    let within : supplier_at plan.links l < length v.devices =
    omega (arith, supplier_at_in_range plan l found.0, devices, parents, c.self.invariant.devices_len, c.requires.made_for.devices_len) in
    can_give plan c.args.consumer v l found.0 (rw held at found.1) within c.loop-link.invariant.can_free

pub loop-link-preserved : goal.loop-link-preserved
loop-link-preserved c =
    let plan = c.args.plan.now in
    let v = c.loop-link.self.views in
    let l = c.in-Some.link in
    let held = ap (λ (x : Counters). x.views.held) c.self.view_is in
    let devices = ap (λ (x : Counters). length x.views.devices) c.self.view_is in
    let parents = ap (λ (x : Counters). length x.shape.parents) c.self.view_is ∙ ap (λ (s : Shape). length s.parents) c.loop-link.invariant.shape in
    let found = c.in-Some.ensures.first.found in
    let taken = rw held at found.1 in
    let within : supplier_at plan.links l < length v.devices =
    omega (arith, supplier_at_in_range plan l found.0, devices, parents, c.self.invariant.devices_len, c.requires.made_for.devices_len) in
    rw c.give_link.ensures (record {
      shape = c.loop-link.invariant.shape;
      can_free = can_free-given plan c.args.consumer v l found.0 taken within c.loop-link.invariant.can_free;
      as_before = frees_links-given plan c.args.consumer v l found.0 taken within ∙ c.loop-link.invariant.as_before;
    })

pub returns : goal.returns
returns c =
    let held = ap (λ (x : Counters). x.views.held) c.self.view_is in
    let none = frees_links-none c.args.plan.now c.args.consumer c.loop-link.self.views (rw held at c.in_default.ensures.held_len) (rw held at c.in_default.ensures.first.missing) in
    ap (λ (s : Shape). record { shape = s; views = c.loop-link.self.views }) c.loop-link.invariant.shape
    ∙ ap (λ (v : Views). record { shape = c.args.self.now.shape; views = v }) (sym none ∙ c.loop-link.invariant.as_before)
