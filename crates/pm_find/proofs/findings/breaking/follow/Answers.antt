-- By the lines of which it is kept.
use Rattle.std.proofs.Common.{ap, arith, ◌∷◌, ◌∙◌, length}
use Rattle.pm_find.specs.findings.Ending.{drops_after, may_drop}
use Rattle.pm_find.specs.findings.OpenCounts.{device_of}
use Rattle.pm_model.specs.Derived.{is_disabled}
use Rattle.pm_find.proofs.findings.DropLemmas.{drops_step}
use Rattle.pm_find.proofs.findings.PlacedLemmas.{made_for, views_is}
use Rattle.pm_find.proofs.findings.breaking.follow.Goals as goal

pub may_drop-may-requires : goal.may_drop-may-requires
may_drop-may-requires c = made_for c.args.plan.now c.requires.some.0 c.args.bonds.now c.parts.result.now c.requires.some.2 c.parts.ensures

pub note_drop-requires : goal.note_drop-requires
note_drop-requires c =
    let some = c.requires.some in
    let made = made_for c.args.plan.now some.0 c.args.bonds.now c.parts.result.now some.2 c.parts.ensures in
    let behind = made_for c.args.plan.now (c.args.line.now ∷ some.0) c.tell_broken.new.bonds c.parts-2.result.now (c.in_ok-tell_broken.ensures.kept some.0 some.1 some.2 some.4) c.parts-2.ensures in
    omega (arith, some.3.entries, behind.devices_len)

pub returns-clause-dropped : goal.returns-clause-dropped
returns-clause-dropped c = λ h lawful kept counted dropped.
    let dev = c.device_of-dev.ensures in
    drops_step c.args.plan.now h c.args.line.now c.parts.result.now.views c.parts-2.result.now.views c.args.drops.now c.note_drop.new.drops
    (views_is c.args.plan.now h c.args.bonds.now c.parts.result.now kept c.parts.ensures)
    (views_is c.args.plan.now (c.args.line.now ∷ h) c.tell_broken.new.bonds c.parts-2.result.now (c.in_ok-tell_broken.ensures.kept h lawful kept counted) c.parts-2.ensures)
    (c.note_drop.ensures
    ∙ ap (λ may. drops_after may (is_disabled c.parts-2.result.now.views c.device_of-dev.result) c.device_of-dev.result c.args.drops.now) c.may_drop-may.ensures
    ∙ ap (λ d. drops_after (may_drop (length c.args.plan.now.devices) c.parts.result.now.views d) (is_disabled c.parts-2.result.now.views d) d c.args.drops.now) dev)
    dropped
