use Rattle.std.proofs.Common.{◌<◌, ◌∙◌, Some, ap, false, length, refl, sym, true, arith}
use Rattle.std.proofs.lemmas.List.{get_or-replicate, length-map, length-replicate}
use Rattle.pm_model.specs.declared.rows.DomainRow.{DomainRow}
use Rattle.pm_model.specs.PlanRows.{chain}
use Rattle.pm_index.specs.OwnMarks.{bit_at}
use Rattle.pm_domain.specs.Domains.{place_of}
use Rattle.pm_domain.proofs.StartLemmas.{kept_all, kept_same, kept_switched}
use Rattle.pm_domain.proofs.SwitchLemmas.{length-switched, marks_are}
use Rattle.pm_domain.proofs.start.switch_kept.Goals.{then-is_always_on, else-is_always_on}
use Rattle.pm_domain.proofs.start.switch_kept.Goals as goal

pub loop-place-init : goal.loop-place-init
loop-place-init c = record {
  owners = refl;
  long = ap length c.requires.off ∙ length-replicate (length c.args.plan.now.domains) false;
  kept = λ k less. ap (λ bits. bit_at bits k) c.requires.off ∙ get_or-replicate (length c.args.plan.now.domains) k false false less;
}

pub switch-requires-clause-on_len : goal.switch-requires-clause-on_len
switch-requires-clause-on_len c =
    ap length (c.loop-place.invariant.owners ∙ c.requires.owners) ∙ length-map c.args.plan.now.domains (λ (row : DomainRow). place_of row.parent)

pub loop-place-preserved : goal.loop-place-preserved
loop-place-preserved c =
    let i = c.loop-place.place in
    let below : i < length c.args.plan.now.domains = omega arith in
    let was = c.loop-place.invariant in
    elim c.if-is_always_on.branch [
      | then-is_always_on w ↦
          rw (w.on-is, w.switch.ensures, c.len-count.ensures) (record {
            owners = was.owners;
            long = length-switched true c.loop-place.on.bits (chain c.args.plan.now.domains (length c.args.plan.now.domains) (Some (record { 0 = i }))) ∙ was.long;
            kept = kept_switched c.args.plan.now c.loop-place.on.bits i was.long below was.kept (sym c.is_always_on.ensures ∙ w.if-is_always_on.true);
          })
      | else-is_always_on w ↦
          rw w.on-is (record {
            owners = was.owners;
            long = was.long;
            kept = kept_same c.args.plan.now c.loop-place.on.bits i below was.kept (sym c.is_always_on.ensures ∙ w.if-is_always_on.false);
          })
    ]

pub returns : goal.returns
returns c =
    marks_are c.loop-place.on _ _ c.loop-place.invariant.owners
    (kept_all c.args.plan.now c.loop-place.on.bits c.loop-place.place c.loop-place.invariant.long (omega arith) c.loop-place.invariant.kept)
