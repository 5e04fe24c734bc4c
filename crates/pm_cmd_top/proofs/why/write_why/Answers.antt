use Rattle.std.proofs.Common.{◌∙◌, ap, refl, subst, sym}
use Rattle.std.proofs.lemmas.Result.{err_from_is_err_and}
use Rattle.pm_book.specs.Judging.{Judged}
use Rattle.pm_device.specs.Parts.{Counters}
use Rattle.pm_model.specs.Text.{names_of}
use Rattle.pm_model.specs.World.{World}
use Rattle.pm_cmd_ends.specs.Ending.{taking}
use Rattle.pm_cmd_ends.proofs.EndLemmas.{done_part, wrote_all}
use Rattle.pm_cmd_top.specs.TraceCommands.{WhyEnds}
use Rattle.pm_cmd_top.proofs.WriteLemmas.{reasons_found, same_reasons}
use Rattle.pm_why.specs.declared.kept.Gets.{Gets}
use Rattle.pm_why.specs.Kept.{TellsOf}
use Rattle.pm_why.specs.Reasons.{reasons}
use Rattle.pm_why.specs.Texts.{reasons_text}
use Rattle.pm_cmd_top.proofs.why.write_why.Goals as goal

pub returns-in_err-write_reasons : goal.returns-in_err-write_reasons
returns-in_err-write_reasons g c = λ h following.
    let p = err_from_is_err_and c.from_residual-in_err-write_reasons.result c.from_residual-in_err-write_reasons.ensures.1 in
    let f = c.args.followed in
    let plan = f.judge.plan in
    let shown = c.into_parts-plan.result.0 in
    let found = c.deref.result.now in
    let shown_is = c.into_parts-plan.ensures.plan ∙ ap (λ (j : Judged). j.plan) c.into_parts-judge.ensures.judge in
    let views =
    ap (λ (x : Counters). x.views) c.parts.ensures ∙ ap (λ (w : World). w.views) (c.into_parts-plan.ensures.world ∙ ap (λ (j : Judged). j.world) c.into_parts-judge.ensures.judge ∙ following.judged.world_is) in
    let gets = c.into_parts-judge.result.1 in
    let kept = subst (λ (x : Gets). TellsOf x h) (sym c.into_parts-judge.ensures.keeper) following.kept in
    let found_is =
    c.deref.ensures.value
    ∙ reasons_found shown plan c.parts.result.now.views h f.keeper.dev gets.dev c.in_ok-reasons.reasons.items shown_is views (ap (λ (x : Gets). x.dev) c.into_parts-judge.ensures.keeper) (c.in_ok-reasons.ensures h kept) in
    let text = same_reasons shown plan h f.keeper.dev found shown_is found_is in
    done_part (WhyEnds plan f.keeper.dev h) ⊥ c.from_residual-in_err-write_reasons.result p.0 (reasons_text (names_of plan) (reasons plan h f.keeper.dev)) (reasons_text (names_of shown) found)
    (taking g.O.Sink.taken g.O.Sink.faults c.args.out.now c.write_reasons.new.out) p.1 p.2 text refl c.in_err-write_reasons.ensures.prefix c.in_err-write_reasons.ensures.failed

pub returns : goal.returns
returns g c = λ h following.
    let f = c.args.followed in
    let plan = f.judge.plan in
    let shown = c.into_parts-plan.result.0 in
    let found = c.deref.result.now in
    let shown_is = c.into_parts-plan.ensures.plan ∙ ap (λ (j : Judged). j.plan) c.into_parts-judge.ensures.judge in
    let views =
    ap (λ (x : Counters). x.views) c.parts.ensures ∙ ap (λ (w : World). w.views) (c.into_parts-plan.ensures.world ∙ ap (λ (j : Judged). j.world) c.into_parts-judge.ensures.judge ∙ following.judged.world_is) in
    let gets = c.into_parts-judge.result.1 in
    let kept = subst (λ (x : Gets). TellsOf x h) (sym c.into_parts-judge.ensures.keeper) following.kept in
    let found_is =
    c.deref.ensures.value
    ∙ reasons_found shown plan c.parts.result.now.views h f.keeper.dev gets.dev c.in_ok-reasons.reasons.items shown_is views (ap (λ (x : Gets). x.dev) c.into_parts-judge.ensures.keeper) (c.in_ok-reasons.ensures h kept) in
    let text = same_reasons shown plan h f.keeper.dev found shown_is found_is in
    let bytes = reasons_text (names_of plan) (reasons plan h f.keeper.dev) in (
      bytes,
      refl,
      wrote_all bytes (reasons_text (names_of shown) found) (taking g.O.Sink.taken g.O.Sink.faults c.args.out.now c.write_reasons.new.out) text c.in_ok-write_reasons.ensures.text,
    )
