-- The turns are those after the lines that are kept.
use Rattle.std.proofs.Common.{◌≡◌, ◌∙◌, ◌<◌, ◌^◌, List, Option, IfSome, ap, reverse, subst, sym}
use Rattle.pm_model.specs.declared.event.Line.{Line}
use Rattle.pm_model.specs.declared.plan.Plan.{Plan}
use Rattle.pm_model.specs.Lawful.{IsLawful}
use Rattle.pm_model.specs.World.{world}
use Rattle.pm_turns.specs.Turning.{IsIndex}
use Rattle.pm_book.specs.Sheets.{Sheet}
use Rattle.pm_book.specs.Takings.{IsListOf}
use Rattle.pm_book.proofs.TakerLemmas.{keeps_all}
use Rattle.pm_book.proofs.taker.Taker.finish.Goals as goal

pub after-requires-clause-stand : goal.after-requires-clause-stand
after-requires-clause-stand c =
    let d = c.self.inside in
    let sheet = c.in-Some.lines in
    let h = reverse sheet.lines in
    let parts = c.into_parts-plan.ensures in
    let listed : IsListOf d.judge sheet = subst (λ (o : Option Sheet). IfSome o (IsListOf d.judge)) c.in-Some.is c.self.invariant in
    c.all_stand_well.ensures c.into_parts-plan.result.0 h c.into_parts-plan.result.1.world
    (subst (λ (p : Plan). IsLawful p h) (sym parts.plan) listed.lawful)
    (subst (λ n. n < 2 ^ 63) listed.judged.last_is parts.in_time)
    (parts.world ∙ (listed.judged.world_is ∙ ap (λ (p : Plan). world p h) (sym parts.plan)))

pub invariant_of-result : goal.invariant_of-result
invariant_of-result c =
    let d = c.self.inside in
    let sheet = c.in-Some.lines in
    let parts = c.into_parts-plan.ensures in
    let plan = c.into_parts-plan.result.0 in
    let turns = c.in_ok-turns.turns in
    let listed : IsListOf d.judge sheet = subst (λ (o : Option Sheet). IfSome o (IsListOf d.judge)) c.in-Some.is c.self.invariant in
    keeps_all d.judge plan c.into_parts-plan.result.1 turns sheet listed parts.plan parts.world parts.is_of parts.in_time
    (subst (λ (l : List Line). IsIndex plan (reverse l) turns) c.as_slice.ensures c.in_ok-turns.ensures)
