use Rattle.std.proofs.Common.{◌≡◌, ◌∙◌, ◌++◌, ℕ, None, ap, sym}
use Rattle.std.proofs.lemmas.List.{append-nil}
use Rattle.std.specs.Option.{option_and_then}
use Rattle.pm_model.specs.World.{move}
use Rattle.pm_explore.specs.successors.Lines.{line_for, line_of}
use Rattle.pm_explore.specs.successors.Standing.{snapshot_at}
use Rattle.pm_explore.proofs.successors.LoopLemmas.{filter_none}
use Rattle.pm_explore.proofs.successors.lines.push_of_actor.Goals as goal

pub returns-in_default : goal.returns-in_default
returns-in_default c =
    let plan = c.args.plan.now in
    let s = snapshot_at c.args.state.now.world c.args.last in
    let f = λ (t : ℕ). line_for c.args.pace plan s c.args.spends t c.args.actor in
    let none : (t : ℕ) → f t ≡ None =
    λ t. ap (λ o. option_and_then (line_of c.args.pace plan s c.args.spends t c.args.actor) (option_and_then (λ x. move plan s.world.views x t) o)) (sym c.stage_at.ensures ∙ c.in_default.is)
    in
    sym (ap (λ l. c.args.out.now.items ++ l) (filter_none f none c.args.times.now) ∙ append-nil c.args.out.now.items)
