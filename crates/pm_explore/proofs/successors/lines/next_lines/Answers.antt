use Rattle.std.proofs.Common.{◌≡◌, ◌<◌, ◌∙◌, ◌++◌, ◌^◌, ℕ, List, ap, get_or, length, subst, sym}
use Rattle.std.proofs.lemmas.Option.{slice_get-get_or}
use Rattle.std.specs.List.{filter_map, flat_map}
use Rattle.pm_base.specs.declared.ActorId.{ActorId}
use Rattle.pm_explore.specs.search.Exact.{HasExactly}
use Rattle.pm_explore.specs.successors.Lines.{IsNext, line_for, lines_at}
use Rattle.pm_explore.specs.successors.Standing.{snapshot_at}
use Rattle.pm_explore.proofs.successors.lines.next_lines.Goals as goal

pub push_lines-requires-clause-in_time : goal.push_lines-requires-clause-in_time
push_lines-requires-clause-in_time c = λ k d lt.
    let items = c.in_ok-times.times.items in
    let same : c.as_slice-times.result.now ≡ items = c.as_slice-times.ensures.value in
    let there = slice_get-get_or items k d (subst (λ (l : List ℕ). k < length l) same lt) in
    subst (λ (l : List ℕ). get_or l k d < 2 ^ 63) (sym same) (c.requires.in_time (get_or items k d) (c.in_ok-times.ensures.sound k (get_or items k d) there))

pub returns : goal.returns
returns c =
    let plan = c.args.plan.now in
    let s = snapshot_at c.args.state.now.world c.args.last in
    let items = c.in_ok-times.times.items in
    let of = λ (times : List ℕ) (actor : ActorId). filter_map (λ t. line_for c.args.pace plan s c.args.spends t actor) times in
    let is : c.push_lines.new.out.items ≡ lines_at c.args.pace plan s c.args.spends items =
    c.in_ok-push_lines.ensures ∙ ap (λ l. l ++ flat_map (of c.as_slice-times.result.now) c.args.actors.now) c.new-out.ensures.items
    ∙ ap (λ (times : List ℕ). flat_map (of times) c.args.actors.now) c.as_slice-times.ensures.value ∙ ap (flat_map (of items)) c.requires.actors
    in
    subst (HasExactly (IsNext c.args.pace plan s c.args.spends)) (sym is) (c.lines_are_all.ensures c.args.pace plan s c.args.spends items c.requires.entries c.requires.places c.in_ok-times.ensures)
