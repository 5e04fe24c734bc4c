use Rattle.std.proofs.Common.{◌∙◌, ap, get_or, reverse, sym, subst, take}
use Rattle.pm_model.specs.History.{History}
use Rattle.pm_book.specs.Replayed.{IsAfter}
use Rattle.pm_book.proofs.InOrder.{lawful_at, line_at, reverse_more}
use Rattle.pm_book.proofs.ReplayLemmas.{actor_of}
use Rattle.pm_lanes.specs.Pieces.{seen_of_plan}
use Rattle.pm_lanes.proofs.ShowLemmas.{no_line, on_ok, shown_parts}
use Rattle.pm_lanes.proofs.gather.step.Goals as goal

pub is_open-was_open-requires-clause-in_range : goal.is_open-was_open-requires-clause-in_range
is_open-was_open-requires-clause-in_range c = actor_of c.args.plan.now (get_or c.args.lines.now c.args.place no_line) (line_at c.args.plan.now c.args.lines.now c.args.place no_line c.requires.within c.requires.of_plan)

pub go-requires-clause-of_plan : goal.go-requires-clause-of_plan
go-requires-clause-of_plan c = line_at c.args.plan.now c.args.lines.now c.args.place no_line c.requires.within c.requires.of_plan

pub go-requires-clause-some : goal.go-requires-clause-some
go-requires-clause-some c =
    (reverse (take c.args.place c.args.lines.now), lawful_at c.args.plan.now c.args.lines.now c.args.place no_line c.requires.within c.requires.lawful, c.requires.stands)

pub show_behind-requires-clause-is_of : goal.show_behind-requires-clause-is_of
show_behind-requires-clause-is_of c =
    let h = reverse (take c.args.place c.args.lines.now) in
    let after = c.go.ensures h (lawful_at c.args.plan.now c.args.lines.now c.args.place no_line c.requires.within c.requires.lawful) c.requires.stands in
    after.is_of

pub show_behind-requires-clause-in_range : goal.show_behind-requires-clause-in_range
show_behind-requires-clause-in_range c = actor_of c.args.plan.now (get_or c.args.lines.now c.args.place no_line) (line_at c.args.plan.now c.args.lines.now c.args.place no_line c.requires.within c.requires.of_plan)

pub returns-clause-stands : goal.returns-clause-stands
returns-clause-stands c =
    on_ok c.show_behind.result
    (λ is.
    subst (λ (h : History). IsAfter c.args.plan.now c.go.new.self h) (sym (reverse_more c.args.lines.now c.args.place no_line c.requires.within))
    (c.go.ensures (reverse (take c.args.place c.args.lines.now)) (lawful_at c.args.plan.now c.args.lines.now c.args.place no_line c.requires.within c.requires.lawful) c.requires.stands))
    c.show_behind.ensures

pub returns-clause-shown : goal.returns-clause-shown
returns-clause-shown c =
    on_ok c.show_behind.result
    (λ is.
    shown_parts c.args.plan.now c.args.lines.now c.args.place no_line c.args.replay.now c.go.new.self c.seen_at-seen.result c.is_open-was_open.result c.args.all.now.items c.show_before.new.all.items
    c.show_behind.new.all.items (c.seen_at-seen.ensures ∙ ap (seen_of_plan c.args.plan.now c.args.replay.now.standing.world.views) c.device_of-dev.ensures) c.is_open-was_open.ensures c.in_ok-show_before.ensures is)
    c.show_behind.ensures
