use Rattle.std.proofs.Common.{refl}
use Rattle.pm_driver_search.proofs.Actors.{actors_in_range}
use Rattle.pm_driver_search.proofs.next.lines_at.Goals as goal

pub are_early-requires-clause-in_range : goal.are_early-requires-clause-in_range
are_early-requires-clause-in_range c = let going = c.args.going.now in actors_in_range going.rules.now.plan.now going.actors.now going.all

pub next_lines-requires-clause-in_range : goal.next_lines-requires-clause-in_range
next_lines-requires-clause-in_range c = let going = c.args.going.now in actors_in_range going.rules.now.plan.now going.actors.now going.all

pub next_lines-requires-clause-in_time : goal.next_lines-requires-clause-in_time
next_lines-requires-clause-in_time c = λ t is. c.if-not-are_early.ensures.moments refl c.args.going.now.pace t is

pub returns-clause-early : goal.returns-clause-early
returns-clause-early c = λ line. c.if-not-are_early.ensures.lines refl line
