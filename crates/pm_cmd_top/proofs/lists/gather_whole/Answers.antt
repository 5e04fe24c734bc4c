use Rattle.std.proofs.Common.{◌≡◌, ◌≤◌, length}
use Rattle.pm_model.specs.Islands.{merged}
use Rattle.pm_cmd_top.specs.Gathering.{IsFinishedRun, lists}
use Rattle.pm_cmd_top.proofs.GatherLemmas.{gathers, lists_in_time, where_some}
use Rattle.pm_cmd_top.proofs.lists.gather_whole.Goals as goal

pub merge_within-requires-clause-in_time : goal.merge_within-requires-clause-in_time
merge_within-requires-clause-in_time c = lists_in_time c.args.books.now (λ n p at. (c.requires.each n p at).lawful)

pub returns-clause-run : goal.returns-clause-run
returns-clause-run c =
    let plan = c.args.plan.now in
    let books = c.args.books.now in
    where_some (λ v. length v.items ≤ plan.lines) (λ v. v.items ≡ merged (lists books)) (λ v. IsFinishedRun plan v.items) c.merge_within.result
    (λ v few is. gathers plan c.args.count c.requires.numbering books v.items (c.merge_is_lawful.ensures.lawful plan) (c.merge_is_lawful.ensures.finished plan) c.lines_are_of_plan.ensures.all c.requires.each c.requires.one_each few is)
    c.merge_within.ensures.few c.merge_within.ensures.merged
