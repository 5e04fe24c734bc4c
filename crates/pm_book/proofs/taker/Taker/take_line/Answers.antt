-- By what the judge says, for each list for which it stands.
use Rattle.pm_book.proofs.TakerLemmas.{lists_one}
use Rattle.pm_book.proofs.taker.Taker.take_line.Goals as goal

pub invariant_of-self-2 : goal.invariant_of-self-2
invariant_of-self-2 c =
    let d = c.self.inside in
    let said = c.in_ok-judge.ensures in
    lists_one d.judge c.judge.new.self d.lines c.keep.new.lines c.args.line.now c.self.invariant c.keep.ensures said.plan c.requires.in_time said.answer said.taken
