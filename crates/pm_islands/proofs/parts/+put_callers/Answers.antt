use Rattle.pm_islands.proofs.PartLemmas.{put_more}
use Rattle.pm_islands.proofs.parts.+put_callers.Goals as goal

pub returns : goal.returns
returns t c =
    put_more c.args.numbers.now c.in-Some-first_number.others.now c.args.rows.now c.in-Some.rest.now c.args.callers.now.items c.push.new.self.items c.put_callers.new.callers.items
    c.in-Some.row.now c.in_ok-copy.copy c.in-Some-first_number.number c.args.island
    c.in-Some-first_number.ensures.some c.in-Some.ensures.some c.in_ok-copy.ensures c.in_ok-push.ensures.items c.in_ok-put_callers.ensures
