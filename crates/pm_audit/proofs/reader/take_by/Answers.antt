-- By the line that is offered, and its text.
use Rattle.std.proofs.Common.{◌≡◌, ◌-◌, ◌<◌, true, subst}
use Rattle.pm_model.specs.LineOf.{is_line_of}
use Rattle.pm_book.specs.Judging.{Judged}
use Rattle.pm_book.specs.Offering.{IsOfPlan, IsOffer, line_by}
use Rattle.pm_book.specs.Sometime.{Writes}
use Rattle.pm_audit.specs.Offers.{base_of}
use Rattle.pm_audit.specs.Readings.{ReaderStandsFor, reading_of}
use Rattle.pm_audit.proofs.Lines.{read_ok}
use Rattle.pm_audit.proofs.Spelled.{at_write, is_offered, whole_line}
use Rattle.pm_audit.proofs.reader.take_by.Goals as goal

pub returns-clause-taken : goal.returns-clause-taken
returns-clause-taken g c = λ f is.
    let j = g.T.LineTaker.judged c.args.taker.now in
    let start = c.args.start in
    let it = c.in-Write in
    let yes = c.if-not-offer.false in
    let line = line_by start.actor start.time it.event in
    let m = c.offer.new.out in
    let its_plan : IsOfPlan j.plan start.actor start.time m = subst (λ (x : Judged). IsOfPlan x.plan start.actor start.time m) c.its_judge.ensures (c.offer.ensures.of_plan yes) in
    let its : IsOffer j.plan j.world j.last start.actor start.time m = subst (λ (x : Judged). IsOffer x.plan x.world x.last start.actor start.time m) c.its_judge.ensures (c.offer.ensures.writes yes) in
    let room = subst (λ (x : Judged). x.lines < x.plan.lines) c.its_judge.ensures (c.offer.ensures.room yes) in
    let of_plan = at_write (λ e x n. is_line_of j.plan (line_by start.actor start.time e) ≡ true) m it.event it.change it.next it.is its_plan in
    let writes = at_write (λ e x n. Writes j.plan j.world j.last (line_by start.actor start.time e) x n) m it.event it.change it.next it.is its in
    let found =
    is_offered f j line it.change it.next c.args.bytes.now c.in_ok-behind.behind.now c.args.names.now c.requires.names is.later of_plan room writes
    (whole_line c.args.names.now line (start.time - base_of f j.last) c.args.bytes.now c.args.fronts.now.text c.in_ok-behind.behind.now is.front c.in_ok-behind.ensures) in
    record {
      piece = found.piece;
      begins = found.begins;
      read = λ h lawful stands.
          let taken = c.go_on.ensures.taken h lawful stands.taken in
          read_ok f j (ReaderStandsFor g.T.LineTaker.StandsFor (reading_of g.T.LineTaker.judged g.T.LineTaker.subject c.go_on.new.self)) h line found.piece stands.judged found.spelled
          (c.go_on.ensures.answer h lawful stands.judged) (record { judged = g.met.T.LineTaker.judges _ _ taken; taken = taken });
      plan = c.go_on.ensures.plan;
      same = c.go_on.ensures.same;
    }
