use Rattle.std.proofs.Common.{◌≡◌, length, subst, sym}
use Rattle.pm_model.specs.Serial.{serial}
use Rattle.pm_serial.specs.Coming.{Coming}
use Rattle.pm_serial.specs.declared.running.End.TheVariants as end
use Rattle.pm_serial.specs.Ends.{IsSerialEnd}
use Rattle.pm_serial.proofs.ComingLemmas.{all_came, ends_at_limit, ends_finished}
use Rattle.pm_serial.proofs.coming.SerialLines.end.Goals as goal

pub returns-in-Some : goal.returns-in-Some
returns-in-Some c =
    let l = c.self.inside in
    let k = c.self.invariant in
    let came : l.came ≡ length (serial l.plan.now) = subst (λ (x : Coming). x.came ≡ length (serial x.plan)) (sym c.self.view_is) c.requires in
    let all = all_came l.plan.now l.came l.state l.turns k came in
    subst (λ (x : Coming). IsSerialEnd x.plan end.AtLimit) c.self.view_is
    (ends_at_limit l.plan.now k.list c.in-Some.field-0 all (sym (c.in-Some.ensures.turn l.plan.now k.list k.turns_are)) (c.serial_stops.ensures.finished_turn l.plan.now k.list)
    (c.serial_ends.ensures.whole l.plan.now))

pub returns-in-None : goal.returns-in-None
returns-in-None c =
    let l = c.self.inside in
    let k = c.self.invariant in
    let came : l.came ≡ length (serial l.plan.now) = subst (λ (x : Coming). x.came ≡ length (serial x.plan)) (sym c.self.view_is) c.requires in
    let all = all_came l.plan.now l.came l.state l.turns k came in
    subst (λ (x : Coming). IsSerialEnd x.plan end.Finished) c.self.view_is
    (ends_finished l.plan.now k.list all (c.serial_stops.ensures.turn l.plan.now k.list k.lawful (sym (c.in-None.ensures.turn l.plan.now k.list k.turns_are))))
