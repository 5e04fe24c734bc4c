use Rattle.std.proofs.Common.{◌≡◌, List, Some, IfNone, IfSome, refl, reverse, subst}
use Rattle.pm_cmd_ends.specs.Ending.{taking}
use Rattle.pm_cmd_lab.specs.ends.Coming.{Came}
use Rattle.pm_cmd_lab.specs.orders.Seen.{SeenEnds}
use Rattle.pm_cmd_lab.proofs.orders.SeenLemmas.{lacks_refused, seen_told}
use Rattle.pm_outcomes.specs.kernel_log.Placing.{IsWhole}
use Rattle.pm_outcomes.specs.kernel_log.Runs.{outcome_of}
use Rattle.pm_outcomes.specs.declared.kernel_log.tells.Tell.{Tell}
use Rattle.pm_cmd_lab.proofs.orders.seen.write_placed.Goals as goal

pub returns-in-Some : goal.returns-in-Some
returns-in-Some g c = λ all known holds.
    let out = taking g.O.Sink.taken g.O.Sink.faults c.args.out.now c.write_seen.new.out in
    let plan = c.args.plan.now in
    let log = c.args.log.now in
    let tells = c.in-Some.tells.items in
    let both = subst (λ o. IfSome o (λ ts. (outcome_of plan log ≡ Some (reverse ts.items)) × IsWhole plan ts.items)) c.in-Some.is c.in_ok-found.ensures.some in
    let came = subst (λ ts. Came (SeenEnds c.args.bounds c.args.differ ts plan) c.write_seen.result ⊥ out) c.as_slice.ensures.value c.write_seen.ensures in
    seen_told all known c.args.bounds c.args.differ plan log tells out c.write_seen.result holds both.0 both.1 came

pub returns-in_ok-text-in-None : goal.returns-in_ok-text-in-None
returns-in_ok-text-in-None g c = λ all known holds.
    let out = taking g.O.Sink.taken g.O.Sink.faults c.args.out.now c.args.out.now in
    let plan = c.args.plan.now in
    let log = c.args.log.now in
    let none = subst (λ o. IfNone o ((ts : List Tell) → outcome_of plan log ≡ Some (reverse ts) → ¬ IsWhole plan ts)) c.in-None.is c.in_ok-found.ensures.none in
    lacks_refused all known c.args.bounds c.args.differ plan log c.in_ok-text-in-None.text out holds none c.in_ok-text-in-None.ensures refl
