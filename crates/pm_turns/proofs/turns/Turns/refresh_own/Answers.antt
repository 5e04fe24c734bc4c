use Rattle.std.proofs.Common.{◌≡◌, ◌∙◌, false, ap, arith, subst, sym}
use Rattle.pm_base.specs.declared.ActorId.TheVariants.{Timer, Work}
use Rattle.pm_laws.specs.turns.Told.{is_actor}
use Rattle.pm_laws.specs.turns.Wakes.{wakes}
use Rattle.pm_state.specs.Seats.{actor_in}
use Rattle.pm_turns.specs.Seats.{moment_by, place_of}
use Rattle.pm_turns.specs.Turning.{Index}
use Rattle.pm_turns.proofs.IndexLemmas.{sits_here, stays_right}
use Rattle.pm_turns.proofs.turns.Turns.refresh_own.Goals as goal

pub returns-clause-work : goal.returns-clause-work
returns-clause-work c = λ within other.
    let plan = c.args.plan.now in
    let wake = wakes plan c.args.state.now.world in
    let but = actor_in plan c.args.but in
    let here = c.place-work.ensures.is ∙ ap (λ (x : Index). place_of x.rows (Work c.args.dev.0)) c.self.view_is in
    let sits = sits_here plan c.args.self.now.rows c.place-work.result (Work c.args.dev.0) c.requires.seats within here in
    let right = c.refresh_but.ensures.right (subst (λ a. is_actor a but ≡ false) (sym sits) other) in
    stays_right wake c.refresh_but.new.self.rows c.refresh_but-2.new.self.rows (Work c.args.dev.0) c.refresh_but-2.ensures.asks (omega (arith, within, c.refresh_but.ensures.asks.devices))
    (subst (λ a. moment_by c.refresh_but.new.self.rows a ≡ wake a) sits right)

pub returns-clause-timer : goal.returns-clause-timer
returns-clause-timer c = λ within other.
    let plan = c.args.plan.now in
    let wake = wakes plan c.args.state.now.world in
    let but = actor_in plan c.args.but in
    let here = c.place-timer.ensures.is ∙ ap (λ (x : Index). place_of x.rows (Timer c.args.dev.0)) c.self.view_is in
    let sits = sits_here plan c.args.self.now.rows c.place-timer.result (Timer c.args.dev.0) c.requires.seats within here in
    let right = c.refresh_but-2.ensures.right (subst (λ a. is_actor a but ≡ false) (sym sits) other) in
    subst (λ a. moment_by c.refresh_but-2.new.self.rows a ≡ wake a) sits right
