use Rattle.std.proofs.Common.{◌≡◌, ◌⊎◌, Bool, Option, subst}
use Rattle.pm_base.specs.declared.DevId.{DevId}
use Rattle.pm_laws.specs.turns.Looks.{device_in, stirs}
use Rattle.pm_laws.specs.turns.Wakes.{wakes}
use Rattle.pm_model.specs.declared.event.Line.{Line}
use Rattle.pm_base.specs.declared.ActorId.{ActorId}
use Rattle.pm_state.specs.Seats.{actor_in}
use Rattle.pm_turns.specs.Turning.{Noted, TouchedAny}
use Rattle.pm_turns.proofs.IndexLemmas.{in_plan}
use Rattle.pm_turns.proofs.SettleLemmas.{settles_by}
use Rattle.pm_turns.proofs.turns.Turns.settle_at.Goals as goal

pub returns : goal.returns
returns c = λ h leads is.
    let line : Line = record { time = c.args.time; actor = actor_in c.args.plan.now c.args.seat; event = c.args.event.now } in
    let other : (c.other_than-of.result ≡ device_in line.event) ⊎ (device_in line.event ≡ c.args.at) =
    subst (λ (o : Option DevId). (c.other_than-of.result ≡ o) ⊎ (o ≡ c.args.at)) c.device_in.ensures c.other_than-of.ensures in
    let wake = wakes c.args.plan.now c.args.state.now.world in
    let at : TouchedAny wake (stirs line.event c.args.change.now) c.refresh_at.new.self c.touch_any.new.self c.args.at line.actor =
    subst (λ (b : Bool). TouchedAny wake b c.refresh_at.new.self c.touch_any.new.self c.args.at line.actor) c.stirs-stirred.ensures c.touch_any.ensures in
    let after : TouchedAny wake (stirs line.event c.args.change.now) c.touch_any.new.self c.touch_seldom.new.self c.other_than-of.result line.actor =
    subst (λ (b : Bool). TouchedAny wake b c.touch_any.new.self c.touch_seldom.new.self c.other_than-of.result line.actor) c.stirs-stirred.ensures c.touch_seldom.ensures in
    let noted : Noted c.args.self.now c.note.new.self line =
    subst (λ (a : ActorId). Noted c.args.self.now c.note.new.self (record line { actor = a })) (in_plan c.args.plan.now c.args.self.now.rows c.args.seat c.requires.seats) c.note.ensures in
    settles_by c.args.plan.now h line c.args.at c.args.change.now c.args.state.now.world c.args.self.now c.note.new.self c.refresh_at.new.self c.touch_any.new.self c.touch_seldom.new.self c.other_than-of.result
    (record { noted = noted; asks = c.refresh_at.ensures.asks; right = c.refresh_at.ensures.right; queues = c.refresh_at.ensures.queues; at = at; after = after; other = other })
    leads is
