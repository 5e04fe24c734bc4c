use Rattle.std.proofs.Common.{◌≡◌, ◌∙◌, ◌+◌, List, [], Option, ◌∷◌, ◌++◌, reverse, ap, subst, sym}
use Rattle.pm_base.specs.declared.DevId.{DevId}
use Rattle.pm_model.specs.declared.event.Line.{Line}
use Rattle.pm_laws.specs.counts.Sums.{one}
use Rattle.pm_state.specs.Standing.{AllStandWell, IsActor, IsOf, Standing, after_write}
use Rattle.pm_turns.specs.Turning.{Leads}
use Rattle.pm_book.specs.Pages.{IsKept, MayWrite, Pages}
use Rattle.pm_book.specs.Sheets.{begins_callback}
use Rattle.pm_book.proofs.Moves.{stays_of}
use Rattle.pm_book.proofs.PageLemmas.{kept_step, leads, reverse-push}
use Rattle.pm_book.proofs.RunningLemmas.{room_goes}
use Rattle.pm_book.proofs.book.Book.write.Goals as goal

pub go-requires-clause-takes : goal.go-requires-clause-takes
go-requires-clause-takes c =
    let b = c.self.inside in
    let may = subst (λ (p : Pages). MayWrite p.plan p.lines c.args.stage.now c.args.line.now c.args.change c.args.then.now) (sym c.self.view_is) c.requires.may in
    c.each_line_is_taken.ensures b.plan (reverse b.lines.lines) b.state.world c.args.stage.now c.args.line.now c.args.change c.args.then.now c.self.invariant.lawful c.self.invariant.world_is may

pub go-requires-clause-room : goal.go-requires-clause-room
go-requires-clause-room c =
    let b = c.self.inside in
    let may = subst (λ (p : Pages). MayWrite p.plan p.lines c.args.stage.now c.args.line.now c.args.change c.args.then.now) (sym c.self.view_is) c.requires.may in
    let within = subst (λ (p : Pages). IsActor p.plan c.args.line.now.actor) (sym c.self.view_is) c.requires.in_range in
    c.stacks_have_room.ensures b.plan (reverse b.lines.lines) b.state c.args.stage.now c.args.line.now c.args.change c.args.then.now c.self.invariant.lawful c.self.invariant.is_of c.self.invariant.world_is
    within may

pub settle-requires-clause-is_of : goal.settle-requires-clause-is_of
settle-requires-clause-is_of c =
    let b = c.self.inside in
    subst (IsOf b.plan) (sym c.go.ensures) (stays_of b.plan b.state c.args.change c.args.line.now c.args.then.now c.self.invariant.is_of)

pub settle-requires-clause-stand : goal.settle-requires-clause-stand
settle-requires-clause-stand c =
    let b = c.self.inside in
    let line = c.args.line.now in
    let may = subst (λ (p : Pages). MayWrite p.plan p.lines c.args.stage.now line c.args.change c.args.then.now) (sym c.self.view_is) c.requires.may in
    let led = leads b.plan (reverse b.lines.lines) b.state.world c.args.stage.now line c.args.change c.args.then.now c.self.invariant.lawful c.self.invariant.world_is may in
    let stand = c.all_stand_well.ensures b.plan (line ∷ reverse b.lines.lines) _ led.lawful may.may.in_time led.world_is in
    subst (λ (s : Standing). AllStandWell b.plan s.world) (sym c.go.ensures) stand

pub invariant_of-self-2 : goal.invariant_of-self-2
invariant_of-self-2 c =
    let b = c.self.inside in
    let line = c.args.line.now in
    let h = reverse b.lines.lines in
    let may = subst (λ (p : Pages). MayWrite p.plan p.lines c.args.stage.now line c.args.change c.args.then.now) (sym c.self.view_is) c.requires.may in
    let begins = one (begins_callback line.event) in
    let room = room_goes b.plan h b.state.world c.args.stage.now line c.args.change c.args.then.now b.lines.ends c.self.invariant.lawful c.self.invariant.world_is may c.self.invariant.each in
    let ends : c.push.new.self.ends ≡ b.lines.ends + begins = c.push.ensures.ends ∙ ap (λ n. n + one c.begins_callback.result) c.reserve.ensures.ends ∙ ap (λ x. b.lines.ends + one x) c.begins_callback.ensures in
    let limit : c.push.new.self.limit ≡ b.lines.limit = c.push.ensures.limit ∙ c.reserve.ensures.limit in
    let led = leads b.plan h b.state.world c.args.stage.now line c.args.change c.args.then.now c.self.invariant.lawful c.self.invariant.world_is may in
    let here = subst (λ (o : Option DevId). Leads b.plan h line o c.args.change (after_write b.plan b.state.world c.args.change line c.args.then.now)) (sym c.device_at.ensures) led in
    let index = c.settle.ensures h (subst (λ (s : Standing). Leads b.plan h line c.device_at.result c.args.change s.world) (sym c.go.ensures) here) c.self.invariant.turns_are in
    let kept = kept_step b.plan b.state b.turns c.settle.new.self b.lines.ends (b.lines.ends + begins) b.lines.limit h c.args.stage.now line c.args.change c.args.then.now c.self.invariant may room index in
    let after : Standing = record b.state { world = after_write b.plan b.state.world c.args.change line c.args.then.now } in
    let lines = reverse-push b.lines.lines c.push.new.self.lines line (subst (λ (l : List Line). c.push.new.self.lines ≡ l ++ line ∷ []) c.reserve.ensures.lines c.push.ensures.lines) in
    subst (λ (s : Standing). IsKept b.plan s c.settle.new.self c.push.new.self.ends c.push.new.self.limit (reverse c.push.new.self.lines)) (sym c.go.ensures)
    (subst (λ n. IsKept b.plan after c.settle.new.self n c.push.new.self.limit (reverse c.push.new.self.lines)) (sym ends)
    (subst (λ n. IsKept b.plan after c.settle.new.self (b.lines.ends + begins) n (reverse c.push.new.self.lines)) (sym limit)
    (subst (λ (l : List Line). IsKept b.plan after c.settle.new.self (b.lines.ends + begins) b.lines.limit l) (sym lines) kept)))
