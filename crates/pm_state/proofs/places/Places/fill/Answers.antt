-- Place by place.
use Rattle.std.proofs.Common.{ℕ, ◌≡◌, ◌+◌, ◌≤◌, ◌<◌, ◌∙◌, List, Vec, Global, drop, length, slice_set, take, ap, arith, sym}
use Rattle.std.proofs.lemmas.List.{drop-drop, drop-set-add, drop-set-lt, length-drop, length-set, take-set-le}
use Rattle.pm_model.specs.declared.stage.Stage.{Stage}
use Rattle.pm_state.specs.Places.{Stacks}
use Rattle.pm_state.proofs.StackLemmas.{placed_more, room_at}
use Rattle.pm_state.proofs.places.Places.fill.Goals as goal

pub put-requires-clause-room : goal.put-requires-clause-room
put-requires-clause-room c =
    let items : Vec Stage Global → List Stage = λ v. v.items in
    let within : c.loop-i.i < length c.args.all.now = omega (arith, c.loop-i-test.true) in
    let fits = room_at items c.args.all.now c.loop-i.i c.args.self.now.room c.index-all-i.result within c.index-all-i.is c.requires.room in
    let long = ap (λ (l : List Stage). length l) c.as_slice.ensures.value in
    let room = ap (λ (s : Stacks). s.room) c.loop-i.invariant.rest in
    omega (arith, fits, long, room)

pub loop-i-preserved : goal.loop-i-preserved
loop-i-preserved c =
    let items : Vec Stage Global → List Stage = λ v. v.items in
    let from = c.args.from in
    let i = c.loop-i.i in
    let was = c.loop-i.self.stages in
    let within : i < length c.args.all.now = omega (arith, c.loop-i-test.true) in
    let with_room : ℕ → Stacks = λ r. record { stages = c.put.new.self.stages; room = r } in
    let put = ap (λ (s : Stacks). s.stages) c.put.ensures ∙ ap (slice_set was (from + i)) c.as_slice.ensures.value in
    let x = items c.index-all-i.result in
    let before : from ≤ from + i = omega arith in
    let next : from + i < from + (i + 1) = omega arith in
    let behind = ap (drop 1) c.loop-i.invariant.behind in
    let more : from + i + 1 ≡ from + (i + 1) = omega arith in
    let on : (l : List (List Stage)) → drop (from + (i + 1)) l ≡ drop 1 (drop (from + i) l) = λ l. ap (λ n. drop n l) (sym more) ∙ sym (drop-drop 1 (from + i) l) in
    let long : length c.args.all.now ≤ length (drop from was) = omega (arith, length-drop from was, c.requires.within, c.loop-i.invariant.long) in
    record {
      rest = ap with_room (ap (λ (s : Stacks). s.room) c.put.ensures ∙ ap (λ (s : Stacks). s.room) c.loop-i.invariant.rest);
      long = ap (λ (s : Stacks). length s.stages) c.put.ensures ∙ length-set was (from + i) c.as_slice.result.now ∙ c.loop-i.invariant.long;
      before = ap (take from) put ∙ take-set-le from was (from + i) x before ∙ c.loop-i.invariant.before;
      so_far =
          ap (λ l. take (i + 1) (drop from l)) put ∙ ap (take (i + 1)) (drop-set-add from was i x)
          ∙ placed_more items c.args.all.now (drop from was) i c.index-all-i.result within long c.index-all-i.is c.loop-i.invariant.so_far;
      behind = ap (drop (from + (i + 1))) put ∙ drop-set-lt (from + (i + 1)) was (from + i) x next ∙ on was ∙ behind ∙ sym (on c.args.self.now.stages);
    }
