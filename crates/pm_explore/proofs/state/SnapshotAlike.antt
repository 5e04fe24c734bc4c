-- The derived test of two snapshots is exact.
use Rattle.std.proofs.Common.{◌≡◌, ◌&&◌, Bool, true, List, Option, Some, None, map, refl, ap, subst, arith}
use Rattle.std.proofs.lemmas.Bool.Decides.{Decides-eqb, Decides-int_eq}
use Rattle.std.proofs.lemmas.Grind.{common_steps}
use Rattle.std.proofs.lemmas.Slice.Eq.{slice_eq-Decides}
use Rattle.std.specs.Bool.{Decides}
use Rattle.std.specs.Cmp.{booleans_Decides}
use Rattle.std.specs.Cmp.Lexicographic.{pointwise}
use Rattle.std.specs.Option.{option_eq}
use Rattle.pm_base.specs.declared.ActorId.{ActorId}
use Rattle.pm_base.specs.declared.ActorId.TheVariants.{Caller, Work, Timer}
use Rattle.pm_base.specs.contracts.ActorIdEq.TheImpl.Laws.{laws-law as actor_laws}
use Rattle.pm_base.specs.contracts.ActorIdPartialEq.TheImpl.{eq-value as actor_eq}
use Rattle.pm_model.specs.declared.stage.Stage.{Stage}
use Rattle.pm_model.specs.contracts.stage.StagePartialEq.TheImpl.{eq-value as stage_eq}
use Rattle.pm_explore.specs.schedule.Snapshots.{Snapshot as Where}
use Rattle.pm_explore.specs.declared.state.snapshot.Snapshot.{Snapshot}
use Rattle.pm_explore.specs.state.SnapshotOf.{snapshot_of}
use Rattle.pm_explore.specs.contracts.state.snapshot.SnapshotPartialEq.TheImpl.{eq-value}
use Rattle.pm_explore.proofs.state.Lists.{first, second, mapped}
use Rattle.pm_explore.proofs.state.StageAlike.{alike, itself}
use Rattle.pm_explore.proofs.state.ViewsAlike.{armed_alike, armed_itself, pending_alike, pending_itself, device_alike, device_itself}

lists_decide : {A : Type 0} {E : A → A → Bool} → ((a b : A) → Decides (E a b) (a ≡ b)) → (xs ys : List A) → Decides (pointwise E xs ys) (xs ≡ ys)
lists_decide {E = E} each xs ys = slice_eq-Decides each xs ys (pointwise E xs ys) refl

places_decide : {V : Type 0} (f : V → List Stage) (xs ys : List V) → Decides (pointwise (λ x y. pointwise stage_eq.it (f x) (f y)) xs ys) (map f xs ≡ map f ys)
places_decide f xs ys =
    slice_eq-Decides {E = pointwise stage_eq.it} (λ a b. lists_decide (λ s t. (alike s t, itself s t)) a b) (map f xs) (map f ys) (pointwise (λ x y. pointwise stage_eq.it (f x) (f y)) xs ys)
    (mapped f (pointwise stage_eq.it) xs ys)

some_is : {A : Type 0} (x y : A) → Some x ≡ Some y → x ≡ y
some_is x y is = cc is

options_decide : {A : Type 0} {E : A → A → Bool} → ((a b : A) → Decides (E a b) (a ≡ b)) → (x y : Option A) → Decides (option_eq E x y) (x ≡ y)
options_decide each None None = (λ is. refl, λ is. refl)
options_decide each None (Some y) = (λ is. cc is, λ is. cc is)
options_decide each (Some x) None = (λ is. cc is, λ is. cc is)
options_decide each (Some x) (Some y) = (λ is. ap Some ((each x y).0 is), λ is. (each x y).1 (some_is x y is))

actor_alike : (a b : ActorId) → actor_eq.it a b ≡ true → a ≡ b
actor_alike (Caller x) (Caller y) is = grind (arith, common_steps)
actor_alike (Caller x) _ is = cc is
actor_alike (Work x) (Work y) is = grind (arith, common_steps)
actor_alike (Work x) _ is = cc is
actor_alike (Timer x) (Timer y) is = grind (arith, common_steps)
actor_alike (Timer x) _ is = cc is

actor_itself : (a b : ActorId) → a ≡ b → actor_eq.it a b ≡ true
actor_itself a b is = let P : ActorId → Type 0 = λ x. actor_eq.it a x ≡ true in subst P is (actor_laws.refl a)

pub same_if : (a b : Snapshot) → eq-value.it a b ≡ true → snapshot_of a ≡ snapshot_of b
same_if a b is =
    let r0 = is in
    let r1 = second _ _ r0 in
    let r2 = second _ _ r1 in
    let r3 = second _ _ r2 in
    let r4 = second _ _ r3 in
    let r5 = second _ _ r4 in
    let r6 = second _ _ r5 in
    let r7 = second _ _ r6 in
    let r8 = second _ _ r7 in
    let r9 = second _ _ r8 in
    let r10 = second _ _ r9 in
    let r11 = second _ _ r10 in
    let r12 = second _ _ r11 in
    let p0 : a.devices.items ≡ b.devices.items = (lists_decide (λ x y. (device_alike x y, device_itself x y)) a.devices.items b.devices.items).0 (first _ _ r0) in
    let p1 : a.pending.items ≡ b.pending.items = (lists_decide (λ x y. (pending_alike x y, pending_itself x y)) a.pending.items b.pending.items).0 (first _ _ r1) in
    let p2 : a.timers.items ≡ b.timers.items = (lists_decide (options_decide (λ x y. (armed_alike x y, armed_itself x y))) a.timers.items b.timers.items).0 (first _ _ r2) in
    let p3 : a.on.items ≡ b.on.items = (lists_decide booleans_Decides a.on.items b.on.items).0 (first _ _ r3) in
    let p4 : a.held.items ≡ b.held.items = (lists_decide booleans_Decides a.held.items b.held.items).0 (first _ _ r4) in
    let p5 : a.present.items ≡ b.present.items = (lists_decide booleans_Decides a.present.items b.present.items).0 (first _ _ r5) in
    let p6 : map (λ v. v.items) a.caller_places.items ≡ map (λ v. v.items) b.caller_places.items = (places_decide (λ v. v.items) a.caller_places.items b.caller_places.items).0 (first _ _ r6) in
    let p7 : map (λ v. v.items) a.work_places.items ≡ map (λ v. v.items) b.work_places.items = (places_decide (λ v. v.items) a.work_places.items b.work_places.items).0 (first _ _ r7) in
    let p8 : map (λ v. v.items) a.timer_places.items ≡ map (λ v. v.items) b.timer_places.items = (places_decide (λ v. v.items) a.timer_places.items b.timer_places.items).0 (first _ _ r8) in
    let p9 : a.called.items ≡ b.called.items = (lists_decide Decides-eqb a.called.items b.called.items).0 (first _ _ r9) in
    let p10 : a.time ≡ b.time = (Decides-eqb a.time b.time).0 (first _ _ r10) in
    let p11 : a.last ≡ b.last = (options_decide (λ x y. (actor_alike x y, actor_itself x y)) a.last b.last).0 (first _ _ r11) in
    let p12 : a.code ≡ b.code = (options_decide Decides-int_eq a.code b.code).0 r12 in
    λ i. record { world = record { views = record { devices = p0 i; pending = p1 i; timers = p2 i; on = p3 i; held = p4 i; present = p5 i }; caller_places = p6 i; work_places = p7 i; timer_places = p8 i; called = p9 i }; time = p10 i; last = p11 i; code = p12 i }

pub same_then : (a b : Snapshot) → snapshot_of a ≡ snapshot_of b → eq-value.it a b ≡ true
same_then a b is =
    let p0 = (lists_decide (λ x y. (device_alike x y, device_itself x y)) a.devices.items b.devices.items).1 (ap (λ (s : Where). s.world.views.devices) is) in
    let p1 = (lists_decide (λ x y. (pending_alike x y, pending_itself x y)) a.pending.items b.pending.items).1 (ap (λ (s : Where). s.world.views.pending) is) in
    let p2 = (lists_decide (options_decide (λ x y. (armed_alike x y, armed_itself x y))) a.timers.items b.timers.items).1 (ap (λ (s : Where). s.world.views.timers) is) in
    let p3 = (lists_decide booleans_Decides a.on.items b.on.items).1 (ap (λ (s : Where). s.world.views.on) is) in
    let p4 = (lists_decide booleans_Decides a.held.items b.held.items).1 (ap (λ (s : Where). s.world.views.held) is) in
    let p5 = (lists_decide booleans_Decides a.present.items b.present.items).1 (ap (λ (s : Where). s.world.views.present) is) in
    let p6 = (places_decide (λ v. v.items) a.caller_places.items b.caller_places.items).1 (ap (λ (s : Where). s.world.caller_places) is) in
    let p7 = (places_decide (λ v. v.items) a.work_places.items b.work_places.items).1 (ap (λ (s : Where). s.world.work_places) is) in
    let p8 = (places_decide (λ v. v.items) a.timer_places.items b.timer_places.items).1 (ap (λ (s : Where). s.world.timer_places) is) in
    let p9 = (lists_decide Decides-eqb a.called.items b.called.items).1 (ap (λ (s : Where). s.world.called) is) in
    let p10 = (Decides-eqb a.time b.time).1 (ap (λ (s : Where). s.time) is) in
    let p11 = (options_decide (λ x y. (actor_alike x y, actor_itself x y)) a.last b.last).1 (ap (λ (s : Where). s.last) is) in
    let p12 = (options_decide Decides-int_eq a.code b.code).1 (ap (λ (s : Where). s.code) is) in
    λ i. p0 i && (p1 i && (p2 i && (p3 i && (p4 i && (p5 i && (p6 i && (p7 i && (p8 i && (p9 i && (p10 i && (p11 i && p12 i)))))))))))
