-- The derived test of two nodes is exact.
use Rattle.std.proofs.Common.{◌≡◌, ◌&&◌, Bool, true, List, Option, Some, None, refl, ap, subst, arith}
use Rattle.std.proofs.lemmas.Bool.{and_parts}
use Rattle.std.proofs.lemmas.Bool.Decides.{Decides-eqb}
use Rattle.std.proofs.lemmas.Grind.{common_steps}
use Rattle.std.proofs.lemmas.Slice.Eq.{slice_eq-Decides}
use Rattle.std.specs.Bool.{Decides}
use Rattle.std.specs.Cmp.Lexicographic.{pointwise}
use Rattle.std.specs.Option.{option_eq}
use Rattle.pm_driver_orders.specs.declared.Position.{Position}
use Rattle.pm_driver_orders.specs.declared.Position.TheVariants.{At, In}
use Rattle.pm_driver_orders.specs.contracts.PositionEq.TheImpl.Laws.{laws-law as position_laws}
use Rattle.pm_driver_orders.specs.contracts.PositionPartialEq.TheImpl.{eq-value as position_eq}
use Rattle.pm_driver_orders.specs.DriverSnapshots.{DriverSnapshot}
use Rattle.pm_explore.proofs.state.SnapshotAlike.{same_if as snapshots_if, same_then as snapshots_then}
use Rattle.pm_driver_rules.specs.declared.node.DriverNode.{DriverNode}
use Rattle.pm_driver_rules.specs.contracts.node.DriverNodePartialEq.TheImpl.{eq-value}
use Rattle.pm_driver_rules.specs.Nodes.{driver_snapshot_of}

position_alike : (a b : Position) → position_eq.it a b ≡ true → a ≡ b
position_alike (At x) (At y) is = grind (arith, common_steps)
position_alike (At x) (In y) is = cc is
position_alike (In x) (In y) is = grind (arith, common_steps)
position_alike (In x) (At y) is = cc is

position_itself : (a b : Position) → a ≡ b → position_eq.it a b ≡ true
position_itself a b is = let P : Position → Type 0 = λ x. position_eq.it a x ≡ true in subst P is (position_laws.refl a)

positions_decide : (xs ys : List Position) → Decides (pointwise position_eq.it xs ys) (xs ≡ ys)
positions_decide xs ys = slice_eq-Decides (λ a b. (position_alike a b, position_itself a b)) xs ys (pointwise position_eq.it xs ys) refl

some_is : {A : Type 0} (x y : A) → Some x ≡ Some y → x ≡ y
some_is x y is = cc is

options_decide : {A : Type 0} {E : A → A → Bool} → ((a b : A) → Decides (E a b) (a ≡ b)) → (x y : Option A) → Decides (option_eq E x y) (x ≡ y)
options_decide each None None = (λ is. refl, λ is. refl)
options_decide each None (Some y) = (λ is. cc is, λ is. cc is)
options_decide each (Some x) None = (λ is. cc is, λ is. cc is)
options_decide each (Some x) (Some y) = (λ is. ap Some ((each x y).0 is), λ is. (each x y).1 (some_is x y is))

pub same_if : (a b : DriverNode) → eq-value.it a b ≡ true → driver_snapshot_of a ≡ driver_snapshot_of b
same_if a b is =
    let r0 = and_parts _ _ is in
    let r1 = and_parts _ _ r0.1 in
    let r2 = and_parts _ _ r1.1 in
    let snapshots = snapshots_if a.snapshot b.snapshot r0.0 in
    let positions : a.positions.items ≡ b.positions.items = (positions_decide a.positions.items b.positions.items).0 r1.0 in
    let returned : a.returned ≡ b.returned = (options_decide Decides-eqb a.returned b.returned).0 r2.0 in
    let failures : a.failures ≡ b.failures = (Decides-eqb a.failures b.failures).0 r2.1 in
    λ i. record { snapshot = snapshots i; positions = positions i; returned = returned i; failures = failures i }

pub same_then : (a b : DriverNode) → driver_snapshot_of a ≡ driver_snapshot_of b → eq-value.it a b ≡ true
same_then a b is =
    let snapshots = snapshots_then a.snapshot b.snapshot (ap (λ (s : DriverSnapshot). s.snapshot) is) in
    let positions = (positions_decide a.positions.items b.positions.items).1 (ap (λ (s : DriverSnapshot). s.positions) is) in
    let returned = (options_decide Decides-eqb a.returned b.returned).1 (ap (λ (s : DriverSnapshot). s.returned) is) in
    let failures = (Decides-eqb a.failures b.failures).1 (ap (λ (s : DriverSnapshot). s.failures) is) in
    λ i. snapshots i && (positions i && (returned i && failures i))
